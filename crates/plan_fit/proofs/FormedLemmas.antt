-- Well-formed tables as frames, and what they hold.
use Rattle.std.proofs.Common.{ℕ, List, [], ◌∷◌, map, Option, None, Some, option_map, refl, ap, sym, subst, ◌∙◌}
use Rattle.std.specs.Prelude.{IfSome}
use Rattle.std.specs.List.{AllByRecursion}
use Rattle.plan_core.specs.Columns.{Columns, type_of}
use Rattle.plan_core.specs.declared.data_type.DataType.{DataType}
use Rattle.plan_core.specs.declared.data_type.DataType.TheVariants as types
use Rattle.plan_core.specs.declared.data_type.PlainType.{PlainType}
use Rattle.plan_core.specs.declared.data_type.PlainType.TheVariants as plains
use Rattle.plan_ir.specs.declared.functions.FunctionIR.{FunctionIR}
use Rattle.plan_ir.specs.declared.functions.FunctionIR.TheVariants.{Rename, RowIndex, Unpivot, Explode, FastCount}
use Rattle.plan_scan.specs.Source.{Source, file, buffer}
use Rattle.plan_scan.specs.Sources.{sources_of}
use Rattle.plan_ir.specs.Plans.{Op, slice, filter, scan, frame_scan, simple_projection, select, hstack, sort, group_by, join, distinct, map_function, sink, union, hconcat, cache, invalid}
use Rattle.plan_meaning.specs.Typing.{reader_columns}
use Rattle.plan_frame.specs.Values.{Value, AllOf}
use Rattle.plan_frame.specs.Values as spec
use Rattle.plan_frame.specs.Frames.{HaveTypes, HoldsAll, IsFrame}
use Rattle.plan_meaning.specs.Contents.{FitsAt, FunctionFits, HasFrame, place_of}
use Rattle.plan_frame.proofs.FrameLemmas.{is_type_some, schema_holds, length-map}
use Rattle.plan_table.specs.declared.column.Column.{Column as Typed}
use Rattle.plan_table.specs.declared.source_key.SourceKey.{SourceKey}
use Rattle.plan_table.specs.declared.source_key.SourceKey.TheVariants as keys
use Rattle.plan_table.specs.declared.table.Table.{Table}
use Rattle.plan_table.specs.declared.value.AnyValue.{AnyValue}
use Rattle.plan_table.specs.declared.value.AnyValue.TheVariants.{Null, Int64, String, Boolean, List as ListOf}
use Rattle.plan_table.specs.declared.value.PlainValue.{PlainValue}
use Rattle.plan_table.specs.declared.value.PlainValue.TheVariants as singles
use Rattle.plan_table.specs.Tables.{IsColumn, IsOf, IsPlainOf, IsTable, table_at, types_of}
use Rattle.plan_fit.specs.Fitting.{AreFormed, HasColumns, IsMet, function_needs, needs_by, source_needs}
use Rattle.plan_fit.specs.Sources.{contents_of, source_of}
use Rattle.plan_value.specs.Shown.{columns_shown, frame_of, single_of, value_of, values_of}
use Rattle.plan_fit.proofs.FitLemmas.{frame-shown}

-- a single value of a type is one when it is shown
single-of : (t : PlainType) (v : PlainValue) → IsPlainOf t v → spec.IsSingleOf t (single_of v)
single-of plains.Int64 singles.Null h = tt
single-of plains.Int64 (singles.Int64 n) h = tt
single-of plains.Int64 (singles.String s) h = absurd h
single-of plains.Int64 (singles.Boolean b) h = absurd h
single-of plains.String singles.Null h = tt
single-of plains.String (singles.Int64 n) h = absurd h
single-of plains.String (singles.String s) h = tt
single-of plains.String (singles.Boolean b) h = absurd h
single-of plains.Boolean singles.Null h = tt
single-of plains.Boolean (singles.Int64 n) h = absurd h
single-of plains.Boolean (singles.String s) h = absurd h
single-of plains.Boolean (singles.Boolean b) h = tt

of-single : (t : PlainType) (v : PlainValue) → spec.IsSingleOf t (single_of v) → IsPlainOf t v
of-single plains.Int64 singles.Null h = tt
of-single plains.Int64 (singles.Int64 n) h = tt
of-single plains.Int64 (singles.String s) h = absurd h
of-single plains.Int64 (singles.Boolean b) h = absurd h
of-single plains.String singles.Null h = tt
of-single plains.String (singles.Int64 n) h = absurd h
of-single plains.String (singles.String s) h = tt
of-single plains.String (singles.Boolean b) h = absurd h
of-single plains.Boolean singles.Null h = tt
of-single plains.Boolean (singles.Int64 n) h = absurd h
of-single plains.Boolean (singles.String s) h = absurd h
of-single plains.Boolean (singles.Boolean b) h = tt

singles-of : (t : PlainType) (vs : List PlainValue) → AllByRecursion (IsPlainOf t) vs → AllByRecursion (spec.IsSingleOf t) (map single_of vs)
singles-of t [] h = tt
singles-of t (v ∷ vs) h = (single-of t v h.0, singles-of t vs h.1)

of-singles : (t : PlainType) (vs : List PlainValue) → AllByRecursion (spec.IsSingleOf t) (map single_of vs) → AllByRecursion (IsPlainOf t) vs
of-singles t [] h = tt
of-singles t (v ∷ vs) h = (of-single t v h.0, of-singles t vs h.1)

-- a value of a type is one when it is shown
pub value-of : (t : DataType) (v : AnyValue) → IsOf t v → spec.IsOf t (value_of v)
value-of types.Int64 Null h = tt
value-of types.Int64 (Int64 n) h = tt
value-of types.Int64 (String s) h = absurd h
value-of types.Int64 (Boolean b) h = absurd h
value-of types.Int64 (ListOf vs) h = absurd h
value-of types.String Null h = tt
value-of types.String (Int64 n) h = absurd h
value-of types.String (String s) h = tt
value-of types.String (Boolean b) h = absurd h
value-of types.String (ListOf vs) h = absurd h
value-of types.Boolean Null h = tt
value-of types.Boolean (Int64 n) h = absurd h
value-of types.Boolean (String s) h = absurd h
value-of types.Boolean (Boolean b) h = tt
value-of types.Boolean (ListOf vs) h = absurd h
value-of (types.List t) Null h = tt
value-of (types.List t) (Int64 n) h = absurd h
value-of (types.List t) (String s) h = absurd h
value-of (types.List t) (Boolean b) h = absurd h
value-of (types.List t) (ListOf vs) h = singles-of t vs h

-- and the other way round
pub of-value : (t : DataType) (v : AnyValue) → spec.IsOf t (value_of v) → IsOf t v
of-value types.Int64 Null h = tt
of-value types.Int64 (Int64 n) h = tt
of-value types.Int64 (String s) h = absurd h
of-value types.Int64 (Boolean b) h = absurd h
of-value types.Int64 (ListOf vs) h = absurd h
of-value types.String Null h = tt
of-value types.String (Int64 n) h = absurd h
of-value types.String (String s) h = tt
of-value types.String (Boolean b) h = absurd h
of-value types.String (ListOf vs) h = absurd h
of-value types.Boolean Null h = tt
of-value types.Boolean (Int64 n) h = absurd h
of-value types.Boolean (String s) h = absurd h
of-value types.Boolean (Boolean b) h = tt
of-value types.Boolean (ListOf vs) h = absurd h
of-value (types.List t) Null h = tt
of-value (types.List t) (Int64 n) h = absurd h
of-value (types.List t) (String s) h = absurd h
of-value (types.List t) (Boolean b) h = absurd h
of-value (types.List t) (ListOf vs) h = of-singles t vs h

values-are : (t : DataType) (vs : List AnyValue) → AllByRecursion (IsOf t) vs → AllOf t (values_of vs)
values-are t [] h = tt
values-are t (v ∷ vs) h = (value-of t v h.0, values-are t vs h.1)

are-values : (t : DataType) (vs : List AnyValue) → AllOf t (values_of vs) → AllByRecursion (IsOf t) vs
are-values t [] h = tt
are-values t (v ∷ vs) h = (of-value t v h.0, are-values t vs h.1)

-- well-formed columns have their names and types
pub columns-have : (n : ℕ) (cs : List Typed) → AllByRecursion (IsColumn n) cs → HaveTypes n (columns_shown cs) (types_of cs)
columns-have n [] h = tt
columns-have n (c ∷ cs) h = (refl, length-map value_of c.values ∙ h.0.0, values-are c.dtype c.values h.0.1, columns-have n cs h.1)

-- columns that have their names and types are well formed
pub have-columns : (n : ℕ) (cs : List Typed) → HaveTypes n (columns_shown cs) (types_of cs) → AllByRecursion (IsColumn n) cs
have-columns n [] h = tt
have-columns n (c ∷ cs) h = ((sym (length-map value_of c.values) ∙ h.1, are-values c.dtype c.values h.2), have-columns n cs h.3)

-- a well-formed table is a well-formed frame
pub table-frame : (t : Table) → IsTable t → IsFrame (frame_of t)
table-frame t h = (types_of t.columns, columns-have t.height t.columns h.0, h.1)

-- a well-formed table that has columns holds them
pub table-holds : (t : Table) (s : Columns) → IsTable t → HasColumns s t → HoldsAll (frame_of t) s
table-holds t [] h k = tt
table-holds t (c ∷ s) h k =
    (schema_holds (frame_of t) (types_of t.columns) c.0 c.1 (columns-have t.height t.columns h.0) (is_type_some (type_of (types_of t.columns) c.0) c.1 k.0), table-holds t s h k.1)

-- a need that is met by a well-formed table is a frame of the contents
pub met-frame : (ts : List (SourceKey × Table)) (key : SourceKey) (s : Columns) → IsMet ts (key, s) → IfSome (table_at ts key) IsTable → HasFrame (contents_of ts) s (source_of key)
met-frame ts key s m f =
    let formed : IsTable m.0 = subst (λ (o : Option Table). IfSome o IsTable) m.1 f in
    record {
      given = frame_of m.0;
      found = frame-shown ts key ∙ ap (option_map frame_of) m.1;
      formed = table-frame m.0 formed;
      holds = table-holds m.0 s formed m.2;
    }

source-frames : (ts : List (SourceKey × Table)) (sources : List Source) (columns : Columns) → AllByRecursion (IsMet ts) (source_needs sources columns) → AreFormed ts (source_needs sources columns) → AllByRecursion (HasFrame (contents_of ts) columns) (map place_of sources)
source-frames ts [] columns m f = tt
source-frames ts (file a ∷ sources) columns m f = (met-frame ts (keys.Path a) columns m.0 f.0, source-frames ts sources columns m.1 f.1)
source-frames ts (buffer i ∷ sources) columns m f = (met-frame ts (keys.Buffer i) columns m.0 f.0, source-frames ts sources columns m.1 f.1)

function-frames : (ts : List (SourceKey × Table)) (function : FunctionIR) → AllByRecursion (IsMet ts) (function_needs function) → AreFormed ts (function_needs function) → FunctionFits (contents_of ts) function
function-frames ts (Rename existing new swapping) m f = tt
function-frames ts (RowIndex name offset) m f = tt
function-frames ts (Unpivot args) m f = tt
function-frames ts (Explode columns) m f = tt
function-frames ts (FastCount sources scan_type alias) m f = source-frames ts (sources_of sources) [] m f

-- what a node needs is met: the contents fit it
pub node-frames : (ts : List (SourceKey × Table)) (op : Op) → AllByRecursion (IsMet ts) (needs_by op) → AreFormed ts (needs_by op) → FitsAt (contents_of ts) op
node-frames ts (slice offset len) m f = tt
node-frames ts (filter predicate) m f = tt
node-frames ts (scan sources info hive predicate output kind options) m f = source-frames ts (sources_of sources) (reader_columns info) m f
node-frames ts (frame_scan None schema output) m f = tt
node-frames ts (frame_scan (Some i) schema output) m f = met-frame ts (keys.Frame i) schema m.0 f.0
node-frames ts (simple_projection columns) m f = tt
node-frames ts (select exprs schema options) m f = tt
node-frames ts (hstack exprs schema options) m f = tt
node-frames ts (sort keys part options) m f = tt
node-frames ts (group_by keys aggs schema ordered options) m f = tt
node-frames ts (join left_on right_on schema told) m f = tt
node-frames ts (distinct options) m f = tt
node-frames ts (map_function function) m f = function-frames ts function m f
node-frames ts (sink payload) m f = tt
node-frames ts (union options) m f = tt
node-frames ts (hconcat schema options) m f = tt
node-frames ts (cache id hits) m f = tt
node-frames ts invalid m f = tt
