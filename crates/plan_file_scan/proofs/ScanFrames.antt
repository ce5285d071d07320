-- The columns of a scan's frame: each is as long as its sources have rows together, and has its type.
use Rattle.std.proofs.Common.{◌≡◌, ℕ, ◌+◌, Bool, true, false, cond, List, [], ◌∷◌, length, map, Option, Some, None, is_some, refl, sym, ap, ap₂, ◌∙◌, subst, length-append}
use Rattle.std.specs.List.{AllByRecursion, list_all, range_with_len}
use Rattle.std.specs.Str.{bytes_eq}
use Rattle.std.proofs.lemmas.Bool.{and_parts}
use Rattle.std.proofs.lemmas.List.{length-replicate}
use Rattle.std.proofs.lemmas.List.FromFn.{length-range_with_len}
use Rattle.plan_core.specs.declared.data_type.DataType.{DataType}
use Rattle.plan_core.specs.declared.data_type.DataType.TheVariants as types
use Rattle.plan_core.specs.declared.data_type.PlainType.{PlainType}
use Rattle.plan_core.specs.declared.data_type.PlainType.TheVariants as plains
use Rattle.plan_core.specs.declared.options.FileScanOptions.{FileScanOptions}
use Rattle.plan_core.specs.declared.options.RowIndex.{RowIndex}
use Rattle.plan_core.specs.Columns.{Columns, names_of, type_of}
use Rattle.plan_expr.specs.Leaves.{Name}
use Rattle.plan_table.specs.declared.value.AnyValue.{AnyValue}
use Rattle.plan_table.specs.declared.value.AnyValue.TheVariants as values
use Rattle.plan_table.specs.declared.value.PlainValue.{PlainValue}
use Rattle.plan_table.specs.declared.value.PlainValue.TheVariants as singles
use Rattle.plan_frame.specs.Frames.{HasSchema, column_or}
use Rattle.plan_frame.specs.Reshaped.{row_numbers}
use Rattle.plan_frame.specs.Values.{IsSingleOf, Value, AllOf, IsOf, text}
use Rattle.plan_frame.proofs.BesideLemmas.{or_else}
use Rattle.plan_frame.proofs.FrameLemmas.{all_append, all_hold, holds_or, length-map, replicate_of, table_has}
use Rattle.plan_frame.proofs.NameSets.{named}
use Rattle.plan_frame.proofs.ReshapedLemmas.{whole_numbers}
use Rattle.plan_scan.specs.Source.{Source}
use Rattle.plan_scan.specs.Sources.{path_name}
use Rattle.plan_scan.specs.Stats.{Stats, columns_of}
use Rattle.plan_value.specs.Shown.{single_of, value_of}
use Rattle.plan_files.specs.FileColumns.{file_columns, path_columns, row_columns}
use Rattle.plan_files.proofs.FileLemmas.{type_of-files}
use Rattle.plan_files.specs.HiveParts.{are_typed, is_of, is_single_of}
use Rattle.plan_file_scan.specs.FileFrames.{Part, PartFits, alike_or, hive_value, numbers_or, own_values, part_values, path_value, rows_in_turn, scan_frame, scan_values, values_in_turn}

-- values of a type are of it

single_is : (t : PlainType) (v : PlainValue) → is_single_of t v ≡ true → IsSingleOf t (single_of v)
single_is t singles.Null h = tt
single_is plains.Int64 (singles.Int64 n) h = tt
single_is plains.String (singles.String s) h = tt
single_is plains.Boolean (singles.Boolean b) h = tt
single_is _ _ h = cc

singles_are : (t : PlainType) (vs : List PlainValue) → list_all (is_single_of t) vs ≡ true → AllByRecursion (IsSingleOf t) (map single_of vs)
singles_are t [] h = tt
singles_are t (v ∷ vs) h = let p = and_parts (is_single_of t v) (list_all (is_single_of t) vs) h in (single_is t v p.0, singles_are t vs p.1)

pub value_is : (t : DataType) (v : AnyValue) → is_of t v ≡ true → IsOf t (value_of v)
value_is t values.Null h = tt
value_is types.Int64 (values.Int64 n) h = tt
value_is types.String (values.String s) h = tt
value_is types.Boolean (values.Boolean b) h = tt
value_is (types.List t) (values.List vs) h = singles_are t vs h
value_is _ _ h = cc

-- the values of a column are so many, each of its type
abbrev pub Fills : ℕ → DataType → List Value → Type 0
Fills h t vs = (length vs ≡ h) × AllOf t vs

-- the hive value of a column is of its type
pub hive_typed : (part : Stats) (a : Name) (v : Value) (t : DataType) → are_typed part ≡ true → type_of (columns_of part) a ≡ Some t → hive_value part a ≡ Some v → IsOf t v
hive_typed [] a v t good is e = cc
hive_typed (s ∷ ss) a v t good is e =
    let parts = and_parts (is_of s.field.dtype s.value) (are_typed ss) good in
    at (bytes_eq a s.field.name) parts.0 (λ j k. hive_typed ss a v t parts.1 j k) is e
  where
    at : (b : Bool) → is_of s.field.dtype s.value ≡ true → (type_of (columns_of ss) a ≡ Some t → hive_value ss a ≡ Some v → IsOf t v) → cond b (Some s.field.dtype) (type_of (columns_of ss) a) ≡ Some t → cond b (Some (value_of s.value)) (hive_value ss a) ≡ Some v → IsOf t v
    at true own rest is e =
        let same : s.field.dtype ≡ t = cc in
        let value : value_of s.value ≡ v = cc in
        subst (λ (x : DataType). IsOf x v) same (subst (IsOf s.field.dtype) value (value_is s.field.dtype s.value own))
    at false own rest is e = rest is e

-- a column of a part has a hive value exactly where it is a hive column
pub hive_there : (part : Stats) (a : Name) → is_some (hive_value part a) ≡ is_some (type_of (columns_of part) a)
hive_there [] a = refl
hive_there (s ∷ ss) a = at (bytes_eq a s.field.name) (hive_there ss a)
  where
    at : (b : Bool) → is_some (hive_value ss a) ≡ is_some (type_of (columns_of ss) a) → is_some (cond b (Some (value_of s.value)) (hive_value ss a)) ≡ is_some (cond b (Some s.field.dtype) (type_of (columns_of ss) a))
    at true rest = refl
    at false rest = rest

-- what a part has in a column: a hive value of its type, or none and a column of its table
pub record PartHas (p : Part) (a : Name) (t : DataType) : Type 0 where
  pub hive : (v : Value) → hive_value p.hive a ≡ Some v → IsOf t v
  pub rows : hive_value p.hive a ≡ None → Fills p.rows.height t (column_or p.rows a)

alike_fills : (o : Option Value) (h : ℕ) (t : DataType) (vs : List Value) → ((v : Value) → o ≡ Some v → IsOf t v) → (o ≡ None → Fills h t vs) → Fills h t (alike_or o h vs)
alike_fills None h t vs given others = others refl
alike_fills (Some v) h t vs given others = (length-replicate h v, replicate_of t v h (given v refl))

own_fills : (p : Part) (a : Name) (t : DataType) → PartHas p a t → Fills p.rows.height t (own_values p a)
own_fills p a t h = alike_fills (hive_value p.hive a) p.rows.height t (column_or p.rows a) h.hive h.rows

-- the values of sources one after another fill a column where those of each do
pub turn_fills : (path : Option Name) (ps : List Part) (a : Name) (t : DataType) → AllByRecursion (λ (p : Part). Fills p.rows.height t (part_values path p a)) ps → Fills (rows_in_turn ps) t (values_in_turn path ps a)
turn_fills path [] a t h = (refl, tt)
turn_fills path (p ∷ ps) a t h =
    let rest = turn_fills path ps a t h.1 in
    (length-append (part_values path p a) (values_in_turn path ps a) ∙ ap₂ (λ (m n : ℕ). m + n) h.0.0 rest.0, all_append t (part_values path p a) (values_in_turn path ps a) h.0.1 rest.1)

-- a column that isn't the one with the paths
pub parts_fill : (path : Option Name) (ps : List Part) (a : Name) (t : DataType) → ((s : Source) → path_value path s a ≡ None) → AllByRecursion (λ (p : Part). PartHas p a t) ps → AllByRecursion (λ (p : Part). Fills p.rows.height t (part_values path p a)) ps
parts_fill path [] a t other h = tt
parts_fill path (p ∷ ps) a t other h =
    (subst (λ (o : Option Value). Fills p.rows.height t (alike_or o p.rows.height (own_values p a))) (sym (other p.source)) (own_fills p a t h.0), parts_fill path ps a t other h.1)

-- the column with the paths
pub paths_fill : (path : Option Name) (ps : List Part) (a : Name) → ((s : Source) → is_some (path_value path s a) ≡ true) → AllByRecursion (λ (p : Part). Fills p.rows.height types.String (part_values path p a)) ps
paths_fill path [] a there = tt
paths_fill path (p ∷ ps) a there = (alike_fills (path_value path p.source a) p.rows.height types.String (own_values p a) (λ v e. texts path p.source v e) (λ e. none (path_value path p.source a) (there p.source) e), paths_fill path ps a there)
  where
    none : (o : Option Value) → is_some o ≡ true → o ≡ None → Fills p.rows.height types.String (own_values p a)
    none None h e = cc
    none (Some v) h e = cc

    texts : (path : Option Name) (s : Source) (v : Value) → path_value path s a ≡ Some v → IsOf types.String v
    texts None s v e = cc
    texts (Some b) s v e = at (bytes_eq a b) e
      where
        at : (x : Bool) → cond x (Some (text (path_name s))) None ≡ Some v → IsOf types.String v
        at true e = let is : text (path_name s) ≡ v = cc in subst (IsOf types.String) is tt
        at false e = cc

-- the numbers of rows
pub numbers_fill : (first h : ℕ) → Fills h types.Int64 (row_numbers first h)
numbers_fill first h = (length-map _ (range_with_len first h) ∙ length-range_with_len first h, whole_numbers (range_with_len first h))

or_first : (x : DataType) (o : Option DataType) (h : Option DataType) (t : DataType) → h ≡ Some x → or_else h o ≡ Some t → x ≡ t
or_first x o None t e q = cc
or_first x o (Some y) t e q = cc

or_second : (h o : Option DataType) (t : DataType) → is_some h ≡ false → or_else h o ≡ Some t → o ≡ Some t
or_second None o t e q = q
or_second (Some y) o t e q = cc

some_there : (o : Option DataType) → is_some o ≡ true → (x : DataType) × (o ≡ Some x)
some_there None e = cc
some_there (Some x) e = (x, refl)

part_has : (reader hive : Columns) (p : Part) (a : Name) (t : DataType) → PartFits reader hive p → or_else (type_of hive a) (type_of reader a) ≡ Some t → PartHas p a t
part_has reader hive p a t fits is = record { hive = λ v e. given v e; rows = λ e. found e }
  where
    there : is_some (hive_value p.hive a) ≡ is_some (type_of hive a)
    there = hive_there p.hive a ∙ ap (λ (cs : Columns). is_some (type_of cs a)) fits.columns

    given : (v : Value) → hive_value p.hive a ≡ Some v → IsOf t v
    given v e =
        let own = some_there (type_of hive a) (sym there ∙ ap (λ (o : Option Value). is_some o) e) in
        let same : own.0 ≡ t = or_first own.0 (type_of reader a) (type_of hive a) t own.1 is in
        hive_typed p.hive a v t fits.typed (ap (λ (cs : Columns). type_of cs a) fits.columns ∙ own.1 ∙ ap Some same) e

    found : hive_value p.hive a ≡ None → Fills p.rows.height t (column_or p.rows a)
    found e =
        let own = or_second (type_of hive a) (type_of reader a) t (sym there ∙ ap (λ (o : Option Value). is_some o) e) is in
        holds_or p.rows (a, t) (all_hold p.rows reader a t fits.holds own)

parts_have : (reader hive : Columns) (ps : List Part) (a : Name) (t : DataType) → AllByRecursion (PartFits reader hive) ps → or_else (type_of hive a) (type_of reader a) ≡ Some t → AllByRecursion (λ (p : Part). PartHas p a t) ps
parts_have reader hive [] a t fits is = tt
parts_have reader hive (p ∷ ps) a t fits is = (part_has reader hive p a t fits.0 is, parts_have reader hive ps a t fits.1 is)

-- what the sources have in turn fills a column; no other column is called like the one with the paths
turns_fill : (reader hive : Columns) (path : Option Name) (ps : List Part) (a : Name) (t : DataType) → ((b : Name) → path ≡ Some b → or_else (type_of hive b) (type_of reader b) ≡ None) → AllByRecursion (PartFits reader hive) ps → or_else (or_else (type_of hive a) (type_of reader a)) (type_of (path_columns path) a) ≡ Some t → Fills (rows_in_turn ps) t (values_in_turn path ps a)
turns_fill reader hive None ps a t apart fits is =
    turn_fills None ps a t (parts_fill None ps a t (λ s. refl) (parts_have reader hive ps a t fits (whole (or_else (type_of hive a) (type_of reader a)) is)))
  where
    whole : (o : Option DataType) → or_else o None ≡ Some t → o ≡ Some t
    whole None e = e
    whole (Some x) e = e
turns_fill reader hive (Some b) ps a t apart fits is = at (bytes_eq a b) refl is
  where
    whole : (o : Option DataType) → or_else o None ≡ Some t → o ≡ Some t
    whole None e = e
    whole (Some x) e = e

    at : (x : Bool) → bytes_eq a b ≡ x → or_else (or_else (type_of hive a) (type_of reader a)) (cond x (Some types.String) None) ≡ Some t → Fills (rows_in_turn ps) t (values_in_turn (Some b) ps a)
    at true e q =
        let none : or_else (type_of hive a) (type_of reader a) ≡ None = ap (λ (x : Name). or_else (type_of hive x) (type_of reader x)) (named a b e) ∙ apart b refl in
        let text : types.String ≡ t = last (or_else (type_of hive a) (type_of reader a)) none q in
        subst (λ (x : DataType). Fills (rows_in_turn ps) x (values_in_turn (Some b) ps a)) text (turn_fills (Some b) ps a types.String (paths_fill (Some b) ps a (λ s. rw e refl)))
      where
        last : (o : Option DataType) → o ≡ None → or_else o (Some types.String) ≡ Some t → types.String ≡ t
        last None h k = cc
        last (Some y) h k = cc
    at false e q = turn_fills (Some b) ps a t (parts_fill (Some b) ps a t (λ s. rw e refl) (parts_have reader hive ps a t fits (whole (or_else (type_of hive a) (type_of reader a)) q)))

-- the values of a column of a scan are so many, each of its type
pub scan_fills : (reader hive : Columns) (options : FileScanOptions) (ps : List Part) (a : Name) (t : DataType) → ((b : Name) → options.include_file_paths ≡ Some b → or_else (type_of hive b) (type_of reader b) ≡ None) → AllByRecursion (PartFits reader hive) ps → type_of (file_columns reader hive options) a ≡ Some t → Fills (rows_in_turn ps) t (scan_values options ps a)
scan_fills reader hive options ps a t apart fits is = at options.row_index (sym (type_of-files reader hive options a) ∙ is)
  where
    rest : Option DataType
    rest = or_else (or_else (type_of hive a) (type_of reader a)) (type_of (path_columns options.include_file_paths) a)

    turns : rest ≡ Some t → Fills (rows_in_turn ps) t (values_in_turn options.include_file_paths ps a)
    turns e = turns_fill reader hive options.include_file_paths ps a t apart fits e

    at : (row : Option RowIndex) → or_else (type_of (row_columns row) a) rest ≡ Some t → Fills (rows_in_turn ps) t (numbers_or row (rows_in_turn ps) a (values_in_turn options.include_file_paths ps a))
    at None e = turns e
    at (Some row) e = here (bytes_eq a row.name) e
      where
        here : (b : Bool) → or_else (cond b (Some types.Int64) None) rest ≡ Some t → Fills (rows_in_turn ps) t (cond b (row_numbers row.offset (rows_in_turn ps)) (values_in_turn options.include_file_paths ps a))
        here true q = let same : types.Int64 ≡ t = cc in subst (λ (x : DataType). Fills (rows_in_turn ps) x (row_numbers row.offset (rows_in_turn ps))) same (numbers_fill row.offset (rows_in_turn ps))
        here false q = turns q

-- the frame of a scan has the columns that it puts out
pub scan_has : (reader hive : Columns) (options : FileScanOptions) (ps : List Part) (out : Columns) → ((b : Name) → options.include_file_paths ≡ Some b → or_else (type_of hive b) (type_of reader b) ≡ None) → AllByRecursion (PartFits reader hive) ps → AllByRecursion (λ (c : Name × DataType). type_of (file_columns reader hive options) c.0 ≡ Some c.1) out → HasSchema (scan_frame (names_of out) options ps) out
scan_has reader hive options ps out apart fits typed = table_has (rows_in_turn ps) out (scan_values options ps) (each out typed)
  where
    each : (cs : Columns) → AllByRecursion (λ (c : Name × DataType). type_of (file_columns reader hive options) c.0 ≡ Some c.1) cs → AllByRecursion (λ (c : Name × DataType). Fills (rows_in_turn ps) c.1 (scan_values options ps c.0)) cs
    each [] h = tt
    each (c ∷ cs) h = (scan_fills reader hive options ps c.0 c.1 apart fits h.0, each cs h.1)
