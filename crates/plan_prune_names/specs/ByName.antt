-- Columns by name.
use Rattle.std.specs.Prelude.{List, [], ◌∷◌, Option, None, Some, option_map, unwrap_or, if◌then◌else◌, slice_get, Bool, true, false}
use Rattle.std.specs.Option.{option_or}
use Rattle.std.specs.Str.{bytes_eq}
use Rattle.plan_core.specs.declared.data_type.DataType.{DataType}
use Rattle.plan_core.specs.declared.arena.Node.{Node}
use Rattle.plan_core.specs.Names.{has}
use Rattle.plan_expr.specs.Leaves.{Name}
use Rattle.plan_frame.specs.Reshaped.{item_type}
use Rattle.plan_ir.specs.declared.functions.FunctionIR.{FunctionIR}
use Rattle.plan_ir.specs.declared.functions.FunctionIR.TheVariants.{Rename, RowIndex, Unpivot, Explode, FastCount}
use Rattle.plan_ir.specs.declared.ir.IR.{IR}
use Rattle.plan_ir.specs.declared.ir.IR.TheVariants.{Slice, Filter, Sort, Distinct, Sink, Union, Cache}

-- the type of the values in a column's lists, the column's own where it has no lists; none where it isn't there
abbrev pub item_in : Option DataType → Option DataType
item_in d = option_map item_type d

-- the types of columns, those of some names with the types of the values in their lists
abbrev pub with_items : List Name → (Name → Option DataType) → Name → Option DataType
with_items names types a = if has names a then item_in (types a) else types a

-- what stands at the place of the first of some names that is this one, if one is
abbrev pub at_name : {A : Type 0} → List Name → List A → Name → Option A
at_name [] xs a = None
at_name (n ∷ names) [] a = None
at_name (n ∷ names) (x ∷ xs) a = if bytes_eq a n then Some x else at_name names xs a

-- the types of columns without those of some names
abbrev pub left_of : List Name → (Name → Option DataType) → Name → Option DataType
left_of names types a = if has names a then None else types a

-- the types of columns, some names with types of their own
abbrev pub put_on : List Name → List (Option DataType) → (Name → Option DataType) → Name → Option DataType
put_on names own types a = option_or (unwrap_or (at_name names own a) None) (types a)

-- the input whose columns a node has, if it has those of one
abbrev pub input_shown : IR → Option Node
input_shown (Slice i offset len) = Some i
input_shown (Filter i predicate) = Some i
input_shown (Sort i keys part options) = Some i
input_shown (Distinct i options) = Some i
input_shown (Sink i payload) = Some i
input_shown (Cache i id hits) = Some i
input_shown (Union inputs options) = slice_get inputs 0
input_shown other = None

-- whether a function keeps the columns of its input, in their order
abbrev pub keeps_columns : FunctionIR → Bool
keeps_columns (Rename existing new swapping) = true
keeps_columns (RowIndex name offset) = true
keeps_columns (Unpivot args) = false
keeps_columns (Explode columns) = true
keeps_columns (FastCount sources scan_type alias) = false
