-- Functions of whole frames: how they name columns, and the columns that they give.
use Rattle.std.specs.Prelude.{Bool, true, not, ◌&&◌, List, [], ◌∷◌, ◌++◌, map, Option, None, Some, unwrap_or, codes, if◌then◌else◌}
use Rattle.std.specs.List.{filter as only_where, list_any}
use Rattle.std.specs.Str.{bytes_eq}
use Rattle.plan_core.specs.declared.data_type.DataType.{DataType}
use Rattle.plan_core.specs.declared.data_type.DataType.TheVariants.{Int64, String}
use Rattle.plan_core.specs.Columns.{Columns, names_of}
use Rattle.plan_core.specs.Names.{has}
use Rattle.plan_ir.specs.declared.functions.FunctionIR.{FunctionIR}
use Rattle.plan_ir.specs.declared.functions.FunctionIR.TheVariants.{Rename, RowIndex, Unpivot, Explode, FastCount}
use Rattle.plan_ir.specs.declared.functions.UnpivotArgsIR.{UnpivotArgsIR}
use Rattle.plan_expr.specs.Leaves.{Name}
use Rattle.plan_frame.specs.Reshaped.{renamed_columns, type_or, columns_at, exploded_columns}

-- the new name at the place of the first of some names that is this one, if one is
abbrev pub new_name : (existing new : List Name) → Name → Option Name
new_name [] new a = None
new_name (e ∷ existing) [] a = None
new_name (e ∷ existing) (n ∷ new) a = if bytes_eq a e then Some n else new_name existing new a

-- the name that a renaming makes of one: its new name, or the name itself
abbrev pub renamed : (existing new : List Name) → Name → Name
renamed existing new a = unwrap_or (new_name existing new a) a

-- the first of some names that becomes this one, if one does
abbrev pub former : (Name → Name) → List Name → Name → Option Name
former now names a = new_name (map now names) names a

-- the name that goes with the first of some pairs that has this one, if one has
abbrev pub name_in : List (Name × Name) → Name → Option Name
name_in [] a = None
name_in (p ∷ pairs) a = if bytes_eq a p.0 then Some p.1 else name_in pairs a

-- the name that goes with one in some pairs, or the name itself
abbrev pub names_now : List (Name × Name) → Name → Name
names_now pairs a = unwrap_or (name_in pairs a) a

-- two names that differ get one name
abbrev pub become_one : (Name → Name) → Name → Name → Bool
become_one now a b = bytes_eq (now a) (now b) && not (bytes_eq a b)

-- no two names that differ get one name
abbrev pub stay_apart : (Name → Name) → List Name → Bool
stay_apart now [] = true
stay_apart now (a ∷ names) = not (list_any (become_one now a) names) && stay_apart now names

-- the names that are told where some are, else the others
abbrev pub told_names : (told others : List Name) → List Name
told_names [] others = others
told_names (a ∷ told) others = a ∷ told

-- the columns of an input that an unpivot makes one of: those that are told, else all that it doesn't repeat, in order
abbrev pub value_names : UnpivotArgsIR → List Name → List Name
value_names args names = told_names args.on (only_where (λ (a : Name). not (has args.index a)) names)

-- the name of the column with the names of those columns
abbrev pub variable_name : UnpivotArgsIR → Name
variable_name args = unwrap_or args.variable_name (codes "variable")

-- the name of the column with their values
abbrev pub value_name : UnpivotArgsIR → Name
value_name args = unwrap_or args.value_name (codes "value")

-- the names of the columns that an unpivot gives: those that it repeats, and then its own two
abbrev pub unpivoted_names : UnpivotArgsIR → List Name
unpivoted_names args = args.index ++ variable_name args ∷ value_name args ∷ []

-- no name stands twice
abbrev pub all_differ : List Name → Bool
all_differ [] = true
all_differ (a ∷ names) = not (has names a) && all_differ names

-- the type of the first of these columns, that of whole numbers where there is none
abbrev pub first_type : Columns → List Name → DataType
first_type s [] = Int64
first_type s (a ∷ names) = type_or s a

-- the columns of an unpivot: those that it repeats, the names of its value columns, and then their values
abbrev pub unpivoted_columns : UnpivotArgsIR → Columns → Columns
unpivoted_columns args s = columns_at s args.index ++ (variable_name args, String) ∷ (value_name args, first_type s (value_names args (names_of s))) ∷ []

-- the name of the column with the number of the rows of files
abbrev pub count_name : Option Name → Name
count_name alias = unwrap_or alias (codes "len")

-- the columns that a function gives, from those of its input: a renaming the same under their new names, a numbering of the rows its own before them, an unpivot those that it repeats and its own two, an explode the same, with the types of the values in the lists that it takes apart, and a count of the rows of files that of the number alone
abbrev pub function_schema : FunctionIR → Columns → Columns
function_schema (Rename existing new swapping) s = renamed_columns (renamed existing new) s
function_schema (RowIndex name offset) s = (name, Int64) ∷ s
function_schema (Unpivot args) s = unpivoted_columns args s
function_schema (Explode columns) s = exploded_columns columns s
function_schema (FastCount sources scan_type alias) s = (count_name alias, Int64) ∷ []
