-- What the paths of a scan tell: the hive columns of each, or why they are refused.
use Rattle.std.specs.Prelude.{◌≡◌, ℕ, suc, Bool, true, not, ◌&&◌, min, is_some, List, [], ◌∷◌, ◌++◌, map, take, filter, Option, None, Some, if◌then◌else◌, option_and_then, unwrap_or, Result, Ok, Err}
use Rattle.std.specs.List.{list_all}
use Rattle.std.specs.Map.{lookup}
use Rattle.std.specs.Option.{option_or}
use Rattle.std.specs.Str.{bytes_eq}
use Rattle.plan_core.specs.Columns.{Columns, names_of, type_of, with_types}
use Rattle.plan_core.specs.Errors.{item_at}
use Rattle.plan_core.specs.Names.{has, with_names}
use Rattle.plan_core.specs.declared.data_type.DataType.{DataType}
use Rattle.plan_core.specs.declared.error.At.{At}
use Rattle.plan_core.specs.declared.error.PolarsError.{PolarsError}
use Rattle.plan_core.specs.declared.error.PolarsError.TheVariants.{SchemaFieldNotFound, Duplicate, ComputeError, OutOfMemory}
use Rattle.plan_table.specs.declared.value.AnyValue.{AnyValue}
use Rattle.plan_table.specs.declared.value.AnyValue.TheVariants.{Null}
use Rattle.plan_hive.specs.Parts.{Text, HivePart, hive_parts, may_cut, part_names}
use Rattle.plan_scan.specs.Stats.{Stats, stat}
use Rattle.plan_hive.specs.Values.{hive_type, value_as}

-- the place of an item outside plans; one above 4294967295 is told as that
abbrev pub place : ℕ → At
place i = item_at (min i 4294967295)

-- the first fault of items, of which the first has this place
abbrev pub first_fault : {X : Type 0} → (ℕ → X → Option PolarsError) → ℕ → List X → Option PolarsError
first_fault fault i [] = None
first_fault fault i (x ∷ xs) = option_or (fault i x) (first_fault fault (suc i) xs)

-- whether a name is one of the first path's, and of the schema's, where one is given
abbrev pub is_known : Option Columns → List Text → Text → Bool
is_known schema firsts name = has firsts name && (unwrap_or (option_and_then (λ (s : Columns). Some (is_some (type_of s name))) schema) true)

-- the answer names this fault, or there is none and it is Ok; want of memory says nothing
abbrev pub Says : {A : Type 0} → Result A PolarsError → Option PolarsError → Type 0
Says (Ok x) fault = fault ≡ None
Says (Err OutOfMemory) fault = Unit {0}
Says (Err e) fault = fault ≡ Some e

-- why a name may not stand behind those before it
abbrev pub name_fault : At → Option Columns → List Text → List Text → Text → Option PolarsError
name_fault at schema firsts before name =
    if not (is_known schema firsts name) then Some (SchemaFieldNotFound at)
    else if has before name then Some (Duplicate at)
    else None

-- the first fault of names
abbrev pub names_fault : At → Option Columns → List Text → List Text → Option PolarsError
names_fault at schema firsts names = first_fault (λ k name. name_fault at schema firsts (take k names) name) 0 names

-- why the names in a path are refused: the first fault of one of them, and then that one of the first path's is absent
abbrev pub parts_fault : Option Columns → List Text → ℕ → List HivePart → Option PolarsError
parts_fault schema firsts i parts =
    option_or (names_fault (place i) schema firsts (part_names parts))
    (if list_all (has (part_names parts)) firsts then None else Some (ComputeError (place i)))

-- why a path is refused before values are read: its folders begin nowhere, and then for its names
abbrev pub path_fault : ℕ → Option Columns → List Text → ℕ → Text → Option PolarsError
path_fault start schema firsts i path =
    if may_cut start path then parts_fault schema firsts i (hive_parts start path) else Some (ComputeError (place i))

-- the names of the columns, in order: those that the reader has, as it has them, and then the others, as the first path has them
abbrev pub ordered : Columns → List Text → List Text
ordered reader firsts = filter (has firsts) (names_of reader) ++ filter (λ name. not (has (names_of reader) name)) firsts

-- the columns with their types; no name comes twice among them
abbrev pub hive_columns : Option Columns → Columns → List (List HivePart) → List Text → Columns
hive_columns schema reader all firsts = with_types [] (map (λ (name : Text). (name, hive_type schema reader all name)) (ordered reader firsts))

-- the value of a column in a path; none where it spells none of its type
abbrev pub value_in : List HivePart → Text × DataType → Option AnyValue
value_in parts c = option_and_then (value_as c.1) (lookup (bytes_eq c.0) parts)

-- whether a path spells a value for each column
abbrev pub is_read : Columns → List HivePart → Bool
is_read columns parts = list_all (λ (c : Text × DataType). is_some (value_in parts c)) columns

-- why the values in a path are refused
abbrev pub values_fault : Columns → ℕ → List HivePart → Option PolarsError
values_fault columns i parts = if is_read columns parts then None else Some (ComputeError (place i))

-- the columns with their values in a path
abbrev pub partition_of : Columns → List HivePart → Stats
partition_of columns parts = map (λ (c : Text × DataType). stat c (unwrap_or (value_in parts c) Null)) columns

-- a fault, if there is one, and else the answer
abbrev pub unless : Option PolarsError → Result (Option (List Stats)) PolarsError → Result (Option (List Stats)) PolarsError
unless (Some fault) answer = Err fault
unless None answer = answer

-- the partitions of paths with such columns, or the first fault of a value
abbrev pub partitions : Columns → List (List HivePart) → Result (Option (List Stats)) PolarsError
partitions columns all = unless (first_fault (values_fault columns) 0 all) (Ok (Some (map (partition_of columns) all)))

-- the partitions of paths of which the first has these names, or the first fault of a name and then of a value
abbrev pub read_paths : ℕ → Option Columns → Columns → List Text → List Text → Result (Option (List Stats)) PolarsError
read_paths start schema reader firsts paths = let all = map (hive_parts start) paths in
    unless (first_fault (path_fault start schema firsts) 0 paths) (partitions (hive_columns schema reader all firsts) all)

-- what a first path without hive columns tells: nothing, but where a schema says that there are some
abbrev pub without_columns : Option Columns → Result (Option (List Stats)) PolarsError
without_columns None = Ok None
without_columns (Some schema) = Err (ComputeError (place 0))

-- the same of a first path with these columns
abbrev pub with_first : ℕ → Option Columns → Columns → List HivePart → List Text → Result (Option (List Stats)) PolarsError
with_first start schema reader [] paths = without_columns schema
with_first start schema reader (part ∷ parts) paths = read_paths start schema reader (with_names [] (part_names (part ∷ parts))) paths

-- the hive columns of paths whose folders begin at a place, with the values of each path
abbrev pub hive_of : ℕ → Option Columns → Columns → List Text → Result (Option (List Stats)) PolarsError
hive_of start schema reader [] = Ok None
hive_of start schema reader (path ∷ paths) =
    if may_cut start path then with_first start schema reader (hive_parts start path) (path ∷ paths) else Err (ComputeError (place 0))
