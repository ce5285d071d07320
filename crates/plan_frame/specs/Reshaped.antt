-- Frames in other shapes, and the columns that these have: under other names, with numbered rows, one column under another, lists taken apart.
use Rattle.std.specs.Prelude.{Bool, true, List, [], ◌∷◌, map, unwrap_or, if◌then◌else◌, ℕ, max, pos, false, fold, length, replicate}
use Rattle.plan_core.specs.declared.data_type.DataType.{DataType}
use Rattle.plan_core.specs.declared.data_type.DataType.TheVariants.{Int64, String, Boolean, List as ListOf}
use Rattle.plan_core.specs.Columns.{Columns, type_of, plain}
use Rattle.plan_core.specs.Names.{has}
use Rattle.plan_expr.specs.Leaves.{Name}
use Rattle.std.specs.List.{flat_map, range_with_len}
use Rattle.std.specs.Int.{w64, int_wrap}
use Rattle.plan_frame.specs.Values.{Single, no_single, single_whole, single_text, single_truth, Value, null, whole, text, truth, listed}
use Rattle.plan_frame.specs.Frames.{Frame, Column, column_or, row}

-- the columns under other names
abbrev pub renamed_columns : (Name → Name) → Columns → Columns
renamed_columns now s = map (λ (c : Name × DataType). (now c.0, c.1)) s

-- the type of a column, that of whole numbers where there is none
abbrev pub type_or : Columns → Name → DataType
type_or s a = unwrap_or (type_of s a) Int64

-- the columns of these names, in order
abbrev pub columns_at : Columns → List Name → Columns
columns_at s names = map (λ (a : Name). (a, type_or s a)) names

-- the type of the values in a column's lists, the column's own where it has no lists
abbrev pub item_type : DataType → DataType
item_type Int64 = Int64
item_type String = String
item_type Boolean = Boolean
item_type (ListOf t) = plain t

-- the columns, those of some names with the types of the values in their lists
abbrev pub exploded_columns : List Name → Columns → Columns
exploded_columns names s = map (λ (c : Name × DataType). (c.0, if has names c.0 then item_type c.1 else c.1)) s

-- the columns of a frame under other names
abbrev pub with_renamed : (Name → Name) → Frame → Frame
with_renamed now g = record { height = g.height; columns = map (λ (c : Column). record { name = now c.name; values = c.values }) g.columns }

-- the numbers of so many rows from a first one on; whole numbers wrap at 64 bits
abbrev pub row_numbers : ℕ → ℕ → List Value
row_numbers first h = map (λ (i : ℕ). whole (int_wrap w64 (pos i))) (range_with_len first h)

-- the columns of a frame behind one that numbers its rows from a first number on
abbrev pub with_numbers : Name → ℕ → Frame → Frame
with_numbers name first g = record { height = g.height; columns = record { name = name; values = row_numbers first g.height } ∷ g.columns }

-- a column's values, once for each of some columns
abbrev pub repeated : List Name → Frame → Name → List Value
repeated names g a = flat_map (λ (b : Name). column_or g a) names

-- the names of columns, each as often as the frame is high
abbrev pub names_down : List Name → Frame → List Value
names_down names g = flat_map (λ (a : Name). replicate g.height (text a)) names

-- the values of columns, one column after another
abbrev pub values_down : List Name → Frame → List Value
values_down names g = flat_map (column_or g) names

-- a value of a list as it stands alone
abbrev pub alone : Single → Value
alone no_single = null
alone (single_whole n) = whole n
alone (single_text s) = text s
alone (single_truth b) = truth b

-- the values in a value's list; none where it is no list
abbrev pub items : Value → List Value
items null = []
items (whole n) = []
items (text s) = []
items (truth b) = []
items (listed vs) = map alone vs

-- how many rows a row becomes: as many as the longest of its lists in these columns has values, and at least one
abbrev pub rows_given : List Name → Frame → ℕ → ℕ
rows_given names g i = fold max 1 (map (λ (a : Name). length (items (row (column_or g a) i))) names)

-- what the rows of a frame become, in order: each row as often as that, with the places in its lists from the first on
abbrev pub exploded_rows : List Name → Frame → List (ℕ × ℕ)
exploded_rows names g = flat_map (λ (i : ℕ). map (λ (j : ℕ). (i, j)) (range_with_len 0 (rows_given names g i))) (range_with_len 0 g.height)

-- a column over these rows: one that is taken apart has the value at the place in its list, null where that has none; another has its value again
abbrev pub exploded_values : Bool → List (ℕ × ℕ) → List Value → List Value
exploded_values true rows vs = map (λ (p : ℕ × ℕ). row (items (row vs p.0)) p.1) rows
exploded_values false rows vs = map (λ (p : ℕ × ℕ). row vs p.0) rows

-- the columns of a frame over these rows, those of some names taken apart
abbrev pub exploded : List Name → Frame → Frame
exploded names g =
    let rows = exploded_rows names g in
    record { height = length rows; columns = map (λ (c : Column). record { name = c.name; values = exploded_values (has names c.name) rows c.values }) g.columns }
