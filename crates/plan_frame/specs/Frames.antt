-- Frames: a height and named columns of that length; rows and columns taken from them.
use Rattle.std.specs.Prelude.{◌≡◌, ℕ, zero, suc, ◌+◌, true, List, [], ◌∷◌, ◌++◌, map, fold, length, max, Option, Some, None, replicate, unwrap_or, if◌then◌else◌}
use Rattle.std.specs.List.{AllByRecursion, flat_map, range_with_len}
use Rattle.std.specs.Str.{bytes_eq}
use Rattle.plan_core.specs.declared.data_type.DataType.{DataType}
use Rattle.plan_core.specs.Columns.{Columns, HasDistinctNames}
use Rattle.plan_core.specs.Names.{has}
use Rattle.plan_expr.specs.Leaves.{Name}
use Rattle.plan_frame.specs.Values.{Value, null, AllOf}

-- a column: its name, and its values from the first row on
pub record Column : Type 0 where
  pub name : Name
  pub values : List Value

-- a frame: how many rows it has, and its columns in order
pub record Frame : Type 0 where
  pub height : ℕ
  pub columns : List Column

-- the values of the first column of that name
abbrev pub found : List Column → Name → Option (List Value)
found [] a = None
found (c ∷ cs) a = if bytes_eq a c.name then Some c.values else found cs a

-- the values of a frame's column of that name
abbrev pub column : Frame → Name → Option (List Value)
column f a = found f.columns a

-- these values, or null in each row where a frame has no column of that name
abbrev pub column_or : Frame → Name → List Value
column_or f a = unwrap_or (column f a) (replicate f.height null)

-- the names of columns, in order
abbrev pub column_names : List Column → List Name
column_names cs = map (λ (c : Column). c.name) cs

-- the names that are told, else the others
abbrev pub names_or : Option (List Name) → List Name → List Name
names_or None names = names
names_or (Some given) names = given

-- columns of one height have these names and types, one for one
abbrev pub HaveTypes : ℕ → List Column → Columns → Type 0
HaveTypes h [] [] = Unit {0}
HaveTypes h (c ∷ cs) (s ∷ ss) = (c.name ≡ s.0) × (length c.values ≡ h) × AllOf s.1 c.values × HaveTypes h cs ss
HaveTypes h _ _ = ⊥

-- a frame has these columns, each of its type and as long as the frame is high
abbrev pub HasSchema : Frame → Columns → Type 0
HasSchema f s = HaveTypes f.height f.columns s

-- a frame is well formed: each column is of some type and as long as the frame is high, and no name stands twice
abbrev pub IsFrame : Frame → Type 0
IsFrame f = (s : Columns) × HasSchema f s × HasDistinctNames s

-- a frame holds a column of this name and type, among others
abbrev pub Holds : Frame → Name × DataType → Type 0
Holds f c = (vs : List Value) × (column f c.0 ≡ Some vs) × (length vs ≡ f.height) × AllOf c.1 vs

-- a frame holds each of these columns
abbrev pub HoldsAll : Frame → Columns → Type 0
HoldsAll f s = AllByRecursion (Holds f) s

-- the value in a row, null where there is no such row
abbrev pub row : List Value → ℕ → Value
row [] i = null
row (v ∷ vs) zero = v
row (v ∷ vs) (suc i) = row vs i

-- the values in these rows, in this order
abbrev pub picked : List ℕ → List Value → List Value
picked rows vs = map (row vs) rows

-- the columns cut to these rows, in this order
abbrev pub picked_columns : List ℕ → List Column → List Column
picked_columns rows cs = map (λ (c : Column). record { name = c.name; values = picked rows c.values }) cs

-- the frame of these rows of a frame, in this order
abbrev pub rows_at : List ℕ → Frame → Frame
rows_at rows f = record { height = length rows; columns = picked_columns rows f.columns }

-- columns of these names, each with the values that a function gives it
abbrev pub table_columns : List Name → (Name → List Value) → List Column
table_columns names values = map (λ (a : Name). record { name = a; values = values a }) names

-- the frame of these names, each with the values that a function gives it
abbrev pub table : ℕ → List Name → (Name → List Value) → Frame
table h names values = record { height = h; columns = table_columns names values }

-- the columns where this one stands in the place of the first of its name, or last
abbrev pub with_column : List Column → Column → List Column
with_column [] c = c ∷ []
with_column (d ∷ cs) c = if bytes_eq c.name d.name then c ∷ cs else d ∷ with_column cs c

-- the columns where each of others, in order, stands in the place of the first of its name, or last
abbrev pub with_columns : List Column → List Column → List Column
with_columns cs others = fold with_column cs others

-- the frame cut to these names, in this order
abbrev pub cut : List Name → Frame → Frame
cut names f = table f.height names (column_or f)

-- the heights of frames, summed
abbrev pub total_height : List Frame → ℕ
total_height [] = 0
total_height (f ∷ fs) = f.height + total_height fs

-- the columns of one name, one frame after another
abbrev pub stacked : List Frame → Name → List Value
stacked [] a = []
stacked (f ∷ fs) a = column_or f a ++ stacked fs a

-- frames one after another, cut to these names
abbrev pub stack : List Name → List Frame → Frame
stack names fs = table (total_height fs) names (stacked fs)

-- the values of columns, each followed by those of the column at its place
abbrev pub appended_columns : List Column → List Column → List Column
appended_columns [] ds = []
appended_columns (c ∷ cs) [] = []
appended_columns (c ∷ cs) (d ∷ ds) = record { name = c.name; values = c.values ++ d.values } ∷ appended_columns cs ds

-- the rows of a frame, and then those of another with as many columns
abbrev pub appended : Frame → Frame → Frame
appended f g = record { height = f.height + g.height; columns = appended_columns f.columns g.columns }

-- the rows of frames in turn
abbrev pub in_turn : List Frame → Frame
in_turn [] = record { height = 0; columns = [] }
in_turn (f ∷ []) = f
in_turn (f ∷ g ∷ fs) = appended f (in_turn (g ∷ fs))

-- the height of the highest of some frames
abbrev pub highest : List Frame → ℕ
highest fs = fold max 0 (map (λ (f : Frame). f.height) fs)

-- the columns of frames in order, each with as many rows, null where its frame has no such row
abbrev pub levelled : ℕ → List Frame → List Column
levelled h fs = flat_map (λ (f : Frame). picked_columns (range_with_len 0 h) f.columns) fs

-- columns, and one more where none of them has its name
abbrev pub with_new_column : List Column → Column → List Column
with_new_column cs c = if has (column_names cs) c.name then cs else cs ++ c ∷ []

-- frames beside one another, as high as the highest: their columns in a row, of each name the first, with null in the rows that a frame lacks
abbrev pub beside : List Frame → Frame
beside fs = record { height = highest fs; columns = fold with_new_column [] (levelled (highest fs) fs) }

-- two frames of one height: each of these columns of the second is in the first, as it is called there
pub record AgreeBy (now : Name → Name) (names : List Name) (f g : Frame) : Type 0 where
  pub height : f.height ≡ g.height
  pub same : (a : Name) → has names a ≡ true → column f (now a) ≡ column g a

-- two frames of one height with the same columns of these names
abbrev pub Agree : List Name → Frame → Frame → Type 0
Agree names f g = AgreeBy (λ a. a) names f g
