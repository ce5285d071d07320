-- Lists of names with types.
use Rattle.std.specs.Prelude.{◌≡◌, ℕ, suc, Bool, ◌&&◌, nat_eq, List, [], ◌∷◌, Option, None, Some, if◌then◌else◌, map, fold, position, slice_get}
use Rattle.std.specs.Str.{bytes_eq}
use Rattle.std.specs.List.{IsDistinct}
use Rattle.std.specs.Cmp.Lexicographic.{pointwise}
use Rattle.plan_core.specs.declared.data_type.DataType.{DataType}
use Rattle.plan_core.specs.declared.data_type.DataType.TheVariants.{Int64, String, Boolean, List as ListOf}
use Rattle.plan_core.specs.declared.data_type.PlainType.{PlainType}
use Rattle.plan_core.specs.declared.data_type.PlainType.TheVariants as plains

-- the type of a column of such values
abbrev pub plain : PlainType → DataType
plain plains.Int64 = Int64
plain plains.String = String
plain plains.Boolean = Boolean

-- the type of a single value of a column; none where its values are lists
abbrev pub plain_type_of : DataType → Option PlainType
plain_type_of Int64 = Some plains.Int64
plain_type_of String = Some plains.String
plain_type_of Boolean = Some plains.Boolean
plain_type_of (ListOf t) = None

-- names with types, in order
abbrev pub Columns : Type 0
Columns = List (List ℕ × DataType)

-- the names, in order
abbrev pub names_of : Columns → List (List ℕ)
names_of cs = map (λ (c : List ℕ × DataType). c.0) cs

-- the type of a name, if it is there
abbrev pub type_of : Columns → List ℕ → Option DataType
type_of [] name = None
type_of (c ∷ cs) name = if bytes_eq name c.0 then Some c.1 else type_of cs name

-- the place of a name, if it is there
abbrev pub place_of : Columns → List ℕ → Option ℕ
place_of cs name = position (bytes_eq name) (names_of cs)

-- the name stands at the place, with the type that it has
abbrev pub StandsAt : Columns → List ℕ → ℕ → Type 0
StandsAt cs name i = (d : DataType) × (slice_get cs i ≡ Some (name, d)) × (type_of cs name ≡ Some d)

-- the columns where the name has this type: it keeps its place, or goes last
abbrev pub with_type : Columns → List ℕ → DataType → Columns
with_type [] name dtype = (name, dtype) ∷ []
with_type (c ∷ cs) name dtype = if bytes_eq name c.0 then (c.0, dtype) ∷ cs else c ∷ with_type cs name dtype

-- the columns where each of others, in order, has its type
abbrev pub with_types : Columns → Columns → Columns
with_types cs others = fold (λ (done : Columns) (c : List ℕ × DataType). with_type done c.0 c.1) cs others

-- the columns without the name
abbrev pub without : Columns → List ℕ → Columns
without [] name = []
without (c ∷ cs) name = if bytes_eq name c.0 then cs else c ∷ without cs name

-- no name comes twice
abbrev pub HasDistinctNames : Columns → Type 0
HasDistinctNames cs = IsDistinct bytes_eq (names_of cs)

-- a number for each type of a single value
abbrev pub plain_number : PlainType → ℕ
plain_number plains.Int64 = 0
plain_number plains.String = 1
plain_number plains.Boolean = 2

-- a number for each type
abbrev pub type_number : DataType → ℕ
type_number Int64 = 0
type_number String = 1
type_number Boolean = 2
type_number (ListOf t) = suc (suc (suc (plain_number t)))

-- whether two columns have one name and one type
abbrev pub same_column : List ℕ × DataType → List ℕ × DataType → Bool
same_column c d = bytes_eq c.0 d.0 && nat_eq (type_number c.1) (type_number d.1)

-- whether two lists of columns are one
abbrev pub same_columns : Columns → Columns → Bool
same_columns cs ds = pointwise same_column cs ds
