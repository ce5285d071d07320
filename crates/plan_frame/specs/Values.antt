-- Values: their types, and how two of one type stand to each other.
use Rattle.std.specs.Prelude.{ℕ, ℤ, Bool, true, false, not, List}
use Rattle.std.specs.List.{AllByRecursion}
use Rattle.std.specs.declared.cmp.Ordering.{Ordering}
use Rattle.std.specs.declared.cmp.Ordering.TheVariants.{Equal}
use Rattle.std.specs.Ordering.{int_cmp, int_eq, nat_cmp, bool_cmp}
use Rattle.std.specs.Cmp.Lexicographic.{slice_cmp, pointwise}
use Rattle.std.specs.Str.{bytes_eq}
use Rattle.plan_core.specs.declared.data_type.DataType.{DataType}
use Rattle.plan_core.specs.declared.data_type.DataType.TheVariants as types
use Rattle.plan_core.specs.declared.data_type.PlainType.{PlainType}
use Rattle.plan_core.specs.declared.data_type.PlainType.TheVariants as plains

-- a value in a list: null, a whole number, a text by its bytes, or a truth value
pub data Single : Type 0 where
  no_single : Single
  single_whole : ℤ → Single
  single_text : List ℕ → Single
  single_truth : Bool → Single

-- null, a whole number, a text by its bytes, a truth value, or a list
pub data Value : Type 0 where
  null : Value
  whole : ℤ → Value
  text : List ℕ → Value
  truth : Bool → Value
  listed : List Single → Value

-- a value in a list is of a type; null is of each
abbrev pub IsSingleOf : PlainType → Single → Type 0
IsSingleOf t no_single = Unit {0}
IsSingleOf plains.Int64 (single_whole n) = Unit {0}
IsSingleOf plains.String (single_text s) = Unit {0}
IsSingleOf plains.Boolean (single_truth b) = Unit {0}
IsSingleOf _ _ = ⊥

-- a value is of a type; null is of each, and a list is where each value in it is of the type of its values
abbrev pub IsOf : DataType → Value → Type 0
IsOf t null = Unit {0}
IsOf types.Int64 (whole n) = Unit {0}
IsOf types.String (text s) = Unit {0}
IsOf types.Boolean (truth b) = Unit {0}
IsOf (types.List t) (listed vs) = AllByRecursion (IsSingleOf t) vs
IsOf _ _ = ⊥

-- all values are of a type
abbrev pub AllOf : DataType → List Value → Type 0
AllOf t vs = AllByRecursion (IsOf t) vs

-- how two values of one type, which is no list, stand: numbers by size, texts by their bytes, false before true
abbrev pub value_cmp : Value → Value → Ordering
value_cmp (whole a) (whole b) = int_cmp a b
value_cmp (text a) (text b) = slice_cmp nat_cmp a b
value_cmp (truth a) (truth b) = bool_cmp a b
value_cmp _ _ = Equal

-- whether two values in lists are the same, null being the same as null alone
abbrev pub same_single : Single → Single → Bool
same_single no_single no_single = true
same_single (single_whole a) (single_whole b) = int_eq a b
same_single (single_text a) (single_text b) = bytes_eq a b
same_single (single_truth true) (single_truth b) = b
same_single (single_truth false) (single_truth b) = not b
same_single _ _ = false

-- whether two values are the same, null being the same as null alone, and lists value by value
abbrev pub same_value : Value → Value → Bool
same_value null null = true
same_value (whole a) (whole b) = int_eq a b
same_value (text a) (text b) = bytes_eq a b
same_value (truth true) (truth b) = b
same_value (truth false) (truth b) = not b
same_value (listed xs) (listed ys) = pointwise same_single xs ys
same_value _ _ = false

-- whether a value is null
abbrev pub is_null : Value → Bool
is_null null = true
is_null _ = false

-- whether a value is the truth value true
abbrev pub is_true : Value → Bool
is_true (truth b) = b
is_true _ = false
