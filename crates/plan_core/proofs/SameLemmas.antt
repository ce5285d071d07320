-- When two lists of columns are one.
use Rattle.std.proofs.Common.{◌≡◌, ◌∙◌, ℕ, Bool, true, false, ◌&&◌, List, refl, sym, ap, nat_eq}
use Rattle.std.specs.Prelude.{String, string_bytes}
use Rattle.std.specs.Bool.{Decides}
use Rattle.std.specs.Str.{bytes_eq}
use Rattle.std.specs.String.{string_eq}
use Rattle.std.specs.Cmp.Lexicographic.{pointwise}
use Rattle.std.specs.Cmp.Derive.Mapped.{pointwise-map}
use Rattle.std.specs.declared.alloc.Global.{Global}
use Rattle.std.proofs.lemmas.Slice.Eq.{bytes_eq-Decides, slice_eq-Decides}
use Rattle.plan_core.specs.declared.data_type.DataType.{DataType}
use Rattle.plan_core.specs.declared.data_type.DataType.TheVariants as types
use Rattle.plan_core.specs.declared.data_type.PlainType.TheVariants as plains
use Rattle.plan_core.specs.contracts.data_type.DataTypePartialEq.TheImpl.{ghosts}
use Rattle.plan_core.specs.Columns.{Columns, same_column, same_columns, type_number}
use Rattle.plan_core.proofs.ColumnLemmas.{Entries, seen}

abbrev same_type : DataType → DataType → Bool
same_type a b = nat_eq (type_number a) (type_number b)

-- what `==` says of two types
eq-types : (a b : DataType) → ghosts.eq a b ≡ same_type a b
eq-types types.Int64 types.Int64 = refl
eq-types types.Int64 types.String = refl
eq-types types.Int64 types.Boolean = refl
eq-types types.Int64 (types.List plains.Int64) = refl
eq-types types.Int64 (types.List plains.String) = refl
eq-types types.Int64 (types.List plains.Boolean) = refl
eq-types types.String types.Int64 = refl
eq-types types.String types.String = refl
eq-types types.String types.Boolean = refl
eq-types types.String (types.List plains.Int64) = refl
eq-types types.String (types.List plains.String) = refl
eq-types types.String (types.List plains.Boolean) = refl
eq-types types.Boolean types.Int64 = refl
eq-types types.Boolean types.String = refl
eq-types types.Boolean types.Boolean = refl
eq-types types.Boolean (types.List plains.Int64) = refl
eq-types types.Boolean (types.List plains.String) = refl
eq-types types.Boolean (types.List plains.Boolean) = refl
eq-types (types.List plains.Int64) types.Int64 = refl
eq-types (types.List plains.Int64) types.String = refl
eq-types (types.List plains.Int64) types.Boolean = refl
eq-types (types.List plains.Int64) (types.List plains.Int64) = refl
eq-types (types.List plains.Int64) (types.List plains.String) = refl
eq-types (types.List plains.Int64) (types.List plains.Boolean) = refl
eq-types (types.List plains.String) types.Int64 = refl
eq-types (types.List plains.String) types.String = refl
eq-types (types.List plains.String) types.Boolean = refl
eq-types (types.List plains.String) (types.List plains.Int64) = refl
eq-types (types.List plains.String) (types.List plains.String) = refl
eq-types (types.List plains.String) (types.List plains.Boolean) = refl
eq-types (types.List plains.Boolean) types.Int64 = refl
eq-types (types.List plains.Boolean) types.String = refl
eq-types (types.List plains.Boolean) types.Boolean = refl
eq-types (types.List plains.Boolean) (types.List plains.Int64) = refl
eq-types (types.List plains.Boolean) (types.List plains.String) = refl
eq-types (types.List plains.Boolean) (types.List plains.Boolean) = refl

same_type-Decides : (a b : DataType) → Decides (same_type a b) (a ≡ b)
same_type-Decides types.Int64 types.Int64 = (λ e. refl, λ e. refl)
same_type-Decides types.Int64 types.String = (λ e. cc, λ e. cc)
same_type-Decides types.Int64 types.Boolean = (λ e. cc, λ e. cc)
same_type-Decides types.Int64 (types.List plains.Int64) = (λ e. cc, λ e. cc)
same_type-Decides types.Int64 (types.List plains.String) = (λ e. cc, λ e. cc)
same_type-Decides types.Int64 (types.List plains.Boolean) = (λ e. cc, λ e. cc)
same_type-Decides types.String types.Int64 = (λ e. cc, λ e. cc)
same_type-Decides types.String types.String = (λ e. refl, λ e. refl)
same_type-Decides types.String types.Boolean = (λ e. cc, λ e. cc)
same_type-Decides types.String (types.List plains.Int64) = (λ e. cc, λ e. cc)
same_type-Decides types.String (types.List plains.String) = (λ e. cc, λ e. cc)
same_type-Decides types.String (types.List plains.Boolean) = (λ e. cc, λ e. cc)
same_type-Decides types.Boolean types.Int64 = (λ e. cc, λ e. cc)
same_type-Decides types.Boolean types.String = (λ e. cc, λ e. cc)
same_type-Decides types.Boolean types.Boolean = (λ e. refl, λ e. refl)
same_type-Decides types.Boolean (types.List plains.Int64) = (λ e. cc, λ e. cc)
same_type-Decides types.Boolean (types.List plains.String) = (λ e. cc, λ e. cc)
same_type-Decides types.Boolean (types.List plains.Boolean) = (λ e. cc, λ e. cc)
same_type-Decides (types.List plains.Int64) types.Int64 = (λ e. cc, λ e. cc)
same_type-Decides (types.List plains.Int64) types.String = (λ e. cc, λ e. cc)
same_type-Decides (types.List plains.Int64) types.Boolean = (λ e. cc, λ e. cc)
same_type-Decides (types.List plains.Int64) (types.List plains.Int64) = (λ e. refl, λ e. refl)
same_type-Decides (types.List plains.Int64) (types.List plains.String) = (λ e. cc, λ e. cc)
same_type-Decides (types.List plains.Int64) (types.List plains.Boolean) = (λ e. cc, λ e. cc)
same_type-Decides (types.List plains.String) types.Int64 = (λ e. cc, λ e. cc)
same_type-Decides (types.List plains.String) types.String = (λ e. cc, λ e. cc)
same_type-Decides (types.List plains.String) types.Boolean = (λ e. cc, λ e. cc)
same_type-Decides (types.List plains.String) (types.List plains.Int64) = (λ e. cc, λ e. cc)
same_type-Decides (types.List plains.String) (types.List plains.String) = (λ e. refl, λ e. refl)
same_type-Decides (types.List plains.String) (types.List plains.Boolean) = (λ e. cc, λ e. cc)
same_type-Decides (types.List plains.Boolean) types.Int64 = (λ e. cc, λ e. cc)
same_type-Decides (types.List plains.Boolean) types.String = (λ e. cc, λ e. cc)
same_type-Decides (types.List plains.Boolean) types.Boolean = (λ e. cc, λ e. cc)
same_type-Decides (types.List plains.Boolean) (types.List plains.Int64) = (λ e. cc, λ e. cc)
same_type-Decides (types.List plains.Boolean) (types.List plains.String) = (λ e. cc, λ e. cc)
same_type-Decides (types.List plains.Boolean) (types.List plains.Boolean) = (λ e. refl, λ e. refl)

both-Decides : (x y : Bool) (c d : List ℕ × DataType) → Decides x (c.0 ≡ d.0) → Decides y (c.1 ≡ d.1) → Decides (x && y) (c ≡ d)
both-Decides true true c d p q = (λ e. (λ i. (p.0 refl i, q.0 refl i)), λ e. refl)
both-Decides true false c d p q = (λ e. cc, λ e. q.1 (ap (λ (x : List ℕ × DataType). x.1) e))
both-Decides false y c d p q = (λ e. cc, λ e. p.1 (ap (λ (x : List ℕ × DataType). x.0) e))

-- the test tells whether two lists of columns are one
pub same_columns-Decides : (cs ds : Columns) (r : Bool) → r ≡ same_columns cs ds → Decides r (cs ≡ ds)
same_columns-Decides cs ds r e =
    slice_eq-Decides {E = same_column} (λ c d. both-Decides (bytes_eq c.0 d.0) (same_type c.1 d.1) c d (bytes_eq-Decides c.0 d.0) (same_type-Decides c.1 d.1)) cs ds r e

-- `==` of the entries of two maps, in order
pub same_columns-seen : (es fs : Entries) → pointwise (λ (p : String Global × DataType) (q : String Global × DataType). string_eq p.0 q.0 && ghosts.eq p.1 q.1) es fs ≡ same_columns (seen es) (seen fs)
same_columns-seen es fs =
    (λ i. pointwise (λ (p : String Global × DataType) (q : String Global × DataType). string_eq p.0 q.0 && eq-types p.1 q.1 i) es fs)
    ∙ sym (pointwise-map (λ (p : String Global × DataType). (string_bytes p.0, p.1)) same_column es fs)
