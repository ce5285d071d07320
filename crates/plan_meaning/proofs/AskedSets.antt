-- Names and columns that can be asked of columns.
use Rattle.std.proofs.Common.{◌≡◌, true, false, not, List, [], ◌∷◌, Option, Some, None, refl, sym, ap, subst, is_some, ⊎_elim}
use Rattle.std.specs.List.{AllByRecursion}
use Rattle.plan_core.specs.declared.data_type.DataType.{DataType}
use Rattle.plan_core.specs.Columns.{Columns, names_of, type_of}
use Rattle.plan_core.specs.Names.{has, AreDistinct}
use Rattle.plan_expr.specs.Leaves.{Name}
use Rattle.plan_frame.proofs.NameSets.{has_cons, has_first}
use Rattle.plan_ir.specs.Plans.{simple_projection}
use Rattle.plan_frame.specs.Exprs.{is_type}
use Rattle.plan_meaning.specs.Checks.{is_empty, is_known, is_column}
use Rattle.plan_meaning.specs.Typing.{checks, AllHold}
use Rattle.plan_meaning.specs.Asked.{set_of, IsFair}
use Rattle.plan_meaning.proofs.CheckParts.{good_projection}
use Rattle.plan_meaning.proofs.JoinLemmas.{distinct_differ}

-- each column of a list that passes
pub column_passes : (P : Name → Type 0) (cs : Columns) → AllByRecursion (λ (c : Name × DataType). P c.0) cs → (a : Name) → has (names_of cs) a ≡ true → P a
column_passes P [] h a i = cc
column_passes P (c ∷ cs) h a i = ⊎_elim (λ (e : a ≡ c.0). subst P (sym e) h.0) (λ (e : has (names_of cs) a ≡ true). column_passes P cs h.1 a e) (has_cons c.0 (names_of cs) a i)

pub some_name : (wanted : List Name) (a : Name) → has wanted a ≡ true → is_empty wanted ≡ false
some_name [] a h = cc
some_name (b ∷ wanted) a h = refl

pub has_some : (wanted : List Name) → is_empty wanted ≡ false → (a : Name) × (has wanted a ≡ true)
has_some [] e = cc
has_some (a ∷ wanted) e = (a, has_first a wanted)

pub fair_set : (wanted : List Name) (s : Columns) → AreDistinct wanted → ((a : Name) → has wanted a ≡ true → is_some (type_of s a) ≡ true) → IsFair (set_of wanted) s
fair_set [] s once known = tt
fair_set (a ∷ wanted) s once known = record { some = refl; once = once; known = known }

-- a column with its type is known
pub known_some : (s : Columns) (c : Name × DataType) → is_column s c ≡ true → is_some (type_of s c.0) ≡ true
known_some s c e = at (type_of s c.0) e
  where
    at : (o : Option DataType) → is_type o c.1 ≡ true → is_some o ≡ true
    at None e = cc
    at (Some t) e = refl

known_all : (s ks : Columns) → AllByRecursion (λ (c : Name × DataType). is_column s c ≡ true) ks → AllByRecursion (λ (c : Name × DataType). is_known s c.0 ≡ true) ks
known_all s [] h = tt
known_all s (c ∷ ks) h = (known_some s c h.0, known_all s ks h.1)

-- a projection to columns of the input, each once, is valid
pub columns_good : (s ks : Columns) → is_empty ks ≡ false → AreDistinct (names_of ks) → AllByRecursion (λ (c : Name × DataType). is_column s c ≡ true) ks → AllHold (checks (simple_projection ks) (s ∷ []))
columns_good s ks some once h = good_projection ks s (record { some = ap not some; known = known_all s ks h; typed = h; differ = distinct_differ (names_of ks) once })
