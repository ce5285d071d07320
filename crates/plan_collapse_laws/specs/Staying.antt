-- Which expressions of an addition directly on another have to stay.
use Rattle.std.specs.Prelude.{◌≡◌, ℕ, Bool, true, false, not, ◌&&◌, ◌||◌, List, [], ◌∷◌, length, ◌⊎◌, zero, suc}
use Rattle.std.specs.List.{AllByRecursion, filter as only_where, list_any}
use Rattle.plan_core.specs.Names.{has}
use Rattle.plan_expr.specs.Exprs.{Named}
use Rattle.plan_expr.specs.Leaves.{Name, leaves}
use Rattle.plan_expr.specs.Naming.{name_of}
use Rattle.plan_frame.specs.ExprLists.{out_names, all_leaves}

-- the name under which an expression is put out
abbrev pub out : Named → Name
out e = name_of e.name

-- whether an expression reads one of some names
abbrev pub reads_one : List Name → Named → Bool
reads_one names e = list_any (has names) (leaves e.expr)

-- an expression is one of these
abbrev pub IsOne : Named → List Named → Type 0
IsOne e [] = ⊥
IsOne e (d ∷ es) = (e ≡ d) ⊎ IsOne e es

-- the least set of expressions of an addition that holds each one that reads a lower output, each one that remakes a lower output
-- which some expression of the addition reads, and each one that remakes none and whose output an expression of the set reads
pub data Stays (es : List Named) (lower : List Name) : Named → Type 0 where
  reading : (e : Named) → IsOne e es → reads_one lower e ≡ true → Stays es lower e
  remaking : (e : Named) → IsOne e es → has lower (out e) ≡ true → has (all_leaves es) (out e) ≡ true → Stays es lower e
  awaited : (d e : Named) → Stays es lower d → IsOne e es → has lower (out e) ≡ false → has (leaves d.expr) (out e) ≡ true → Stays es lower e

-- a set of expressions holds what has to stay: each that reads a lower output, each that remakes a lower output that is read, and each that
-- remakes none and whose output one of the set reads
pub record HoldsStaying (es : List Named) (lower : List Name) (stay : Named → Bool) : Type 0 where
  pub reading : AllByRecursion (λ (e : Named). reads_one lower e ≡ true → stay e ≡ true) es
  pub remaking : AllByRecursion (λ (e : Named). has lower (out e) ≡ true → has (all_leaves es) (out e) ≡ true → stay e ≡ true) es
  pub awaited : AllByRecursion (λ (d : Named). stay d ≡ true → AllByRecursion (λ (e : Named). has lower (out e) ≡ false → has (leaves d.expr) (out e) ≡ true → stay e ≡ true) es) es

-- whether an expression stays, where those of these names do
abbrev pub stays_beside : List Named → List Name → List Name → Named → Bool
stays_beside es lower names e =
    (reads_one lower e || (has lower (out e) && has (all_leaves es) (out e)))
    || (not (has lower (out e)) && has (all_leaves (only_where (λ (d : Named). has names (out d)) es)) (out e))

-- the names of those that stay, after so many rounds
abbrev pub staying : List Named → List Name → ℕ → List Name
staying es lower zero = []
staying es lower (suc n) = out_names (only_where (stays_beside es lower (staying es lower n)) es)

-- whether an expression stays: as many rounds as there are expressions find each that does
abbrev pub stays : List Named → List Name → Named → Bool
stays es lower e = has (staying es lower (length es)) (out e)
