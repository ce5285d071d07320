-- The plan that the input of a site is pruned from: it is valid, scans what the input scans, and is asked what a projection on the input is.
use Rattle.std.proofs.Common.{◌≡◌, true, List, [], ◌∷◌, Option, None, Some, refl, sym, ◌∙◌, subst, append-nil}
use Rattle.plan_core.specs.Columns.{Columns, names_of}
use Rattle.plan_core.specs.Names.{AreDistinct, has}
use Rattle.plan_tree.specs.Rose.{rose, no_roses, more}
use Rattle.plan_expr.specs.Leaves.{Name}
use Rattle.plan_ir.specs.Plans.{simple_projection, Plan}
use Rattle.plan_meaning.specs.Scans.{Keeps, KeepScans, scans}
use Rattle.plan_meaning.specs.Steps.{IsValid}
use Rattle.plan_meaning.specs.Typing.{schema}
use Rattle.plan_meaning.proofs.DistinctColumns.{valid_once}
use Rattle.plan_meaning.proofs.KeptExprs.{distinct_where, where_has}
use Rattle.plan_pruned.specs.Pruned.{pruned}
use Rattle.plan_pruned.proofs.PrunedReads.{covered_scans, pruned_keeps}
use Rattle.plan_order_laws.specs.CacheSites.{cut_to, names_left, read_of, renewed, under_projection}
use Rattle.plan_order_laws.proofs.RenewedNarrows.{stored_is, to_names}

-- The names that are read

pub read_known : (read : Option (List Name)) (l : List Name) (b : Name) → has (read_of read l) b ≡ true → has l b ≡ true
read_known None l b i = i
read_known (Some r) l b i = (where_has (has r) l b i).0

read_distinct : (read : Option (List Name)) (l : List Name) → AreDistinct l → AreDistinct (read_of read l)
read_distinct None l d = d
read_distinct (Some r) l d = distinct_where (has r) l d

pub left_distinct : (read : Option (List Name)) (p : Plan) → IsValid p → AreDistinct (names_left read p)
left_distinct read p v = subst (λ (s : Columns). AreDistinct (read_of read (names_of s))) (sym (stored_is p v)) (read_distinct read (names_of (schema p)) (valid_once p v))

pub left_known : (read : Option (List Name)) (p : Plan) → IsValid p → (b : Name) → has (names_left read p) b ≡ true → has (names_of (schema p)) b ≡ true
left_known read p v b i = read_known read (names_of (schema p)) b (subst (λ (s : Columns). has (read_of read (names_of s)) b ≡ true) (stored_is p v) i)

-- The plan that is pruned

cut_valid : (l : List Name) (p : Plan) → IsValid p → AreDistinct l → ((b : Name) → has l b ≡ true → has (names_of (schema p)) b ≡ true) → IsValid (cut_to l p)
cut_valid [] p v d known = v
cut_valid (a ∷ l) p v d known = (to_names a l p v d known).valid

pub site_valid : (read : Option (List Name)) (p : Plan) → IsValid p → IsValid (cut_to (names_left read p) p)
site_valid read p v = cut_valid (names_left read p) p v (left_distinct read p v) (left_known read p v)

under_scans : (p : Plan) → scans (under_projection p) ≡ scans p
under_scans (rose n (simple_projection cs) (more p no_roses)) = sym (append-nil (scans p))
under_scans (rose n op ts) = refl

pub cut_scans : (l : List Name) (p : Plan) → scans (cut_to l p) ≡ scans p
cut_scans [] p = refl
cut_scans (a ∷ l) p = covered_scans (a ∷ l) (under_projection p) ∙ under_scans p

-- the input of a site, narrowed, keeps its scans
pub renewed_keeps : (read : Option (List Name)) (p : Plan) → IsValid p → Keeps (renewed read p) p
renewed_keeps read p v =
    let cut = cut_to (names_left read p) p in
    subst (KeepScans (scans (pruned true [] cut))) (cut_scans (names_left read p) p) (pruned_keeps true cut (site_valid read p v))
