-- The caches of a number, handled: the plan has its joins and unions, one for one, with their marks.
use Rattle.std.proofs.Common.{◌≡◌, ℕ, ◌&&◌, Bool, true, false, not, List, [], ◌∷◌, ◌++◌, Option, refl, sym, ap, ap₂, ◌∙◌}
use Rattle.std.proofs.lemmas.Bool.{and_parts}
use Rattle.plan_tree.specs.Rose.{Roses, rose, no_roses, more}
use Rattle.plan_expr.specs.Leaves.{Name}
use Rattle.plan_ir.specs.Plans.{Op, simple_projection, cache, Plan}
use Rattle.plan_meaning.specs.Checks.{is_empty}
use Rattle.plan_meaning.specs.Steps.{IsValid}
use Rattle.plan_meaning.specs.Typing.{AllValid}
use Rattle.plan_order_laws.specs.CacheSites.{cache_sites, cut_to, names_left, names_read, own_site, renewed, under_projection, AllRead}
use Rattle.plan_order_laws.specs.Handled.{dropped_if, handled, is_cache, narrowed, narrowed_in, pruned_if, removed, removed_in, renewed_if, starts}
use Rattle.plan_order_laws.specs.SideBySide.{marks, marks_in, own_mark}
use Rattle.plan_order_laws.proofs.KeptScans.{valid_in}
use Rattle.plan_order_laws.proofs.MarksPruned.{covered_marks, marks_more, marks_one, pruned_marks}
use Rattle.plan_order_laws.proofs.RemovedRefines.{dropped_same, removed_all}
use Rattle.plan_order_laws.proofs.SiteCuts.{site_valid}
use Rattle.plan_order_laws.proofs.SiteViews.{back_of, both_of, front_of, together}

abbrev Plans : Type 0
Plans = Roses (Unit {0}) Op

-- Caches that are taken away

pruned_if_marks : (b : Bool) (q : Plan) → IsValid q → marks (pruned_if b q) ≡ marks q
pruned_if_marks false q v = refl
pruned_if_marks true q v = pruned_marks true [] q v

dropped_marks : (id : ℕ) (op : Op) (rs : Plans) (b : Bool) → is_cache id op ≡ b → marks (dropped_if b op rs) ≡ own_mark op ++ marks_in rs
dropped_marks id op rs false e = refl
dropped_marks id op no_roses true e = refl
dropped_marks id op (more r (more q rs)) true e = refl
dropped_marks id (cache k hits) (more r no_roses) true e = sym (marks_one r)
dropped_marks id op (more r no_roses) true e = cc

mutual
  removed_marks : (id : ℕ) (within : Bool) (p : Plan) → IsValid p → marks (removed id within p) ≡ marks p
  removed_marks id within (rose n op ts) v =
      let inner = starts id within op ts in
      let rs = removed_in id inner ts in
      pruned_if_marks inner (dropped_if (is_cache id op) op rs) (dropped_same id op rs ts v (removed_all id inner ts v.1) (is_cache id op) refl).valid
      ∙ dropped_marks id op rs (is_cache id op) refl
      ∙ ap (λ (ms : List Bool). own_mark op ++ ms) (removed_marks_in id inner ts v.1)

  removed_marks_in : (id : ℕ) (within : Bool) (ts : Plans) → AllValid ts → marks_in (removed_in id within ts) ≡ marks_in ts
  removed_marks_in id within no_roses v = refl
  removed_marks_in id within (more (rose n op us) rest) v =
      marks_more (removed id within (rose n op us)) (removed_in id within rest)
      ∙ ap₂ (λ (x y : List Bool). x ++ y) (removed_marks id within (rose n op us) (v.0, v.1)) (removed_marks_in id within rest v.2)
      ∙ sym (marks_more (rose n op us) rest)

-- Sites that are narrowed

under_marks : (p : Plan) → marks (under_projection p) ≡ marks p
under_marks (rose n (simple_projection cs) (more p no_roses)) = sym (marks_one p)
under_marks (rose n op ts) = refl

cut_marks : (l : List Name) (p : Plan) → marks (cut_to l p) ≡ marks p
cut_marks [] p = refl
cut_marks (a ∷ l) p = covered_marks (a ∷ l) (under_projection p) ∙ under_marks p

module _ (id : ℕ) (read : Option (List Name)) where
  renewed_marks : (p : Plan) → IsValid p → marks (renewed read p) ≡ marks p
  renewed_marks p v = pruned_marks true [] (cut_to (names_left read p) p) (site_valid read p v) ∙ cut_marks (names_left read p) p

  if_marks : (b : Bool) (rs : Plans) → (b ≡ true → AllValid rs) → marks_in (renewed_if b read rs) ≡ marks_in rs
  if_marks false rs v = refl
  if_marks true no_roses v = refl
  if_marks true (more (rose n op ts) rest) v =
      let w = v refl in
      marks_more (renewed read (rose n op ts)) rest
      ∙ ap (λ (ms : List Bool). ms ++ marks_in rest) (renewed_marks (rose n op ts) (w.0, w.1))
      ∙ sym (marks_more (rose n op ts) rest)

  mutual
    narrowed_marks : (above : List Op) (p : Plan) → IsValid p → AllRead read (cache_sites id above (more p no_roses)) → marks (narrowed id read (not (is_empty above)) p) ≡ marks p
    narrowed_marks above (rose n op ts) v h =
        let below = front_of read (cache_sites id (op ∷ above) ts) [] (back_of read (own_site id above op ts) _ h) in
        ap (λ (ms : List Bool). own_mark op ++ ms)
        (if_marks (not (is_empty above) && is_cache id op) (narrowed_in id read ts) (λ e. valid_in id read above op ts v below (and_parts (not (is_empty above)) (is_cache id op) e).1)
        ∙ narrowed_marks_in op above ts v.1 below)

    narrowed_marks_in : (op : Op) (above : List Op) (ts : Plans) → AllValid ts → AllRead read (cache_sites id (op ∷ above) ts) → marks_in (narrowed_in id read ts) ≡ marks_in ts
    narrowed_marks_in op above no_roses v h = refl
    narrowed_marks_in op above (more (rose n o us) rest) v h =
        let own = own_site id (op ∷ above) o us in
        let below = cache_sites id (o ∷ op ∷ above) us in
        let here : AllRead read (cache_sites id (op ∷ above) (more (rose n o us) no_roses)) = both_of read own (below ++ []) (front_of read own _ h) (both_of read below [] (front_of read below _ (back_of read own _ h)) tt) in
        marks_more (narrowed id read true (rose n o us)) (narrowed_in id read rest)
        ∙ ap₂ (λ (x y : List Bool). x ++ y) (narrowed_marks (op ∷ above) (rose n o us) (v.0, v.1) here) (narrowed_marks_in op above rest v.2 (back_of read below _ (back_of read own _ h)))
        ∙ sym (marks_more (rose n o us) rest)

-- A number

pub handled_marks : (differ : Bool) (id : ℕ) (p : Plan) → IsValid p → marks (handled differ id p) ≡ marks p
handled_marks true id p v = removed_marks id false p v
handled_marks false id p v =
    let sites = cache_sites id [] (more p no_roses) in
    narrowed_marks id (names_read sites) [] p v (together sites)
