-- What is left of a plan whose caches of a number are handled keeps the scans of the plan.
use Rattle.std.proofs.Common.{◌≡◌, ℕ, ◌&&◌, Bool, true, false, not, List, [], ◌∷◌, ◌++◌, Option, refl, subst, append-nil}
use Rattle.std.proofs.lemmas.Bool.{and_parts}
use Rattle.plan_tree.specs.Rose.{Roses, rose, no_roses, more}
use Rattle.plan_expr.specs.Leaves.{Name}
use Rattle.plan_ir.specs.Plans.{Op, cache, invalid, Plan}
use Rattle.plan_meaning.specs.Checks.{is_empty}
use Rattle.plan_meaning.specs.Scans.{KeepScans, Keeps, own_scan, scans, scans_in}
use Rattle.plan_meaning.specs.Steps.{IsValid}
use Rattle.plan_meaning.specs.Typing.{AllValid}
use Rattle.plan_meaning.proofs.Keeping.{keeps_refl, keeps_trans}
use Rattle.plan_meaning.proofs.Refining.{refines_node}
use Rattle.plan_pass_laws.proofs.ScanLists.{keep_join, own_keeps}
use Rattle.plan_pruned.specs.Pruned.{pruned}
use Rattle.plan_pruned.proofs.PrunedReads.{pruned_keeps}
use Rattle.plan_order_laws.specs.CacheSites.{cache_sites, names_read, own_site, AllRead}
use Rattle.plan_order_laws.specs.Handled.{dropped_if, handled, is_cache, narrowed, narrowed_in, pruned_if, removed, removed_in, renewed_if, starts}
use Rattle.plan_order_laws.proofs.NarrowedRefines.{left_in}
use Rattle.plan_order_laws.proofs.RemovedRefines.{dropped_same, removed_all}
use Rattle.plan_order_laws.proofs.RenewedNarrows.{renews}
use Rattle.plan_order_laws.proofs.SiteCuts.{renewed_keeps}
use Rattle.plan_order_laws.proofs.SiteViews.{back_of, both_of, front_of, together}

abbrev Plans : Type 0
Plans = Roses (Unit {0}) Op

-- Scans in turn

node_keeps : (m n : Unit {0}) (op : Op) (rs ts : Plans) → KeepScans (scans_in rs) (scans_in ts) → Keeps (rose m op rs) (rose n op ts)
node_keeps m n op rs ts h = keep_join (own_scan op) (scans_in rs) (own_scan op) (scans_in ts) (own_keeps op) h

-- plans one after another, as the inputs of a node without scans of its own
in_trans : (qs rs ts : Plans) → KeepScans (scans_in qs) (scans_in rs) → KeepScans (scans_in rs) (scans_in ts) → KeepScans (scans_in qs) (scans_in ts)
in_trans qs rs ts h k = keeps_trans (rose tt invalid qs) (rose tt invalid rs) (rose tt invalid ts) h k

-- Caches that are taken away

pruned_kept : (b : Bool) (q p : Plan) → IsValid q → Keeps q p → Keeps (pruned_if b q) p
pruned_kept false q p v h = h
pruned_kept true q p v h = keeps_trans (pruned true [] q) q p (pruned_keeps true q v) h

dropped_kept : (id : ℕ) (n : Unit {0}) (op : Op) (rs ts : Plans) (b : Bool) → is_cache id op ≡ b → KeepScans (scans_in rs) (scans_in ts) → Keeps (dropped_if b op rs) (rose n op ts)
dropped_kept id n op rs ts false e h = node_keeps tt n op rs ts h
dropped_kept id n op no_roses ts true e h = node_keeps tt n op no_roses ts h
dropped_kept id n op (more r (more r' rs)) ts true e h = node_keeps tt n op (more r (more r' rs)) ts h
dropped_kept id n (cache k hits) (more r no_roses) ts true e h = subst (λ (l : List Op). KeepScans l (scans_in ts)) (append-nil (scans r)) h
dropped_kept id n op (more r no_roses) ts true e h = cc

mutual
  pub removed_keeps : (id : ℕ) (within : Bool) (p : Plan) → IsValid p → Keeps (removed id within p) p
  removed_keeps id within (rose n op ts) v =
      let inner = starts id within op ts in
      pruned_kept inner (dropped_if (is_cache id op) op (removed_in id inner ts)) (rose n op ts)
      (dropped_same id op (removed_in id inner ts) ts v (removed_all id inner ts v.1) (is_cache id op) refl).valid
      (dropped_kept id n op (removed_in id inner ts) ts (is_cache id op) refl (removed_keeps_in id inner ts v.1))

  removed_keeps_in : (id : ℕ) (within : Bool) (ts : Plans) → AllValid ts → KeepScans (scans_in (removed_in id within ts)) (scans_in ts)
  removed_keeps_in id within no_roses v = tt
  removed_keeps_in id within (more (rose n op us) rest) v =
      keep_join (scans (removed id within (rose n op us))) (scans_in (removed_in id within rest)) (scans (rose n op us)) (scans_in rest)
      (removed_keeps id within (rose n op us) (v.0, v.1)) (removed_keeps_in id within rest v.2)

-- Sites that are narrowed

module _ (id : ℕ) (read : Option (List Name)) where
  renewed_kept : (b : Bool) (rs : Plans) → (b ≡ true → AllValid rs) → KeepScans (scans_in (renewed_if b read rs)) (scans_in rs)
  renewed_kept false rs v = keeps_refl (rose tt invalid rs)
  renewed_kept true no_roses v = tt
  renewed_kept true (more (rose n op ts) rs) v = let w = v refl in keep_join _ (scans_in rs) (scans (rose n op ts)) (scans_in rs) (renewed_keeps read (rose n op ts) (w.0, w.1)) (keeps_refl (rose tt invalid rs))

  -- the inputs of a cache are valid once they are narrowed
  pub valid_in : (above : List Op) (op : Op) (ts : Plans) → IsValid (rose tt op ts) → AllRead read (cache_sites id (op ∷ above) ts) → is_cache id op ≡ true → AllValid (narrowed_in id read ts)
  valid_in above (cache k hits) ts v h e = (refines_node (cache k hits) (narrowed_in id read ts) ts v (left_in renews id read (cache k hits) above refl (λ x. refl) ts v.1 h)).valid.1
  valid_in above op ts v h e = cc

  mutual
    narrowed_kept : (above : List Op) (p : Plan) → IsValid p → AllRead read (cache_sites id above (more p no_roses)) → Keeps (narrowed id read (not (is_empty above)) p) p
    narrowed_kept above (rose n op ts) v h =
        let below = front_of read (cache_sites id (op ∷ above) ts) [] (back_of read (own_site id above op ts) _ h) in
        let site = not (is_empty above) && is_cache id op in
        node_keeps tt n op (renewed_if site read (narrowed_in id read ts)) ts
        (in_trans (renewed_if site read (narrowed_in id read ts)) (narrowed_in id read ts) ts
        (renewed_kept site (narrowed_in id read ts) (λ e. valid_in above op ts v below (and_parts (not (is_empty above)) (is_cache id op) e).1))
        (narrowed_kept_in op above ts v.1 below))

    narrowed_kept_in : (op : Op) (above : List Op) (ts : Plans) → AllValid ts → AllRead read (cache_sites id (op ∷ above) ts) → KeepScans (scans_in (narrowed_in id read ts)) (scans_in ts)
    narrowed_kept_in op above no_roses v h = tt
    narrowed_kept_in op above (more (rose n o us) rest) v h =
        let own = own_site id (op ∷ above) o us in
        let below = cache_sites id (o ∷ op ∷ above) us in
        let here : AllRead read (cache_sites id (op ∷ above) (more (rose n o us) no_roses)) = both_of read own (below ++ []) (front_of read own _ h) (both_of read below [] (front_of read below _ (back_of read own _ h)) tt) in
        keep_join (scans (narrowed id read true (rose n o us))) (scans_in (narrowed_in id read rest)) (scans (rose n o us)) (scans_in rest)
        (narrowed_kept (op ∷ above) (rose n o us) (v.0, v.1) here)
        (narrowed_kept_in op above rest v.2 (back_of read below _ (back_of read own _ h)))

  pub narrowed_keeps : (p : Plan) → IsValid p → AllRead read (cache_sites id [] (more p no_roses)) → Keeps (narrowed id read false p) p
  narrowed_keeps p v h = narrowed_kept [] p v h

-- the caches of a number, handled, keep the scans of the plan
pub handled_keeps : (differ : Bool) (id : ℕ) (p : Plan) → IsValid p → Keeps (handled differ id p) p
handled_keeps true id p v = removed_keeps id false p v
handled_keeps false id p v =
    let sites = cache_sites id [] (more p no_roses) in
    narrowed_keeps id (names_read sites) p v (together sites)
