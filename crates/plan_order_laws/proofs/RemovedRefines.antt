-- A plan without its caches of a number, each place pruned anew, refines the plan.
use Rattle.std.proofs.Common.{◌≡◌, ℕ, Bool, true, false, [], ◌∷◌, refl}
use Rattle.plan_tree.specs.Rose.{Roses, rose, no_roses, more}
use Rattle.plan_ir.specs.Plans.{Op, cache, Plan}
use Rattle.plan_meaning.specs.Relating.{Refines, EachRefines}
use Rattle.plan_meaning.specs.Steps.{IsValid}
use Rattle.plan_meaning.specs.Typing.{AllValid}
use Rattle.plan_meaning.proofs.Refining.{refines_node, refines_trans}
use Rattle.plan_pruned.specs.Pruned.{pruned}
use Rattle.plan_pruned.proofs.PrunedNarrows.{pruned_refines}
use Rattle.plan_order_laws.specs.Handled.{dropped_if, is_cache, pruned_if, removed, removed_in, starts}

abbrev Plans : Type 0
Plans = Roses (Unit {0}) Op

pruned_same : (b : Bool) (q p : Plan) → Refines q p → Refines (pruned_if b q) p
pruned_same false q p h = h
pruned_same true q p h = refines_trans (pruned true [] q) q p (pruned_refines true q h.valid) h

-- a cache gives what its input gives
no_cache : (k hits : ℕ) (r t : Plan) → Refines r t → Refines r (rose tt (cache k hits) (more t no_roses))
no_cache k hits r (rose n op ts) h = record {
  valid = h.valid;
  schema = h.schema;
  fits = λ c f. h.fits c (f.1.0, f.1.1);
  run = λ c f. h.run c (f.1.0, f.1.1);
  may = λ c x f m. (x ∷ [], (h.may c x (f.1.0, f.1.1) m, tt), refl);
}

pub dropped_same : (id : ℕ) (op : Op) (rs ts : Plans) → IsValid (rose tt op ts) → EachRefines rs ts → (b : Bool) → is_cache id op ≡ b → Refines (dropped_if b op rs) (rose tt op ts)
dropped_same id op rs ts v h false e = refines_node op rs ts v h
dropped_same id op (more r (more r' rs)) ts v h true e = refines_node op (more r (more r' rs)) ts v h
dropped_same id op no_roses ts v h true e = refines_node op no_roses ts v h
dropped_same id (cache k hits) (more r no_roses) (more t no_roses) v h true e = no_cache k hits r t h.0
dropped_same id (cache k hits) (more r no_roses) no_roses v h true e = absurd h
dropped_same id (cache k hits) (more r no_roses) (more t (more t' ts)) v h true e = absurd h.1
dropped_same id op (more r no_roses) ts v h true e = cc

mutual
  pub removed_refines : (id : ℕ) (within : Bool) (p : Plan) → IsValid p → Refines (removed id within p) p
  removed_refines id within (rose n op ts) v =
      pruned_same (starts id within op ts) _ (rose n op ts)
      (dropped_same id op (removed_in id (starts id within op ts) ts) ts v (removed_all id (starts id within op ts) ts v.1) (is_cache id op) refl)

  pub removed_all : (id : ℕ) (within : Bool) (ts : Plans) → AllValid ts → EachRefines (removed_in id within ts) ts
  removed_all id within no_roses v = tt
  removed_all id within (more (rose n op us) rest) v = (removed_refines id within (rose n op us) (v.0, v.1), removed_all id within rest v.2)
