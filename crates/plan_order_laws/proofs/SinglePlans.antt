-- Joins and unions over caches without their marks: caches stand over alike plans where they did, and a plan without caches stays.
use Rattle.std.proofs.Common.{◌≡◌, inl, inr, ◌&&◌, ◌||◌, Bool, true, false, not, List, [], ◌∷◌, ◌++◌, map, refl, sym, ap, ap₂, ◌∙◌}
use Rattle.std.proofs.lemmas.Bool.{or_parts}
use Rattle.plan_tree.specs.Rose.{Roses, rose, no_roses, more}
use Rattle.plan_ir.specs.Plans.{Op, scan, union, join, cache, Plan}
use Rattle.plan_meaning.specs.Caches.{AreShared, CacheOf, IsCacheOf, caches, caches_in, own_cache}
use Rattle.plan_meaning.specs.Counting.{is_closed}
use Rattle.plan_meaning.specs.Marks.{unmarked, unmarked_all, unmarked_op}
use Rattle.plan_meaning.specs.PlanAt.{one_plan}
use Rattle.plan_pruned.proofs.AlikePruned.{one_before}
use Rattle.plan_order_laws.specs.SideBySide.{hold_cache, marks_due, marks_in, own_mark, single, single_in, single_op}
use Rattle.plan_order_laws.specs.CacheStates.{below_single}
use Rattle.plan_pass_laws.specs.CachesLeft.{CacheMade}
use Rattle.plan_pass_laws.proofs.CachesLeft.{back_made, either_made, stay_shared}

abbrev Plans : Type 0
Plans = Roses (Unit {0}) Op

-- Caches

closed_same : (op : Op) → is_closed (unmarked_op op) ≡ is_closed op
closed_same (scan sources info hive predicate output kind options) = refl
closed_same (union options) = refl
closed_same op = refl

hold_same : (ts : Plans) → hold_cache (unmarked_all ts) ≡ hold_cache ts
hold_same no_roses = refl
hold_same (more (rose n op us) rest) = ap₂ (λ (a b : Bool). a || b) (closed_same op) (ap₂ (λ (a b : Bool). a || b) (hold_same us) (hold_same rest))

op_same : (op : Op) (b : Bool) → single_op (unmarked_op op) b ≡ unmarked_op (single_op op b)
op_same (scan sources info hive predicate output kind options) b = refl
op_same (join left_on right_on schema told) b = refl
op_same (union options) b = refl
op_same op b = refl

mutual
  pub single_same : (p : Plan) → single (unmarked p) ≡ unmarked (single p)
  single_same (rose n op ts) = ap₂ (λ (o : Op) (us : Plans). rose tt o us) (ap (single_op (unmarked_op op)) (hold_same ts) ∙ op_same op (hold_cache ts)) (single_same_in ts)

  single_same_in : (ts : Plans) → single_in (unmarked_all ts) ≡ unmarked_all (single_in ts)
  single_same_in no_roses = refl
  single_same_in (more (rose n op us) rest) = ap₂ (λ (p : Plan) (ps : Plans). more p ps) (single_same (rose n op us)) (single_same_in rest) ∙ sym (one_before (single (rose n op us)) (single_in rest))

one_single : (ts : Plans) → one_plan (single_in ts) ≡ single (one_plan ts)
one_single no_roses = refl
one_single (more p rest) = refl

node_from : (op : Op) (b : Bool) (ts : Plans) (c : CacheOf) → ((e : CacheOf) → IsCacheOf e (caches_in (single_in ts)) → CacheMade below_single e (caches_in ts)) → IsCacheOf c (own_cache (single_op op b) (single_in ts) ++ caches_in (single_in ts)) → CacheMade below_single c (own_cache op ts ++ caches_in ts)
node_from (cache k hits) b ts c by (inl e) = record { given = record { id = k; below = one_plan ts }; there = inl refl; id = ap (λ (x : CacheOf). x.id) e; below = ap (λ (x : CacheOf). x.below) e ∙ one_single ts }
node_from (cache k hits) b ts c by (inr h) = back_made below_single c (record { id = k; below = one_plan ts } ∷ []) (caches_in ts) (by c h)
node_from (join left_on right_on schema told) b ts c by h = by c h
node_from (union options) b ts c by h = by c h
node_from op b ts c by h = by c h

mutual
  pub single_from : (p : Plan) (c : CacheOf) → IsCacheOf c (caches (single p)) → CacheMade below_single c (caches p)
  single_from (rose n op ts) c h = node_from op (hold_cache ts) ts c (λ e k. single_from_in ts e k) h

  single_from_in : (ts : Plans) (c : CacheOf) → IsCacheOf c (caches_in (single_in ts)) → CacheMade below_single c (caches_in ts)
  single_from_in no_roses c h = absurd h
  single_from_in (more p rest) c h = either_made below_single c (caches (single p)) (caches_in (single_in rest)) (caches p) (caches_in rest) (λ k. single_from p c k) (λ k. single_from_in rest c k) h

pub single_shared : (p : Plan) → AreShared p → AreShared (single p)
single_shared p h = stay_shared below_single (single p) p (λ c i. single_from p c i) (λ k x y e. sym (single_same x) ∙ ap single e ∙ single_same y) h

-- Marks, and plans without a cache

own_due : (op : Op) (b : Bool) → own_mark (single_op op b) ≡ map (λ (mark : Bool). mark && not b) (own_mark op)
own_due (join left_on right_on schema told) b = refl
own_due (union options) b = refl
own_due op b = refl

pub single_marks : (ts : Plans) → marks_in (single_in ts) ≡ marks_due ts
single_marks no_roses = refl
single_marks (more (rose n op us) rest) = ap₂ (λ (x y : List Bool). x ++ y) (own_due op (hold_cache us)) (ap₂ (λ (x y : List Bool). x ++ y) (single_marks us) (single_marks rest))

and_yes : (b : Bool) → (b && true) ≡ b
and_yes true = refl
and_yes false = refl

idle_op : (op : Op) → single_op op false ≡ op
idle_op (join left_on right_on schema told) = ap (λ (b : Bool). join left_on right_on schema (record told { allow_parallel = b })) (and_yes told.allow_parallel)
idle_op (union options) = ap (λ (b : Bool). union (record options { parallel = b })) (and_yes options.parallel)
idle_op op = refl

-- plans without a cache stay as they are
pub single_idle : (ts : Plans) → hold_cache ts ≡ false → single_in ts ≡ ts
single_idle no_roses e = refl
single_idle (more (rose n op us) rest) e =
    let q = or_parts (is_closed op) (hold_cache us || hold_cache rest) e in
    let r = or_parts (hold_cache us) (hold_cache rest) q.1 in
    ap₂ (λ (p : Plan) (ps : Plans). more p ps)
    (ap₂ (λ (o : Op) (vs : Plans). rose tt o vs) (ap (single_op op) r.0 ∙ idle_op op) (single_idle us r.0)) (single_idle rest r.1)
