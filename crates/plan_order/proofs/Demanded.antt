-- Where a plan's order isn't demanded, setting its order demands reorders it, down to each part.
use Rattle.std.proofs.Common.{◌≡◌, Bool, true, false, refl, sym, subst}
use Rattle.plan_tree.specs.Rose.{Roses, rose, no_roses, more}
use Rattle.plan_ir.specs.Plans.{Op, slice, filter, scan, frame_scan, simple_projection, select, hstack, sort, group_by, join, distinct, map_function, sink, union, hconcat, cache, invalid, Plan}
use Rattle.plan_meaning.specs.PlanAt.{one_plan}
use Rattle.plan_meaning.specs.Typing.{AllValid}
use Rattle.plan_meaning.specs.Steps.{IsValid}
use Rattle.plan_order_laws.specs.Demands.{demands, is_idle, ordered, ordered_in, with_order}
use Rattle.plan_order_laws.specs.Reorders.{Reorders}
use Rattle.plan_order_laws.proofs.OrderedRefines.{ordered_reorders}
use Rattle.plan_order.specs.Undemanded.{stand_in, AllReordered, Reordered}

undemanded : (d : Bool) (p : Plan) → IsValid p → d ≡ false → Reorders (ordered d p) p
undemanded true p v e = cc
undemanded false p v e = ordered_reorders p v

-- a node that is left out stands over one input
one_idle : (d : Bool) (op : Op) (ts : Roses (Unit {0}) Op) → IsValid (rose tt op ts) → is_idle d op ≡ true → (p : Plan) × (ts ≡ more p no_roses)
one_idle d (sort keys part options) (more p no_roses) v e = (p, refl)
one_idle d (sort keys part options) no_roses v e = cc
one_idle d (sort keys part options) (more (rose n o us) (more (rose m o' us') rest)) v e = cc
one_idle d (slice offset len) ts v e = cc
one_idle d (filter predicate) ts v e = cc
one_idle d (scan sources info hive predicate output kind options) ts v e = cc
one_idle d (frame_scan df schema output) ts v e = cc
one_idle d (simple_projection columns) ts v e = cc
one_idle d (select es schema options) ts v e = cc
one_idle d (hstack es schema options) ts v e = cc
one_idle d (group_by keys aggs schema ordered options) ts v e = cc
one_idle d (join left_on right_on schema told) ts v e = cc
one_idle d (distinct options) ts v e = cc
one_idle d (map_function function) ts v e = cc
one_idle d (sink payload) ts v e = cc
one_idle d (union options) ts v e = cc
one_idle d (hconcat schema options) ts v e = cc
one_idle d (cache id hits) ts v e = cc
one_idle d invalid ts v e = cc

lone : (d : Bool) (p : Plan) → more (one_plan (ordered_in d (more p no_roses))) no_roses ≡ ordered_in d (more p no_roses)
lone d p = refl

-- what stands for the inputs of a node with its demand are these with theirs
standing : (d : Bool) (op : Op) (ts : Roses (Unit {0}) Op) → IsValid (rose tt op ts) → (b : Bool) → is_idle d op ≡ b → stand_in (is_idle d op) (with_order d op (ordered_in (demands d op) ts)) ≡ ordered_in (demands d op) ts
standing d op ts v false e = rw e refl
standing d op ts v true e =
    let one = one_idle d op ts v e in
    rw e (subst (λ (us : Roses (Unit {0}) Op). more (one_plan (ordered_in (demands d op) us)) no_roses ≡ ordered_in (demands d op) us) (sym one.1) (lone (demands d op) one.0))

mutual
  pub ordered_reordered : (d : Bool) (p : Plan) → IsValid p → Reordered d (ordered d p) p
  ordered_reordered d (rose n op ts) v =
      (undemanded d (rose n op ts) v, subst (λ (us : Roses (Unit {0}) Op). AllReordered (demands d op) us ts) (sym (standing d op ts v (is_idle d op) refl)) (all_reordered (demands d op) ts v.1))

  pub all_reordered : (d : Bool) (ts : Roses (Unit {0}) Op) → AllValid ts → AllReordered d (ordered_in d ts) ts
  all_reordered d no_roses v = refl
  all_reordered d (more (rose n op us) no_roses) v = (ordered_reordered d (rose n op us) (v.0, v.1), refl)
  all_reordered d (more (rose n op us) (more q rest)) v = (ordered_reordered true (rose n op us) (v.0, v.1), all_reordered d (more q rest) v.2)
