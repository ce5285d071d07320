-- A plan without sorts is itself without the sorts that nothing observes.
use Rattle.std.proofs.Common.{◌≡◌, ◌||◌, cond, Bool, true, false, refl, ap, ap₂}
use Rattle.std.proofs.lemmas.Bool.{or_from, or_parts}
use Rattle.plan_tree.specs.Rose.{Roses, rose, no_roses, more}
use Rattle.plan_ir.specs.Plans.{Op, sort, Plan}
use Rattle.plan_meaning.specs.PlanAt.{one_plan}
use Rattle.plan_order_laws.specs.Demands.{demands, is_idle, unsorted, unsorted_in}
use Rattle.plan_order.specs.Members.{has_op, is_sort}

abbrev Plans : Type 0
Plans = Roses (Unit {0}) Op

-- a node that is no sort has an effect
never_idle : (d : Bool) (op : Op) → is_sort op ≡ false → is_idle d op ≡ false
never_idle d (sort keys part options) e = cc
never_idle d op e = refl

-- where no node of some plans is a sort, none is of the first or of the rest
apart : (p : Plan) (rest : Plans) → has_op is_sort (more p rest) ≡ false → (has_op is_sort (more p no_roses) ≡ false) × (has_op is_sort rest ≡ false)
apart (rose n op ts) rest e =
    let own = or_parts (is_sort op) (has_op is_sort ts || has_op is_sort rest) e in
    let below = or_parts (has_op is_sort ts) (has_op is_sort rest) own.1 in
    (or_from (is_sort op) (has_op is_sort ts || false) own.0 (or_from (has_op is_sort ts) false below.0 refl), below.1)

mutual
  -- a plan without sorts stays as it is, whether its order is demanded or not
  pub no_sort_stays : (d : Bool) (p : Plan) → has_op is_sort (more p no_roses) ≡ false → unsorted d p ≡ p
  no_sort_stays d (rose n op ts) e =
      let own = or_parts (is_sort op) (has_op is_sort ts || false) e in
      let below = or_parts (has_op is_sort ts) false own.1 in
      ap₂ (λ (b : Bool) (us : Plans). cond {A = Plan} b (one_plan us) (rose tt op us)) (never_idle d op own.0) (no_sorts_stay (demands d op) ts below.0)

  -- so do several
  pub no_sorts_stay : (d : Bool) (ts : Plans) → has_op is_sort ts ≡ false → unsorted_in d ts ≡ ts
  no_sorts_stay d no_roses e = refl
  no_sorts_stay d (more p no_roses) e = ap (λ (q : Plan). more q no_roses) (no_sort_stays d p e)
  no_sorts_stay d (more p (more q rest)) e =
      let two = apart p (more q rest) e in
      ap₂ (λ (r : Plan) (us : Plans). more r us) (no_sort_stays true p two.0) (no_sorts_stay d (more q rest) two.1)
