-- When orders are looked at: by what was found of the plan that stands at a number.
use Rattle.std.proofs.Common.{◌≡◌, ◌&&◌, ◌||◌, Bool, true, false, List, [], ◌∷◌, refl, sym, ap, ◌∙◌, subst}
use Rattle.plan_core.specs.declared.arena.Node.{Node}
use Rattle.plan_core.specs.declared.flags.OptFlags.{OptFlags}
use Rattle.plan_core.specs.Flags.{bits_of, has_bits}
use Rattle.plan_tree.specs.Rose.{Roses, more, no_roses}
use Rattle.plan_expr.specs.declared.aexpr.AExpr.{AExpr}
use Rattle.plan_ir.specs.declared.ir.IR.{IR}
use Rattle.plan_ir.specs.Parts.{IsPlan}
use Rattle.plan_ir.specs.Plans.{Op, Plan, bare, plans_at}
use Rattle.plan_meaning.specs.PlanAt.{one_plan, plan_at}
use Rattle.plan_meaning.proofs.Validity.{one_stands}
use Rattle.plan_order.specs.Members.{has_op, is_distinct, is_group_by, is_sort}
use Rattle.plan_top.specs.Chains.{asks_members, has_order, is_ordering}

pub alone : (lp : List IR) (ex : List AExpr) (root : Node) → IsPlan lp ex root → bare (plans_at lp ex (root ∷ [])) ≡ more (plan_at lp ex root) no_roses
alone lp ex root plan = subst (λ (ps : Roses Node Op). bare ps ≡ more (one_plan (bare ps)) no_roses) (sym (one_stands lp ex root plan).3) refl

-- what was found of three kinds of nodes
pub order_found : (lp : List IR) (ex : List AExpr) (root : Node) → IsPlan lp ex root → (g s d : Bool) → g ≡ (false || has_op is_group_by (bare (plans_at lp ex (root ∷ [])))) → s ≡ (false || has_op is_sort (bare (plans_at lp ex (root ∷ [])))) → d ≡ (false || has_op is_distinct (bare (plans_at lp ex (root ∷ [])))) → (g || (s || d)) ≡ has_order (plan_at lp ex root)
order_found lp ex root plan g s d h k l = rw (h, k, l) (ap (λ (ps : Roses (Unit {0}) Op). has_op is_group_by ps || (has_op is_sort ps || has_op is_distinct ps)) (alone lp ex root plan))

third_of : (x y z : Bool) → x ≡ true → y ≡ true → x && (y && z) ≡ z
third_of true true z h k = refl
third_of true false z h k = cc
third_of false y z h k = cc

-- where flags ask for it, orders are looked at exactly if they count
pub ordering_is : (flags : OptFlags) (p : Plan) (b : Bool) → has_bits (bits_of flags) 65536 ≡ true → asks_members flags ≡ true → b ≡ has_order p → b ≡ is_ordering flags p
ordering_is flags p b h k e = e ∙ sym (third_of (has_bits (bits_of flags) 65536) (asks_members flags) (has_order p) h k)
