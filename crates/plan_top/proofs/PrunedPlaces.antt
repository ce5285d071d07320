-- A plan that was pruned in place became another over both arenas, and is what pruning makes of it.
use Rattle.std.proofs.Common.{◌≡◌, ◌+◌, Bool, true, List, [], ◌∷◌, ◌++◌, length, refl, sym, ap, ◌∙◌, subst, append-nil, length-append, arith}
use Rattle.std.specs.List.{slice_get}
use Rattle.plan_core.specs.declared.arena.Node.{Node}
use Rattle.plan_tree.proofs.Frames.{slice_get-append}
use Rattle.plan_tree.specs.Rose.{Roses}
use Rattle.plan_expr.specs.declared.aexpr.AExpr.{AExpr}
use Rattle.plan_expr.specs.Operands.{expr_shape}
use Rattle.plan_expr.specs.Leaves.{Name}
use Rattle.plan_ir.specs.declared.ir.IR.{IR}
use Rattle.plan_ir.specs.Parts.{IsPlan, roots_in}
use Rattle.plan_ir.specs.Plans.{Op, bare, plans_at}
use Rattle.plan_meaning.specs.PlanAt.{one_plan, plan_at}
use Rattle.plan_meaning.proofs.Validity.{one_stands}
use Rattle.plan_pruned.specs.Pruned.{pruned, pruned_all}
use Rattle.plan_pruned.specs.Renamed.{IsLonger}
use Rattle.plan_prune_parts.specs.Left.{StandFor}
use Rattle.plan_prune.specs.Prunes.{PrunesAt}
use Rattle.plan_top.specs.Trails.{InPlace}

pub pruned_in_place : (top : Bool) (asked : List Name) (lp new : List IR) (ex grown : List AExpr) (root : Node) → IsLonger ex grown → PrunesAt top asked lp new ex grown root → InPlace lp new ex grown root
pruned_in_place top asked lp new ex grown root longer prunes t e s =
    let p = prunes t s.nodes in
    let long : length grown ≡ length ex + length longer.0 = ap length longer.1 ∙ length-append ex longer.0 in
    let place : StandFor ex grown (roots_in p.trees) (roots_in t) =
    subst (λ (ns : List Node). StandFor ex grown ns (roots_in t)) (append-nil (roots_in p.trees))
    (subst (λ (ns : List Node). StandFor ex grown (roots_in p.trees ++ []) ns) (append-nil (roots_in t)) (p.exprs.stand [] [])) in
    let made = place e s.exprs in
    record {
      nodes = p.trees;
      exprs = made.0;
      places = p.rewrites;
      under = record {
        stands = made.1;
        keeps = record {
          grows = omega (arith, long);
          same = λ k lt no. ap (λ (xs : List AExpr). slice_get xs k) longer.1 ∙ slice_get-append expr_shape ex longer.0 k lt;
        };
        within = made.2;
      };
    }

pub pruned_is : (lp new : List IR) (ex grown : List AExpr) (root : Node) → IsPlan lp ex root → bare (plans_at new grown (root ∷ [])) ≡ pruned_all true [] (bare (plans_at lp ex (root ∷ []))) → plan_at new grown root ≡ pruned true [] (plan_at lp ex root)
pruned_is lp new ex grown root plan is = ap one_plan is ∙ one
  where
    one : one_plan (pruned_all true [] (bare (plans_at lp ex (root ∷ [])))) ≡ pruned true [] (plan_at lp ex root)
    one = subst (λ (ps : Roses Node Op). one_plan (pruned_all true [] (bare ps)) ≡ pruned true [] (one_plan (bare ps))) (sym (one_stands lp ex root plan).3) refl
