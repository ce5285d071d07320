use Rattle.std.proofs.Common.{◌∙◌, ◌++◌, ap, map, List}
use Rattle.std.proofs.lemmas.List.{take_all}
use Rattle.plan_core.specs.declared.arena.Node.{Node}
use Rattle.plan_tree.specs.Walk.{steps_to}
use Rattle.plan_ir.proofs.PlanLemmas.{map_twice}
use Rattle.plan_copy.proofs.copy.step_to_exprs.Goals as goal

pub returns : goal.returns
returns c =
    let items = c.as_slice-expr-items.result.now in
    c.loop-expr.invariant
    ∙ ap (λ (l : List Node). c.args.steps.now ++ steps_to tt l)
    (ap (map (λ e. e.now.node)) (take_all c.loop-expr.expr-index items c.loop-expr-test.false)
    ∙ map_twice (λ e. e.node) (λ e. e.now) items
    ∙ ap (map (λ e. e.node)) (ap (map (λ e. e.now)) c.as_slice-expr-items.ensures ∙ c.in_ok-exprs.ensures))
