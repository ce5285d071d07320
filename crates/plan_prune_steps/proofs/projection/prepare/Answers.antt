use Rattle.std.proofs.Common.{◌≡◌, ◌∙◌, ap, List, []}
use Rattle.std.proofs.lemmas.Result.{IfOk-at_ok, IfOk-weaker}
use Rattle.plan_core.specs.Columns.{Columns, names_of}
use Rattle.plan_core.specs.Names.{with_names}
use Rattle.plan_ir.specs.declared.ir.IR.TheVariants.{SimpleProjection}
use Rattle.plan_expr.specs.Leaves.{Name}
use Rattle.plan_prune_parts.specs.declared.step.Step.TheVariants.{Over}
use Rattle.plan_prune_steps.proofs.projection.prepare.Goals as goal

pub returns : goal.returns
returns c =
    IfOk-weaker c.over.result _ _
    (λ step made.
    made.2
    ∙ ap (λ (l : List Name). Over c.args.input l (SimpleProjection c.args.input c.in_ok-columns.columns))
    (IfOk-at_ok (λ (l : List Name). l ≡ with_names [] (names_of c.in_ok-columns.columns)) made.1 c.asks.ensures)
    ∙ ap (λ (s : Columns). Over c.args.input (with_names [] (names_of s)) (SimpleProjection c.args.input s)) c.in_ok-columns.ensures)
    c.over.ensures
