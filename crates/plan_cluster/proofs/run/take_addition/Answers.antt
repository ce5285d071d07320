use Rattle.std.proofs.Common.{◌∙◌, ap, refl}
use Rattle.std.specs.List.{slice_set}
use Rattle.plan_cluster.proofs.Nodes.{not_hstack}
use Rattle.plan_cluster.proofs.Runs.{put_again}
use Rattle.plan_cluster.proofs.run.take_addition.Goals as goal

pub returns-in_default : goal.returns-in_default
returns-in_default c = (
  c.take.result,
  c.take.ensures.given,
  (
    not_hstack c.take.result c.in_default.not-HStack,
    c.put.ensures ∙ ap (λ (l : _). slice_set l c.args.node.0 c.take.result) c.take.ensures.after.2 ∙ put_again c.args.lp.now c.args.node.0 c.take.ensures.after.0 c.take.result c.take.ensures.given,
    refl,
  ),
)
