use Rattle.plan_tree.proofs.TreeLemmas.{height_at}
use Rattle.plan_ir.specs.Parts.{plan_shape}
use Rattle.plan_prune_names.proofs.walk.+lay.Given as goal

abbrev pub decreases-lay : goal.decreases-lay
decreases-lay l = height_at plan_shape l.lp.now l.node
