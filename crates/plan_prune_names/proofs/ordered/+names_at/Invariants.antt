use Rattle.plan_tree.proofs.TreeLemmas.{height_at}
use Rattle.plan_ir.specs.Parts.{plan_shape}
use Rattle.plan_prune_names.proofs.ordered.+names_at.Given as goal

abbrev pub decreases-names_at : goal.decreases-names_at
decreases-names_at l = height_at plan_shape l.lp.now l.node
