use Rattle.plan_tree.proofs.TreeLemmas.{height_at}
use Rattle.plan_ir.specs.Parts.{plan_shape}
use Rattle.plan_schema.proofs.stored.+stored.Given as goal

abbrev pub decreases-stored : goal.decreases-stored
decreases-stored l = height_at plan_shape l.lp.now l.node
