use Rattle.std.proofs.Common.{arith}
use Rattle.std.proofs.lemmas.Grind.{common_steps}
use Rattle.plan_check_parts.proofs.JoinFaults.{leaf_fault}
use Rattle.plan_check_parts.proofs.join.check_join_leaves.Goals as goal

pub returns-in_err-check_leaves_from : goal.returns-in_err-check_leaves_from
returns-in_err-check_leaves_from c = grind (arith, common_steps, leaf_fault c.args.ex.now c.args.left_on.now c.args.right_on.now c.args.options.now c.args.node c.args.left.now c.args.right.now c.args.columns.now)

pub returns-in_err-check_leaves_from-2 : goal.returns-in_err-check_leaves_from-2
returns-in_err-check_leaves_from-2 c = grind (arith, common_steps, leaf_fault c.args.ex.now c.args.left_on.now c.args.right_on.now c.args.options.now c.args.node c.args.left.now c.args.right.now c.args.columns.now)

pub returns : goal.returns
returns c = grind (arith, common_steps, leaf_fault c.args.ex.now c.args.left_on.now c.args.right_on.now c.args.options.now c.args.node c.args.left.now c.args.right.now c.args.columns.now)
