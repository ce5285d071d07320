use Rattle.std.proofs.Common.{arith}
use Rattle.std.proofs.lemmas.Grind.{common_steps}
use Rattle.plan_check_parts.proofs.JoinFaults.{type_fault}
use Rattle.plan_check_parts.proofs.join_types.check_join_types.Goals as goal

pub returns-in_err-check_key_types : goal.returns-in_err-check_key_types
returns-in_err-check_key_types c = grind (arith, common_steps, type_fault c.args.ex.now c.args.left_on.now c.args.right_on.now c.args.options.now c.args.node c.args.left.now c.args.right.now c.args.columns.now)

pub returns-in_err-check_pairs : goal.returns-in_err-check_pairs
returns-in_err-check_pairs c = grind (arith, common_steps, type_fault c.args.ex.now c.args.left_on.now c.args.right_on.now c.args.options.now c.args.node c.args.left.now c.args.right.now c.args.columns.now)

pub returns : goal.returns
returns c = grind (arith, common_steps, type_fault c.args.ex.now c.args.left_on.now c.args.right_on.now c.args.options.now c.args.node c.args.left.now c.args.right.now c.args.columns.now)
