use Rattle.std.proofs.Common.{arith}
use Rattle.std.proofs.lemmas.Grind.{common_steps}
use Rattle.plan_check_parts.proofs.JoinFaults.{naming_fault}
use Rattle.plan_check_parts.proofs.join.check_join_namings.Goals as goal

pub returns-in_err-check_namings_from : goal.returns-in_err-check_namings_from
returns-in_err-check_namings_from c = grind (arith, common_steps, naming_fault c.args.ex.now c.args.left_on.now c.args.right_on.now c.args.options.now c.args.node)

pub returns-in_err-check_namings_from-2 : goal.returns-in_err-check_namings_from-2
returns-in_err-check_namings_from-2 c = grind (arith, common_steps, naming_fault c.args.ex.now c.args.left_on.now c.args.right_on.now c.args.options.now c.args.node)

pub returns : goal.returns
returns c = grind (arith, common_steps, naming_fault c.args.ex.now c.args.left_on.now c.args.right_on.now c.args.options.now c.args.node)
