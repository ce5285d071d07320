use Rattle.std.proofs.Common.{arith}
use Rattle.std.proofs.lemmas.Grind.{common_steps}
use Rattle.plan_check_parts.proofs.JoinFaults.{form_fault}
use Rattle.plan_check_parts.proofs.join_form.check_join_forms.Goals as goal

pub returns-then-not-is_built : goal.returns-then-not-is_built
returns-then-not-is_built c = grind (arith, common_steps, c.is_built.ensures c.args.ex.now, form_fault c.args.ex.now c.args.left_on.now c.args.right_on.now c.args.options.now c.args.node)

pub returns-in_err-check_key_forms : goal.returns-in_err-check_key_forms
returns-in_err-check_key_forms c = grind (arith, common_steps, c.is_built.ensures c.args.ex.now, form_fault c.args.ex.now c.args.left_on.now c.args.right_on.now c.args.options.now c.args.node)

pub returns-in_err-check_key_forms-2 : goal.returns-in_err-check_key_forms-2
returns-in_err-check_key_forms-2 c = grind (arith, common_steps, c.is_built.ensures c.args.ex.now, form_fault c.args.ex.now c.args.left_on.now c.args.right_on.now c.args.options.now c.args.node)

pub returns : goal.returns
returns c = grind (arith, common_steps, c.is_built.ensures c.args.ex.now, form_fault c.args.ex.now c.args.left_on.now c.args.right_on.now c.args.options.now c.args.node)
