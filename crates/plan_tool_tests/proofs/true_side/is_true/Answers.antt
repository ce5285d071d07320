use Rattle.std.proofs.Common.{◌∙◌, ap, sym}
use Rattle.plan_expr.proofs.ExprLemmas.{expr_open}
use Rattle.plan_pass_laws.specs.Answers.{is_true_literal}
use Rattle.plan_tool_tests.proofs.true_side.is_true.Goals as goal

pub returns : goal.returns
returns c = c.is_true_value.ensures ∙ sym (ap is_true_literal (expr_open c.args.ex.now c.args.node c.get.result.now c.requires c.get.ensures.entry))
