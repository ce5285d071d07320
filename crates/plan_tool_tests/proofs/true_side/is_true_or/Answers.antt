use Rattle.std.proofs.Common.{◌∙◌, sym}
use Rattle.plan_tool_tests.proofs.TrueSides.{left_stands, not_or, or_of}
use Rattle.plan_tool_tests.proofs.true_side.is_true_or.Goals as goal

pub is_true-requires : goal.is_true-requires
is_true-requires c = left_stands c.args.ex.now c.args.node c.in-Some.left c.get.result.now c.requires c.get.ensures.entry (sym c.in-Some.is ∙ c.or_left.ensures)

pub returns-in-None : goal.returns-in-None
returns-in-None c = not_or c.args.ex.now c.args.node c.get.result.now c.requires c.get.ensures.entry (sym c.in-None.is ∙ c.or_left.ensures)

pub returns-in-Some : goal.returns-in-Some
returns-in-Some c = c.is_true.ensures ∙ or_of c.args.ex.now c.args.node c.in-Some.left c.get.result.now c.requires c.get.ensures.entry (sym c.in-Some.is ∙ c.or_left.ensures)
