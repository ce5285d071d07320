-- The expressions, one for one.
use Rattle.std.proofs.Common.{rules}
use Rattle.plan_text.specs.Exprs.{expr_data}
use Rattle.plan_text_values.proofs.ListLemmas.{each_is_written}
use Rattle.plan_text.proofs.plan.exprs.Goals as goal

pub returns : goal.returns
returns c = each_is_written expr_data c.in_ok-written.ensures (λ x r p. search rules)
