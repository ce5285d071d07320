use Rattle.std.proofs.Common.{◌∙◌, true, false, sym}
use Rattle.plan_eval.proofs.PickLemmas.{one-places}
use Rattle.plan_eval.proofs.filter.rows_where.Goals as goal

pub returns-then-is_true_at : goal.returns-then-is_true_at
returns-then-is_true_at c = sym (one-places c.args.values.now _ true c.args.height c.in-One.is (sym c.if-is_true_at.true ∙ c.is_true_at.ensures))

pub returns-else-is_true_at : goal.returns-else-is_true_at
returns-else-is_true_at c = c.new.ensures ∙ sym (one-places c.args.values.now _ false c.args.height c.in-One.is (sym c.if-is_true_at.false ∙ c.is_true_at.ensures))
