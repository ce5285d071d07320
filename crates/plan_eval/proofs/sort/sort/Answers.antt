use Rattle.std.proofs.Common.{◌∙◌, sym}
use Rattle.plan_expr.specs.Exprs.{all_named_at}
use Rattle.plan_eval.proofs.SortLemmas.{bare-sorted}
use Rattle.plan_eval.proofs.sort.sort.Goals as goal

pub returns-then-len-eq0 : goal.returns-then-len-eq0
returns-then-len-eq0 c ts part = bare-sorted ts c.args.table (all_named_at c.args.ex.now c.args.keys.now) part c.args.options.now c.requires.rows c.requires.valid (sym c.len.ensures.value ∙ c.if-len-eq0.true)
