use Rattle.plan_frame.proofs.Counts.{one_len, one_other}
use Rattle.plan_frame.proofs.exprs.counts_rows.Goals as goal

pub returns-in-Len : goal.returns-in-Len
returns-in-Len c = one_len c.args.ex.now c.args.exprs.now c.expr-item.result c.get.result.now c.in-len1.len_at_least c.in-len1.len_below c.expr-item.is c.requires c.get.ensures.entry c.in-Len.is

pub returns-in_default-matches : goal.returns-in_default-matches
returns-in_default-matches c = one_other c.args.ex.now c.args.exprs.now c.expr-item.result c.get.result.now c.in-len1.len_at_least c.in-len1.len_below c.expr-item.is c.requires c.get.ensures.entry c.in_default-matches.not-Len
