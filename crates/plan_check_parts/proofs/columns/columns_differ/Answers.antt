use Rattle.plan_check_parts.proofs.EachLemmas.{differ_none}
use Rattle.plan_check_parts.proofs.columns.columns_differ.Goals as goal

pub returns : goal.returns
returns c = differ_none c.args.node c.args.columns.now c.len-count.ensures.distinct
