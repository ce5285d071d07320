use Rattle.std.proofs.Common.{sym}
use Rattle.plan_check.proofs.InPlaceLemmas.{explode-holds}
use Rattle.plan_check.proofs.mapped.explode.Goals as goal

pub returns : goal.returns
returns c = (explode-holds c.args.names.now c.args.columns.now (sym c.if-not-all_have_lists.ensures), c.in_ok-take_apart.ensures)
