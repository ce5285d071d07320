use Rattle.std.proofs.Common.{sym}
use Rattle.plan_check.proofs.RenamedLemmas.{short-once}
use Rattle.plan_check.proofs.renamed.is_once.Goals as goal

pub returns-then-names-lt2 : goal.returns-then-names-lt2
returns-then-names-lt2 c = sym (short-once c.args.names.now c.if-names-lt2.true)
