use Rattle.std.proofs.Common.{◌-◌, arith}
use Rattle.plan_prune_parts.proofs.StandInLemmas.{last_at}
use Rattle.plan_prune_parts.proofs.stand_in.last_name.Goals as goal

pub returns-in-Some-clause-some : goal.returns-in-Some-clause-some
returns-in-Some-clause-some c = last_at c.args.columns.now (c.len-2.result - 1) (c.in-Some.name.now, c.in-Some.field-0-1.now) (omega (arith, c.len-2.ensures.value, c.len.ensures.value, c.if-len-eq0.false)) (c.in-Some.ensures {u = tt}).found
