use Rattle.std.proofs.Common.{arith, rules}
use Rattle.plan_stream.proofs.Taken.{all_taken, too_many}
use Rattle.plan_stream.proofs.reading.read_all.Goals as goal

pub returns-then-count-limit-clause-limit : goal.returns-then-count-limit-clause-limit
returns-then-count-limit-clause-limit g c = λ _. too_many _ _ _ _ _ c.args.limit c.loop-bytes.invariant.taken c.in_ok-count.ensures.bytes.0 (omega (arith, c.in_ok-count.ensures.bound.1, c.len.ensures))

pub returns-then-count-eq0-clause-whole : goal.returns-then-count-eq0-clause-whole
returns-then-count-eq0-clause-whole g c =
    all_taken _ _ _ _ _ c.loop-bytes.invariant.taken c.in_ok-count.ensures.bytes.0 (omega (arith, c.in_ok-count.ensures.bound.1, c.if-count-eq0.true)) (c.in_ok-count.ensures.bytes.1 c.if-count-eq0.true (search rules))
