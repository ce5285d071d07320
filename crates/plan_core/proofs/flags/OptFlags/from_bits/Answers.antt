use Rattle.bitflags.specs.Sets.{known_from}
use Rattle.plan_core.proofs.flags.OptFlags.from_bits.Goals as goal

pub returns-clause-exactly_named : goal.returns-clause-exactly_named
unfolding known_from
returns-clause-exactly_named c = c.from_bits.ensures.known tt
