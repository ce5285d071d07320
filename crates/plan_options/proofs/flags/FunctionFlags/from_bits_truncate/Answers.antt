use Rattle.bitflags.specs.Sets.{known_from}
use Rattle.plan_options.proofs.flags.FunctionFlags.from_bits_truncate.Goals as goal

pub returns : goal.returns
unfolding known_from
returns c = c.from_bits_truncate.ensures tt
