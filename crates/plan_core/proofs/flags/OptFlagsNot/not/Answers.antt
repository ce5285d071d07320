use Rattle.bitflags.specs.Sets.{known_from}
use Rattle.plan_core.proofs.flags.OptFlagsNot.not.Goals as goal

pub returns : goal.returns
unfolding known_from
returns c = c.complement.ensures tt
