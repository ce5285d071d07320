use Rattle.bitflags.specs.Sets.{known_from}
use Rattle.plan_options.proofs.flags.FunctionFlagsNot.not.Goals as goal

pub returns : goal.returns
unfolding known_from
returns c = c.complement.ensures tt
