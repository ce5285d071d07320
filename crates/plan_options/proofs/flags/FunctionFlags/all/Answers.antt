use Rattle.bitflags.specs.Sets.{known_from}
use Rattle.plan_options.proofs.flags.FunctionFlags.all.Goals as goal

pub returns : goal.returns
unfolding known_from
returns c = c.all.ensures tt
