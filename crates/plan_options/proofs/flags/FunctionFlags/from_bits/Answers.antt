use Rattle.std.proofs.Common.{arith}
use Rattle.std.proofs.lemmas.Grind.{common_steps}
use Rattle.bitflags.specs.Sets.{known_from}
use Rattle.plan_options.specs.Flags.{HasNamedBitsOnly}
use Rattle.plan_options.proofs.flags.FunctionFlags.from_bits.Goals as goal

pub returns-clause-exactly_named : goal.returns-clause-exactly_named
unfolding known_from
returns-clause-exactly_named c = c.from_bits.ensures.known tt

pub returns-clause-each_is_named : goal.returns-clause-each_is_named
returns-clause-each_is_named c =
    let named : HasNamedBitsOnly c.args.bits = grind (arith, common_steps) in
    (returns-clause-exactly_named c).1 named
