use Rattle.std.proofs.Common.{◌∙◌, ap, rules}
use Rattle.std.specs.Int.{w64}
use Rattle.std.proofs.lemmas.Int.{to_z-of_z}
use Rattle.plan_frame.specs.Values.{whole}
use Rattle.plan_value.proofs.AggregateLemmas.{count-wrapped}
use Rattle.plan_value.proofs.aggregates.counted.Goals as goal

pub returns : goal.returns
returns c =
    ap whole (to_z-of_z w64 c.cast_signed.result (search rules) ∙ c.cast_signed.ensures ∙ count-wrapped c.args.count c.ranges.count.fits)
