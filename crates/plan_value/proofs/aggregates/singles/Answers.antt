use Rattle.std.proofs.Common.{◌∙◌, ap, sym, map}
use Rattle.std.proofs.lemmas.List.{take_all}
use Rattle.std.proofs.lemmas.Simd.{map-map}
use Rattle.plan_table.specs.declared.value.AnyValue.{AnyValue}
use Rattle.plan_frame.specs.Aggregates.{single}
use Rattle.plan_value.specs.Shown.{value_of}
use Rattle.plan_value.proofs.aggregates.singles.Goals as goal

pub returns : goal.returns
returns c =
    c.loop-value.invariant
    ∙ ap (map (λ (v : AnyValue). single (value_of v))) (take_all c.loop-value.value-index c.args.values.now c.loop-value-test.false)
    ∙ sym (map-map single value_of c.args.values.now)
