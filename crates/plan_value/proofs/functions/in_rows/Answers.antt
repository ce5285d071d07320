use Rattle.std.proofs.Common.{◌∙◌, ap, sym, map}
use Rattle.std.proofs.lemmas.List.{take_all}
use Rattle.std.proofs.lemmas.Simd.{map-map}
use Rattle.plan_table.specs.declared.value.AnyValue.{AnyValue}
use Rattle.plan_value.specs.Pairs.{in_row}
use Rattle.plan_value.specs.Shown.{value_of}
use Rattle.plan_value.proofs.functions.in_rows.Goals as goal

pub returns : goal.returns
returns c =
    c.loop-value.invariant
    ∙ ap (map (λ (v : AnyValue). in_row c.args.function (value_of v))) (take_all c.loop-value.value-index c.args.values.now c.loop-value-test.false)
    ∙ sym (map-map (in_row c.args.function) value_of c.args.values.now)
