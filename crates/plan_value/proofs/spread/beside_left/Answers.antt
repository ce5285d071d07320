use Rattle.std.proofs.Common.{◌∙◌, ap, sym, map}
use Rattle.std.proofs.lemmas.List.{take_all}
use Rattle.std.proofs.lemmas.Simd.{map-map}
use Rattle.plan_table.specs.declared.value.AnyValue.{AnyValue}
use Rattle.plan_value.specs.Pairs.{paired}
use Rattle.plan_frame.specs.Values.{Value}
use Rattle.plan_value.specs.Shown.{value_of}
use Rattle.plan_value.proofs.spread.beside_left.Goals as goal

pub returns : goal.returns
returns c =
    let f : Value → Value = λ (y : Value). paired c.args.pairing (value_of c.args.left.now) y in
    c.loop-right.invariant
    ∙ ap (map (λ (v : AnyValue). f (value_of v))) (take_all c.loop-right.right-index c.args.rights.now c.loop-right-test.false)
    ∙ sym (map-map f value_of c.args.rights.now)
