use Rattle.std.proofs.Common.{◌∙◌, ap, sym, map}
use Rattle.std.proofs.lemmas.List.{take_all}
use Rattle.std.proofs.lemmas.Simd.{map-map}
use Rattle.plan_table.specs.declared.value.AnyValue.{AnyValue}
use Rattle.plan_value.specs.Pairs.{paired}
use Rattle.plan_frame.specs.Values.{Value}
use Rattle.plan_value.specs.Shown.{value_of}
use Rattle.plan_value.proofs.spread.beside_right.Goals as goal

pub returns : goal.returns
returns c =
    let f : Value → Value = λ (x : Value). paired c.args.pairing x (value_of c.args.right.now) in
    c.loop-left.invariant
    ∙ ap (map (λ (v : AnyValue). f (value_of v))) (take_all c.loop-left.left-index c.args.lefts.now c.loop-left-test.false)
    ∙ sym (map-map f value_of c.args.lefts.now)
