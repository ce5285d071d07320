use Rattle.std.proofs.Common.{◌∙◌, ap, fold, List, if◌then◌else◌}
use Rattle.std.proofs.lemmas.List.{take_all}
use Rattle.plan_table.specs.declared.value.AnyValue.{AnyValue}
use Rattle.plan_frame.specs.Aggregates.{greater, lesser}
use Rattle.plan_frame.specs.Values.{null}
use Rattle.plan_value.specs.Shown.{value_of, values_of}
use Rattle.plan_value.proofs.AggregateLemmas.{best-taken, keeps-by, step}
use Rattle.plan_value.proofs.aggregates.best.Goals as goal

pub returns : goal.returns
returns c =
    ap value_of c.in_ok-try_clone.ensures
    ∙ c.loop-value.invariant
    ∙ ap (λ (vs : List AnyValue). fold (step (if c.args.greatest then greater else lesser)) null (values_of vs)) (take_all c.loop-value.value-index c.args.values.now c.loop-value-test.false)
    ∙ best-taken (if c.args.greatest then greater else lesser) (keeps-by c.args.greatest) (values_of c.args.values.now)
