use Rattle.std.proofs.Common.{◌≡◌, ◌∙◌, Bool, true, false, not, sym, refl}
use Rattle.plan_value.specs.Shown.{value_of}
use Rattle.plan_join_eval.proofs.RunLemmas.{out-of-reach}
use Rattle.plan_join_eval.proofs.runs.is_out_of_reach.Goals as goal

not_true : (b : Bool) → not b ≡ true → b ≡ false
not_true true e = sym e
not_true false e = refl

pub returns : goal.returns
returns c = λ e v w.
    out-of-reach c.args.operator c.args.by_right (value_of c.args.own.now) (value_of c.args.bound.now) v (sym c.compares.ensures ∙ c.if-not-compares.false) (sym c.meets.ensures ∙ not_true c.meets.result e) w
