use Rattle.std.proofs.Common.{◌≡◌, ◌∙◌, ◌<◌, All, List, [], length, get_or, ap, arith, subst, sym}
use Rattle.std.proofs.lemmas.List.{get_or_default}
use Rattle.plan_frame.specs.Meaning.{value_at}
use Rattle.plan_frame.specs.Values.{Value}
use Rattle.plan_value.specs.Cells.{cell_of}
use Rattle.plan_join_eval.specs.declared.runs.Run.{Run}
use Rattle.plan_join_eval.specs.Runs.{is_met, is_up, IsRunAt}
use Rattle.plan_join_eval.proofs.unequal.near_rows.Goals as goal

pub next_row-requires-clause-first : goal.next_row-requires-clause-first
next_row-requires-clause-first c = λ j e. ap (λ (v : Value). is_met c.args.operator c.args.by_right v (value_at (cell_of c.args.key.now) j)) c.value_of_key-value.ensures ∙ c.requires.first j e

pub next_row-requires-clause-runs : goal.next_row-requires-clause-runs
next_row-requires-clause-runs c =
    let runs : List (List Run) = c.args.runs.now in
    let other = c.loop-other.other in
    let lt : other < length runs = omega (arith, c.loop-other-test.true, c.requires.runs.long) in
    let is : c.as_slice.result.now ≡ get_or runs other [] = c.as_slice.ensures ∙ c.index-runs-other.is ∙ get_or_default runs other c.index-runs-other.result [] lt in
    subst (All (IsRunAt (is_up c.args.operator c.args.by_right) (cell_of c.args.key.now) other c.args.others)) (sym is) (c.requires.runs.each other c.loop-other-test.true)
