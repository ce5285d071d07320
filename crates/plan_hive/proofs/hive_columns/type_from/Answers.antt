use Rattle.std.proofs.Common.{◌≡◌, ◌∙◌, Some, is_some, refl, sym, ap}
use Rattle.std.specs.List.{slice_get}
use Rattle.std.proofs.lemmas.Option.{slice_get_read}
use Rattle.plan_hive.specs.Values.{text_in, number_of, truth_of}
use Rattle.plan_hive.proofs.ColumnLemmas.{told-more, told-same}
use Rattle.plan_hive.proofs.hive_columns.type_from.Goals.{in-Some, in_default}
use Rattle.plan_hive.proofs.hive_columns.type_from.Goals as goal

pub loop-values-preserved : goal.loop-values-preserved
loop-values-preserved c =
    let all = c.args.all.now in
    let i = c.loop-values.values-index in
    let here : slice_get all i ≡ Some c.values-item.result = slice_get_read all _ i c.values-item.result refl c.loop-values-test.true c.values-item.is in
    let f = text_in c.args.name.now in
    elim c.match-text_in.branch [
      | in-Some w ↦
          let t = w.in-Some.text.now in
          let truth : w.is_some-truths.result ≡ is_some (truth_of t) = w.is_some-truths.ensures ∙ ap is_some (w.truth_of.ensures ∙ ap truth_of w.as_str.ensures) in
          let number : w.is_some-numbers.result ≡ is_some (number_of t) = w.is_some-numbers.ensures ∙ ap is_some (w.number_of.ensures ∙ ap number_of w.as_str-in-Some.ensures) in
          let told = told-more f all i c.values-item.result t c.loop-values.any c.loop-values.truths c.loop-values.numbers here (sym w.in-Some.ensures) c.loop-values.invariant in
          rw (w.any-is, w.truths-is, w.numbers-is, truth, number) told
      | in_default w ↦
          let told = told-same f all i c.values-item.result c.loop-values.any c.loop-values.truths c.loop-values.numbers here (sym w.in_default.ensures) c.loop-values.invariant in
          rw (w.any-is, w.truths-is, w.numbers-is) told
    ]
