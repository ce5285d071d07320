use Rattle.std.proofs.Common.{◌∙◌, ◌++◌, ◌∷◌, [], List, refl, ap₂}
use Rattle.std.proofs.lemmas.Option.{slice_get_read}
use Rattle.plan_expr.specs.Leaves.{Name}
use Rattle.plan_join_eval.proofs.FillLemmas.{key-column, key-other}
use Rattle.plan_join_eval.proofs.fills.key_names.Goals.{in-Some+in_ok-new+in_ok-push, in_default}
use Rattle.plan_join_eval.proofs.fills.key_names.Goals as goal

pub loop-key-preserved : goal.loop-key-preserved
loop-key-preserved c =
    let keys = c.args.keys.now in
    let ex = c.args.ex.now in
    let key = c.key-item.result in
    let i = c.loop-key.key-index in
    let here = slice_get_read keys _ i key refl c.loop-key-test.true c.key-item.is in
    elim c.match-column_name.branch [
      | in-Some+in_ok-new+in_ok-push w ↦ w.names-is ∙ w.in_ok-push.ensures.pushed ∙ ap₂ (λ (names : List Name) (a : Name). names ++ a ∷ []) c.loop-key.invariant w.in_ok-new.ensures
          ∙ key-column ex keys i key c.get.result.now w.in-Some.name.now c.loop-key-test.true here c.get.ensures.entry w.in-Some.ensures.some
      | in_default w ↦ w.names-is ∙ c.loop-key.invariant ∙ key-other ex keys i key c.get.result.now c.loop-key-test.true here c.get.ensures.entry w.in_default.ensures.none
    ]
