use Rattle.std.proofs.Common.{List, refl, ap, ◌∙◌}
use Rattle.std.proofs.lemmas.Option.{slice_get_read}
use Rattle.plan_core.specs.Names.{has}
use Rattle.plan_expr.specs.Leaves.{Name}
use Rattle.plan_join.proofs.ColumnLemmas.{key-some, key-none}
use Rattle.plan_join.proofs.schema.names_of_keys.Goals.{in-Some+in_ok-add, in_default}
use Rattle.plan_join.proofs.schema.names_of_keys.Goals as goal

pub loop-key-preserved : goal.loop-key-preserved
loop-key-preserved c =
    let keys = c.args.keys.now in
    let ex = c.args.ex.now in
    let key = c.key-item.result in
    let here = slice_get_read keys _ c.loop-key.key-index key refl c.loop-key-test.true c.key-item.is in
    elim c.match-column_name.branch [
      | in-Some+in_ok-add w ↦ λ a. ap (λ (l : List Name). has l a) (w.names-is ∙ w.in_ok-add.ensures.after) ∙ key-some ex keys c.loop-key.key-index key c.get.result.now c.loop-key.names w.in-Some.name.now c.loop-key-test.true here c.get.ensures.entry w.in-Some.ensures.some c.loop-key.invariant a
      | in_default w ↦ λ a. ap (λ (l : List Name). has l a) w.names-is ∙ key-none ex keys c.loop-key.key-index key c.get.result.now c.loop-key.names c.loop-key-test.true here c.get.ensures.entry w.in_default.ensures.none c.loop-key.invariant a
    ]
