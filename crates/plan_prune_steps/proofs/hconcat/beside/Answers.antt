use Rattle.std.proofs.Common.{◌∙◌, List, get_or, ap, fold}
use Rattle.std.proofs.lemmas.Option.{slice_get-get_or}
use Rattle.plan_core.specs.declared.arena.Node.{Node}
use Rattle.plan_core.specs.Columns.{Columns}
use Rattle.plan_tree.proofs.TreeLemmas.{nth, StandsOnce-nth}
use Rattle.plan_ir.specs.Parts.{plan_shape}
use Rattle.plan_frame.specs.Beside.{with_new}
use Rattle.plan_prune_parts.specs.Said.{columns_at}
use Rattle.plan_prune_steps.proofs.ConcatParts.{beside-next}
use Rattle.plan_prune_steps.proofs.hconcat.beside.Goals as goal

pub add_stored-requires : goal.add_stored-requires
add_stored-requires c =
    let d : Node = record { 0 = 0 } in
    let i = c.loop-input.input-index in
    let ns : List Node = c.args.inputs.now in
    let here = slice_get-get_or ns i d c.loop-input-test.true in
    (nth plan_shape c.requires.0 i, StandsOnce-nth plan_shape c.args.lp.now ns c.requires.0 i (get_or ns i d) c.requires.1 here)

pub loop-input-preserved : goal.loop-input-preserved
loop-input-preserved c = λ ex.
    let d : Node = record { 0 = 0 } in
    let i = c.loop-input.input-index in
    let ns : List Node = c.args.inputs.now in
    let here = slice_get-get_or ns i d c.loop-input-test.true in
    c.in_ok-add_stored.ensures ex
    ∙ ap (λ (t : Columns). fold with_new t (columns_at c.args.lp.now ex (get_or ns i d))) (c.loop-input.invariant ex)
    ∙ beside-next c.args.lp.now ex ns i (get_or ns i d) here
