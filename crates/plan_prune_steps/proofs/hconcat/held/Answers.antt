use Rattle.std.proofs.Common.{◌∙◌, ◌++◌, [], ◌∷◌, List, get_or, ap, ap₂, arith}
use Rattle.std.proofs.lemmas.Option.{slice_get-get_or}
use Rattle.plan_core.specs.declared.arena.Node.{Node}
use Rattle.plan_tree.proofs.TreeLemmas.{nth, StandsOnce-nth}
use Rattle.plan_ir.specs.Parts.{plan_shape}
use Rattle.plan_expr.specs.Leaves.{Name}
use Rattle.plan_prune_steps.proofs.ConcatParts.{held-next}
use Rattle.plan_prune_names.proofs.PlaceSteps.{take-all}
use Rattle.plan_prune_steps.specs.Steps.{held_at}
use Rattle.plan_prune_steps.proofs.hconcat.held.Goals as goal

pub known_with-requires-clause-input : goal.known_with-requires-clause-input
known_with-requires-clause-input c =
    let d : Node = record { 0 = 0 } in
    let i = c.loop-input.input-index in
    let ns : List Node = c.args.inputs.now in
    let here = slice_get-get_or ns i d c.loop-input-test.true in
    (nth plan_shape c.requires.inputs.0 i, StandsOnce-nth plan_shape c.args.lp.now ns c.requires.inputs.0 i (get_or ns i d) c.requires.inputs.1 here)

pub loop-input-preserved : goal.loop-input-preserved
loop-input-preserved c = λ ex.
    let d : Node = record { 0 = 0 } in
    let i = c.loop-input.input-index in
    let ns : List Node = c.args.inputs.now in
    let here = slice_get-get_or ns i d c.loop-input-test.true in
    c.in_ok-push.ensures.pushed
    ∙ ap₂ (λ (l : List (List Name)) (names : List Name). l ++ names ∷ []) (c.loop-input.invariant ex) (c.in_ok-known_with.ensures ex)
    ∙ held-next c.args.lp.now ex ns i (get_or ns i d) here c.args.asked.now

pub returns : goal.returns
returns c = λ ex.
    c.loop-input.invariant ex
    ∙ ap (held_at c.args.lp.now ex c.args.asked.now) (take-all c.args.inputs.now c.loop-input.input-index (omega (arith, c.loop-input-test.false)))
