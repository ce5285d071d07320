use Rattle.std.proofs.Common.{◌≡◌, ◌∙◌, [], ◌∷◌, length, refl, rules}
use Rattle.std.specs.List.{flat_map}
use Rattle.plan_tree.specs.Walk.{steps_to, nodes_of}
use Rattle.plan_ir.specs.Moved.{entries_at}
use Rattle.plan_ir.specs.Parts.{plan_shape, roots_of}
use Rattle.plan_copy.proofs.CopyLemmas.{labels-within, steps-roots}
use Rattle.plan_copy.proofs.depth.expr_roots.Goals as goal

pub expr_steps-requires : goal.expr_steps-requires
expr_steps-requires c =
    labels-within plan_shape c.args.lp.now (c.args.root ∷ []) c.requires.0 c.requires.1 (length c.args.lp.now) refl c.as_slice.result.now (c.as_slice.ensures ∙ c.in_ok-nodes.ensures.in_order c.requires.0 c.requires.1)

pub returns : goal.returns
returns c = λ t h.
    let steps : c.in_ok-steps.steps ≡ steps_to tt (flat_map roots_of (entries_at c.args.lp.now c.in_ok-nodes.field-0.listed)) = rw c.as_slice.ensures at c.in_ok-steps.ensures in
    let numbers : c.in_ok-numbers.numbers ≡ nodes_of c.in_ok-steps.steps = search rules in
    numbers ∙ steps-roots c.args.lp.now c.args.root t c.in_ok-nodes.field-0.listed c.in_ok-steps.steps h (c.in_ok-nodes.ensures.in_order t h) steps
