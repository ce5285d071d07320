use Rattle.std.proofs.Common.{◌≡◌, ◌∙◌, [], ◌∷◌, length, refl}
use Rattle.std.specs.List.{flat_map}
use Rattle.plan_tree.specs.Walk.{steps_to}
use Rattle.plan_ir.specs.Moved.{entries_at}
use Rattle.plan_ir.specs.Parts.{plan_shape, roots_of}
use Rattle.plan_copy.proofs.CopyLemmas.{labels-within, lists}
use Rattle.plan_copy.proofs.copy.list_plan.Goals as goal

pub expr_steps-requires : goal.expr_steps-requires
expr_steps-requires c =
    let h = c.requires.stands.nodes in
    labels-within plan_shape c.args.lp.now (c.args.root ∷ []) c.requires.nodes h (length c.args.lp.now) refl c.as_slice.result.now (c.as_slice.ensures ∙ c.in_ok-nodes.ensures.in_order c.requires.nodes h)

pub returns : goal.returns
returns c =
    let steps : c.in_ok-steps.steps ≡ steps_to tt (flat_map roots_of (entries_at c.args.lp.now c.in_ok-nodes.field-0.listed)) = rw c.as_slice.ensures at c.in_ok-steps.ensures in
    lists c.args.lp.now c.args.ex.now c.args.root c.in_ok-nodes.field-0.listed c.in_ok-exprs.field-0.listed c.in_ok-steps.steps c.requires c.in_ok-nodes.ensures.in_order steps (λ e h. c.in_ok-exprs.ensures.in_order e (rw c.as_slice-2.ensures h))
