use Rattle.std.proofs.Common.{◌∙◌, Some, ap}
use Rattle.plan_ir.specs.Parts.{inputs_of}
use Rattle.plan_builder.proofs.Follow.{built_same}
use Rattle.plan_ir_tests.proofs.Again.{inside, over_one, selects}
use Rattle.plan_ir_tests.proofs.calls.selected.Goals as goal

pub get-requires : goal.get-requires
get-requires c = inside c.args.lp.now c.args.ex.now c.args.root c.requires.plan

pub project-requires-clause-built : goal.project-requires-clause-built
project-requires-clause-built c =
    let i = c.in-Select.input in
    let one = over_one c.args.lp.now c.args.ex.now c.args.root c.get.result.now c.requires.plan c.requires.valid c.get.ensures.entry i (ap inputs_of c.in-Select.is) in
    built_same c.args.lp.now c.new-builder.result.lp_arena.now c.args.ex.now c.new-builder.result.expr_arena.now i c.new-builder.result.root c.new-builder.ensures.nodes c.new-builder.ensures.exprs c.new-builder.ensures.root one.plan one.valid

pub project-requires-clause-follows : goal.project-requires-clause-follows
project-requires-clause-follows c = λ some. rw (c.new-builder.ensures.nodes, c.new-builder.ensures.exprs, c.new-builder.ensures.root, c.in_ok-exprs-in-Select.ensures) (selects c.args.lp.now c.args.ex.now c.args.root c.in-Select.input c.in-Select.expr c.in-Select.schema c.in-Select.options c.requires.plan c.requires.valid (c.get.ensures.entry ∙ ap Some c.in-Select.is))
