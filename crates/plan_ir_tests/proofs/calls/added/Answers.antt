use Rattle.std.proofs.Common.{◌∙◌, Some, ap}
use Rattle.plan_ir.specs.Parts.{inputs_of}
use Rattle.plan_builder.proofs.Follow.{built_same}
use Rattle.plan_ir_tests.proofs.Again.{inside, over_one, adds}
use Rattle.plan_ir_tests.proofs.calls.added.Goals as goal

pub get-requires : goal.get-requires
get-requires c = inside c.args.lp.now c.args.ex.now c.args.root c.requires.plan

pub with_columns-requires-clause-built : goal.with_columns-requires-clause-built
with_columns-requires-clause-built c =
    let i = c.in-HStack.input in
    let one = over_one c.args.lp.now c.args.ex.now c.args.root c.get.result.now c.requires.plan c.requires.valid c.get.ensures.entry i (ap inputs_of c.in-HStack.is) in
    built_same c.args.lp.now c.new-builder.result.lp_arena.now c.args.ex.now c.new-builder.result.expr_arena.now i c.new-builder.result.root c.new-builder.ensures.nodes c.new-builder.ensures.exprs c.new-builder.ensures.root one.plan one.valid

pub with_columns-requires-clause-follows : goal.with_columns-requires-clause-follows
with_columns-requires-clause-follows c = rw (c.new-builder.ensures.nodes, c.new-builder.ensures.exprs, c.new-builder.ensures.root, c.in_ok-exprs-in-HStack.ensures) (adds c.args.lp.now c.args.ex.now c.args.root c.in-HStack.input c.in-HStack.exprs c.in-HStack.schema c.in-HStack.options c.requires.plan c.requires.valid (c.get.ensures.entry ∙ ap Some c.in-HStack.is))
