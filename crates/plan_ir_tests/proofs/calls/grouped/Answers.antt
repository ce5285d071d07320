use Rattle.std.proofs.Common.{◌∙◌, Some, ap}
use Rattle.plan_ir.specs.Parts.{inputs_of}
use Rattle.plan_builder.proofs.Follow.{built_same}
use Rattle.plan_ir_tests.proofs.Again.{inside, over_one, groups}
use Rattle.plan_ir_tests.proofs.calls.grouped.Goals as goal

pub get-requires : goal.get-requires
get-requires c = inside c.args.lp.now c.args.ex.now c.args.root c.requires.plan

pub group_by-requires-clause-built : goal.group_by-requires-clause-built
group_by-requires-clause-built c =
    let i = c.in-GroupBy.input in
    let one = over_one c.args.lp.now c.args.ex.now c.args.root c.get.result.now c.requires.plan c.requires.valid c.get.ensures.entry i (ap inputs_of c.in-GroupBy.is) in
    built_same c.args.lp.now c.new-builder.result.lp_arena.now c.args.ex.now c.new-builder.result.expr_arena.now i c.new-builder.result.root c.new-builder.ensures.nodes c.new-builder.ensures.exprs c.new-builder.ensures.root one.plan one.valid

pub group_by-requires-clause-follows : goal.group_by-requires-clause-follows
group_by-requires-clause-follows c = rw (c.new-builder.ensures.nodes, c.new-builder.ensures.exprs, c.new-builder.ensures.root, c.in_ok-exprs-in-GroupBy.ensures.0, c.in_ok-exprs-in-GroupBy.ensures.1) (groups c.args.lp.now c.args.ex.now c.args.root c.in-GroupBy.input c.in-GroupBy.keys c.in-GroupBy.aggs c.in-GroupBy.schema c.in-GroupBy.maintain_order c.in-GroupBy.options c.requires.plan c.requires.valid (c.get.ensures.entry ∙ ap Some c.in-GroupBy.is))
