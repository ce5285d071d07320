use Rattle.plan_builder.proofs.Follow.{built_same}
use Rattle.plan_ir_tests.proofs.calls.projected_at.Goals as goal

pub project_simple_nodes-requires-clause-built : goal.project_simple_nodes-requires-clause-built
project_simple_nodes-requires-clause-built c =
    built_same c.args.lp.now c.new-builder.result.lp_arena.now c.args.ex.now c.new-builder.result.expr_arena.now c.args.root c.new-builder.result.root c.new-builder.ensures.nodes c.new-builder.ensures.exprs c.new-builder.ensures.root c.requires.plan c.requires.valid
