use Rattle.std.proofs.Common.{◌∙◌, Some, ap}
use Rattle.plan_ir.specs.declared.ir.IR.TheVariants.{MapFunction}
use Rattle.plan_ir_tests.proofs.Again.{again, inside}
use Rattle.plan_ir_tests.proofs.calls.applied.Goals as goal

pub get-requires : goal.get-requires
get-requires c = inside c.args.lp.now c.args.ex.now c.args.root c.requires.plan

pub put-requires : goal.put-requires
put-requires c = rw (c.new-builder.ensures.nodes, c.new-builder.ensures.exprs, c.new-builder.ensures.root, c.in_ok-function-in-MapFunction.ensures) (again c.args.lp.now c.args.ex.now c.args.root (MapFunction c.in-MapFunction.input c.in-MapFunction.function) c.requires.plan c.requires.valid (c.get.ensures.entry ∙ ap Some c.in-MapFunction.is))
