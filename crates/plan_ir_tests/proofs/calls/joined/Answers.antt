use Rattle.std.proofs.Common.{◌∙◌, Some, ap, refl}
use Rattle.plan_ir.specs.Parts.{inputs_of}
use Rattle.plan_builder.proofs.Follow.{built_same}
use Rattle.plan_ir_tests.proofs.Again.{inside, joins, over_two}
use Rattle.plan_ir_tests.proofs.calls.joined.Goals as goal

pub get-requires : goal.get-requires
get-requires c = inside c.args.lp.now c.args.ex.now c.args.root c.requires.plan

pub join-requires-clause-built : goal.join-requires-clause-built
join-requires-clause-built c =
    let i = c.in-Join.input_left in
    let two = over_two c.args.lp.now c.args.ex.now c.args.root c.get.result.now c.requires.plan c.requires.valid c.get.ensures.entry i c.in-Join.input_right (ap inputs_of c.in-Join.is) in
    built_same c.args.lp.now c.new-builder.result.lp_arena.now c.args.ex.now c.new-builder.result.expr_arena.now i c.new-builder.result.root c.new-builder.ensures.nodes c.new-builder.ensures.exprs c.new-builder.ensures.root two.left.plan two.left.valid

pub join-requires-clause-beside : goal.join-requires-clause-beside
join-requires-clause-beside c =
    let j = c.in-Join.input_right in
    let two = over_two c.args.lp.now c.args.ex.now c.args.root c.get.result.now c.requires.plan c.requires.valid c.get.ensures.entry c.in-Join.input_left j (ap inputs_of c.in-Join.is) in
    built_same c.args.lp.now c.new-builder.result.lp_arena.now c.args.ex.now c.new-builder.result.expr_arena.now j j c.new-builder.ensures.nodes c.new-builder.ensures.exprs refl two.right.plan two.right.valid

pub join-requires-clause-follows : goal.join-requires-clause-follows
join-requires-clause-follows c = rw (c.new-builder.ensures.nodes, c.new-builder.ensures.exprs, c.new-builder.ensures.root, c.in_ok-keys-in-Join.ensures.0, c.in_ok-keys-in-Join.ensures.1, c.in_ok-options-in-Join.ensures) (joins c.args.lp.now c.args.ex.now c.args.root c.in-Join.input_left c.in-Join.input_right c.in-Join.schema c.in-Join.left_on c.in-Join.right_on c.in-Join.options c.requires.plan c.requires.valid (c.get.ensures.entry ∙ ap Some c.in-Join.is))
