use Rattle.std.proofs.Common.{◌∷◌, [], ap, refl}
use Rattle.plan_core.specs.declared.arena.Node.{Node}
use Rattle.plan_builder.proofs.Follow.{over_follow}
use Rattle.plan_ir_tests.proofs.Again.{again, inside}
use Rattle.plan_ir_tests.proofs.calls.sliced.Goals as goal

pub get-requires : goal.get-requires
get-requires c = inside c.args.lp.now c.args.ex.now c.args.root c.requires.plan

pub from_lp-requires : goal.from_lp-requires
from_lp-requires c = rw c.in_ok-frame.ensures (again c.args.lp.now c.args.ex.now c.args.root c.get.result.now c.requires.plan c.requires.valid c.get.ensures.entry)

pub add_alp-requires : goal.add_alp-requires
add_alp-requires c =
    let b = c.in_ok-builder.ensures.built in
    over_follow c.in_ok-builder.builder.lp_arena.now c.in_ok-builder.builder.expr_arena.now c.in_ok-builder.builder.root b _ (ap (λ (n : Node). n ∷ []) c.node.ensures) refl b.plan.exprs b.plan.stands.exprs tt
