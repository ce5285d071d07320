use Rattle.std.proofs.Common.{◌∙◌, ◌≤◌, not, List, Some, None, length, sym, ap, arith}
use Rattle.plan_core.specs.Columns.{names_of}
use Rattle.plan_core.specs.Names.{has}
use Rattle.plan_expr.specs.Leaves.{Name}
use Rattle.plan_expr.specs.Operands.{IsExpr}
use Rattle.plan_frame.proofs.ScalarExprs.{stands_here}
use Rattle.plan_join.specs.Naming.{right_name}
use Rattle.plan_prune_parts.proofs.KeyLemmas.{number_within}
use Rattle.plan_prune_parts.proofs.KeyTests.{all_free, free_at, next_free, not_free}
use Rattle.plan_prune_parts.proofs.arguments.are_unasked.Goals as goal

key : (c : goal.After-get-arg-1) → IsExpr c.args.ex.now c.key-item.result.node
key c = stands_here c.args.ex.now c.args.right_on.now c.loop-key.key-index c.key-item.result c.requires c.loop-key-test.true c.key-item.is

pub get-requires : goal.get-requires
get-requires c = number_within c.args.ex.now c.key-item.result.node (key c)

pub returns-in_default : goal.returns-in_default
returns-in_default c =
    let args = c.args.args.now in
    let asked : List Name = c.args.asked.now in
    not_free args asked c.args.left.now c.args.ex.now c.args.right_on.now c.loop-key.key-index c.key-item.result c.loop-key-test.true c.key-item.is
    (free_at args asked c.args.left.now c.args.ex.now c.key-item.result c.get.result.now None (stands_here c.args.ex.now c.args.right_on.now c.loop-key.key-index c.key-item.result c.requires c.loop-key-test.true c.key-item.is) c.get.ensures.entry c.in_default.ensures.none)

pub returns-then-contains : goal.returns-then-contains
returns-then-contains c =
    let args = c.args.args.now in
    let asked : List Name = c.args.asked.now in
    let called = c.as_str.ensures ∙ c.in_ok-called.ensures ∙ ap (λ (s : Name). right_name s (names_of c.args.left.now) c.in-Some.name.now) c.suffix.ensures in
    not_free args asked c.args.left.now c.args.ex.now c.args.right_on.now c.loop-key.key-index c.key-item.result c.loop-key-test.true c.key-item.is
    (free_at args asked c.args.left.now c.args.ex.now c.key-item.result c.get.result.now (Some c.in-Some.name.now) (stands_here c.args.ex.now c.args.right_on.now c.loop-key.key-index c.key-item.result c.requires c.loop-key-test.true c.key-item.is) c.get.ensures.entry c.in-Some.ensures.some
    ∙ ap not (ap (has asked) (sym called) ∙ sym c.contains.ensures ∙ c.if-contains.true))

pub loop-key-preserved : goal.loop-key-preserved
loop-key-preserved c =
    let args = c.args.args.now in
    let asked : List Name = c.args.asked.now in
    let called = c.as_str.ensures ∙ c.in_ok-called.ensures ∙ ap (λ (s : Name). right_name s (names_of c.args.left.now) c.in-Some.name.now) c.suffix.ensures in
    next_free args asked c.args.left.now c.args.ex.now c.args.right_on.now c.loop-key.key-index c.key-item.result c.loop-key-test.true c.key-item.is c.loop-key.invariant
    (free_at args asked c.args.left.now c.args.ex.now c.key-item.result c.get.result.now (Some c.in-Some.name.now) (stands_here c.args.ex.now c.args.right_on.now c.loop-key.key-index c.key-item.result c.requires c.loop-key-test.true c.key-item.is) c.get.ensures.entry c.in-Some.ensures.some
    ∙ ap not (ap (has asked) (sym called) ∙ sym c.contains.ensures ∙ c.if-contains.false))

pub returns : goal.returns
returns c =
    let past = c.loop-key-test.false in
    let end : length c.args.right_on.now ≤ c.loop-key.key-index = omega (arith, past) in
    all_free c.args.args.now c.args.asked.now c.args.left.now c.args.ex.now c.args.right_on.now c.loop-key.key-index end c.loop-key.invariant
