use Rattle.std.proofs.Common.{◌-◌, length, get_or, ap, arith}
use Rattle.plan_tree.specs.Read.{tree_at}
use Rattle.plan_expr.specs.Operands.{expr_shape}
use Rattle.plan_meaning.specs.Functions.{names_now}
use Rattle.plan_pruned.proofs.RenamedLemmas.{copied-before, copied-none, last_copy, later-end, met-before, ready, some-copy, turned, Ready}
use Rattle.plan_pruned.proofs.renamed.copy_listed.Goals as goal

pub loop-left-init : goal.loop-left-init
loop-left-init c =
    (omega arith, rw (later-end (tree_at expr_shape c.args.ex.now c.args.node) (length c.args.listed.now) (omega (arith, ap length c.requires.in_order)), c.new-copies.ensures) (copied-none (names_now c.args.names.now) c.args.ex.now))

can_copy : (c : goal.After-copies-1) → Ready c.loop-left.ex (get_or c.args.listed.now (c.loop-left.left - 1) (record { 0 = 0 })) c.loop-left.copies
can_copy c =
    ready (names_now c.args.names.now) c.args.ex.now c.loop-left.ex (tree_at expr_shape c.args.ex.now c.args.node) (c.loop-left.left - 1) (get_or c.args.listed.now (c.loop-left.left - 1) (record { 0 = 0 })) c.loop-left.copies
    (copied-before (names_now c.args.names.now) c.args.ex.now c.loop-left.ex (tree_at expr_shape c.args.ex.now c.args.node) c.loop-left.left _ c.loop-left-test.true c.loop-left.invariant.1)
    (met-before c.args.ex.now c.args.node c.args.listed.now c.loop-left.left c.requires.stands c.requires.in_order c.loop-left-test.true c.loop-left.invariant.0)

pub copy_one-requires-clause-within : goal.copy_one-requires-clause-within
copy_one-requires-clause-within c = (can_copy c).within

pub copy_one-requires-clause-operands : goal.copy_one-requires-clause-operands
copy_one-requires-clause-operands c = (can_copy c).enough

pub loop-left-preserved : goal.loop-left-preserved
loop-left-preserved c = (
  (let within = c.loop-left.invariant.0 in omega (arith, within)),
  turned (names_now c.args.names.now) c.args.ex.now c.loop-left.ex c.copy_one.new.ex (tree_at expr_shape c.args.ex.now c.args.node) (c.loop-left.left - 1) (get_or c.args.listed.now (c.loop-left.left - 1) (record { 0 = 0 })) c.loop-left.copies c.copy_one.new.copies
      (copied-before (names_now c.args.names.now) c.args.ex.now c.loop-left.ex (tree_at expr_shape c.args.ex.now c.args.node) c.loop-left.left _ c.loop-left-test.true c.loop-left.invariant.1)
      (met-before c.args.ex.now c.args.node c.args.listed.now c.loop-left.left c.requires.stands c.requires.in_order c.loop-left-test.true c.loop-left.invariant.0)
      c.in_ok-copy_one.ensures.copied,
)

pub unwrap-requires : goal.unwrap-requires
unwrap-requires c =
    some-copy (names_now c.args.names.now) c.args.ex.now c.loop-left.ex c.args.node c.loop-left.left c.loop-left.copies c.pop.new.self c.pop.result c.requires.stands c.loop-left-test.false c.loop-left.invariant.1 c.pop.ensures

pub returns-clause-copied : goal.returns-clause-copied
returns-clause-copied c =
    last_copy (names_now c.args.names.now) c.args.ex.now c.loop-left.ex c.args.node c.unwrap.result c.loop-left.left c.loop-left.copies c.pop.new.self c.pop.result c.requires.stands c.loop-left-test.false c.loop-left.invariant.1 c.pop.ensures c.unwrap.ensures
