-- The loop of `split_equalities` by its lemmas.
use Rattle.std.proofs.Common.{arith, drop, get_or, ◌+◌, length, List}
use Rattle.std.proofs.lemmas.List.{drop_all}
use Rattle.plan_core.specs.declared.arena.Node.{Node}
use Rattle.plan_collapse_laws.specs.CrossKeys.{equality_keys}
use Rattle.plan_collapse.proofs.Places.{one_stands}
use Rattle.plan_collapse.proofs.Splitting.{Placed, Splitting, left-next, placed-next, split-grows, splitting-end, splitting-open}
use Rattle.plan_collapse.proofs.split.split_equalities.Goals as goal

pub equality_keys-requires : goal.equality_keys-requires
equality_keys-requires c = one_stands c.args.ex.now c.args.minterms.now c.loop-minterm.minterm-index (record { 0 = 0 }) c.loop-minterm-test.true c.requires

pub loop-minterm-preserved : goal.loop-minterm-preserved
loop-minterm-preserved c =
    let ex = c.args.ex.now in
    let ms = c.args.minterms.now in
    let i = c.loop-minterm.minterm-index in
    let d : Node = record { 0 = 0 } in
    let m : Node = get_or ms i d in
    let left : List Node = drop (i + 1) ms in
    let lt = c.loop-minterm-test.true in
    let low = c.loop-minterm.invariant.2 in
    let grows = split-grows c.loop-minterm.split c.add.new.split m c.in_ok-found.found c.in_ok-add.ensures.some c.in_ok-add.ensures.none in (
      (λ j h. splitting-open ex j (equality_keys j) (length ms) ms c.loop-minterm.split c.add.new.split m left (left-next ms i d (λ ns. Splitting ex j (equality_keys j) (length ms) ms c.loop-minterm.split ns) lt (c.loop-minterm.invariant.0 j h)) c.in_ok-found.found c.in_ok-add.ensures.some c.in_ok-add.ensures.none (omega (arith, lt, low)) (c.in_ok-found.ensures.keys j h)),
      placed-next ex ms c.loop-minterm.split c.add.new.split m left (left-next ms i d (Placed ex ms c.loop-minterm.split) lt c.loop-minterm.invariant.1) c.in_ok-found.found c.in_ok-add.ensures.some c.in_ok-add.ensures.none c.in_ok-found.ensures.place,
      omega (arith, grows, low),
    )

pub returns-clause-split : goal.returns-clause-split
returns-clause-split c = λ j h. splitting-end c.args.ex.now j (equality_keys j) (length c.args.minterms.now) c.args.minterms.now c.loop-minterm.split (drop c.loop-minterm.minterm-index c.args.minterms.now) (drop_all c.loop-minterm.minterm-index c.args.minterms.now (omega (arith, c.loop-minterm-test.false))) (c.loop-minterm.invariant.0 j h)
