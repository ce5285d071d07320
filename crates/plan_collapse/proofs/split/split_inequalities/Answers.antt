-- The loop of `split_inequalities` by its lemmas.
use Rattle.std.proofs.Common.{arith, drop, get_or, ◌+◌, List}
use Rattle.std.proofs.lemmas.List.{drop_all}
use Rattle.plan_core.specs.declared.arena.Node.{Node}
use Rattle.plan_collapse_laws.specs.CrossKeys.{inequality_keys}
use Rattle.plan_collapse.proofs.Places.{one_stands}
use Rattle.plan_collapse.proofs.Splitting.{Placed, Splitting, left-next, placed-next, splitting-by, splitting-end}
use Rattle.plan_collapse.proofs.split.split_inequalities.Goals as goal

pub inequality_if-requires : goal.inequality_if-requires
inequality_if-requires c = one_stands c.args.ex.now c.args.minterms.now c.loop-minterm.minterm-index (record { 0 = 0 }) c.loop-minterm-test.true c.requires

pub loop-minterm-preserved : goal.loop-minterm-preserved
loop-minterm-preserved c =
    let ex = c.args.ex.now in
    let ms = c.args.minterms.now in
    let i = c.loop-minterm.minterm-index in
    let d : Node = record { 0 = 0 } in
    let m : Node = get_or ms i d in
    let left : List Node = drop (i + 1) ms in
    let lt = c.loop-minterm-test.true in (
      (λ j h same. splitting-by ex j (inequality_keys j) 2 ms c.loop-minterm.split c.add.new.split m left (left-next ms i d (λ ns. Splitting ex j (inequality_keys j) 2 ms c.loop-minterm.split ns) lt (c.loop-minterm.invariant.0 j h same)) c.in_ok-found.found c.in_ok-add.ensures.some c.in_ok-add.ensures.none c.len-wanted.result c.len-wanted.ensures (λ w. c.in_ok-found.ensures.keys w j h same) c.in_ok-found.ensures.none),
      placed-next ex ms c.loop-minterm.split c.add.new.split m left (left-next ms i d (Placed ex ms c.loop-minterm.split) lt c.loop-minterm.invariant.1) c.in_ok-found.found c.in_ok-add.ensures.some c.in_ok-add.ensures.none c.in_ok-found.ensures.place,
    )

pub returns-clause-split : goal.returns-clause-split
returns-clause-split c = λ j h same. splitting-end c.args.ex.now j (inequality_keys j) 2 c.args.minterms.now c.loop-minterm.split (drop c.loop-minterm.minterm-index c.args.minterms.now) (drop_all c.loop-minterm.minterm-index c.args.minterms.now (omega (arith, c.loop-minterm-test.false))) (c.loop-minterm.invariant.0 j h same)
