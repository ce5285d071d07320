use Rattle.std.proofs.Common.{◌∙◌, List, ap, arith, map, sym}
use Rattle.plan_collapse_laws.specs.TakenKeys.{operators_of}
use Rattle.plan_collapse.specs.declared.keys.KeyNodes.{KeyNodes}
use Rattle.plan_collapse.specs.KeysAt.{pair_at}
use Rattle.plan_collapse.proofs.WayLemmas.{equal-way, free-way, ordered-way, unequal-way}
use Rattle.plan_collapse.proofs.way.way_of.Goals as goal

pub returns-then-len-gt0-clause-way : goal.returns-then-len-gt0-clause-way
returns-then-len-gt0-clause-way c = λ j h same run schema told inputs.
    equal-way c.args.ex.now j c.args.minterms.now run schema told inputs c.in_ok-equal.equal (c.in_ok-equal.ensures.split j h) (omega (arith, c.if-len-gt0.true, c.len.ensures))

pub returns-then-len-gt0-2-clause-way : goal.returns-then-len-gt0-2-clause-way
returns-then-len-gt0-2-clause-way c = λ j h same run schema told inputs.
    unequal-way c.args.ex.now j c.args.minterms.now run schema told inputs c.in_ok-equal.equal c.in_ok-unequal.unequal c.operators_of-operators.result (c.in_ok-equal.ensures.split j h) (omega (arith, c.if-len-gt0.false, c.len.ensures)) (c.in_ok-unequal.ensures.split j h same) (omega (arith, c.if-len-gt0-2.true, c.len-2.ensures))
    (c.operators_of-operators.ensures c.args.ex.now j ∙ ap (λ (ks : List KeyNodes). operators_of (map (pair_at c.args.ex.now j) ks)) c.as_slice.ensures)

pub returns-then-is_free-clause-way : goal.returns-then-is_free-clause-way
returns-then-is_free-clause-way c = λ j h same run schema told inputs is.
    free-way c.args.ex.now j c.args.minterms.now run schema told inputs c.in_ok-equal.equal c.in_ok-unequal.unequal c.args.order (c.in_ok-equal.ensures.split j h) (omega (arith, c.if-len-gt0.false, c.len.ensures)) (c.in_ok-unequal.ensures.split j h same) (omega (arith, c.if-len-gt0-2.false, c.len-2.ensures))
    (sym c.if-is_free.ensures) is

pub returns-clause-way : goal.returns-clause-way
returns-clause-way c = λ j h same run schema told inputs is.
    ordered-way c.args.ex.now j c.args.minterms.now run schema told inputs c.in_ok-equal.equal c.in_ok-unequal.unequal c.args.order (c.in_ok-equal.ensures.split j h) (omega (arith, c.if-len-gt0.false, c.len.ensures)) (c.in_ok-unequal.ensures.split j h same) (omega (arith, c.if-len-gt0-2.false, c.len-2.ensures))
    (sym c.if-is_free.ensures) is
