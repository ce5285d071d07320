-- The loop of `right_copies` by its lemmas.
use Rattle.std.proofs.Common.{◌∙◌, ap, arith, map}
use Rattle.std.proofs.lemmas.List.{take_all}
use Rattle.plan_expr.specs.Exprs.{expr_at}
use Rattle.plan_collapse_laws.specs.CrossKeys.{own_expr}
use Rattle.plan_collapse.specs.declared.keys.KeyNodes.{KeyNodes}
use Rattle.plan_collapse.proofs.LongerExprs.{copied-next, copying-next, key-stands}
use Rattle.plan_collapse.proofs.copies.right_copies.Goals as goal

pub own_copy-requires : goal.own_copy-requires
own_copy-requires c = key-stands c.args.ex.now c.loop-key.ex c.args.keys.now c.loop-key.copies c.loop-key.key-index _ c.loop-key-test.true c.requires c.loop-key.invariant.0

pub loop-key-preserved : goal.loop-key-preserved
loop-key-preserved c = (
  copying-next c.args.ex.now c.loop-key.ex c.args.keys.now c.loop-key.copies c.loop-key.key-index _ c.loop-key-test.true c.requires c.loop-key.invariant.0 c.own_copy.new.ex c.in_ok-own_copy.field-0 c.push.new.self c.in_ok-own_copy.ensures.longer c.in_ok-own_copy.ensures.place c.in_ok-push.ensures.pushed,
  λ j h. copied-next c.args.ex.now c.loop-key.ex c.args.keys.now c.loop-key.copies c.loop-key.key-index _ c.loop-key-test.true c.requires c.loop-key.invariant.0 c.own_copy.new.ex c.in_ok-own_copy.field-0 c.push.new.self c.in_ok-own_copy.ensures.longer c.in_ok-own_copy.ensures.place c.in_ok-push.ensures.pushed j (c.in_ok-own_copy.ensures.expr j h) (c.loop-key.invariant.1 j h),
)

pub returns-clause-exprs : goal.returns-clause-exprs
returns-clause-exprs c = λ j h. c.loop-key.invariant.1 j h ∙ ap (map (λ (k : KeyNodes). own_expr j (expr_at c.args.ex.now k.right))) (take_all c.loop-key.key-index c.args.keys.now (omega (arith, c.loop-key-test.false)))
