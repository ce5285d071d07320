use Rattle.std.proofs.Common.{arith, ◌≡◌, ◌+◌, ◌-◌, ◌<◌, ◌≤◌, ◌^◌, [], ◌∷◌, ◌++◌, refl, sym, subst, ap, ap₂, ◌∙◌, map, List, Bool, Some, length}
use Rattle.std.specs.List.{slice_get}
use Rattle.std.proofs.lemmas.Option.{slice_get_within}
use Rattle.plan_core.specs.declared.arena.Node.{Node}
use Rattle.plan_tree.specs.Read.{tree_at}
use Rattle.plan_tree.specs.Rose.{size}
use Rattle.plan_expr.specs.Operands.{expr_shape, operands_of}
use Rattle.plan_meaning.specs.PlanAt.{plan_at}
use Rattle.plan_rule.proofs.Listed.{listed_inside}
use Rattle.plan_pass_laws.specs.Settling.{both}
use Rattle.plan_pass_laws.specs.Weights.{weight}
use Rattle.plan_reshape.specs.Walking.{all_own, done_of}
use Rattle.plan_reshape.proofs.Operands.{Ops, at_expr, at_start, ops_asks, ops_at, ops_end, ops_first, ops_fits, ops_next, start_tree}
use Rattle.plan_reshape.proofs.exprs.+walk_expr.Goals as goal

pub operands_at-requires : goal.operands_at-requires
operands_at-requires g t c = let k = listed_inside c.args.lp.now c.args.ex.now c.args.lp_node c.args.expr_node c.requires.listed in omega (arith, k, c.in_ok-above.ensures.longer)

pub loop-operand-init : goal.loop-operand-init
loop-operand-init g t c =
    let u = at_start (map g.R.OptimizationRule.kind_of c.args.rules.now ++ map g.Q.OptimizationRule.kind_of c.args.extra.now) c.args.lp.now c.args.ex.now c.visit_both_expr.new.ex c.args.lp_node c.args.expr_node c.in_ok-operands.ensures.operands.0 (done_of c.in_ok-above.above) c.requires.plan c.requires.listed c.in_ok-above.ensures.tended c.in_ok-operands.ensures.operands.1 in
    record { kinds = refl; owns = refl; extra_kinds = refl; extra_owns = refl; longer = omega arith; left = rw c.none-work.ensures (ops_first (map g.R.OptimizationRule.kind_of c.visit_both_expr.new.rules ++ map g.Q.OptimizationRule.kind_of c.visit_both_expr.new.extra) c.args.lp.now c.visit_both_expr.new.ex c.args.lp_node c.as_slice-listed.result.now u.stays.valid); told = λ o. refl }

pub walk_expr-requires : goal.walk_expr-requires
walk_expr-requires g t c κs within =
    let u = at_start (map g.R.OptimizationRule.kind_of c.args.rules.now ++ map g.Q.OptimizationRule.kind_of c.args.extra.now) c.args.lp.now c.args.ex.now c.visit_both_expr.new.ex c.args.lp_node c.args.expr_node c.in_ok-operands.ensures.operands.0 (done_of c.in_ok-above.above) c.requires.plan c.requires.listed c.in_ok-above.ensures.tended c.in_ok-operands.ensures.operands.1 in
    let k = ops_asks (map g.R.OptimizationRule.kind_of c.visit_both_expr.new.rules ++ map g.Q.OptimizationRule.kind_of c.visit_both_expr.new.extra) c.args.lp.now c.visit_both_expr.new.ex c.loop-operand.ex c.args.lp_node c.args.expr_node c.in_ok-operands.ensures.operands.0 c.loop-operand.place c.in-Some.operand (done_of c.loop-operand.work) u.kids c.requires.plan.nodes u.exprs (subst (λ (l : List Node). slice_get l c.loop-operand.place ≡ Some c.in-Some.operand) (c.as_slice-listed.ensures ∙ c.in_ok-operands.ensures.operands.2) (sym c.node_at.ensures.there ∙ c.in-Some.is)) (ops_at (map g.R.OptimizationRule.kind_of c.visit_both_expr.new.rules ++ map g.Q.OptimizationRule.kind_of c.visit_both_expr.new.extra) c.args.lp.now c.visit_both_expr.new.ex c.loop-operand.ex c.args.lp_node c.as_slice-listed.result.now (operands_of c.in_ok-operands.ensures.operands.0) c.loop-operand.place (done_of c.loop-operand.work) (c.as_slice-listed.ensures ∙ c.in_ok-operands.ensures.operands.2) c.loop-operand.invariant.left) u.stand u.plan u.listed in
    let small = k.small in
    let few = u.small in
    let now = k.stays.weighs in
    let was = u.stays.weighs in
    (omega (arith, small, few, c.decreases), (within.0, (within.1, (k.stays.plan, (k.stays.valid, (k.listed, omega (arith, now, was, c.requires.fits)))))))

pub and-work-requires : goal.and-work-requires
and-work-requires g t c =
    let u = at_start (map g.R.OptimizationRule.kind_of c.args.rules.now ++ map g.Q.OptimizationRule.kind_of c.args.extra.now) c.args.lp.now c.args.ex.now c.visit_both_expr.new.ex c.args.lp_node c.args.expr_node c.in_ok-operands.ensures.operands.0 (done_of c.in_ok-above.above) c.requires.plan c.requires.listed c.in_ok-above.ensures.tended c.in_ok-operands.ensures.operands.1 in
    let k = ops_fits (map g.R.OptimizationRule.kind_of c.args.rules.now ++ map g.Q.OptimizationRule.kind_of c.args.extra.now) (map g.R.OptimizationRule.kind_of c.visit_both_expr.new.rules ++ map g.Q.OptimizationRule.kind_of c.visit_both_expr.new.extra) c.args.lp.now c.args.ex.now c.visit_both_expr.new.ex c.walk_expr.new.ex c.args.lp_node c.args.expr_node c.in_ok-operands.ensures.operands.0 c.requires.plan.nodes c.requires.plan.exprs (start_tree c.args.lp.now c.args.ex.now c.args.lp_node c.args.expr_node c.requires.listed).0 (c.loop-operand.place + 1) (done_of c.in_ok-above.above) (both (done_of c.loop-operand.work) (done_of c.in_ok-done.done)) u (ops_next (map g.R.OptimizationRule.kind_of c.visit_both_expr.new.rules ++ map g.Q.OptimizationRule.kind_of c.visit_both_expr.new.extra) c.args.lp.now c.visit_both_expr.new.ex c.loop-operand.ex c.walk_expr.new.ex c.args.lp_node c.args.expr_node c.in_ok-operands.ensures.operands.0 c.loop-operand.place c.in-Some.operand (done_of c.loop-operand.work) (done_of c.in_ok-done.done) u.kids (subst (λ (l : List Node). slice_get l c.loop-operand.place ≡ Some c.in-Some.operand) (c.as_slice-listed.ensures ∙ c.in_ok-operands.ensures.operands.2) (sym c.node_at.ensures.there ∙ c.in-Some.is)) (ops_at (map g.R.OptimizationRule.kind_of c.visit_both_expr.new.rules ++ map g.Q.OptimizationRule.kind_of c.visit_both_expr.new.extra) c.args.lp.now c.visit_both_expr.new.ex c.loop-operand.ex c.args.lp_node c.as_slice-listed.result.now (operands_of c.in_ok-operands.ensures.operands.0) c.loop-operand.place (done_of c.loop-operand.work) (c.as_slice-listed.ensures ∙ c.in_ok-operands.ensures.operands.2) c.loop-operand.invariant.left) u.stand u.stays.plan u.listed (rw (c.loop-operand.invariant.kinds, c.loop-operand.invariant.extra_kinds) at c.in_ok-done.ensures.tended)) in
    omega (arith, k, c.requires.fits)

pub loop-operand-smaller : goal.loop-operand-smaller
loop-operand-smaller g t c = let within = slice_get_within c.as_slice-listed.result.now c.loop-operand.place c.in-Some.operand (sym c.node_at.ensures.there ∙ c.in-Some.is) in omega (arith, within)

pub loop-operand-preserved : goal.loop-operand-preserved
loop-operand-preserved g t c =
    let u = at_start (map g.R.OptimizationRule.kind_of c.args.rules.now ++ map g.Q.OptimizationRule.kind_of c.args.extra.now) c.args.lp.now c.args.ex.now c.visit_both_expr.new.ex c.args.lp_node c.args.expr_node c.in_ok-operands.ensures.operands.0 (done_of c.in_ok-above.above) c.requires.plan c.requires.listed c.in_ok-above.ensures.tended c.in_ok-operands.ensures.operands.1 in
    record {
      kinds = c.in_ok-done.ensures.kinds ∙ c.loop-operand.invariant.kinds;
      owns = c.in_ok-done.ensures.owns ∙ c.loop-operand.invariant.owns;
      extra_kinds = c.in_ok-done.ensures.extra_kinds ∙ c.loop-operand.invariant.extra_kinds;
      extra_owns = c.in_ok-done.ensures.extra_owns ∙ c.loop-operand.invariant.extra_owns;
      longer = omega (arith, c.in_ok-done.ensures.longer, c.loop-operand.invariant.longer);
      left = rw c.and-work.ensures (ops_at (map g.R.OptimizationRule.kind_of c.visit_both_expr.new.rules ++ map g.Q.OptimizationRule.kind_of c.visit_both_expr.new.extra) c.args.lp.now c.visit_both_expr.new.ex c.walk_expr.new.ex c.args.lp_node (operands_of c.in_ok-operands.ensures.operands.0) c.as_slice-listed.result.now (c.loop-operand.place + 1) (both (done_of c.loop-operand.work) (done_of c.in_ok-done.done)) (sym (c.as_slice-listed.ensures ∙ c.in_ok-operands.ensures.operands.2)) (ops_next (map g.R.OptimizationRule.kind_of c.visit_both_expr.new.rules ++ map g.Q.OptimizationRule.kind_of c.visit_both_expr.new.extra) c.args.lp.now c.visit_both_expr.new.ex c.loop-operand.ex c.walk_expr.new.ex c.args.lp_node c.args.expr_node c.in_ok-operands.ensures.operands.0 c.loop-operand.place c.in-Some.operand (done_of c.loop-operand.work) (done_of c.in_ok-done.done) u.kids (subst (λ (l : List Node). slice_get l c.loop-operand.place ≡ Some c.in-Some.operand) (c.as_slice-listed.ensures ∙ c.in_ok-operands.ensures.operands.2) (sym c.node_at.ensures.there ∙ c.in-Some.is)) (ops_at (map g.R.OptimizationRule.kind_of c.visit_both_expr.new.rules ++ map g.Q.OptimizationRule.kind_of c.visit_both_expr.new.extra) c.args.lp.now c.visit_both_expr.new.ex c.loop-operand.ex c.args.lp_node c.as_slice-listed.result.now (operands_of c.in_ok-operands.ensures.operands.0) c.loop-operand.place (done_of c.loop-operand.work) (c.as_slice-listed.ensures ∙ c.in_ok-operands.ensures.operands.2) c.loop-operand.invariant.left) u.stand u.stays.plan u.listed (rw (c.loop-operand.invariant.kinds, c.loop-operand.invariant.extra_kinds) at c.in_ok-done.ensures.tended)));
      told = λ o. c.in_ok-done.ensures.told (ap₂ (λ (x y : List Bool). all_own (x ++ y)) c.loop-operand.invariant.owns c.loop-operand.invariant.extra_owns ∙ o) ∙ c.loop-operand.invariant.told o;
    }

pub and-requires : goal.and-requires
and-requires g t c =
    let u = at_start (map g.R.OptimizationRule.kind_of c.args.rules.now ++ map g.Q.OptimizationRule.kind_of c.args.extra.now) c.args.lp.now c.args.ex.now c.visit_both_expr.new.ex c.args.lp_node c.args.expr_node c.in_ok-operands.ensures.operands.0 (done_of c.in_ok-above.above) c.requires.plan c.requires.listed c.in_ok-above.ensures.tended c.in_ok-operands.ensures.operands.1 in
    let k = ops_fits (map g.R.OptimizationRule.kind_of c.args.rules.now ++ map g.Q.OptimizationRule.kind_of c.args.extra.now) (map g.R.OptimizationRule.kind_of c.visit_both_expr.new.rules ++ map g.Q.OptimizationRule.kind_of c.visit_both_expr.new.extra) c.args.lp.now c.args.ex.now c.visit_both_expr.new.ex c.loop-operand.ex c.args.lp_node c.args.expr_node c.in_ok-operands.ensures.operands.0 c.requires.plan.nodes c.requires.plan.exprs (start_tree c.args.lp.now c.args.ex.now c.args.lp_node c.args.expr_node c.requires.listed).0 c.loop-operand.place (done_of c.in_ok-above.above) (done_of c.loop-operand.work) u (ops_at (map g.R.OptimizationRule.kind_of c.visit_both_expr.new.rules ++ map g.Q.OptimizationRule.kind_of c.visit_both_expr.new.extra) c.args.lp.now c.visit_both_expr.new.ex c.loop-operand.ex c.args.lp_node c.as_slice-listed.result.now (operands_of c.in_ok-operands.ensures.operands.0) c.loop-operand.place (done_of c.loop-operand.work) (c.as_slice-listed.ensures ∙ c.in_ok-operands.ensures.operands.2) c.loop-operand.invariant.left) in
    omega (arith, k, c.requires.fits)

pub returns-clause-tended : goal.returns-clause-tended
returns-clause-tended g t c = λ f e q h s.
    let u = at_expr (map g.R.OptimizationRule.kind_of c.args.rules.now ++ map g.Q.OptimizationRule.kind_of c.args.extra.now) c.args.lp.now c.args.ex.now c.visit_both_expr.new.ex c.args.lp_node c.args.expr_node c.in_ok-operands.ensures.operands.0 f e q (done_of c.in_ok-above.above) h c.requires.listed s (c.in_ok-above.ensures.tended f e q h s) c.in_ok-operands.ensures.operands.1 in
    rw c.and.ensures (ops_end (map g.R.OptimizationRule.kind_of c.args.rules.now ++ map g.Q.OptimizationRule.kind_of c.args.extra.now) c.args.lp.now c.args.ex.now c.visit_both_expr.new.ex c.loop-operand.ex c.args.lp_node c.args.expr_node c.in_ok-operands.ensures.operands.0 f e q c.loop-operand.place (done_of c.in_ok-above.above) (done_of c.loop-operand.work) u (rw (c.in_ok-above.ensures.kinds, c.in_ok-above.ensures.extra_kinds) at (ops_at (map g.R.OptimizationRule.kind_of c.visit_both_expr.new.rules ++ map g.Q.OptimizationRule.kind_of c.visit_both_expr.new.extra) c.args.lp.now c.visit_both_expr.new.ex c.loop-operand.ex c.args.lp_node c.as_slice-listed.result.now (operands_of c.in_ok-operands.ensures.operands.0) c.loop-operand.place (done_of c.loop-operand.work) (c.as_slice-listed.ensures ∙ c.in_ok-operands.ensures.operands.2) c.loop-operand.invariant.left)))

pub returns-clause-told : goal.returns-clause-told
returns-clause-told g t c = λ o. c.loop-operand.invariant.told (ap₂ (λ (x y : List Bool). all_own (x ++ y)) c.in_ok-above.ensures.owns c.in_ok-above.ensures.extra_owns ∙ o) ∙ c.in_ok-above.ensures.told o
