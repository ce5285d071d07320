use Rattle.std.proofs.Common.{arith, ◌≡◌, ◌+◌, ◌<◌, ◌≤◌, ◌^◌, [], ◌∷◌, ◌++◌, refl, ◌∙◌, map, take, List, get_or, subst, length, ap, true}
use Rattle.plan_meaning.specs.PlanAt.{plan_at}
use Rattle.plan_pass_laws.specs.declared.kind.RuleKind.{RuleKind}
use Rattle.plan_pass_laws.specs.Settling.{both}
use Rattle.plan_pass_laws.specs.Weights.{weight}
use Rattle.plan_reshape.specs.Walking.{all_own, done_of}
use Rattle.plan_reshape.proofs.Visits.{map_set, take_map, take_map_all}
use Rattle.plan_reshape.proofs.Tends.{TriedExpr, expr_first, expr_next, expr_stays, expr_then}
use Rattle.plan_reshape.proofs.Told.{own_at}
use Rattle.plan_reshape.proofs.exprs.visit_expr.Goals as goal

pub loop-i-init : goal.loop-i-init
loop-i-init g c = record { kinds = refl; owns = refl; longer = omega arith; tried = rw c.none-work.ensures (expr_first (take 0 (map g.R.OptimizationRule.kind_of c.args.rules.now)) c.args.lp.now c.args.ex.now c.args.lp_node c.args.expr_node c.requires.valid); told = λ o. refl }

pub apply_expr-requires-clause-plan : goal.apply_expr-requires-clause-plan
apply_expr-requires-clause-plan g c = (expr_stays (take c.loop-i.i (map g.R.OptimizationRule.kind_of c.args.rules.now)) c.args.lp.now c.args.ex.now c.loop-i.ex c.args.lp_node c.args.expr_node (done_of c.loop-i.work) c.requires.plan c.requires.listed c.loop-i.invariant.tried).stays.plan

pub apply_expr-requires-clause-valid : goal.apply_expr-requires-clause-valid
apply_expr-requires-clause-valid g c = (expr_stays (take c.loop-i.i (map g.R.OptimizationRule.kind_of c.args.rules.now)) c.args.lp.now c.args.ex.now c.loop-i.ex c.args.lp_node c.args.expr_node (done_of c.loop-i.work) c.requires.plan c.requires.listed c.loop-i.invariant.tried).stays.valid

pub apply_expr-requires-clause-listed : goal.apply_expr-requires-clause-listed
apply_expr-requires-clause-listed g c = (expr_stays (take c.loop-i.i (map g.R.OptimizationRule.kind_of c.args.rules.now)) c.args.lp.now c.args.ex.now c.loop-i.ex c.args.lp_node c.args.expr_node (done_of c.loop-i.work) c.requires.plan c.requires.listed c.loop-i.invariant.tried).listed

pub apply_expr-requires-clause-fits : goal.apply_expr-requires-clause-fits
apply_expr-requires-clause-fits g c = let s = (expr_stays (take c.loop-i.i (map g.R.OptimizationRule.kind_of c.args.rules.now)) c.args.lp.now c.args.ex.now c.loop-i.ex c.args.lp_node c.args.expr_node (done_of c.loop-i.work) c.requires.plan c.requires.listed c.loop-i.invariant.tried).stays.weighs in omega (arith, s, c.requires.fits)

pub returns-in_err-done-clause-kinds : goal.returns-in_err-done-clause-kinds
returns-in_err-done-clause-kinds g c = map_set g.R.OptimizationRule.kind_of c.loop-i.rules c.loop-i.i c.index-rules-i.result c.apply_expr.new.rule c.in_err-done.ensures.kind ∙ c.loop-i.invariant.kinds

pub returns-in_err-done-clause-owns : goal.returns-in_err-done-clause-owns
returns-in_err-done-clause-owns g c = map_set g.R.OptimizationRule.is_own c.loop-i.rules c.loop-i.i c.index-rules-i.result c.apply_expr.new.rule c.in_err-done.ensures.own ∙ c.loop-i.invariant.owns

pub and-work-requires : goal.and-work-requires
and-work-requires g c =
    let next = expr_then (take c.loop-i.i (map g.R.OptimizationRule.kind_of c.args.rules.now)) ((g.R.OptimizationRule.kind_of (get_or c.loop-i.rules c.loop-i.i c.index-rules-i.result)) ∷ []) c.args.lp.now c.args.ex.now c.loop-i.ex c.apply_expr.new.ex c.args.lp_node c.args.expr_node (done_of c.loop-i.work) (done_of c.in_ok-done.done) c.requires.listed c.loop-i.invariant.tried c.in_ok-done.ensures.tended in
    let s = (expr_stays (take c.loop-i.i (map g.R.OptimizationRule.kind_of c.args.rules.now) ++ (g.R.OptimizationRule.kind_of (get_or c.loop-i.rules c.loop-i.i c.index-rules-i.result)) ∷ []) c.args.lp.now c.args.ex.now c.apply_expr.new.ex c.args.lp_node c.args.expr_node (both (done_of c.loop-i.work) (done_of c.in_ok-done.done)) c.requires.plan c.requires.listed next).stays.weighs in
    omega (arith, s, c.requires.fits)

pub loop-i-preserved : goal.loop-i-preserved
loop-i-preserved g c =
    let kinds : List RuleKind = (map g.R.OptimizationRule.kind_of c.args.rules.now) in
    let more : take (c.loop-i.i + 1) kinds ≡ take c.loop-i.i kinds ++ (g.R.OptimizationRule.kind_of (get_or c.loop-i.rules c.loop-i.i c.index-rules-i.result)) ∷ [] =
    rw (← c.loop-i.invariant.kinds) (take_map g.R.OptimizationRule.kind_of c.loop-i.rules c.loop-i.i c.index-rules-i.result (omega (arith, c.loop-i-test.true, c.loop-i.auto.rules))) in
    record {
      kinds = map_set g.R.OptimizationRule.kind_of c.loop-i.rules c.loop-i.i c.index-rules-i.result c.apply_expr.new.rule c.in_ok-done.ensures.kind ∙ c.loop-i.invariant.kinds;
      owns = map_set g.R.OptimizationRule.is_own c.loop-i.rules c.loop-i.i c.index-rules-i.result c.apply_expr.new.rule c.in_ok-done.ensures.own ∙ c.loop-i.invariant.owns;
      longer = omega (arith, c.in_ok-done.ensures.longer, c.loop-i.invariant.longer);
      tried = rw c.and-work.ensures (expr_next kinds c.loop-i.i (g.R.OptimizationRule.kind_of (get_or c.loop-i.rules c.loop-i.i c.index-rules-i.result)) c.args.lp.now c.args.ex.now c.loop-i.ex c.apply_expr.new.ex c.args.lp_node c.args.expr_node (done_of c.loop-i.work) (done_of c.in_ok-done.done) more c.requires.listed c.loop-i.invariant.tried c.in_ok-done.ensures.tended);
      told = λ o. c.in_ok-done.ensures.told (own_at g.R.OptimizationRule.is_own c.loop-i.rules c.loop-i.i c.index-rules-i.result (ap all_own c.loop-i.invariant.owns ∙ o) (omega (arith, c.loop-i-test.true, c.loop-i.auto.rules))) ∙ c.loop-i.invariant.told o;
    }

pub returns-clause-tended : goal.returns-clause-tended
returns-clause-tended g c =
    let kinds : List RuleKind = (map g.R.OptimizationRule.kind_of c.args.rules.now) in
    let e : take c.loop-i.i kinds ≡ kinds = take_map_all g.R.OptimizationRule.kind_of c.args.rules.now c.loop-i.i c.loop-i-test.false in
    (subst (λ (ks : List RuleKind). TriedExpr ks c.args.lp.now c.args.ex.now c.loop-i.ex c.args.lp_node c.args.expr_node (done_of c.loop-i.work)) e c.loop-i.invariant.tried).done

pub returns-clause-told : goal.returns-clause-told
returns-clause-told g c = c.loop-i.invariant.told
