use Rattle.std.proofs.Common.{arith, ◌≡◌, ◌+◌, ◌<◌, ◌≤◌, ◌^◌, ◌++◌, ◌∙◌, map, length, refl}
use Rattle.plan_meaning.specs.PlanAt.{plan_at}
use Rattle.plan_rule.proofs.Listed.{listed_inside}
use Rattle.plan_pass_laws.specs.Settling.{both}
use Rattle.plan_pass_laws.specs.Weights.{weight}
use Rattle.plan_reshape.specs.Walking.{done_of}
use Rattle.plan_reshape.proofs.Told.{own_join}
use Rattle.plan_reshape.proofs.Tends.{TriedExpr, expr_first, expr_stays, expr_then}
use Rattle.plan_reshape.proofs.exprs.visit_both_expr.Goals as goal

pub get-requires : goal.get-requires
get-requires g c = listed_inside c.args.lp.now c.args.ex.now c.args.lp_node c.args.expr_node c.requires.listed

pub returns-then-not-is_asked-clause-tended : goal.returns-then-not-is_asked-clause-tended
returns-then-not-is_asked-clause-tended g c = rw c.none.ensures ((expr_first ((map g.R.OptimizationRule.kind_of c.args.rules.now) ++ (map g.Q.OptimizationRule.kind_of c.args.extra.now)) c.args.lp.now c.args.ex.now c.args.lp_node c.args.expr_node c.requires.valid).done)

pub visit_expr-requires-2-clause-plan : goal.visit_expr-requires-2-clause-plan
visit_expr-requires-2-clause-plan g c = (expr_stays (map g.R.OptimizationRule.kind_of c.args.rules.now) c.args.lp.now c.args.ex.now c.visit_expr.new.ex c.args.lp_node c.args.expr_node (done_of c.in_ok-first.first) c.requires.plan c.requires.listed (record { done = c.in_ok-first.ensures.tended })).stays.plan

pub visit_expr-requires-2-clause-valid : goal.visit_expr-requires-2-clause-valid
visit_expr-requires-2-clause-valid g c = (expr_stays (map g.R.OptimizationRule.kind_of c.args.rules.now) c.args.lp.now c.args.ex.now c.visit_expr.new.ex c.args.lp_node c.args.expr_node (done_of c.in_ok-first.first) c.requires.plan c.requires.listed (record { done = c.in_ok-first.ensures.tended })).stays.valid

pub visit_expr-requires-2-clause-listed : goal.visit_expr-requires-2-clause-listed
visit_expr-requires-2-clause-listed g c = (expr_stays (map g.R.OptimizationRule.kind_of c.args.rules.now) c.args.lp.now c.args.ex.now c.visit_expr.new.ex c.args.lp_node c.args.expr_node (done_of c.in_ok-first.first) c.requires.plan c.requires.listed (record { done = c.in_ok-first.ensures.tended })).listed

pub visit_expr-requires-2-clause-fits : goal.visit_expr-requires-2-clause-fits
visit_expr-requires-2-clause-fits g c = let s = (expr_stays (map g.R.OptimizationRule.kind_of c.args.rules.now) c.args.lp.now c.args.ex.now c.visit_expr.new.ex c.args.lp_node c.args.expr_node (done_of c.in_ok-first.first) c.requires.plan c.requires.listed (record { done = c.in_ok-first.ensures.tended })).stays.weighs in omega (arith, s, c.requires.fits)

pub and-requires : goal.and-requires
and-requires g c = let s = (expr_stays ((map g.R.OptimizationRule.kind_of c.args.rules.now) ++ (map g.Q.OptimizationRule.kind_of c.args.extra.now)) c.args.lp.now c.args.ex.now c.visit_expr-2.new.ex c.args.lp_node c.args.expr_node (both (done_of c.in_ok-first.first) (done_of c.in_ok-second.second)) c.requires.plan c.requires.listed (expr_then (map g.R.OptimizationRule.kind_of c.args.rules.now) (map g.Q.OptimizationRule.kind_of c.args.extra.now) c.args.lp.now c.args.ex.now c.visit_expr.new.ex c.visit_expr-2.new.ex c.args.lp_node c.args.expr_node (done_of c.in_ok-first.first) (done_of c.in_ok-second.second) c.requires.listed (record { done = c.in_ok-first.ensures.tended }) c.in_ok-second.ensures.tended)).stays.weighs in omega (arith, s, c.requires.fits)

pub returns-clause-tended : goal.returns-clause-tended
returns-clause-tended g c = rw c.and.ensures ((expr_then (map g.R.OptimizationRule.kind_of c.args.rules.now) (map g.Q.OptimizationRule.kind_of c.args.extra.now) c.args.lp.now c.args.ex.now c.visit_expr.new.ex c.visit_expr-2.new.ex c.args.lp_node c.args.expr_node (done_of c.in_ok-first.first) (done_of c.in_ok-second.second) c.requires.listed (record { done = c.in_ok-first.ensures.tended }) c.in_ok-second.ensures.tended).done)

pub returns-clause-told : goal.returns-clause-told
returns-clause-told g c = λ o.
    let owns = own_join (map g.R.OptimizationRule.is_own c.args.rules.now) (map g.Q.OptimizationRule.is_own c.args.extra.now) o in
    c.in_ok-second.ensures.told owns.1 ∙ c.in_ok-first.ensures.told owns.0
