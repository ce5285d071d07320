use Rattle.std.proofs.Common.{arith, ◌≡◌, ◌+◌, ◌<◌, ◌≤◌, ◌^◌, ◌++◌, map, length}
use Rattle.plan_meaning.specs.Marks.{unmarked}
use Rattle.plan_meaning.specs.PlanAt.{plan_at}
use Rattle.plan_pass_laws.specs.Settling.{both}
use Rattle.plan_pass_laws.specs.Weights.{weight}
use Rattle.plan_reshape.specs.Walking.{done_of}
use Rattle.plan_reshape.proofs.Told.{own_join, until_then}
use Rattle.plan_reshape.proofs.Visits.{visited_stays, visited_then}
use Rattle.plan_reshape.proofs.nodes.visit_both.Goals as goal

pub visit-requires-2-clause-plan : goal.visit-requires-2-clause-plan
visit-requires-2-clause-plan g c = (visited_stays (map g.R.OptimizationRule.kind_of c.args.rules.now) c.args.lp.now c.visit.new.lp c.args.ex.now c.visit.new.ex c.args.node (done_of c.in_ok-first.first) c.requires.plan (record { done = c.in_ok-first.ensures.visited })).plan

pub visit-requires-2-clause-valid : goal.visit-requires-2-clause-valid
visit-requires-2-clause-valid g c = (visited_stays (map g.R.OptimizationRule.kind_of c.args.rules.now) c.args.lp.now c.visit.new.lp c.args.ex.now c.visit.new.ex c.args.node (done_of c.in_ok-first.first) c.requires.plan (record { done = c.in_ok-first.ensures.visited })).valid

pub visit-requires-2-clause-fits : goal.visit-requires-2-clause-fits
visit-requires-2-clause-fits g c = let s = (visited_stays (map g.R.OptimizationRule.kind_of c.args.rules.now) c.args.lp.now c.visit.new.lp c.args.ex.now c.visit.new.ex c.args.node (done_of c.in_ok-first.first) c.requires.plan (record { done = c.in_ok-first.ensures.visited })).weighs in omega (arith, s, c.requires.fits)

pub and-requires : goal.and-requires
and-requires g c = let s = (visited_stays ((map g.R.OptimizationRule.kind_of c.args.rules.now) ++ (map g.Q.OptimizationRule.kind_of c.args.extra.now)) c.args.lp.now c.visit-2.new.lp c.args.ex.now c.visit-2.new.ex c.args.node (both (done_of c.in_ok-first.first) (done_of c.in_ok-second.second)) c.requires.plan (visited_then (map g.R.OptimizationRule.kind_of c.args.rules.now) (map g.Q.OptimizationRule.kind_of c.args.extra.now) c.args.lp.now c.visit.new.lp c.visit-2.new.lp c.args.ex.now c.visit.new.ex c.visit-2.new.ex c.args.node (done_of c.in_ok-first.first) (done_of c.in_ok-second.second) (record { done = c.in_ok-first.ensures.visited }) c.in_ok-second.ensures.visited)).weighs in omega (arith, s, c.requires.fits)

pub returns-clause-visited : goal.returns-clause-visited
returns-clause-visited g c = rw c.and.ensures ((visited_then (map g.R.OptimizationRule.kind_of c.args.rules.now) (map g.Q.OptimizationRule.kind_of c.args.extra.now) c.args.lp.now c.visit.new.lp c.visit-2.new.lp c.args.ex.now c.visit.new.ex c.visit-2.new.ex c.args.node (done_of c.in_ok-first.first) (done_of c.in_ok-second.second) (record { done = c.in_ok-first.ensures.visited }) c.in_ok-second.ensures.visited).done)

pub returns-clause-told : goal.returns-clause-told
returns-clause-told g c = λ o.
    let owns = own_join (map g.R.OptimizationRule.is_own c.args.rules.now) (map g.Q.OptimizationRule.is_own c.args.extra.now) o in
    until_then (map g.R.OptimizationRule.kind_of c.args.rules.now) (map g.Q.OptimizationRule.kind_of c.args.extra.now) (unmarked (plan_at c.args.lp.now c.args.ex.now c.args.node)) (unmarked (plan_at c.visit.new.lp c.visit.new.ex c.args.node)) (unmarked (plan_at c.visit-2.new.lp c.visit-2.new.ex c.args.node)) (c.in_ok-first.ensures.told owns.0) (c.in_ok-second.ensures.told owns.1)
