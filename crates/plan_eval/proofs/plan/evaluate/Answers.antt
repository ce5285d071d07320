use Rattle.plan_fit.specs.Sources.{contents_of}
use Rattle.plan_eval.proofs.PlanLemmas.{plan-chooses, plans-fit, plans-valid, plan-may, plan-types, plan-rows}
use Rattle.plan_eval.proofs.plan.evaluate.Goals as goal

pub plan_table-requires-clause-valid : goal.plan_table-requires-clause-valid
plan_table-requires-clause-valid c = plans-valid c.args.lp.now c.args.ex.now c.args.root c.requires.stands c.requires.valid

pub plan_table-requires-clause-fits : goal.plan_table-requires-clause-fits
plan_table-requires-clause-fits c = plans-fit c.args.lp.now c.args.ex.now c.args.root c.requires.stands (contents_of c.args.tables.now) c.requires.fits

pub returns-clause-may : goal.returns-clause-may
returns-clause-may c = plan-may c.args.lp.now c.args.ex.now c.args.root c.requires.stands c.args.tables.now c.in_ok-plan_table.field-0 c.in_ok-plan_table.ensures

pub returns-clause-choice : goal.returns-clause-choice
returns-clause-choice c = plan-chooses c.args.lp.now c.args.ex.now c.args.root c.requires.stands c.args.tables.now c.in_ok-plan_table.field-0 c.in_ok-plan_table.ensures

pub returns-clause-types : goal.returns-clause-types
returns-clause-types c = plan-types c.args.lp.now c.args.ex.now c.args.root c.requires.stands c.args.tables.now c.in_ok-plan_table.field-0 c.in_ok-plan_table.ensures

pub returns-clause-rows : goal.returns-clause-rows
returns-clause-rows c = plan-rows c.args.lp.now c.args.ex.now c.args.root c.requires.stands c.args.tables.now c.in_ok-plan_table.field-0 c.in_ok-plan_table.ensures c.requires.valid c.requires.fits
