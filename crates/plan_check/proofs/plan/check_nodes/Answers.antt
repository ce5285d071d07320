use Rattle.std.proofs.Common.{Ok}
use Rattle.plan_check.proofs.TypedLemmas.{plan_answer}
use Rattle.plan_meaning.proofs.Validity.{typed_valid}
use Rattle.plan_check.proofs.plan.check_nodes.Goals as goal

pub returns-clause-valid : goal.returns-clause-valid
returns-clause-valid c =
    (typed_valid c.args.lp.now c.args.ex.now c.args.root c.requires.stands c.in_ok-schema_of.field-0 (plan_answer c.args.lp.now c.args.ex.now c.args.root c.requires.numbers (Ok c.in_ok-schema_of.field-0) c.in_ok-schema_of.ensures)).0
