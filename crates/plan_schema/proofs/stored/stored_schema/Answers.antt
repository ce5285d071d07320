use Rattle.plan_schema.proofs.StoredNodes.{tells_valid}
use Rattle.plan_schema.proofs.stored.stored_schema.Goals as goal

pub returns-clause-valid : goal.returns-clause-valid
returns-clause-valid c = tells_valid c.stored.result c.args.lp.now c.args.node c.stored.ensures
