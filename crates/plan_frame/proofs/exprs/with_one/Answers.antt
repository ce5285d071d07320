use Rattle.plan_frame.proofs.ExprSteps.{more_third, more_past}
use Rattle.plan_frame.proofs.exprs.with_one.Goals as goal

pub returns-in_default-default-None : goal.returns-in_default-default-None
returns-in_default-default-None c = λ ts e. more_third c.args.types c.args.dtype ts e c.in_default-default-None.not-None-1 c.in_default-default-None.is-2

pub returns-in_default : goal.returns-in_default
returns-in_default c = λ ts e. more_past c.args.types c.args.dtype ts e c.in_default.not-None-2
