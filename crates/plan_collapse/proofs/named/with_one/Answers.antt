use Rattle.std.proofs.Common.{◌∙◌, Some, ap, sym}
use Rattle.plan_options.specs.declared.join.InequalityOperator.{InequalityOperator}
use Rattle.plan_collapse.proofs.OperatorLemmas.{told-first, told-next, told-same}
use Rattle.plan_collapse.proofs.named.with_one.Goals as goal

pub returns-in_default : goal.returns-in_default
returns-in_default c = λ ks k is h. told-same ks k c.args.op c.args.told is h (sym c.inequality_of.ensures ∙ c.in_default.is)

pub returns-in-None : goal.returns-in-None
returns-in-None c = λ ks k is h. told-first ks k c.args.op c.args.told is h c.in-Some.inequality (sym c.inequality_of.ensures ∙ c.in-Some.is) c.in-None.is

pub returns-in-Some-told : goal.returns-in-Some-told
returns-in-Some-told c = λ ks k is h. ap (λ (o : InequalityOperator). Some (record { operator1 = c.in-Some-told.told.operator1; operator2 = Some o })) c.unwrap_or.ensures ∙ told-next ks k c.args.op c.args.told is h c.in-Some.inequality (sym c.inequality_of.ensures ∙ c.in-Some.is) c.in-Some-told.told c.in-Some-told.is
