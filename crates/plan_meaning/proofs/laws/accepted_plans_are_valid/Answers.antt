use Rattle.plan_meaning.proofs.Validity.{typed_valid, valid_typed}
use Rattle.plan_meaning.proofs.laws.accepted_plans_are_valid.Goals as goal

pub returns : goal.returns
returns c = record {
  valid = λ lp ex root s h e. (typed_valid lp ex root h s e).0;
  schema = λ lp ex root s h e. (typed_valid lp ex root h s e).1;
  accepted = λ lp ex root h good v. valid_typed lp ex root h good v;
}
