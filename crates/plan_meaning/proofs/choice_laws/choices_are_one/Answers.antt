use Rattle.plan_meaning.proofs.OneFrame.{choices-one}
use Rattle.plan_meaning.proofs.choice_laws.choices_are_one.Goals as goal

pub returns : goal.returns
returns c = choices-one
