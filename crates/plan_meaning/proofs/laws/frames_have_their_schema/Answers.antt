use Rattle.plan_meaning.proofs.Runs.{may_has}
use Rattle.plan_meaning.proofs.laws.frames_have_their_schema.Goals as goal

pub returns : goal.returns
returns c = λ d p f v fit m. may_has d p f v fit m
