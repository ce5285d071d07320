use Rattle.plan_meaning.proofs.ChosenMay.{chosen-may}
use Rattle.plan_meaning.proofs.choice_laws.chosen_frames_may_be.Goals as goal

pub returns : goal.returns
returns c = chosen-may
