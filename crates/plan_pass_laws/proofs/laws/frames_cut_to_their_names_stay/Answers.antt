use Rattle.plan_pass_laws.proofs.WholeCuts.{cut_whole}
use Rattle.plan_pass_laws.proofs.laws.frames_cut_to_their_names_stay.Goals as goal

pub returns : goal.returns
returns c = λ g s has d. cut_whole g s has d
