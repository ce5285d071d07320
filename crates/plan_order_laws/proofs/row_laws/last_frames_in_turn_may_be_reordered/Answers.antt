use Rattle.plan_order_laws.proofs.TurnRows.{last_reordered}
use Rattle.plan_order_laws.proofs.row_laws.last_frames_in_turn_may_be_reordered.Goals as goal

pub returns : goal.returns
returns c = λ s fs gs has loose. last_reordered s fs gs has loose
