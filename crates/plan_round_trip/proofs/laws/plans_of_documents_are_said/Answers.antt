use Rattle.plan_round_trip.proofs.Documents.{text_said}
use Rattle.plan_round_trip.proofs.laws.plans_of_documents_are_said.Goals as goal

pub returns : goal.returns
returns c = λ bytes doc read. text_said bytes doc read
