use Rattle.plan_round_trip.proofs.Reading.{read_canonical}
use Rattle.plan_round_trip.proofs.laws.values_of_texts_are_canonical.Goals as goal

pub returns : goal.returns
returns c = λ text d read. read_canonical text d read
