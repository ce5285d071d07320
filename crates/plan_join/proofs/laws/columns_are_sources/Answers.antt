use Rattle.plan_join.proofs.OriginLemmas.{columns-sources}
use Rattle.plan_join.proofs.laws.columns_are_sources.Goals as goal

pub returns : goal.returns
returns c = columns-sources
