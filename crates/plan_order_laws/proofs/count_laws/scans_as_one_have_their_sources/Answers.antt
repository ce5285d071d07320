use Rattle.plan_order_laws.proofs.CountSources.{sources_rows, together_sources}
use Rattle.plan_order_laws.proofs.count_laws.scans_as_one_have_their_sources.Goals as goal

pub returns-clause-sources : goal.returns-clause-sources
returns-clause-sources c = λ xs z e. together_sources xs z e

pub returns-clause-rows : goal.returns-clause-rows
returns-clause-rows c = λ contents xs. sources_rows contents xs
