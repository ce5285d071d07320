use Rattle.plan_order_laws.proofs.CountSources.{counted_fit}
use Rattle.plan_order_laws.proofs.CountedRows.{counted_high}
use Rattle.plan_order_laws.proofs.count_laws.counted_rows_are_those_of_the_scans.Goals as goal

pub returns-clause-high : goal.returns-clause-high
returns-clause-high c = λ contents p f xs e may. counted_high contents p f xs e may

pub returns-clause-fit : goal.returns-clause-fit
returns-clause-fit c = λ contents p xs e fit. counted_fit contents p xs e fit
