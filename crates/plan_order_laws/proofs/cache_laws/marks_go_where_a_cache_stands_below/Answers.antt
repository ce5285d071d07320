use Rattle.plan_order_laws.proofs.StateMarks.{states_marks}
use Rattle.plan_order_laws.proofs.cache_laws.marks_go_where_a_cache_stands_below.Goals as goal

pub returns : goal.returns
returns c = λ differ ids p v. states_marks differ ids p v
