-- The values, one for one.
use Rattle.std.proofs.Common.{rules}
use Rattle.plan_text_pieces.specs.Cells.{single_data}
use Rattle.plan_text_values.proofs.ListLemmas.{each_is_written}
use Rattle.plan_text_values.proofs.cells.singles.Goals as goal

pub returns : goal.returns
returns c = each_is_written single_data c.in_ok-written.ensures (λ x r p. search rules)
