-- The numbers, one for one.
use Rattle.std.proofs.Common.{rules}
use Rattle.plan_text_pieces.specs.Values.{number_data}
use Rattle.plan_text_values.proofs.ListLemmas.{each_is_written}
use Rattle.plan_text_values.proofs.values.numbers.Goals as goal

pub returns : goal.returns
returns c = each_is_written number_data c.in_ok-written.ensures (λ x r p. search rules)
