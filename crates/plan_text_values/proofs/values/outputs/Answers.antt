-- The expressions, one for one.
use Rattle.std.proofs.Common.{rules}
use Rattle.plan_text_pieces.specs.Values.{output_data}
use Rattle.plan_text_values.proofs.ListLemmas.{each_is_written}
use Rattle.plan_text_values.proofs.values.outputs.Goals as goal

pub returns : goal.returns
returns c = each_is_written output_data c.in_ok-written.ensures (λ x r p. search rules)
