use Rattle.std.proofs.Common.{rules}
use Rattle.plan_doc_parts.specs.Values.{single_value_of, single_values_of}
use Rattle.plan_doc_parts.proofs.PairLemmas.{each_is_read}
use Rattle.plan_doc_parts.proofs.values.single_values.Goals as goal

pub returns : goal.returns
unfolding single_values_of
returns c = rw c.in_ok-entries.ensures (each_is_read (single_value_of c.args.plain) c.each.ensures (λ v r p. search rules))
