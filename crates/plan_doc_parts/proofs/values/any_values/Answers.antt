use Rattle.std.proofs.Common.{rules}
use Rattle.plan_doc_parts.specs.Values.{any_value_of, any_values_of}
use Rattle.plan_doc_parts.proofs.PairLemmas.{each_is_read}
use Rattle.plan_doc_parts.proofs.values.any_values.Goals as goal

pub returns : goal.returns
unfolding any_values_of
returns c = rw c.in_ok-entries.ensures (each_is_read (any_value_of c.args.dtype) c.each.ensures (λ v r p. search rules))
