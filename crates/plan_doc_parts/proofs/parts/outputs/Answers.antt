use Rattle.std.proofs.Common.{rules}
use Rattle.plan_doc_parts.specs.Parts.{output_of, outputs_of}
use Rattle.plan_doc_parts.proofs.PairLemmas.{each_is_read}
use Rattle.plan_doc_parts.proofs.parts.outputs.Goals as goal

pub returns : goal.returns
unfolding outputs_of
returns c = rw c.in_ok-entries.ensures (each_is_read output_of c.each.ensures (λ v r p. search rules))
