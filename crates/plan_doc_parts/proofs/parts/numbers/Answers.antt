use Rattle.std.proofs.Common.{rules}
use Rattle.plan_doc_parts.specs.Parts.{number_of, numbers_of}
use Rattle.plan_doc_parts.proofs.PairLemmas.{each_is_read}
use Rattle.plan_doc_parts.proofs.parts.numbers.Goals as goal

pub returns : goal.returns
unfolding numbers_of
returns c = rw c.in_ok-entries.ensures (each_is_read number_of c.each.ensures (λ v r p. search rules))
