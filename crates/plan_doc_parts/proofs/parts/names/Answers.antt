use Rattle.std.proofs.Common.{rules}
use Rattle.plan_doc_parts.specs.Parts.{name_of, names_of}
use Rattle.plan_doc_parts.proofs.PairLemmas.{each_is_read}
use Rattle.plan_doc_parts.proofs.parts.names.Goals as goal

pub returns : goal.returns
unfolding names_of
returns c = rw c.in_ok-entries.ensures (each_is_read name_of c.each.ensures (λ v r p. search rules))
