use Rattle.std.proofs.Common.{rules}
use Rattle.plan_doc.specs.Document.{exprs_of}
use Rattle.plan_doc.specs.Exprs.{expr_of}
use Rattle.plan_doc_parts.proofs.PairLemmas.{each_is_read}
use Rattle.plan_doc.proofs.document.exprs.Goals as goal

pub returns : goal.returns
unfolding exprs_of
returns c = rw c.in_ok-entries.ensures (each_is_read expr_of c.arena_of_each.ensures (λ v r p. search rules))
