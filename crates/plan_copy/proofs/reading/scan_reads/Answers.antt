use Rattle.std.proofs.Common.{◌∙◌, ◌++◌, ◌∷◌, [], ap₂, sym, List, ℕ}
use Rattle.plan_copy.proofs.ReadLemmas.{scan_reads-more, scan_reads-same}
use Rattle.plan_copy.proofs.reading.scan_reads.Goals.{then-is_scan+in_ok-reads+in_ok-push, else-is_scan}
use Rattle.plan_copy.proofs.reading.scan_reads.Goals as goal

pub loop-i-preserved : goal.loop-i-preserved
loop-i-preserved c =
    elim c.if-is_scan.branch [
      | then-is_scan+in_ok-reads+in_ok-push w ↦
          w.lists-is ∙ w.in_ok-push.ensures.pushed
          ∙ ap₂ (λ (l : List (List (List ℕ))) (x : List (List ℕ)). l ++ x ∷ []) c.loop-i.invariant w.in_ok-reads.ensures
          ∙ sym (scan_reads-more c.args.plan.now.lp c.loop-i.i c.get-node.result.now c.get-node.ensures.entry (sym c.is_scan.ensures ∙ w.if-is_scan.true))
      | else-is_scan w ↦
          w.lists-is ∙ c.loop-i.invariant
          ∙ sym (scan_reads-same c.args.plan.now.lp c.loop-i.i c.get-node.result.now c.get-node.ensures.entry (sym c.is_scan.ensures ∙ w.if-is_scan.false))
    ]
