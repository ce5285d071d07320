use Rattle.std.proofs.Common.{◌∙◌, ◌++◌, ap, map, sym, List, Bor}
use Rattle.std.proofs.lemmas.Result.{IfOk-weaker}
use Rattle.plan_scan.specs.declared.file_scan.FileScan.{FileScan}
use Rattle.plan_scan.specs.declared.sources.ScanSources.{ScanSources}
use Rattle.plan_order_laws.specs.Counted.{as_one, together}
use Rattle.plan_order.proofs.TogetherLemmas.{lent}
use Rattle.plan_order.proofs.count_star.scans_at.Goals as goal

pub returns-then-not-branch : goal.returns-then-not-branch
returns-then-not-branch c = λ ex. sym (ap as_one (c.in_ok-add_scans.ensures.none c.if-not-branch.true ex))

pub returns : goal.returns
returns c = IfOk-weaker c.together.result _ _ (λ made is. λ ex.
    let a = c.in_ok-add_scans.ensures.all c.if-not-branch.false ex in
    is
    ∙ ap (λ (qs : List (Bor ScanSources × FileScan)). together (map lent qs)) c.as_slice.ensures.value
    ∙ ap together (a.2 ∙ ap (λ (qs : List (Bor ScanSources × FileScan)). map lent qs ++ a.0) c.new-found.ensures.items)
    ∙ sym (ap as_one a.1)) c.together.ensures
