use Rattle.std.proofs.Common.{◌+◌, ℕ, List, [], take, Bor, get_or, sym, subst}
use Rattle.std.proofs.lemmas.Option.{slice_get-get_or}
use Rattle.cases.specs.declared.cases.Line.{Line}
use Rattle.cases.specs.Cases.{AreRead}
use Rattle.cases.proofs.CaseLemmas.{read_next}
use Rattle.cases.proofs.cases.all_tried.Goals as goal

pub loop-line-preserved : goal.loop-line-preserved
loop-line-preserved c =
    let none : Bor (List ℕ) = record { ref_ptr = (0, 0); now = [] } in
    let line : Bor (List ℕ) = get_or c.args.lines.now c.loop-line.line-index none in
    subst (λ (l : List Line). AreRead c.args.words.now (take (c.loop-line.line-index + 1) c.args.lines.now) l c.tried.new.words) (sym c.in_ok-push.ensures.items)
    (read_next c.args.words.now c.loop-line.words c.tried.new.words c.args.lines.now c.loop-line.line-index line c.loop-line.found.items c.in_ok-tried.field-0
    (slice_get-get_or c.args.lines.now c.loop-line.line-index none c.loop-line-test.true)
    c.in_ok-tried.ensures c.loop-line.invariant)
