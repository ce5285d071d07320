use Rattle.std.proofs.Common.{◌≡◌, ◌∙◌, ◌+◌, ◌++◌, ◌∷◌, [], List, ℕ, Option, Some, None, Vec, Global, ap, sym, take, append-nil}
use Rattle.std.specs.List.{cons_option}
use Rattle.std.proofs.lemmas.List.{take_more}
use Rattle.std.proofs.lemmas.List.Elements.{filter_map-append}
use Rattle.plan_eval.specs.Distinct.{kept, kept_of}
use Rattle.plan_eval.proofs.distinct.kept_rows.Goals.{in-Some+in_ok-push, in_default}
use Rattle.plan_eval.proofs.distinct.kept_rows.Goals as goal

pub loop-part-preserved : goal.loop-part-preserved
loop-part-preserved c =
    let keep = c.args.keep in
    let parts = c.args.parts.now in
    let i = c.loop-part.part-index in
    let part = c.part-item.result in
    let row : c.kept_row.result ≡ kept_of keep part = c.kept_row.ensures ∙ ap (kept_of keep) c.as_slice.ensures in
    let more : (o : Option ℕ) → c.kept_row.result ≡ o → kept keep (take (i + 1) parts) ≡ kept keep (take i parts) ++ cons_option o [] = λ o e.
    ap (kept keep) (take_more parts i part c.loop-part-test.true ∙ ap (λ (x : List ℕ). take i parts ++ x ∷ []) (sym c.part-item.is))
    ∙ filter_map-append (kept_of keep) (take i parts) (part ∷ [])
    ∙ ap (λ (p : Option ℕ). kept keep (take i parts) ++ cons_option p []) (sym row ∙ e)
    in
    elim c.match-kept_row.branch [
      | in-Some+in_ok-push w ↦
          ap (λ (v : Vec ℕ Global). v.items) w.rows-is ∙ w.in_ok-push.ensures.items ∙ ap (λ (l : List ℕ). l ++ w.in-Some.row ∷ []) c.loop-part.invariant ∙ sym (more (Some w.in-Some.row) w.in-Some.is)
      | in_default w ↦
          ap (λ (v : Vec ℕ Global). v.items) w.rows-is ∙ c.loop-part.invariant ∙ sym (append-nil (kept keep (take i parts))) ∙ sym (more None w.in_default.is)
    ]
