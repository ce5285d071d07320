use Rattle.std.proofs.Common.{◌∙◌, ◌++◌, ◌∷◌, [], List, ℕ, Bool, true, false, ap, sym, append-nil}
use Rattle.plan_frame.specs.Meaning.{value_at}
use Rattle.plan_frame.specs.Values.{is_true}
use Rattle.plan_join.specs.Pairs.{passing}
use Rattle.plan_value.specs.Cells.{cell_of}
use Rattle.plan_join_eval.proofs.CompareLemmas.{passing-next}
use Rattle.plan_join_eval.proofs.worked.true_rows.Goals.{then-is_true_at+in_ok-push, else-is_true_at}
use Rattle.plan_join_eval.proofs.worked.true_rows.Goals as goal

pub loop-row-preserved : goal.loop-row-preserved
loop-row-preserved c =
    let test : ℕ → Bool = λ (i : ℕ). is_true (value_at (cell_of c.args.values.now) i) in
    elim c.if-is_true_at.branch [
      | then-is_true_at+in_ok-push w ↦
          w.rows-is ∙ w.in_ok-push.ensures.pushed ∙ ap (λ (l : List ℕ). l ++ c.loop-row.row ∷ []) c.loop-row.invariant
          ∙ sym (passing-next test c.loop-row.row true (sym c.is_true_at.ensures ∙ w.if-is_true_at.true))
      | else-is_true_at w ↦
          w.rows-is ∙ c.loop-row.invariant
          ∙ sym (passing-next test c.loop-row.row false (sym c.is_true_at.ensures ∙ w.if-is_true_at.false) ∙ append-nil (passing test c.loop-row.row))
    ]
