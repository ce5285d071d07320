use Rattle.std.proofs.Common.{◌∙◌, ◌++◌, ◌∷◌, [], List, Option, Some, None, ℕ, Bool, cond, ap, ap₂, sym, get_or, arith}
use Rattle.std.proofs.lemmas.List.FromFn.{map-range_with_len_more}
use Rattle.plan_value.specs.Cells.{cells_of}
use Rattle.plan_join_eval.specs.Equal.{number_where}
use Rattle.plan_join_eval.proofs.equal.numbers_of.Goals.{then-may_match+in_ok-push, else-may_match+in_ok-push-2}
use Rattle.plan_join_eval.proofs.equal.numbers_of.Goals as goal

pub loop-row-preserved : goal.loop-row-preserved
loop-row-preserved c =
    let n = c.loop-row.row in
    let numbers = c.args.numbers.now in
    let at = number_where c.args.nulls (cells_of c.args.keys.now) numbers in
    let next = sym (map-range_with_len_more at 0 n n (omega arith)) in
    let number = λ (b : Bool). cond b (Some (get_or numbers n 0)) None in
    elim c.if-may_match.branch [
      | then-may_match+in_ok-push w ↦ w.own-is ∙ w.in_ok-push.ensures.pushed
          ∙ ap₂ (λ (own : List (Option ℕ)) (o : Option ℕ). own ++ o ∷ []) c.loop-row.invariant (ap number (sym w.if-may_match.true ∙ c.may_match.ensures)) ∙ next
      | else-may_match+in_ok-push-2 w ↦ w.own-is ∙ w.in_ok-push-2.ensures.pushed
          ∙ ap₂ (λ (own : List (Option ℕ)) (o : Option ℕ). own ++ o ∷ []) c.loop-row.invariant (ap number (sym w.if-may_match.false ∙ c.may_match.ensures)) ∙ next
    ]
