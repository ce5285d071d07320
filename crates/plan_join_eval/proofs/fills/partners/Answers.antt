use Rattle.std.proofs.Common.{[], ◌≡◌, ◌∙◌, ◌-◌, ◌<◌, ◌≤◌, ◌⊎◌, inl, inr, ⊎_elim, ℕ, Option, None, Some, drop, get_or, length, min, replicate, suc, set, sym, ap, subst, arith}
use Rattle.std.proofs.lemmas.Bool.{cases_lt}
use Rattle.std.proofs.lemmas.List.{length-drop}
use Rattle.std.proofs.lemmas.Option.{slice_get-get_or}
use Rattle.plan_expr.specs.Leaves.{Name}
use Rattle.plan_frame.proofs.ScalarExprs.{item_here}
use Rattle.plan_join.specs.Sides.{partner}
use Rattle.plan_join_eval.specs.Fills.{ArePartners}
use Rattle.plan_join_eval.proofs.FillLemmas.{none-partners, step-absent, step-put}
use Rattle.plan_join_eval.proofs.fills.partners.Goals as goal

-- past the shorter of two lists one has nothing left
past : (n a b : ℕ) → n ≡ min a b → (a - n ≡ 0) ⊎ (b - n ≡ 0)
past n a b e = ⊎_elim (λ (lt : a < b). inl (omega (arith, e, lt))) (λ (le : b ≤ a). inr (omega (arith, e, le))) (cases_lt a b)

pub loop-rest-init : goal.loop-rest-init
loop-rest-init c =
    let ls = c.args.left_keys.now in
    let rs = c.args.right_keys.now in
    let n = c.min-rest.result in
    record {
      left_within = omega (arith, c.min-rest.ensures);
      right_within = omega (arith, c.min-rest.ensures);
      are = none-partners c.args.left.now c.args.right.now (drop n ls) (drop n rs)
          (⊎_elim (λ e. inl (length-drop n ls ∙ e)) (λ e. inr (length-drop n rs ∙ e)) (past n (length ls) (length rs) c.min-rest.ensures))
          c.in_ok-places.places.items (c.in_ok-places.ensures ∙ ap (λ (k : ℕ). replicate {A = Option ℕ} k None) c.len.ensures.value);
    }

pub loop-rest-preserved : goal.loop-rest-preserved
loop-rest-preserved c =
    let ls = c.args.left_keys.now in
    let rs = c.args.right_keys.now in
    let i : ℕ = c.loop-rest.rest - 1 in
    let up : c.loop-rest.rest ≡ suc i = omega (arith, c.loop-rest-test.true) in
    let inv = c.loop-rest.invariant in
    let key = item_here ls i c.index-left_keys-rest.result (omega (arith, inv.left_within, up)) c.index-left_keys-rest.is ∙ ap (λ (a : Name). Some a) (sym c.as_str.ensures) in
    let other = slice_get-get_or rs i [] (omega (arith, inv.right_within, up)) in
    record {
      left_within = omega (arith, inv.left_within);
      right_within = omega (arith, inv.right_within);
      are = step-absent c.args.left.now c.args.right.now ls rs i c.as_str.result.now (get_or rs i []) key other c.loop-rest.rest c.loop-rest.places.items up c.in_default.ensures.absent inv.are;
    }

pub loop-rest-preserved-in-Some : goal.loop-rest-preserved-in-Some
loop-rest-preserved-in-Some c =
    let ls = c.args.left_keys.now in
    let rs = c.args.right_keys.now in
    let i : ℕ = c.loop-rest.rest - 1 in
    let up : c.loop-rest.rest ≡ suc i = omega (arith, c.loop-rest-test.true) in
    let inv = c.loop-rest.invariant in
    let key = item_here ls i c.index-left_keys-rest.result (omega (arith, inv.left_within, up)) c.index-left_keys-rest.is ∙ ap (λ (a : Name). Some a) (sym c.as_str.ensures) in
    let other = item_here rs i c.index-right_keys-rest.result (omega (arith, inv.right_within, up)) c.index-right_keys-rest.is ∙ ap (λ (a : Name). Some a) (sym c.as_str-in-Some.ensures) in
    let stands = c.in-Some.ensures.stands in
    record {
      left_within = omega (arith, inv.left_within);
      right_within = omega (arith, inv.right_within);
      are = subst (λ (o : Option ℕ). ArePartners c.args.left.now c.args.right.now (partner (drop i ls) (drop i rs)) (set c.loop-rest.places.items c.in-Some.place o)) (sym c.index_of-in-Some.ensures.place)
          (step-put c.args.left.now c.args.right.now ls rs i c.as_str.result.now c.as_str-in-Some.result.now key other c.loop-rest.rest c.loop-rest.places.items c.in-Some.place stands.0 up c.requires stands.1 inv.are);
    }
