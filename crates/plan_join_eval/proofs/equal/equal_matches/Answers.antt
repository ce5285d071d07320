use Rattle.std.proofs.Common.{◌≡◌, ◌∙◌, ◌+◌, ◌<◌, ℕ, List, Option, None, take, drop, length, get_or, refl, sym, ap, ap₂, arith, rules}
use Rattle.std.specs.Prelude.{nat_eq}
use Rattle.std.proofs.lemmas.List.{get_or-drop, get_or-take, length-drop, length-take}
use Rattle.std.proofs.lemmas.List.FromFn.{length-map-range_with_len}
use Rattle.plan_frame.proofs.FrameLemmas.{length-map}
use Rattle.plan_frame.specs.Meaning.{Cell, are_alike}
use Rattle.plan_join.specs.Rows.{listed_at}
use Rattle.plan_value.specs.Cells.{cell_of, cells_of}
use Rattle.plan_join_eval.specs.Equal.{number_where, stacked_cells}
use Rattle.plan_join_eval.proofs.EqualLemmas.{listed-where}
use Rattle.plan_join_eval.proofs.equal.equal_matches.Goals as goal

pub returns : goal.returns
returns c =
    let k = c.args.others in
    let h = c.args.height in
    let cs = cells_of c.args.keys.now in
    let ds = cells_of c.args.partners.now in
    let all = c.in_ok-groups.groups.numbers in
    let groups = c.in_ok-groups.ensures in
    let rows : c.in_ok-rows.rows ≡ k + h = search rules in
    let inner = c.in_ok-copied.field-0 in
    let own = c.split_at.result.1.now in
    let front : inner ≡ take k all = c.in_ok-copied.ensures ∙ c.split_at.ensures.front ∙ ap (take k) c.as_slice-2.ensures in
    let back : own ≡ drop k all = c.split_at.ensures.back ∙ ap (drop k) c.as_slice-2.ensures in
    let whole = groups.height ∙ rows in
    let long : length inner ≡ k = omega (arith, ap length front, length-take k all, whole) in
    let longer : length own ≡ h = omega (arith, ap length back, length-drop k all, whole) in
    let cells : cells_of c.as_slice.result.now ≡ stacked_cells k h ds cs = ap cells_of c.as_slice.ensures ∙ c.in_ok-all.ensures in
    let here : (i : ℕ) → get_or own i 0 ≡ get_or all (k + i) 0 = λ i. ap (λ (ns : List ℕ). get_or ns i 0) back ∙ get_or-drop k all i 0 in
    let there : (j : ℕ) → j < k → get_or inner j 0 ≡ get_or all j 0 = λ j lj. ap (λ (ns : List ℕ). get_or ns j 0) front ∙ get_or-take k all j 0 lj in
    let keys : length ds ≡ length cs = length-map cell_of c.args.partners.now ∙ c.requires ∙ sym (length-map cell_of c.args.keys.now) in
    record {
      rows = ap length c.in_ok-numbers_of.ensures ∙ length-map-range_with_len (number_where c.args.nulls cs own) 0 (length own) ∙ longer;
      others = refl;
      each = λ i lt.
          let at = k + i in
          let below : at < c.in_ok-rows.rows = omega (arith, lt, rows) in
          ap (λ (ns : List (Option ℕ)). listed_at c.in_ok-lists.lists.items (get_or ns i None)) c.in_ok-numbers_of.ensures
          ∙ listed-where c.args.nulls cs ds h k i inner own c.in_ok-lists.lists.items keys lt long longer
          (λ j lj. ap₂ nat_eq (here i) (there j lj) ∙ groups.same at j below (omega (arith, lj, rows)) ∙ ap (λ (es : List Cell). are_alike es at j) cells)
          (c.in_ok-lists.ensures.rows (get_or own i 0) (omega (arith, here i, groups.below at below)));
    }
