use Rattle.std.proofs.Common.{◌≡◌, ◌∙◌, ℕ, ◌-◌, List, length, ap, sym, arith}
use Rattle.std.proofs.lemmas.List.{length-map}
use Rattle.std.specs.List.{range_with_len}
use Rattle.plan_expr.specs.Leaves.{Name}
use Rattle.plan_frame.specs.Frames.{Column, picked}
use Rattle.plan_frame.specs.Values.{Value}
use Rattle.plan_value.specs.Shown.{value_of, values_of}
use Rattle.plan_eval.proofs.TurnLemmas.{each-row}
use Rattle.plan_eval.proofs.hconcat.levelled.Goals as goal

-- all rows below a height
whole : (a : Name) (h : ℕ) (vs : List Value) → ◌≡◌ {A = Column} (record { name = a; values = picked (range_with_len 0 (h - 0)) vs }) (record { name = a; values = picked (range_with_len 0 h) vs })
whole a h vs = let q : h - 0 ≡ h = omega arith in ap {B = Column} (λ (n : ℕ). record { name = a; values = picked (range_with_len 0 n) vs }) q

pub returns-clause-shown : goal.returns-clause-shown
returns-clause-shown c = c.in_ok-column_between.ensures.shown ∙ whole c.args.column.name c.args.height (values_of c.args.column.values)

pub returns-then-len-height-clause-shown : goal.returns-then-len-height-clause-shown
returns-then-len-height-clause-shown c =
    let vs : List Value = values_of c.args.column.values in
    let high : length vs ≡ c.args.height = length-map c.args.column.values value_of ∙ sym c.len.ensures ∙ c.if-len-height.true in
    ap {B = Column} (λ (ws : List Value). record { name = c.args.column.name; values = ws }) (sym (each-row vs) ∙ ap (λ (n : ℕ). picked (range_with_len 0 n) vs) high)
