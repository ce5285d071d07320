use Rattle.std.proofs.Common.{◌≡◌, ◌∙◌, ◌≤◌, Bool, true, false, cond, length, arith, refl, ap, ap₂}
use Rattle.plan_frame.specs.Meaning.{Cell, value_at}
use Rattle.plan_value.specs.declared.exprs.Values.{Values}
use Rattle.plan_value.specs.Cells.{cell_of, cells_of}
use Rattle.plan_value.specs.Shown.{frame_of}
use Rattle.plan_join_eval.specs.Runs.{is_met}
use Rattle.plan_join_eval.proofs.RunLemmas.{first-of, sided-needed}
use Rattle.plan_join_eval.proofs.compared.unequal_lists.Goals as goal

cell_side : (b : Bool) (x y : Values) → cell_of (cond b x y) ≡ cond b (cell_of x) (cell_of y)
cell_side true x y = refl
cell_side false x y = refl

pub near_lists-requires-clause-first : goal.near_lists-requires-clause-first
near_lists-requires-clause-first c = λ i j e.
    let left = c.args.left.now in
    let right = c.args.right.now in
    let b = c.args.by_right in
    let o = c.args.operators.now in
    let x = c.first-item.result in
    let y = c.second-item.result in
    let some-left : 1 ≤ length left.keys.now = omega arith in
    let some-right : 1 ≤ length right.keys.now = omega arith in
    let l = first-of left.keys.now x some-left c.first-item.is in
    let r = first-of right.keys.now y some-right c.second-item.is in
    let met = sided-needed c.args.ex.now c.args.args.now o (frame_of left.table.now) (frame_of right.table.now) c.args.told.now b (cells_of left.keys.now) (cells_of right.keys.now) (cell_of x) (cell_of y) l.0 r.0 c.requires.told l.1 r.1 i j e in
    ap₂ (λ (u v : Cell). is_met o.operator1 b (value_at u i) (value_at v j)) (ap cell_of c.values_of_side-own.ensures ∙ cell_side b y x) (ap cell_of c.values_of_side-key.ensures ∙ cell_side b x y)
    ∙ met
