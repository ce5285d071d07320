-- The values of keys, one after another.
use Rattle.std.proofs.Common.{◌≡◌, ◌++◌, ◌+◌, ◌<◌, ℕ, List, [], ◌∷◌, map, take, length, get_or, ap, ap₂, sym, ◌∙◌}
use Rattle.std.proofs.lemmas.List.{map-append, take_more}
use Rattle.plan_expr.specs.declared.aexpr.AExpr.{AExpr}
use Rattle.plan_expr.specs.declared.expr_ir.ExprIR.{ExprIR}
use Rattle.plan_expr.specs.Exprs.{Named, all_named_at, expr_at, named_at}
use Rattle.plan_frame.specs.Frames.{Frame}
use Rattle.plan_frame.specs.Meaning.{Cell, val}
use Rattle.plan_frame.specs.Orders.{key_cells}
use Rattle.plan_value.specs.declared.exprs.Values.{Values}
use Rattle.plan_value.specs.Cells.{cell_of, cells_of}

-- the values of one key more
pub keys-next : (ex : List AExpr) (keys : List ExprIR) (f : Frame) (i : ℕ) (key : ExprIR) (done : List Values) (v : Values) → i < length keys → key ≡ get_or keys i key → cell_of v ≡ val (expr_at ex key.node) f
    → cells_of done ≡ key_cells (all_named_at ex (take i keys)) f → cells_of (done ++ v ∷ []) ≡ key_cells (all_named_at ex (take (i + 1) keys)) f
keys-next ex keys f i key done v lt is own before =
    let cell : Named → Cell = λ (e : Named). val e.expr f in
    map-append cell_of done (v ∷ [])
    ∙ ap₂ (λ (cs : List Cell) (c : Cell). cs ++ c ∷ []) before own
    ∙ sym (map-append cell (all_named_at ex (take i keys)) (named_at ex key ∷ []))
    ∙ ap (map cell) (sym (map-append (named_at ex) (take i keys) (key ∷ [])))
    ∙ ap (λ (l : List ExprIR). key_cells (all_named_at ex l) f) (sym (take_more keys i key lt ∙ ap (λ (e : ExprIR). take i keys ++ e ∷ []) (sym is)))
