-- Expressions that are evaluated: how high their trees stand, and the values of several.
use Rattle.std.proofs.Common.{◌≡◌, ◌+◌, ◌++◌, ◌<◌, ◌≤◌, ℕ, zero, suc, List, [], ◌∷◌, map, take, max, Some, All, refl, arith, length, get_or, ap, ap₂, sym, ◌∙◌}
use Rattle.std.specs.List.{slice_get}
use Rattle.std.proofs.lemmas.List.{map-append, take_more}
use Rattle.plan_core.specs.declared.arena.Node.{Node}
use Rattle.plan_tree.proofs.TreeLemmas.{height_at}
use Rattle.plan_expr.specs.Exprs.{Expr, expr_at}
use Rattle.plan_expr.specs.Operands.{IsExpr, expr_shape, operands_of}
use Rattle.plan_expr.specs.declared.aexpr.AExpr.{AExpr}
use Rattle.plan_expr.specs.declared.aexpr.AExpr.TheVariants.{Window}
use Rattle.plan_expr.specs.declared.function_expr.FunctionExpr.{FunctionExpr}
use Rattle.plan_expr.proofs.ExprLemmas.{expr_down, exprs_down}
use Rattle.plan_expr.specs.Leaves.{leaves}
use Rattle.plan_table.specs.declared.value.AnyValue.{AnyValue}
use Rattle.plan_frame.proofs.Depends.{val_depends}
use Rattle.plan_frame.specs.Frames.{Agree, Frame, rows_at}
use Rattle.plan_frame.specs.Meaning.{Cell, called, one, only_value, val}
use Rattle.plan_frame.specs.Values.{Value, null}
use Rattle.plan_value.specs.declared.exprs.Values.{Values}
use Rattle.plan_value.specs.Cells.{cell_of, cells_at, cells_of}
use Rattle.plan_value.specs.Shown.{value_of, values_of}

-- more than the height of each of several expressions
abbrev pub above : List AExpr → List Node → ℕ
above ex [] = 0
above ex (n ∷ ns) = max (height_at expr_shape ex n + 1) (above ex ns)

-- an expression is lower than that
pub below-above : (ex : List AExpr) (ns : List Node) (j : ℕ) (n : Node) → slice_get ns j ≡ Some n → height_at expr_shape ex n < above ex ns
below-above ex [] j n h = cc
below-above ex (m ∷ ns) zero n h =
    let same : m ≡ n = cc in
    let e = ap (height_at expr_shape ex) same in
    omega (arith, e)
below-above ex (m ∷ ns) (suc j) n h = omega (arith, below-above ex ns j n h)

-- and so is what is above expressions that are all lower than a bound
pub above-least : (ex : List AExpr) (ns : List Node) (h : ℕ) → ((j : ℕ) (n : Node) → slice_get ns j ≡ Some n → height_at expr_shape ex n < h) → above ex ns ≤ h
above-least ex [] h lower = omega arith
above-least ex (n ∷ ns) h lower = omega (arith, lower 0 n refl, above-least ex ns h (λ j m e. lower (suc j) m e))

-- the operands of an expression are below it
pub above-operands : (ex : List AExpr) (n : Node) (p : AExpr) → IsExpr ex n → slice_get ex n.0 ≡ Some p → above ex (operands_of p) ≤ height_at expr_shape ex n
above-operands ex n p h e = above-least ex (operands_of p) (height_at expr_shape ex n) (λ j m k. (expr_down ex n m p j h e k).0)

-- the keys of a window stand
pub keys_down : (ex : List AExpr) (n function : Node) (keys : List Node) → IsExpr ex n → slice_get ex n.0 ≡ Some (Window function keys) → All (IsExpr ex) keys
keys_down ex n function keys h e = λ k d lt. exprs_down ex n (Window function keys) h e (suc k) d (omega (arith, lt))

-- a function of no input, or of three or more, is null
pub called-none : (function : FunctionExpr) (ex : List AExpr) (ns : List Node) (f : Frame) → length ns < 1 → one null ≡ called function (cells_at ex ns f)
called-none function ex [] f lt = refl
called-none function ex (n ∷ ns) f lt = absurd (omega (arith, lt))

pub called-more : (function : FunctionExpr) (ex : List AExpr) (ns : List Node) (f : Frame) → 3 ≤ length ns → one null ≡ called function (cells_at ex ns f)
called-more function ex [] f le = absurd (omega (arith, le))
called-more function ex (n ∷ []) f le = absurd (omega (arith, le))
called-more function ex (n ∷ m ∷ []) f le = absurd (omega (arith, le))
called-more function ex (n ∷ m ∷ k ∷ ns) f le = refl

cells-each : (ex : List AExpr) (ns : List Node) (f : Frame) → cells_at ex ns f ≡ map (λ (n : Node). val (expr_at ex n) f) ns
cells-each ex [] f = refl
cells-each ex (n ∷ ns) f = ap (λ (cs : List Cell). val (expr_at ex n) f ∷ cs) (cells-each ex ns f)

-- the values of one expression more
pub cells-next : (ex : List AExpr) (ns : List Node) (f : Frame) (i : ℕ) (n d : Node) (done : List Values) (v : Values) → i < length ns → n ≡ get_or ns i d → cell_of v ≡ val (expr_at ex n) f → cells_of done ≡ cells_at ex (take i ns) f → cells_of (done ++ v ∷ []) ≡ cells_at ex (take (i + 1) ns) f
cells-next ex ns f i n d done v lt is own before =
    let each : Node → Cell = λ (m : Node). val (expr_at ex m) f in
    map-append cell_of done (v ∷ [])
    ∙ ap₂ (λ (cs : List Cell) (c : Cell). cs ++ c ∷ []) (before ∙ cells-each ex (take i ns) f) (own ∙ ap each is)
    ∙ sym (map-append each (take i ns) (get_or ns i d ∷ []))
    ∙ ap (map each) (sym (take_more ns i d lt))
    ∙ sym (cells-each ex (take (i + 1) ns) f)

-- what is made of one list of rows more
pub over-more : (make : List ℕ → Value) (parts : List (List ℕ)) (i : ℕ) (rows : List ℕ) (done : List AnyValue) (v : AnyValue) → i < length parts → rows ≡ get_or parts i rows
    → value_of v ≡ make rows
    → values_of done ≡ map make (take i parts)
    → values_of (done ++ v ∷ []) ≡ map make (take (i + 1) parts)
over-more make parts i rows done v lt is own before =
    map-append value_of done (v ∷ [])
    ∙ ap₂ (λ (vs : List Value) (x : Value). vs ++ x ∷ []) before (own ∙ ap make is)
    ∙ sym (map-append make (take i parts) (get_or parts i rows ∷ []))
    ∙ ap (map make) (sym (take_more parts i rows lt))

-- the value over one list of rows more, from their columns that the expression reads
pub over-next : (e : Expr) (f part : Frame) (parts : List (List ℕ)) (i : ℕ) (rows : List ℕ) (done : List AnyValue) (v : AnyValue) → i < length parts → rows ≡ get_or parts i rows → Agree (leaves e) part (rows_at rows f)
    → value_of v ≡ only_value (val e part)
    → values_of done ≡ map (λ (rows : List ℕ). only_value (val e (rows_at rows f))) (take i parts)
    → values_of (done ++ v ∷ []) ≡ map (λ (rows : List ℕ). only_value (val e (rows_at rows f))) (take (i + 1) parts)
over-next e f part parts i rows done v lt is same own before =
    over-more (λ (rows : List ℕ). only_value (val e (rows_at rows f))) parts i rows done v lt is
    (own ∙ ap only_value (val_depends e part (rows_at rows f) same)) before
