-- The minterms of an expression: the operands of nested And.
use Rattle.std.specs.Prelude.{◌++◌, ℕ, Bool, true, false, List, [], ◌∷◌, if◌then◌else◌}
use Rattle.plan_tree.specs.Rose.{rose, no_roses, more}
use Rattle.plan_expr.specs.declared.operator.Operator.{Operator}
use Rattle.plan_expr.specs.declared.operator.Operator.TheVariants.{And}
use Rattle.plan_expr.specs.Exprs.{ExprOp, binary, Expr}
use Rattle.plan_frame.specs.Values.{is_true}
use Rattle.plan_frame.specs.Frames.{Frame}
use Rattle.plan_frame.specs.Meaning.{val, value_at}

-- whether an operator of two operands is And
abbrev pub is_and_operator : Operator → Bool
is_and_operator And = true
is_and_operator _ = false

-- whether the operator of an expression is And
abbrev pub is_and : ExprOp → Bool
is_and (binary op) = is_and_operator op
is_and _ = false

-- the operands of nested And, left first; an expression that is none is its own single one
abbrev pub minterms : Expr → List Expr
minterms (rose n op (more l (more r no_roses))) = if is_and op then minterms l ++ minterms r else rose n op (more l (more r no_roses)) ∷ []
minterms (rose n op no_roses) = rose n op no_roses ∷ []
minterms (rose n op (more l no_roses)) = rose n op (more l no_roses) ∷ []
minterms (rose n op (more l (more r (more e es)))) = rose n op (more l (more r (more e es))) ∷ []

-- whether a row of a frame makes an expression true: null does not
abbrev pub holds_at : Frame → ℕ → Expr → Bool
holds_at f i e = is_true (value_at (val e f) i)
