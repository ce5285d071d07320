-- Minterms worked out.
use Rattle.std.specs.Prelude.{◌≡◌, [], ◌∷◌, codes}
use Rattle.plan_tree.specs.Rose.{rose, no_roses, more}
use Rattle.plan_expr.specs.declared.operator.Operator.{Operator}
use Rattle.plan_expr.specs.declared.operator.Operator.TheVariants.{And, Or}
use Rattle.plan_expr.specs.Exprs.{binary, column, Expr}
use Rattle.plan_expr.specs.Leaves.{Name}
use Rattle.plan_meaning.specs.Minterms.{minterms}

-- a column
abbrev pub col : Name → Expr
col a = rose tt (column a) no_roses

-- an operator over two operands
abbrev pub of_two : Operator → Expr → Expr → Expr
of_two op l r = rose tt (binary op) (more l (more r no_roses))

-- the minterms of (a & (b | c)) & (b & (c | (a & c))) are a, b | c, b and c | (a & c)
abbrev pub NestedAnd : Type 0
NestedAnd =
    minterms (of_two And (of_two And (col (codes "a")) (of_two Or (col (codes "b")) (col (codes "c")))) (of_two And (col (codes "b")) (of_two Or (col (codes "c")) (of_two And (col (codes "a")) (col (codes "c"))))))
    ≡ col (codes "a") ∷ of_two Or (col (codes "b")) (col (codes "c")) ∷ col (codes "b") ∷ of_two Or (col (codes "c")) (of_two And (col (codes "a")) (col (codes "c"))) ∷ []
