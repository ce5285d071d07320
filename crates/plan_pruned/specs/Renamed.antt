-- Expressions whose columns have other names.
use Rattle.std.specs.Prelude.{◌≡◌, ◌≤◌, ℕ, List, [], ◌∷◌, ◌++◌, Some, length, reverse, slice_get}
use Rattle.plan_core.specs.declared.arena.Node.{Node}
use Rattle.plan_tree.specs.Read.{tree_at}
use Rattle.plan_tree.specs.Rose.{Roses, map_roses}
use Rattle.plan_tree.specs.Stands.{Trees, Reaches, StandsOnce}
use Rattle.plan_expr.specs.declared.aexpr.AExpr.{AExpr}
use Rattle.plan_expr.specs.Operands.{expr_shape, operands_of}
use Rattle.plan_expr.specs.Exprs.{ExprOp, column, literal, alias, binary, ternary, aggregate, call, window, len, bare_exprs, expr_op}

-- the same with another name, if it is a column
abbrev pub renamed_op : (List ℕ → List ℕ) → ExprOp → ExprOp
renamed_op now (column name) = column (now name)
renamed_op now (literal value) = literal value
renamed_op now (alias name) = alias name
renamed_op now (binary op) = binary op
renamed_op now ternary = ternary
renamed_op now (aggregate op) = aggregate op
renamed_op now (call function options) = call function options
renamed_op now window = window
renamed_op now len = len

-- the expressions with other names for their columns
abbrev pub renamed_exprs : (List ℕ → List ℕ) → Roses (Unit {0}) ExprOp → Roses (Unit {0}) ExprOp
renamed_exprs now es = map_roses (λ u. u) (renamed_op now) es

-- at the number `copy` stands the expression that stood at another, with other names for its columns, and of no entry that was there
pub record IsRenamed (now : List ℕ → List ℕ) (old new : List AExpr) (node copy : Node) : Type 0 where
  pub trees : Trees AExpr
  pub stands : StandsOnce expr_shape new (copy ∷ []) trees
  pub same : bare_exprs trees ≡ renamed_exprs now (bare_exprs (tree_at expr_shape old node))
  pub fresh : (k : ℕ) → Reaches trees k → length old ≤ k

-- entries were only appended
abbrev pub IsLonger : List AExpr → List AExpr → Type 0
IsLonger old new = (added : List AExpr) × (new ≡ old ++ added)

-- a copy of the expression at a number was added over the last of some copies, of which the first operand's is the last one, and
-- it stands now for these
pub record IsNext (now : List ℕ → List ℕ) (old new : List AExpr) (node : Node) (before after : List Node) : Type 0 where
  pub expr : AExpr
  pub copy : AExpr
  pub number : Node
  pub operands : List Node
  pub others : List Node
  pub entry : slice_get old node.0 ≡ Some expr
  pub first : reverse before ≡ operands ++ others
  pub then : reverse after ≡ number ∷ others
  pub long : length operands ≡ length (operands_of expr)
  pub over : operands_of copy ≡ operands
  pub op : expr_op copy ≡ renamed_op now (expr_op expr)
  pub last : number.0 ≡ length old
  pub added : new ≡ old ++ copy ∷ []
