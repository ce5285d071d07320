-- Walks over the expressions of an arena.
use Rattle.std.specs.Prelude.{Bool, true, false, List, [], ◌∷◌, ◌++◌, Option, None, Some, option_map, slice_get}
use Rattle.std.specs.List.{filter_map}
use Rattle.plan_core.specs.declared.arena.Node.{Node}
use Rattle.plan_tree.specs.Read.{tree_at}
use Rattle.plan_tree.specs.Rose.{rose, no_roses, more, items}
use Rattle.plan_tree.specs.Stands.{Trees}
use Rattle.plan_expr.specs.declared.aexpr.AExpr.{AExpr}
use Rattle.plan_expr.specs.declared.aexpr.AExpr.TheVariants.{Column, Literal, Alias, BinaryExpr, Ternary, Agg, Function, Window, Len}
use Rattle.plan_expr.specs.Functions.{is_row_wise}
use Rattle.plan_expr.specs.Leaves.{Name}
use Rattle.plan_expr.specs.Operands.{expr_shape}

-- the entries of trees in walk order, each with its number
abbrev pub numbered : {P : Type 0} → Trees P → List (Node × P)
numbered no_roses = []
numbered (more (rose n p kids) rest) = (n, p) ∷ (numbered kids ++ numbered rest)

-- the expressions that a number reaches in walk order, each with its number
abbrev pub walk_of : List AExpr → Node → List (Node × AExpr)
walk_of ex n = numbered (tree_at expr_shape ex n)

-- the column that an expression is, if it is one
abbrev pub column_name : AExpr → Option Name
column_name (Column name) = Some name
column_name (Literal value) = None
column_name (Alias input name) = None
column_name (BinaryExpr left op right) = None
column_name (Ternary predicate truthy falsy) = None
column_name (Agg agg) = None
column_name (Function input function options) = None
column_name (Window function partition_by) = None
column_name Len = None

-- the columns among expressions with their numbers, in order
abbrev pub column_names : List (Node × AExpr) → List Name
column_names walk = filter_map (λ (q : Node × AExpr). column_name q.1) walk

-- the entries at numbers that an arena has, each with its number, in their order
abbrev pub numbered_at : {P : Type 0} → List P → List Node → List (Node × P)
numbered_at {P = P} arena ns = filter_map (λ (n : Node). option_map (λ (p : P). (n, p)) (slice_get arena n.0)) ns

-- the expressions that a number reaches, in walk order
abbrev pub reached : List AExpr → Node → List AExpr
reached ex n = items (tree_at expr_shape ex n)

-- whether an expression is a literal
abbrev pub is_literal : AExpr → Bool
is_literal (Column name) = false
is_literal (Literal value) = true
is_literal (Alias input name) = false
is_literal (BinaryExpr left op right) = false
is_literal (Ternary predicate truthy falsy) = false
is_literal (Agg agg) = false
is_literal (Function input function options) = false
is_literal (Window function partition_by) = false
is_literal Len = false

-- whether an expression is a window
abbrev pub is_window : AExpr → Bool
is_window (Column name) = false
is_window (Literal value) = false
is_window (Alias input name) = false
is_window (BinaryExpr left op right) = false
is_window (Ternary predicate truthy falsy) = false
is_window (Agg agg) = false
is_window (Function input function options) = false
is_window (Window function partition_by) = true
is_window Len = false

-- whether each value that an expression gives comes of one row of its operands alone
abbrev pub works_row_wise : AExpr → Bool
works_row_wise (Column name) = true
works_row_wise (Literal value) = true
works_row_wise (Alias input name) = true
works_row_wise (BinaryExpr left op right) = true
works_row_wise (Ternary predicate truthy falsy) = true
works_row_wise (Agg agg) = false
works_row_wise (Function input function options) = is_row_wise function
works_row_wise (Window function partition_by) = false
works_row_wise Len = false
