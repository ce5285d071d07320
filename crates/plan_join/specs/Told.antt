-- What a join is told beside its keys, with its condition as a tree without numbers.
use Rattle.std.specs.Prelude.{Bool, List, [], ◌∷◌, Option, None, Some, option_map}
use Rattle.std.specs.List.{filter_map}
use Rattle.plan_options.specs.declared.join.IEJoinOptions.{IEJoinOptions}
use Rattle.plan_options.specs.declared.join.InequalityOperator.{InequalityOperator}
use Rattle.plan_options.specs.declared.join.JoinArgs.{JoinArgs}
use Rattle.plan_tree.specs.Rose.{rose, no_roses}
use Rattle.plan_expr.specs.declared.aexpr.AExpr.{AExpr}
use Rattle.plan_expr.specs.Exprs.{column, Expr, Named, named_at}
use Rattle.plan_expr.specs.Leaves.{Name}
use Rattle.plan_join.specs.declared.options.JoinOptions.{JoinOptions}
use Rattle.plan_join.specs.declared.options.JoinTypeOptionsIR.{JoinTypeOptionsIR}
use Rattle.plan_join.specs.declared.options.JoinTypeOptionsIR.TheVariants as told

-- what only some kinds of joins are told: the inequalities that keys meet, or a condition on a pair of rows
pub data KindOptions : Type 0 where
  inequalities : IEJoinOptions → KindOptions
  condition : Named → KindOptions

-- what a join is told beside its keys
pub record Told : Type 0 where
  pub allow_parallel : Bool
  pub force_parallel : Bool
  pub args : JoinArgs
  pub options : Option KindOptions

-- what only some kinds of joins are told, read at its number
abbrev pub kind_options_at : List AExpr → JoinTypeOptionsIR → KindOptions
kind_options_at ex (told.IEJoin operators) = inequalities operators
kind_options_at ex (told.Cross predicate) = condition (named_at ex predicate)

-- what a join is told, read at its numbers
abbrev pub told_at : List AExpr → JoinOptions → Told
told_at ex o = record { allow_parallel = o.allow_parallel; force_parallel = o.force_parallel; args = o.args; options = option_map (kind_options_at ex) o.options }

-- the column that an expression is, if it is one
abbrev pub expr_column : Expr → Option Name
expr_column (rose n (column a) no_roses) = Some a
expr_column e = None

-- the columns among keys, in order
abbrev pub column_keys : List Named → List Name
column_keys keys = filter_map (λ (key : Named). expr_column key.expr) keys

-- one inequality, or none
abbrev pub operator_if : Option InequalityOperator → List InequalityOperator
operator_if None = []
operator_if (Some op) = op ∷ []

-- the inequalities that keys meet, for each pair of keys one
abbrev pub operators : IEJoinOptions → List InequalityOperator
operators o = o.operator1 ∷ operator_if o.operator2
