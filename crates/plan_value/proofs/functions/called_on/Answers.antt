use Rattle.std.proofs.Common.{◌≡◌, ◌∙◌, refl}
use Rattle.plan_expr.specs.declared.function_expr.FunctionExpr.{FunctionExpr}
use Rattle.plan_expr.specs.declared.function_expr.FunctionExpr.TheVariants.{Not, IsNull, IsNotNull}
use Rattle.plan_frame.specs.Meaning.{Cell, called_on, each_value}
use Rattle.plan_value.specs.Cells.{cell_of}
use Rattle.plan_value.specs.Pairs.{in_row}
use Rattle.plan_value.proofs.functions.called_on.Goals as goal

-- what holds of a function that it is, holds of it
by-row : (f g : FunctionExpr) (c : Cell) → f ≡ g → each_value (in_row g) c ≡ called_on g c → each_value (in_row f) c ≡ called_on f c
by-row f g c e h = rw e h

pub returns-in_ok-each-in-Not : goal.returns-in_ok-each-in-Not
returns-in_ok-each-in-Not c = c.in_ok-each-in-Not.ensures ∙ by-row c.args.function Not (cell_of c.args.input) c.in-Not.is refl

pub returns-in_ok-each-in-IsNull : goal.returns-in_ok-each-in-IsNull
returns-in_ok-each-in-IsNull c = c.in_ok-each-in-IsNull.ensures ∙ by-row c.args.function IsNull (cell_of c.args.input) c.in-IsNull.is refl

pub returns-in_ok-each-in-IsNotNull : goal.returns-in_ok-each-in-IsNotNull
returns-in_ok-each-in-IsNotNull c = c.in_ok-each-in-IsNotNull.ensures ∙ by-row c.args.function IsNotNull (cell_of c.args.input) c.in-IsNotNull.is refl
