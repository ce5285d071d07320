-- What is made of two values, and of one by a function that looks at one row alone.
use Rattle.std.specs.Prelude.{not}
use Rattle.plan_expr.specs.declared.function_expr.FunctionExpr.{FunctionExpr}
use Rattle.plan_expr.specs.declared.function_expr.FunctionExpr.TheVariants.{Not, IsNull, IsNotNull}
use Rattle.plan_frame.specs.Aggregates.{filled_null, negated}
use Rattle.plan_frame.specs.Meaning.{operated}
use Rattle.plan_frame.specs.Values.{Value, null, truth, is_null}
use Rattle.plan_value.specs.declared.spread.Pairing.{Pairing}
use Rattle.plan_value.specs.declared.spread.Pairing.TheVariants.{Operator, FillNull}

-- what is made of two values
abbrev pub paired : Pairing → Value → Value → Value
paired (Operator op) x y = operated op x y
paired FillNull x y = filled_null x y

-- what a function makes of one value: the truth value that it isn't, whether it is null, or whether it isn't; null where the
-- function looks at other rows too, or takes two values
abbrev pub in_row : FunctionExpr → Value → Value
in_row Not v = negated v
in_row IsNull v = truth (is_null v)
in_row IsNotNull v = truth (not (is_null v))
in_row _ v = null
