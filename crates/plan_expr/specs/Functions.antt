-- The options that functions carry, the inputs that they take, and which of them work row by row.
use Rattle.std.specs.Prelude.{ℕ, Bool, true, false, ◌&&◌, nat_eq, Option, None, Some}
use Rattle.std.specs.Bool.{beq}
use Rattle.plan_options.specs.declared.function.ApplyOptions.{ApplyOptions}
use Rattle.plan_options.specs.declared.function.ApplyOptions.TheVariants.{GroupWise, ApplyList, ElementWise}
use Rattle.plan_options.specs.declared.function.CastingRules.{CastingRules}
use Rattle.plan_options.specs.declared.function.CastingRules.TheVariants.{FirstArgLossless, Supertype}
use Rattle.plan_options.specs.declared.function.FunctionOptions.{FunctionOptions}
use Rattle.plan_options.specs.Flags.{bits_of}
use Rattle.plan_options.specs.Function.{default_function}
use Rattle.plan_expr.specs.declared.function_expr.FunctionExpr.{FunctionExpr}
use Rattle.plan_expr.specs.declared.function_expr.FunctionExpr.TheVariants.{Not, IsNull, IsNotNull, FillNull, Reverse, CumSum}

-- whether a function works row by row, or on the rows of a group
abbrev pub groups_of : FunctionExpr → ApplyOptions
groups_of Not = ElementWise
groups_of IsNull = ElementWise
groups_of IsNotNull = ElementWise
groups_of FillNull = ElementWise
groups_of Reverse = GroupWise
groups_of CumSum = GroupWise

-- the options that a function must carry: the default ones, applied row by row where it works so
abbrev pub options_of : FunctionExpr → FunctionOptions
options_of function = record default_function { collect_groups = groups_of function }

-- whether each value that a function gives comes of one row alone
abbrev pub is_row_wise : FunctionExpr → Bool
is_row_wise Not = true
is_row_wise IsNull = true
is_row_wise IsNotNull = true
is_row_wise FillNull = true
is_row_wise Reverse = false
is_row_wise CumSum = false

-- how many inputs a function takes
abbrev pub inputs_of : FunctionExpr → ℕ
inputs_of Not = 1
inputs_of IsNull = 1
inputs_of IsNotNull = 1
inputs_of FillNull = 2
inputs_of Reverse = 1
inputs_of CumSum = 1

-- a number for each way to be applied
abbrev pub apply_number : ApplyOptions → ℕ
apply_number GroupWise = 0
apply_number ApplyList = 1
apply_number ElementWise = 2

-- a number for each way in which the types of inputs may be changed
abbrev pub casting_number : Option CastingRules → ℕ
casting_number None = 0
casting_number (Some FirstArgLossless) = 1
casting_number (Some Supertype) = 2

-- whether two lists of options are one
abbrev pub same_options : FunctionOptions → FunctionOptions → Bool
same_options a b =
    nat_eq (apply_number a.collect_groups) (apply_number b.collect_groups)
    && (beq a.check_lengths b.check_lengths
    && (nat_eq (bits_of a.flags) (bits_of b.flags)
    && nat_eq (casting_number a.cast_options) (casting_number b.cast_options)))

-- whether these are the options that a function must carry
abbrev pub carries_own : FunctionExpr → FunctionOptions → Bool
carries_own function options = same_options options (options_of function)
