-- The types of literals, and of what operators, aggregates, choices and functions give.
use Rattle.std.specs.Prelude.{Bool, ◌&&◌, List, [], ◌∷◌, Option, Some, None, is_some, nat_eq, option_and_then, option_map, if◌then◌else◌}
use Rattle.plan_core.specs.Columns.{plain, plain_type_of, type_number}
use Rattle.plan_core.specs.declared.data_type.DataType.{DataType}
use Rattle.plan_core.specs.declared.data_type.DataType.TheVariants as types
use Rattle.plan_expr.specs.declared.agg.Aggregate.{Aggregate}
use Rattle.plan_expr.specs.declared.agg.Aggregate.TheVariants as kinds
use Rattle.plan_expr.specs.declared.function_expr.FunctionExpr.{FunctionExpr}
use Rattle.plan_expr.specs.declared.function_expr.FunctionExpr.TheVariants.{Not, IsNull, IsNotNull, FillNull, Reverse, CumSum}
use Rattle.plan_expr.specs.declared.literal.LiteralValue.{LiteralValue}
use Rattle.plan_expr.specs.declared.literal.LiteralValue.TheVariants.{Null, Int64, String, Boolean}
use Rattle.plan_expr.specs.declared.operator.Operator.{Operator}
use Rattle.plan_expr.specs.declared.operator.Operator.TheVariants.{Eq, NotEq, Lt, LtEq, Gt, GtEq, EqValidity, NotEqValidity, And, Or, Xor, Plus, Minus, Multiply}

-- whether two types are one
abbrev pub same_type : DataType → DataType → Bool
same_type t u = nat_eq (type_number t) (type_number u)

-- whether a type is that of single values
abbrev pub is_plain : DataType → Bool
is_plain t = is_some (plain_type_of t)

-- the type of a literal
abbrev pub literal_type : LiteralValue → DataType
literal_type (Null type) = plain type
literal_type (Int64 number) = types.Int64
literal_type (String text) = types.String
literal_type (Boolean truth) = types.Boolean

-- whether both types are one, that of single values
abbrev pub are_alike : DataType → DataType → Bool
are_alike t u = same_type t u && is_plain t

-- whether both types are this one
abbrev pub both_are : DataType → DataType → DataType → Bool
both_are t u v = same_type t u && same_type t v

-- whether an operator takes operands of these types: a comparison two of one type of single values, logic truth values, arithmetic whole numbers
abbrev pub takes : Operator → DataType → DataType → Bool
takes Eq t u = are_alike t u
takes NotEq t u = are_alike t u
takes Lt t u = are_alike t u
takes LtEq t u = are_alike t u
takes Gt t u = are_alike t u
takes GtEq t u = are_alike t u
takes EqValidity t u = are_alike t u
takes NotEqValidity t u = are_alike t u
takes And t u = both_are types.Boolean t u
takes Or t u = both_are types.Boolean t u
takes Xor t u = both_are types.Boolean t u
takes Plus t u = both_are types.Int64 t u
takes Minus t u = both_are types.Int64 t u
takes Multiply t u = both_are types.Int64 t u

-- the type of what an operator gives
abbrev pub gives : Operator → DataType
gives Eq = types.Boolean
gives NotEq = types.Boolean
gives Lt = types.Boolean
gives LtEq = types.Boolean
gives Gt = types.Boolean
gives GtEq = types.Boolean
gives EqValidity = types.Boolean
gives NotEqValidity = types.Boolean
gives And = types.Boolean
gives Or = types.Boolean
gives Xor = types.Boolean
gives Plus = types.Int64
gives Minus = types.Int64
gives Multiply = types.Int64

-- the type of an operator over operands of these types, if it takes them
abbrev pub operator_type : Operator → DataType → DataType → Option DataType
operator_type op t u = if takes op t u then Some (gives op) else None

-- a type, where it is that of single values
abbrev pub plain_only : DataType → Option DataType
plain_only t = if is_plain t then Some t else None

-- the type of the lists of some values, where these are no lists
abbrev pub list_of : DataType → Option DataType
list_of t = option_map types.List (plain_type_of t)

-- the type of what an aggregate makes of values of a type, if it takes them
abbrev pub aggregate_type : Aggregate → DataType → Option DataType
aggregate_type kinds.Min t = plain_only t
aggregate_type kinds.Max t = plain_only t
aggregate_type kinds.Sum t = if same_type t types.Int64 then Some types.Int64 else None
aggregate_type (kinds.Count nulls) t = Some types.Int64
aggregate_type kinds.NUnique t = if is_plain t then Some types.Int64 else None
aggregate_type kinds.First t = Some t
aggregate_type kinds.Last t = Some t
aggregate_type kinds.Implode t = list_of t

-- the type of a choice between two values, if what decides is a truth value and they are of one type
abbrev pub choice_type : DataType → DataType → DataType → Option DataType
choice_type predicate truthy falsy = if same_type predicate types.Boolean && same_type truthy falsy then Some truthy else None

-- the type of a function of one input, if it takes it
abbrev pub unary_type : FunctionExpr → DataType → Option DataType
unary_type Not t = if same_type t types.Boolean then Some types.Boolean else None
unary_type IsNull t = Some types.Boolean
unary_type IsNotNull t = Some types.Boolean
unary_type FillNull t = None
unary_type Reverse t = Some t
unary_type CumSum t = if same_type t types.Int64 then Some types.Int64 else None

-- the type of a function of two inputs, if it takes them
abbrev pub binary_type : FunctionExpr → DataType → DataType → Option DataType
binary_type FillNull t u = if same_type t u then Some t else None
binary_type _ t u = None

-- the type of what a function makes of inputs of these types, if it takes them
abbrev pub function_type : FunctionExpr → List DataType → Option DataType
function_type function [] = None
function_type function (t ∷ []) = unary_type function t
function_type function (t ∷ u ∷ []) = binary_type function t u
function_type function (t ∷ u ∷ v ∷ ts) = None

-- the values, if all are there
abbrev pub all_of : {X : Type 0} → List (Option X) → Option (List X)
all_of [] = Some []
all_of (p ∷ ps) = option_and_then (λ x. option_and_then (λ xs. Some (x ∷ xs)) (all_of ps)) p
