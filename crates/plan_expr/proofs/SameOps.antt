-- Operators are the same just where they are equal.
use Rattle.std.proofs.Common.{◌≡◌, ◌==◌, ℕ, Bool, true, false, ◌&&◌, Option, Some, None, refl, ap, ap₂}
use Rattle.std.specs.Cmp.{booleans_Decides, signed_Decides, unsigned_Decides}
use Rattle.std.proofs.lemmas.Bool.{and_parts}
use Rattle.std.proofs.lemmas.Slice.Eq.{bytes_eq-Decides}
use mathlib.Core.Bool.{beq}
use Rattle.std.specs.Option.{option_eq}
use Rattle.plan_core.specs.declared.data_type.PlainType.TheVariants as plains
use Rattle.plan_options.specs.declared.function.ApplyOptions.{ApplyOptions}
use Rattle.plan_options.specs.declared.function.ApplyOptions.TheVariants as ways
use Rattle.plan_options.specs.declared.function.CastingRules.{CastingRules}
use Rattle.plan_options.specs.declared.function.CastingRules.TheVariants as rules
use Rattle.plan_options.specs.contracts.function.ApplyOptionsPartialEq.TheImpl as applied
use Rattle.plan_options.specs.contracts.function.CastingRulesPartialEq.TheImpl as castings
use Rattle.plan_options.specs.declared.function.FunctionOptions.{FunctionOptions}
use Rattle.plan_options.specs.contracts.function.FunctionOptionsPartialEq.TheImpl as options
use Rattle.plan_expr.specs.declared.agg.Aggregate.{Aggregate}
use Rattle.plan_expr.specs.declared.agg.Aggregate.TheVariants as aggs
use Rattle.plan_expr.specs.declared.function_expr.FunctionExpr.{FunctionExpr}
use Rattle.plan_expr.specs.declared.function_expr.FunctionExpr.TheVariants as calls
use Rattle.plan_expr.specs.declared.literal.LiteralValue.{LiteralValue}
use Rattle.plan_expr.specs.declared.literal.LiteralValue.TheVariants as values
use Rattle.plan_expr.specs.declared.operator.Operator.{Operator}
use Rattle.plan_expr.specs.declared.operator.Operator.TheVariants as signs
use Rattle.plan_expr.specs.contracts.agg.AggregatePartialEq.TheImpl as aggregates
use Rattle.plan_expr.specs.contracts.function_expr.FunctionExprPartialEq.TheImpl as functions
use Rattle.plan_expr.specs.contracts.literal.LiteralValuePartialEq.TheImpl as literals
use Rattle.plan_expr.specs.contracts.operator.OperatorPartialEq.TheImpl as operators
use Rattle.plan_expr.specs.Exprs.{ExprOp, column, literal, alias, binary, ternary, aggregate, call, window, len}
use Rattle.plan_expr.specs.Same.{same_op}

pub both : (a b : Bool) → a ≡ true → b ≡ true → (a && b) ≡ true
both true b e f = f
both false b e f = cc

operator_is : (o p : Operator) → operators.ghosts.eq o p ≡ true → o ≡ p
operator_is signs.Eq signs.Eq e = refl
operator_is signs.NotEq signs.NotEq e = refl
operator_is signs.Lt signs.Lt e = refl
operator_is signs.LtEq signs.LtEq e = refl
operator_is signs.Gt signs.Gt e = refl
operator_is signs.GtEq signs.GtEq e = refl
operator_is signs.EqValidity signs.EqValidity e = refl
operator_is signs.NotEqValidity signs.NotEqValidity e = refl
operator_is signs.And signs.And e = refl
operator_is signs.Or signs.Or e = refl
operator_is signs.Xor signs.Xor e = refl
operator_is signs.Plus signs.Plus e = refl
operator_is signs.Minus signs.Minus e = refl
operator_is signs.Multiply signs.Multiply e = refl
operator_is o p e = cc

operator_same : (o : Operator) → operators.ghosts.eq o o ≡ true
operator_same signs.Eq = refl
operator_same o = refl

function_is : (f g : FunctionExpr) → functions.ghosts.eq f g ≡ true → f ≡ g
function_is calls.Not calls.Not e = refl
function_is calls.IsNull calls.IsNull e = refl
function_is calls.IsNotNull calls.IsNotNull e = refl
function_is calls.FillNull calls.FillNull e = refl
function_is calls.Reverse calls.Reverse e = refl
function_is calls.CumSum calls.CumSum e = refl
function_is f g e = cc

function_same : (f : FunctionExpr) → functions.ghosts.eq f f ≡ true
function_same calls.Not = refl
function_same f = refl

aggregate_is : (o p : Aggregate) → aggregates.ghosts.eq o p ≡ true → o ≡ p
aggregate_is aggs.Min aggs.Min e = refl
aggregate_is aggs.Max aggs.Max e = refl
aggregate_is aggs.Sum aggs.Sum e = refl
aggregate_is (aggs.Count a) (aggs.Count b) e = ap aggs.Count ((booleans_Decides a b).0 e)
aggregate_is aggs.NUnique aggs.NUnique e = refl
aggregate_is aggs.First aggs.First e = refl
aggregate_is aggs.Last aggs.Last e = refl
aggregate_is aggs.Implode aggs.Implode e = refl
aggregate_is o p e = cc

aggregate_same : (o : Aggregate) → aggregates.ghosts.eq o o ≡ true
aggregate_same (aggs.Count a) = (booleans_Decides a a).1 refl
aggregate_same o = refl

literal_is : (v w : LiteralValue) → literals.ghosts.eq v w ≡ true → v ≡ w
literal_is (values.Null plains.Int64) (values.Null plains.Int64) e = refl
literal_is (values.Null plains.String) (values.Null plains.String) e = refl
literal_is (values.Null plains.Boolean) (values.Null plains.Boolean) e = refl
literal_is (values.Int64 a) (values.Int64 b) e = ap values.Int64 ((signed_Decides a b).0 e)
literal_is (values.String a) (values.String b) e = ap values.String ((bytes_eq-Decides a b).0 e)
literal_is (values.Boolean a) (values.Boolean b) e = ap values.Boolean ((booleans_Decides a b).0 e)
literal_is v w e = cc

literal_same : (v : LiteralValue) → literals.ghosts.eq v v ≡ true
literal_same (values.Null plains.Int64) = refl
literal_same (values.Null plains.String) = refl
literal_same (values.Null plains.Boolean) = refl
literal_same (values.Int64 a) = (signed_Decides a a).1 refl
literal_same (values.String a) = (bytes_eq-Decides a a).1 refl
literal_same (values.Boolean a) = (booleans_Decides a a).1 refl

applied_is : (a b : ApplyOptions) → applied.ghosts.eq a b ≡ true → a ≡ b
applied_is ways.GroupWise ways.GroupWise e = refl
applied_is ways.ApplyList ways.ApplyList e = refl
applied_is ways.ElementWise ways.ElementWise e = refl
applied_is a b e = cc

applied_same : (a : ApplyOptions) → applied.ghosts.eq a a ≡ true
applied_same ways.GroupWise = refl
applied_same a = refl

cast_is : (a b : Option CastingRules) → option_eq castings.ghosts.eq a b ≡ true → a ≡ b
cast_is None None e = refl
cast_is (Some rules.FirstArgLossless) (Some rules.FirstArgLossless) e = refl
cast_is (Some rules.Supertype) (Some rules.Supertype) e = refl
cast_is a b e = cc

cast_same : (a : Option CastingRules) → option_eq castings.ghosts.eq a a ≡ true
cast_same None = refl
cast_same (Some rules.FirstArgLossless) = refl
cast_same (Some rules.Supertype) = refl

options_is : (o p : FunctionOptions) → options.ghosts.eq o p ≡ true → o ≡ p
options_is o p e =
    let casts = option_eq castings.ghosts.eq o.cast_options p.cast_options in
    let flags = o.flags.0 == p.flags.0 in
    let q = and_parts (applied.ghosts.eq o.collect_groups p.collect_groups) (beq o.check_lengths p.check_lengths && (flags && casts)) e in
    let r = and_parts (beq o.check_lengths p.check_lengths) (flags && casts) q.1 in
    let s = and_parts flags casts r.1 in
    ap₂ (λ (first : ApplyOptions × Bool) (second : ℕ × Option CastingRules). record { collect_groups = first.0; check_lengths = first.1; flags = record { 0 = second.0 }; cast_options = second.1 })
    (ap₂ (λ (a : ApplyOptions) (b : Bool). (a, b)) (applied_is o.collect_groups p.collect_groups q.0) ((booleans_Decides o.check_lengths p.check_lengths).0 r.0))
    (ap₂ (λ (n : ℕ) (c : Option CastingRules). (n, c)) ((unsigned_Decides o.flags.0 p.flags.0).0 s.0) (cast_is o.cast_options p.cast_options s.1))

options_same : (o : FunctionOptions) → options.ghosts.eq o o ≡ true
options_same o =
    let casts = option_eq castings.ghosts.eq o.cast_options o.cast_options in
    let flags = o.flags.0 == o.flags.0 in
    both (applied.ghosts.eq o.collect_groups o.collect_groups) (beq o.check_lengths o.check_lengths && (flags && casts)) (applied_same o.collect_groups)
    (both (beq o.check_lengths o.check_lengths) (flags && casts) ((booleans_Decides o.check_lengths o.check_lengths).1 refl)
    (both flags casts ((unsigned_Decides o.flags.0 o.flags.0).1 refl) (cast_same o.cast_options)))

pub op_is : (o p : ExprOp) → same_op o p ≡ true → o ≡ p
op_is (column a) (column b) e = ap column ((bytes_eq-Decides a b).0 e)
op_is (literal v) (literal w) e = ap literal (literal_is v w e)
op_is (alias a) (alias b) e = ap alias ((bytes_eq-Decides a b).0 e)
op_is (binary o) (binary p) e = ap binary (operator_is o p e)
op_is ternary ternary e = refl
op_is (aggregate o) (aggregate p) e = ap aggregate (aggregate_is o p e)
op_is (call f o) (call g p) e = let q = and_parts (functions.ghosts.eq f g) (options.ghosts.eq o p) e in ap₂ call (function_is f g q.0) (options_is o p q.1)
op_is window window e = refl
op_is len len e = refl
op_is o p e = cc

pub op_same : (o : ExprOp) → same_op o o ≡ true
op_same (column a) = (bytes_eq-Decides a a).1 refl
op_same (literal v) = literal_same v
op_same (alias a) = (bytes_eq-Decides a a).1 refl
op_same (binary o) = operator_same o
op_same ternary = refl
op_same (aggregate o) = aggregate_same o
op_same (call f o) = both (functions.ghosts.eq f f) (options.ghosts.eq o o) (function_same f) (options_same o)
op_same window = refl
op_same len = refl
