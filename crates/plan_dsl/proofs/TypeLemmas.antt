-- What holds of lists of expressions, by their rows.
use Rattle.std.proofs.Common.{◌≡◌, ◌≤◌, Bool, ◌&&◌, List, [], ◌∷◌, Option, Some, None, is_some, length, map, option_and_then, refl, ap, sym, ◌∙◌, arith}
use Rattle.std.specs.List.{list_all}
use Rattle.plan_core.specs.Columns.{Columns}
use Rattle.plan_core.specs.declared.data_type.DataType.{DataType}
use Rattle.plan_dsl.specs.declared.expr.Expr.{Expr, Row_of-Expr, end_of-Expr, more_of-Expr, items-the_row-Expr}
use Rattle.plan_dsl.specs.declared.expr.Expr.TheVariants as exprs
use Rattle.plan_dsl.specs.declared.expr.AggExpr.{AggExpr}
use Rattle.plan_dsl.specs.declared.expr.AggExpr.TheVariants as aggs
use Rattle.plan_dsl.specs.Parts.{aggregate_of, aggregated}
use Rattle.plan_expr.specs.declared.function_expr.FunctionExpr.{FunctionExpr}
use Rattle.plan_expr.specs.Types.{aggregate_type, all_of, function_type}
use Rattle.plan_dsl.specs.Typing.{agg_type, are_scalar, expr_type, is_scalar, row_typed, row_types}

-- the types of the expressions of a row
pub row_types-is : (s : Columns) {m : _} (row : Row_of-Expr m) → row_types s row ≡ map (expr_type s) (items-the_row-Expr m row)
row_types-is s end_of-Expr = refl
row_types-is s (more_of-Expr e rest) = ap (λ (ts : List (Option DataType)). expr_type s e ∷ ts) (row_types-is s rest)

-- whether those of a row have types
pub row_typed-is : (s : Columns) {m : _} (row : Row_of-Expr m) → row_typed s row ≡ list_all (λ e. is_some (expr_type s e)) (items-the_row-Expr m row)
row_typed-is s end_of-Expr = refl
row_typed-is s (more_of-Expr e rest) = ap (λ (b : Bool). is_some (expr_type s e) && b) (row_typed-is s rest)

-- whether those of a row are scalar
pub are_scalar-is : {m : _} (row : Row_of-Expr m) → are_scalar row ≡ list_all is_scalar (items-the_row-Expr m row)
are_scalar-is end_of-Expr = refl
are_scalar-is (more_of-Expr e rest) = ap (λ (b : Bool). is_scalar e && b) (are_scalar-is rest)

-- the type of an aggregate is by what it aggregates
pub agg_type-is : (s : Columns) (agg : AggExpr) → agg_type s agg ≡ option_and_then (aggregate_type (aggregate_of agg)) (expr_type s (aggregated agg))
agg_type-is s (aggs.Min' p e) = refl
agg_type-is s (aggs.Max' p e) = refl
agg_type-is s (aggs.Sum' p e) = refl
agg_type-is s (aggs.Count' p e nulls) = refl
agg_type-is s (aggs.NUnique' p e) = refl
agg_type-is s (aggs.First' p e) = refl
agg_type-is s (aggs.Last' p e) = refl
agg_type-is s (aggs.Implode' p e) = refl

-- no function takes more than two inputs
pub function_many : (function : FunctionExpr) (f : Expr → Option DataType) (es : List Expr) → 3 ≤ length es → option_and_then (function_type function) (all_of (map f es)) ≡ None
function_many function f [] long = absurd (omega arith)
function_many function f (a ∷ []) long = absurd (omega arith)
function_many function f (a ∷ b ∷ []) long = absurd (omega arith)
function_many function f (a ∷ b ∷ c ∷ es) long = go (f a) (f b) (f c) (all_of (map f es))
  where
    go : (p q r : Option DataType) (ts : Option (List DataType)) → option_and_then (function_type function) (option_and_then (λ x. option_and_then (λ xs. Some (x ∷ xs)) (option_and_then (λ y. option_and_then (λ ys. Some (y ∷ ys)) (option_and_then (λ z. option_and_then (λ zs. Some (z ∷ zs)) ts) r)) q)) p) ≡ None
    go None q r ts = refl
    go (Some x) None r ts = refl
    go (Some x) (Some y) None ts = refl
    go (Some x) (Some y) (Some z) None = refl
    go (Some x) (Some y) (Some z) (Some zs) = refl

-- the type of an aggregate, from the type of what it aggregates
pub agg_typed : (s : Columns) (e i : Expr) (agg : AggExpr) (p q : Option DataType) → e ≡ exprs.Agg agg → i ≡ aggregated agg → p ≡ expr_type s i → p ≡ q → expr_type s e ≡ option_and_then (aggregate_type (aggregate_of agg)) q
agg_typed s e i agg p q is input typed known =
    ap (expr_type s) is
    ∙ agg_type-is s agg
    ∙ ap (λ (x : Expr). option_and_then (aggregate_type (aggregate_of agg)) (expr_type s x)) (sym input)
    ∙ ap (option_and_then (aggregate_type (aggregate_of agg))) (sym typed ∙ known)
