-- How deep expressions are: each one is deeper than those that it is made of.
use Rattle.std.proofs.Common.{◌≡◌, ℕ, ◌<◌, ◌≤◌, List, [], ◌∷◌, ◌++◌, reverse, max, get_or, Some, refl, ap, ◌∙◌, arith}
use Rattle.std.proofs.lemmas.List.{reverse-append}
use Rattle.std.specs.List.{slice_get}
use Rattle.std.proofs.lemmas.Option.{slice_get_within, get_or_from_slice_get}
use denote.Param.Weighed.{most, most-append, at_most}
use Rattle.plan_dsl.specs.declared.expr.Expr.{Expr, size-Expr, size_is-Expr, items-the_row-Expr, items_shown-the_row-Expr-0}
use Rattle.plan_dsl.specs.declared.expr.Expr.TheVariants as exprs
use Rattle.plan_dsl.specs.declared.expr.AggExpr.{AggExpr, size-AggExpr}
use Rattle.plan_dsl.specs.declared.expr.AggExpr.TheVariants as aggs
use Rattle.plan_dsl.specs.declared.expr.AggExpr.TheViews as views
use Rattle.plan_dsl.specs.Parts.{children, aggregated}

-- what is aggregated is less deep
aggregated_below : (agg : AggExpr) → size-Expr (aggregated agg) < size-AggExpr agg
aggregated_below (aggs.Min' p e) = omega (arith, views.deep-Min' p e)
aggregated_below (aggs.Max' p e) = omega (arith, views.deep-Max' p e)
aggregated_below (aggs.Sum' p e) = omega (arith, views.deep-Sum' p e)
aggregated_below (aggs.Count' p e nulls) = omega (arith, views.deep-Count' p e nulls)
aggregated_below (aggs.NUnique' p e) = omega (arith, views.deep-NUnique' p e)
aggregated_below (aggs.First' p e) = omega (arith, views.deep-First' p e)
aggregated_below (aggs.Last' p e) = omega (arith, views.deep-Last' p e)
aggregated_below (aggs.Implode' p e) = omega (arith, views.deep-Implode' p e)

-- a list turned round is as deep
most-reverse : (es : List Expr) → most size-Expr (reverse es) ≡ most size-Expr es
most-reverse [] = refl
most-reverse (e ∷ es) =
    let apart : most size-Expr (reverse es ++ e ∷ []) ≡ max (most size-Expr (reverse es)) (most size-Expr (e ∷ [])) = most-append size-Expr (reverse es) (e ∷ []) in
    ap (most size-Expr) (reverse-append (e ∷ []) es) ∙ omega (arith, apart, most-reverse es)

-- those that an expression is made of are less deep
pub children_below : (e : Expr) → most size-Expr (children e) < size-Expr e
children_below (exprs.Alias' p e name) = omega (arith, views.deep-Alias' p e name)
children_below (exprs.Column name) = omega (arith, views.deep-Column name)
children_below (exprs.Columns names) = omega (arith, views.deep-Columns names)
children_below (exprs.DtypeColumn types) = omega (arith, views.deep-DtypeColumn types)
children_below (exprs.IndexColumn places) = omega (arith, views.deep-IndexColumn places)
children_below (exprs.Literal value) = omega (arith, views.deep-Literal value)
children_below (exprs.BinaryExpr' p left op q right) = omega (arith, views.deep-BinaryExpr' p left op q right)
children_below (exprs.Cast' p e dtype) = omega (arith, views.deep-Cast' p e dtype)
children_below (exprs.Sort' p e descending nulls_last) = omega (arith, views.deep-Sort' p e descending nulls_last)
children_below (exprs.Gather' p e q idx returns_scalar) = omega (arith, views.deep-Gather' p e q idx returns_scalar)
children_below (exprs.SortBy' p e s by) = omega (arith, rw views.outs-SortBy' at (size_is-Expr (exprs.SortBy' p e s by)), ap (most size-Expr) (items_shown-the_row-Expr-0 s by), most-reverse (items-the_row-Expr _ by))
children_below (exprs.Agg agg) = omega (arith, views.deep-Agg agg, aggregated_below agg)
children_below (exprs.Ternary' p predicate q truthy r falsy) = omega (arith, views.deep-Ternary' p predicate q truthy r falsy)
children_below (exprs.Function' s input function options) = omega (arith, rw views.outs-Function' at (size_is-Expr (exprs.Function' s input function options)), ap (most size-Expr) (items_shown-the_row-Expr-0 s input))
children_below (exprs.Explode' p e) = omega (arith, views.deep-Explode' p e)
children_below (exprs.Filter' p input q by) = omega (arith, views.deep-Filter' p input q by)
children_below (exprs.Window' p function s partition_by) = omega (arith, rw views.outs-Window' at (size_is-Expr (exprs.Window' p function s partition_by)), ap (most size-Expr) (items_shown-the_row-Expr-0 s partition_by))
children_below exprs.Wildcard = omega (arith, views.deep-Wildcard)
children_below (exprs.Slice' p input q offset r len) = omega (arith, views.deep-Slice' p input q offset r len)
children_below (exprs.Exclude' p e names) = omega (arith, views.deep-Exclude' p e names)
children_below (exprs.KeepName' p e) = omega (arith, views.deep-KeepName' p e)
children_below (exprs.RenameAlias' p e) = omega (arith, views.deep-RenameAlias' p e)
children_below exprs.Len = omega (arith, views.deep-Len)
children_below (exprs.Nth place) = omega (arith, views.deep-Nth place)

-- the one at a place of those that stand below
pub part_below : (below : Expr → List Expr) → ((e : Expr) → most size-Expr (below e) < size-Expr e) → (e c : Expr) (i : ℕ) → slice_get (below e) i ≡ Some c → size-Expr c < size-Expr e
part_below below falls e c i there =
    let small : size-Expr (get_or (below e) i c) ≤ most size-Expr (below e) = at_most size-Expr (below e) i c (slice_get_within (below e) i c there) in
    omega (arith, falls e, small, ap size-Expr (get_or_from_slice_get (below e) i c c there))

-- the one at a place of those that an expression is made of is less deep
pub child_below : (e c : Expr) (i : ℕ) → slice_get (children e) i ≡ Some c → size-Expr c < size-Expr e
child_below = part_below children children_below
