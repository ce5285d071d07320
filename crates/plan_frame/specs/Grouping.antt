-- Groupings: rows with the same keys are a group, for which each aggregate has one value.
use Rattle.std.specs.Prelude.{List, [], ◌∷◌, ◌++◌, map, if◌then◌else◌}
use Rattle.plan_tree.specs.Rose.{Roses, rose, no_roses, more}
use Rattle.plan_expr.specs.declared.agg.Aggregate.TheVariants.{Implode}
use Rattle.plan_expr.specs.Exprs.{ExprOp, aggregate, window, Expr, Named}
use Rattle.plan_expr.specs.Scalars.{is_scalar}

-- an expression that has a value for each row as the list of its values, another as it is
abbrev pub gathered_expr : Expr → Expr
gathered_expr e = if is_scalar e then e else rose tt (aggregate Implode) (more e no_roses)

-- an aggregate with one value for a group, under its own name
abbrev pub gathered : Named → Named
gathered e = record { name = e.name; expr = gathered_expr e.expr }

-- the keys of a grouping, and its aggregates with one value for a group
abbrev pub group_exprs : (keys aggs : List Named) → List Named
group_exprs keys aggs = keys ++ map gathered aggs

-- expressions without their names
abbrev pub nameless : List Named → Roses (Unit {0}) ExprOp
nameless [] = no_roses
nameless (e ∷ es) = more e.expr (nameless es)

-- in each row what an aggregate is over the rows of its group, in their order
abbrev pub over_keys : List Named → Named → Named
over_keys keys e = record { name = e.name; expr = rose tt window (more (gathered_expr e.expr) (nameless keys)) }

-- the keys of a grouping, and in each row what its aggregates are over the rows of the row's group
abbrev pub row_exprs : (keys aggs : List Named) → List Named
row_exprs keys aggs = keys ++ map (over_keys keys) aggs
