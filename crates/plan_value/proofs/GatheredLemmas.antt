-- Expressions with one value for a group.
use Rattle.std.proofs.Common.{◌≡◌, Bool, true, false, cond, refl}
use Rattle.plan_tree.specs.Rose.{rose, no_roses, more}
use Rattle.plan_expr.specs.declared.agg.Aggregate.TheVariants.{Implode}
use Rattle.plan_expr.specs.Exprs.{Expr, aggregate}
use Rattle.plan_expr.specs.Scalars.{is_scalar}
use Rattle.plan_frame.specs.Frames.{Frame}
use Rattle.plan_frame.specs.Grouping.{gathered_expr}
use Rattle.plan_frame.specs.Meaning.{only_value, val}
use Rattle.plan_value.specs.Groups.{gathered_value}

-- the one value of an expression for a group, from what it is over the group's rows
pub gathered-is : (e : Expr) (f : Frame) → gathered_value (is_scalar e) (val e f) ≡ only_value (val (gathered_expr e) f)
gathered-is e f = at (is_scalar e)
  where
    at : (b : Bool) → gathered_value b (val e f) ≡ only_value (val (cond b e (rose tt (aggregate Implode) (more e no_roses))) f)
    at true = refl
    at false = refl
