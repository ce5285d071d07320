-- What a cross join becomes, by the minterms of the run of filters above it.
use Rattle.std.specs.Prelude.{◌≡◌, ◌++◌, Bool, true, false, List, [], length, map, option_map}
use Rattle.plan_core.specs.declared.arena.Node.{Node}
use Rattle.plan_core.specs.Columns.{Columns}
use Rattle.plan_options.specs.declared.join.MaintainOrderJoin.{MaintainOrderJoin}
use Rattle.plan_options.specs.declared.join.MaintainOrderJoin.TheVariants as orders
use Rattle.plan_tree.specs.Rose.{Roses, rose}
use Rattle.plan_expr.specs.declared.aexpr.AExpr.{AExpr}
use Rattle.plan_expr.specs.Exprs.{Expr, Named, expr_at}
use Rattle.plan_ir.specs.Plans.{Op, join, Plan}
use Rattle.plan_join.specs.Told.{inequalities, Told}
use Rattle.plan_meaning.specs.JoinChecks.{conditions}
use Rattle.plan_prune_parts.specs.Places.{TakePlace}
use Rattle.plan_collapse_laws.specs.Collapsed.{by_condition, collapsed_by, on_keys, under}
use Rattle.plan_collapse_laws.specs.CrossKeys.{all_minterms, Crossed, equality_keys, inequality_keys}
use Rattle.plan_collapse_laws.specs.TakenKeys.{and_all, taken, untaken}
use Rattle.plan_collapse.specs.declared.way.Way.{Way}
use Rattle.plan_collapse.specs.declared.way.Way.TheVariants as ways
use Rattle.plan_collapse.specs.KeysAt.{pair_at, split_nodes}

-- whether an order is free
abbrev pub is_free_order : MaintainOrderJoin → Bool
is_free_order orders.None = true
is_free_order order = false

-- a cross join under a run, by these minterms of it
abbrev pub by_minterms : Crossed → List Expr → List Named → Columns → Told → Roses (Unit {0}) Op → Plan
by_minterms j es run schema told inputs =
    collapsed_by (taken (length es) (equality_keys j) es) (taken 2 (inequality_keys j) es) (untaken (length es) (equality_keys j) es) (untaken 2 (inequality_keys j) es) run schema told inputs

-- a cross join with this order becomes so by its minterms: a join on keys, or one by a condition, or what it is under its run
abbrev pub IsWay : List AExpr → Crossed → List Node → MaintainOrderJoin → Way → Type 0
IsWay ex j minterms order (ways.OnKeys how operators split) =
    (run : List Named) (schema : Columns) (told : Told) (inputs : Roses (Unit {0}) Op)
    → by_minterms j (map (expr_at ex) minterms) run schema told inputs ≡ on_keys how (option_map inequalities operators) (map (pair_at ex j) split.keys) (map (expr_at ex) split.rest) schema told inputs
IsWay ex j minterms order ways.Condition =
    (run : List Named) (schema : Columns) (told : Told) (inputs : Roses (Unit {0}) Op)
    → told.args.maintain_order ≡ order
    → by_minterms j (map (expr_at ex) minterms) run schema told inputs ≡ by_condition (and_all (all_minterms run ++ map (λ (e : Named). e.expr) (conditions told.options))) schema told inputs
IsWay ex j minterms order ways.Stays =
    (run : List Named) (schema : Columns) (told : Told) (inputs : Roses (Unit {0}) Op)
    → told.args.maintain_order ≡ order
    → by_minterms j (map (expr_at ex) minterms) run schema told inputs ≡ under run (rose tt (join [] [] schema told) inputs)

-- where a join on keys is made, these and what remains stand in the place of the minterms
abbrev pub StandsInPlace : List AExpr → List Node → Way → Type 0
StandsInPlace ex minterms (ways.OnKeys how operators split) = TakePlace ex ex (split_nodes split) minterms
StandsInPlace ex minterms ways.Condition = Unit {0}
StandsInPlace ex minterms ways.Stays = Unit {0}
