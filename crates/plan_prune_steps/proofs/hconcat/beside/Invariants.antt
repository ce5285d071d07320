use Rattle.std.proofs.Common.{◌≡◌, List, map, take}
use Rattle.plan_expr.specs.declared.aexpr.AExpr.{AExpr}
use Rattle.plan_frame.specs.Beside.{side_by_side}
use Rattle.plan_prune_parts.specs.Said.{columns_at}
use Rattle.plan_prune_steps.proofs.hconcat.beside.Given as goal

-- the columns of the inputs up to here
abbrev pub invariant-loop-input : goal.invariant-loop-input
invariant-loop-input l = (ex : List AExpr) → l.columns ≡ side_by_side (map (columns_at l.lp ex) (take l.input-index l.inputs))
