-- What is told of the keys up to here.
use Rattle.std.proofs.Common.{◌≡◌, List, map, take}
use Rattle.plan_expr.specs.declared.aexpr.AExpr.{AExpr}
use Rattle.plan_collapse_laws.specs.CrossKeys.{Crossed}
use Rattle.plan_collapse_laws.specs.TakenKeys.{operators_of}
use Rattle.plan_collapse.specs.KeysAt.{pair_at}
use Rattle.plan_collapse.proofs.named.operators_of.Given as goal

abbrev pub invariant-loop-key : goal.invariant-loop-key
invariant-loop-key l = (ex : List AExpr) (j : Crossed) → l.told ≡ operators_of (map (pair_at ex j) (take l.key-index l.keys))
