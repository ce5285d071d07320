-- What the columns of a join are called over pruned sides, by what it is told and by these sides.
use Rattle.std.proofs.Common.{◌≡◌, ◌∙◌, All, List, sym, ap, ap₂}
use Rattle.std.specs.Option.{option_map_or}
use Rattle.plan_core.specs.Columns.{Columns, names_of}
use Rattle.plan_options.specs.declared.join.JoinArgs.{JoinArgs}
use Rattle.plan_options.specs.Join.{suffix_of}
use Rattle.plan_expr.specs.declared.aexpr.AExpr.{AExpr}
use Rattle.plan_expr.specs.declared.expr_ir.ExprIR.{ExprIR}
use Rattle.plan_expr.specs.Exprs.{all_named_at}
use Rattle.plan_expr.specs.Leaves.{Name}
use Rattle.plan_expr.specs.Operands.{IsExpr}
use Rattle.plan_join.specs.declared.origin.Side.{Side}
use Rattle.plan_join.specs.Naming.{called, key_columns, left_rest}
use Rattle.plan_join.specs.Told.{column_keys}
use Rattle.plan_pruned.specs.JoinPruned.{called_now}
use Rattle.plan_prune_parts.specs.declared.origins.Origins.{Origins}
use Rattle.plan_prune_parts.specs.Left.{name_now}
use Rattle.plan_prune_parts.specs.Origins.{origin_in}
use Rattle.plan_prune_parts.proofs.KeyLemmas.{columns_at}

abbrev now_by : Origins → (suffix : Name) → Columns → Name → Name
now_by o suffix left a = option_map_or (λ (c : Side × Name). called suffix (names_of left) c.0 c.1) (origin_in o a) a

-- names are called so by the suffix and the left columns of a join
pub names_are : (args : JoinArgs) (ex : List AExpr) (keys : List ExprIR) (left : Columns) (o : Origins) (suffix : Name) (rest : Columns) → All (λ (e : ExprIR). IsExpr ex e.node) keys → suffix ≡ suffix_of args → rest ≡ left_rest args (key_columns ex keys) left → name_now (record { origins = o; suffix = suffix; left = rest }) ≡ called_now args (column_keys (all_named_at ex keys)) left (origin_in o)
names_are args ex keys left o suffix rest h is left_is =
    ap₂ (λ (s : Name) (l : Columns). now_by o s l) is (left_is ∙ ap (λ (ks : List Name). left_rest args ks left) (sym (columns_at ex keys h)))
