-- The expressions of an addition over another, parted by what becomes of them.
use Rattle.std.specs.Prelude.{◌≡◌, Bool, false, not, ◌||◌, List, [], ◌∷◌, ◌++◌, fold, if◌then◌else◌}
use Rattle.std.specs.List.{filter as only_where}
use Rattle.std.specs.List.Sorted.{IsPermutation}
use Rattle.plan_core.specs.Names.{has}
use Rattle.plan_expr.specs.declared.aexpr.AExpr.{AExpr}
use Rattle.plan_expr.specs.declared.expr_ir.ExprIR.{ExprIR}
use Rattle.plan_expr.specs.Exprs.{all_named_at}
use Rattle.plan_expr.specs.Leaves.{Name}
use Rattle.plan_meaning.specs.Checks.{is_empty}
use Rattle.plan_collapse_laws.specs.Meeting.{from_behind, moves_down, takes_place}
use Rattle.plan_collapse_laws.specs.Staying.{stays}
use Rattle.plan_cluster.specs.ExprNames.{expr_name}
use Rattle.plan_cluster.specs.declared.parts.Parts.{Parts}

-- no expressions
abbrev pub no_parts : Parts
no_parts = record { stays = []; takes = []; moves = []; from_behind = false }

-- the parts with one more expression, last in the part that it belongs to
abbrev pub parts_with : (stay take : Bool) → Parts → ExprIR → Parts
parts_with stay take p e =
    if stay then record p { stays = p.stays ++ e ∷ [] }
    else (if take then record p { takes = p.takes ++ e ∷ [] }
    else record p { moves = p.moves ++ e ∷ []; from_behind = p.from_behind || not (is_empty p.stays) })

-- the parts with more expressions, where these names stay and those are lower ones
abbrev pub parts_more : (found lower : List Name) → Parts → List ExprIR → Parts
parts_more found lower p es = fold (λ (q : Parts) (e : ExprIR). parts_with (has found (expr_name e)) (has lower (expr_name e)) q e) p es

-- parts are those of upper expressions over lower names
pub record AreParts (ex : List AExpr) (upper : List ExprIR) (lower : List Name) (p : Parts) : Type 0 where
  pub above : all_named_at ex p.stays ≡ only_where (stays (all_named_at ex upper) lower) (all_named_at ex upper)
  pub placed : all_named_at ex p.takes ≡ only_where (takes_place lower (stays (all_named_at ex upper) lower)) (all_named_at ex upper)
  pub moved : all_named_at ex p.moves ≡ only_where (moves_down lower (stays (all_named_at ex upper) lower)) (all_named_at ex upper)
  pub behind : p.from_behind ≡ from_behind (stays (all_named_at ex upper) lower) (takes_place lower (stays (all_named_at ex upper) lower)) false (all_named_at ex upper)
  pub all : IsPermutation upper (p.stays ++ (p.takes ++ p.moves))
