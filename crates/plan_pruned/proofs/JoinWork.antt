-- A pruned join scans what its sides scan, has at most one node more, and makes nothing.
use Rattle.std.proofs.Common.{◌≡◌, ◌+◌, ◌≤◌, Bool, true, false, cond, List, [], ◌∷◌, map, refl, append-nil, arith}
use Rattle.std.specs.List.{list_all}
use Rattle.plan_core.specs.Columns.{Columns, names_of}
use Rattle.plan_core.specs.Names.{has}
use Rattle.plan_core.specs.Options.{default_projection}
use Rattle.plan_tree.specs.Rose.{Roses, rose, no_roses, more}
use Rattle.plan_expr.specs.Exprs.{Named}
use Rattle.plan_expr.specs.Leaves.{Name}
use Rattle.plan_ir.specs.Plans.{Op, join, select, simple_projection, Plan}
use Rattle.plan_join.specs.Naming.{has_right}
use Rattle.plan_join.specs.Told.{Told}
use Rattle.plan_meaning.specs.Scans.{scans, nodes}
use Rattle.plan_meaning.specs.Work.{made, reckoned_exprs}
use Rattle.plan_pruned.specs.JoinPruned.{are_called_alike, columns_left, join_left, name_now, named_now, pruned_join, renaming, topped_if}

-- the plan with what goes on top of it, where the names are called alike and where they are all the columns
abbrev with_top : (Name → Name) → List Name → Columns → Plan → Bool → Bool → Plan
with_top now l columns p b c =
    cond b (cond c p (rose tt (simple_projection (named_now now columns l)) (more p no_roses))) (rose tt (select (map (renaming now) l) (named_now now columns l) default_projection) (more p no_roses))

topped_scans : (right : Bool) (now : Name → Name) (l : List Name) (columns : Columns) (p : Plan) → scans (topped_if right now l columns p) ≡ scans p
topped_scans false now l columns p = refl
topped_scans true now l columns p = at (are_called_alike now l) (list_all (has l) (names_of columns))
  where
    at : (b c : Bool) → scans (with_top now l columns p b c) ≡ scans p
    at true true = refl
    at true false = append-nil (scans p)
    at false c = append-nil (scans p)

topped_nodes : (right : Bool) (now : Name → Name) (l : List Name) (columns : Columns) (p : Plan) → nodes (topped_if right now l columns p) ≤ cond right 1 0 + nodes p
topped_nodes false now l columns p = omega arith
topped_nodes true now l columns p = at (are_called_alike now l) (list_all (has l) (names_of columns))
  where
    at : (b c : Bool) → nodes (with_top now l columns p b c) ≤ 1 + nodes p
    at true true = omega arith
    at true false = omega arith
    at false c = omega arith

-- columns by themselves make nothing
reckoned-renamings : (now : Name → Name) (l : List Name) → reckoned_exprs (map (renaming now) l) ≡ 0
reckoned-renamings now [] = refl
reckoned-renamings now (a ∷ l) = reckoned-renamings now l

topped_made : (right : Bool) (now : Name → Name) (l : List Name) (columns : Columns) (p : Plan) → made (topped_if right now l columns p) ≤ made p
topped_made false now l columns p = omega arith
topped_made true now l columns p = at (are_called_alike now l) (list_all (has l) (names_of columns))
  where
    at : (b c : Bool) → made (with_top now l columns p b c) ≤ made p
    at true true = omega arith
    at true false = omega arith
    at false c = let e = reckoned-renamings now l in omega (arith, e)

module _ (left_on right_on : List Named) (stored : Columns) (told : Told) (s t : Columns) (inputs : Roses (Unit {0}) Op) where
  abbrev given : Plan
  given = rose tt (join left_on right_on stored told) inputs

  abbrev pruned : List Name → Plan
  pruned asked = pruned_join asked left_on right_on stored told s t inputs

  pub join_scans : (asked : List Name) → scans (pruned asked) ≡ scans given
  join_scans [] = refl
  join_scans (a ∷ l) = topped_scans (has_right told.args.how) (name_now (a ∷ l) left_on right_on told s t inputs) (a ∷ l) (columns_left (a ∷ l) left_on right_on told s t inputs) (join_left (a ∷ l) left_on right_on told s t inputs)

  pub join_nodes : (asked : List Name) → nodes (pruned asked) ≤ cond (has_right told.args.how) 1 0 + nodes given
  join_nodes [] = omega arith
  join_nodes (a ∷ l) =
      let e = topped_nodes (has_right told.args.how) (name_now (a ∷ l) left_on right_on told s t inputs) (a ∷ l) (columns_left (a ∷ l) left_on right_on told s t inputs) (join_left (a ∷ l) left_on right_on told s t inputs) in
      omega (arith, e)

  pub join_made : (asked : List Name) → made (pruned asked) ≤ made given
  join_made [] = omega arith
  join_made (a ∷ l) =
      let e = topped_made (has_right told.args.how) (name_now (a ∷ l) left_on right_on told s t inputs) (a ∷ l) (columns_left (a ∷ l) left_on right_on told s t inputs) (join_left (a ∷ l) left_on right_on told s t inputs) in
      omega (arith, e)
