-- Which rows meet what only some kinds of joins are told.
use Rattle.std.specs.Prelude.{◌≡◌, ◌<◌, ℕ, Bool, true, false, List, [], ◌∷◌, length, get_or, Option, None, Some}
use Rattle.plan_core.specs.Columns.{Columns, HasDistinctNames}
use Rattle.plan_core.specs.declared.arena.Node.{Node}
use Rattle.plan_options.specs.declared.join.JoinArgs.{JoinArgs}
use Rattle.plan_expr.specs.declared.aexpr.AExpr.{AExpr}
use Rattle.plan_expr.specs.Exprs.{expr_at}
use Rattle.plan_expr.specs.Operands.{IsExpr}
use Rattle.plan_frame.specs.Frames.{Frame}
use Rattle.plan_frame.specs.Meaning.{Cell, val, value_at}
use Rattle.plan_frame.specs.Values.{is_true}
use Rattle.plan_join.specs.declared.options.JoinTypeOptionsIR.{JoinTypeOptionsIR}
use Rattle.plan_join.specs.declared.options.JoinTypeOptionsIR.TheVariants.{IEJoin, Cross}
use Rattle.plan_join.specs.Naming.{join_columns}
use Rattle.plan_join.specs.Told.{operators}
use Rattle.plan_join.specs.Joined.{joined}
use Rattle.plan_join.specs.Matching.{keys_match, keys_meet}
use Rattle.plan_join.specs.declared.matches.Matches.{Matches}
use Rattle.plan_join.specs.Pairs.{Test, both, passing}
use Rattle.plan_join.specs.Rows.{flipped}

-- whether a condition is true of the one row that a join makes of two
abbrev pub condition_test : List AExpr → JoinArgs → Node → (f g : Frame) → Test
condition_test ex args condition f g = λ i j. is_true (value_at (val (expr_at ex condition) (joined args [] [] (both i j ∷ []) f g)) 0)

-- whether two rows meet what is told, by the keys of both sides
abbrev pub kind_test : List AExpr → JoinArgs → JoinTypeOptionsIR → (left right : List Cell) → (f g : Frame) → Test
kind_test ex args (IEJoin o) cs ds f g = keys_meet (operators o) cs ds
kind_test ex args (Cross predicate) cs ds f g = condition_test ex args predicate.node f g

-- a test with the rows of the side that is gone through first
abbrev pub sided : (by_right : Bool) → Test → Test
sided true test = flipped test
sided false test = test

-- for each of so many rows there is a list: of the rows that pass its test, of so many, in order
pub record AreLists (test : Test) (h k : ℕ) (lists : List (List ℕ)) : Type 0 where
  pub long : length lists ≡ h
  pub each : (i : ℕ) → i < h → get_or lists i [] ≡ passing (test i) k

-- each row has its own list
pub record AreOwn (lists : List (List ℕ)) (k : ℕ) (m : Matches) : Type 0 where
  pub lists_are : m.lists.items ≡ lists
  pub others : m.others ≡ k
  pub numbers : length m.numbers ≡ length lists
  pub own : (i : ℕ) → i < length lists → get_or m.numbers i None ≡ Some i

-- a condition is an expression over the columns of the join, in which no name comes twice
abbrev pub IsConditioned : List AExpr → JoinArgs → JoinTypeOptionsIR → Columns → Columns → Type 0
IsConditioned ex args (IEJoin o) s t = Unit {0}
IsConditioned ex args (Cross predicate) s t = IsExpr ex predicate.node × HasDistinctNames (join_columns args [] [] s t)

-- whether two rows match, by the keys of both sides: where these are equal, or meet what is told
abbrev pub option_test : List AExpr → JoinArgs → Option JoinTypeOptionsIR → (left right : List Cell) → (f g : Frame) → Test
option_test ex args None cs ds f g = keys_match args.join_nulls cs ds
option_test ex args (Some told) cs ds f g = kind_test ex args told cs ds f g

-- where something is told that only some kinds of joins are, it is a condition over the columns of the join, if it is one
abbrev pub IsTold : List AExpr → JoinArgs → Option JoinTypeOptionsIR → Columns → Columns → Type 0
IsTold ex args None s t = Unit {0}
IsTold ex args (Some told) s t = IsConditioned ex args told s t
