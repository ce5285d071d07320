-- Filters over frames, and over joins that put out all columns of both sides.
use Rattle.std.specs.Prelude.{◌≡◌, Bool, false, true, List, [], ◌∷◌}
use Rattle.std.specs.List.{list_all}
use Rattle.plan_options.specs.declared.join.JoinArgs.{JoinArgs}
use Rattle.plan_options.specs.Join.{coalesces}
use Rattle.plan_expr.specs.Exprs.{Expr}
use Rattle.plan_expr.specs.Leaves.{Name}
use Rattle.plan_join.specs.Naming.{has_right}
use Rattle.plan_frame.specs.Values.{is_true}
use Rattle.plan_frame.specs.Frames.{Frame}
use Rattle.plan_frame.specs.Meaning.{val, value_at}
use Rattle.plan_frame.specs.Rows.{filtered}
use Rattle.plan_join.specs.declared.pairs.RowPair.{RowPair}
use Rattle.plan_join.specs.Joined.{joined}
use Rattle.plan_join.specs.Sides.{fills}

-- a join puts out all columns of both sides, and fills none
pub record PutsOutAll (args : JoinArgs) : Type 0 where
  pub keeps : coalesces args.how args.coalesce ≡ false
  pub rights : has_right args.how ≡ true
  pub filled : fills args.how args.coalesce ≡ false

-- whether a pair of rows makes an expression true over what a join makes of it alone
abbrev pub holds : JoinArgs → (left_keys right_keys : List Name) → (left right : Frame) → Expr → RowPair → Bool
holds args lk rk f g e p = is_true (value_at (val e (joined args lk rk (p ∷ []) f g)) 0)

-- whether it makes all of some expressions true
abbrev pub all_hold : JoinArgs → (left_keys right_keys : List Name) → (left right : Frame) → List Expr → RowPair → Bool
all_hold args lk rk f g es p = list_all (λ (e : Expr). holds args lk rk f g e p) es

-- a frame under filters, topmost first
abbrev pub chain : List Expr → Frame → Frame
chain [] f = f
chain (e ∷ es) f = filtered e (chain es f)
