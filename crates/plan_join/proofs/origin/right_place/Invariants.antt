use Rattle.std.proofs.Common.{◌≡◌, drop}
use Rattle.plan_join.specs.Naming.{key_columns}
use Rattle.plan_join.specs.Origins.{right_origin}
use Rattle.plan_join.proofs.origin.right_place.Given as goal

-- the first right column that is put out under the name is the first of those that are left
abbrev pub invariant-loop-place : goal.invariant-loop-place
invariant-loop-place l = right_origin l.args (key_columns l.ex l.left_on) (key_columns l.ex l.right_on) l.left l.right l.name ≡ right_origin l.args (key_columns l.ex l.left_on) (key_columns l.ex l.right_on) l.left (drop l.place l.right) l.name
