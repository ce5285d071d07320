-- The options that joins have where nothing else is said, and what their options say.
use Rattle.std.specs.Prelude.{ℕ, Bool, true, false, List, codes, unwrap_or}
use Rattle.plan_options.specs.declared.join.JoinType.{JoinType}
use Rattle.plan_options.specs.declared.join.JoinType.TheVariants.{Inner, Left, Right, Full}
use Rattle.plan_options.specs.declared.join.JoinCoalesce.{JoinCoalesce}
use Rattle.plan_options.specs.declared.join.JoinCoalesce.TheVariants.{JoinSpecific, CoalesceColumns, KeepColumns}
use Rattle.plan_options.specs.declared.join.MaintainOrderJoin.{MaintainOrderJoin}
use Rattle.plan_options.specs.declared.join.MaintainOrderJoin.TheVariants as orders
use Rattle.plan_options.specs.declared.join.JoinArgs.{JoinArgs}

-- as is usual for the join
abbrev pub default_coalesce : JoinCoalesce
default_coalesce = JoinSpecific

-- any order will do
abbrev pub default_order : MaintainOrderJoin
default_order = orders.None

-- the suffix, or `_right`
abbrev pub suffix_of : JoinArgs → List ℕ
suffix_of args = unwrap_or args.suffix (codes "_right")

-- whether a join puts each pair of key columns out as one
abbrev pub coalesces : JoinType → JoinCoalesce → Bool
coalesces Inner KeepColumns = false
coalesces Inner _ = true
coalesces Left KeepColumns = false
coalesces Left _ = true
coalesces Right KeepColumns = false
coalesces Right _ = true
coalesces Full CoalesceColumns = true
coalesces _ _ = false
