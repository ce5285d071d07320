-- The joins that the entries of a document stand for.
use Rattle.std.specs.Prelude.{ℕ, Bool, List, [], ◌∷◌, Option, Some, None, is_some, if◌then◌else◌, codes, bytes_eq}
use Rattle.serde_json.specs.Data.{Data}
use Rattle.serde_json.specs.Find.{get}
use Rattle.plan_expr.specs.declared.expr_ir.ExprIR.{ExprIR}
use Rattle.plan_ir.specs.declared.ir.IR.{IR}
use Rattle.plan_ir.specs.declared.ir.IR.TheVariants as nodes
use Rattle.plan_join.specs.declared.options.JoinOptions.{JoinOptions}
use Rattle.plan_join.specs.declared.options.JoinTypeOptionsIR.{JoinTypeOptionsIR}
use Rattle.plan_join.specs.declared.options.JoinTypeOptionsIR.TheVariants as told
use Rattle.plan_options.specs.declared.join.InequalityOperator.{InequalityOperator}
use Rattle.plan_options.specs.declared.join.InequalityOperator.TheVariants as inequalities
use Rattle.plan_options.specs.declared.join.JoinArgs.{JoinArgs}
use Rattle.plan_options.specs.declared.join.JoinCoalesce.{JoinCoalesce}
use Rattle.plan_options.specs.declared.join.JoinCoalesce.TheVariants as coalesces
use Rattle.plan_options.specs.declared.join.JoinType.{JoinType}
use Rattle.plan_options.specs.declared.join.JoinType.TheVariants as joins
use Rattle.plan_options.specs.declared.join.MaintainOrderJoin.{MaintainOrderJoin}
use Rattle.plan_options.specs.declared.join.MaintainOrderJoin.TheVariants as orders
use Rattle.plan_doc_parts.specs.Parts.{◌>>=◌, entries_of, nullable, name_of, link_of, truth_of, columns_of, output_of, outputs_of, slice_of, two_of}
use Rattle.plan_doc_parts.specs.Members.{object_of, at, only_of}

-- which pairs of rows a join gives, as a text names it
unfoldable pub how_named : List ℕ → Option JoinType
how_named s =
    if bytes_eq s (codes "Inner") then Some joins.Inner else (
    if bytes_eq s (codes "Left") then Some joins.Left else (
    if bytes_eq s (codes "Right") then Some joins.Right else (
    if bytes_eq s (codes "Full") then Some joins.Full else (
    if bytes_eq s (codes "Cross") then Some joins.Cross else (
    if bytes_eq s (codes "Semi") then Some joins.Semi else (
    if bytes_eq s (codes "Anti") then Some joins.Anti else (
    if bytes_eq s (codes "IEJoin") then Some joins.IEJoin else None)))))))

-- the name of which pairs of rows a join gives
unfoldable pub how_of : Data → Option JoinType
how_of d = do
  s ← name_of d
  how_named s

-- whether a pair of key columns is put out as one, as a text names it
unfoldable pub coalesce_named : List ℕ → Option JoinCoalesce
coalesce_named s =
    if bytes_eq s (codes "JoinSpecific") then Some coalesces.JoinSpecific else (
    if bytes_eq s (codes "CoalesceColumns") then Some coalesces.CoalesceColumns else (
    if bytes_eq s (codes "KeepColumns") then Some coalesces.KeepColumns else None))

-- the name of whether a pair of key columns is put out as one
unfoldable pub coalesce_of : Data → Option JoinCoalesce
coalesce_of d = do
  s ← name_of d
  coalesce_named s

-- which order of its inputs a join keeps, as a text names it
unfoldable pub order_named : List ℕ → Option MaintainOrderJoin
order_named s =
    if bytes_eq s (codes "None") then Some orders.None else (
    if bytes_eq s (codes "Left") then Some orders.Left else (
    if bytes_eq s (codes "Right") then Some orders.Right else (
    if bytes_eq s (codes "LeftRight") then Some orders.LeftRight else (
    if bytes_eq s (codes "RightLeft") then Some orders.RightLeft else None))))

-- the name of which order of its inputs a join keeps
unfoldable pub order_of : Data → Option MaintainOrderJoin
order_of d = do
  s ← name_of d
  order_named s

-- the inequality that a text names
unfoldable pub inequality_named : List ℕ → Option InequalityOperator
inequality_named s =
    if bytes_eq s (codes "Lt") then Some inequalities.Lt else (
    if bytes_eq s (codes "LtEq") then Some inequalities.LtEq else (
    if bytes_eq s (codes "Gt") then Some inequalities.Gt else (
    if bytes_eq s (codes "GtEq") then Some inequalities.GtEq else None)))

-- the name of an inequality
unfoldable pub inequality_of : Data → Option InequalityOperator
inequality_of d = do
  s ← name_of d
  inequality_named s

-- one inequality, or two
abbrev pub one_or_two : List Data → Option JoinTypeOptionsIR
one_or_two (a ∷ []) = do
  o ← inequality_of a
  Some (told.IEJoin (record { operator1 = o; operator2 = None }))
one_or_two (a ∷ b ∷ []) = do
  o ← inequality_of a
  p ← inequality_of b
  Some (told.IEJoin (record { operator1 = o; operator2 = Some p }))
one_or_two ds = None

-- an array of one inequality or two
unfoldable pub inequalities_of : Data → Option JoinTypeOptionsIR
inequalities_of d = do
  ds ← entries_of d
  one_or_two ds

-- a condition on a pair of rows
unfoldable pub condition_of : Data → Option JoinTypeOptionsIR
condition_of d = do
  p ← output_of d
  Some (told.Cross p)

-- what only some kinds of joins are told, which stands under its name in an object of one key
abbrev pub kind_options_of : Data → Option JoinTypeOptionsIR
kind_options_of d =
    if is_some (get (codes "cross") d) then (only_of (codes "cross") d >>= condition_of) else (
    if is_some (get (codes "ie") d) then (only_of (codes "ie") d >>= inequalities_of) else None)

-- whether the sides may be computed at once, and whether they are
unfoldable pub parallel_of : Data → Option (Bool × Bool)
parallel_of d = do
  p ← two_of d
  a ← truth_of p.0
  f ← truth_of p.1
  Some (a, f)

-- whether pairs of keys are put out as one, and the suffix of right columns
unfoldable pub naming_of : Data → Option (JoinCoalesce × Option (List ℕ))
naming_of o = do
  coalesce ← get (codes "coalesce") o
  c ← coalesce_of coalesce
  s ← at (codes "suffix") (nullable name_of) o
  Some (c, s)

-- which rows there are, in which order, and how the columns are named
unfoldable pub join_args_of : Data → Option JoinArgs
join_args_of o = do
  how ← get (codes "how") o
  h ← how_of how
  names ← naming_of o
  n ← at (codes "join_nulls") truth_of o
  order ← get (codes "maintain_order") o
  m ← order_of order
  s ← at (codes "slice") (nullable slice_of) o
  Some (record { how = h; coalesce = names.0; suffix = names.1; join_nulls = n; maintain_order = m; slice = s })

-- what a join is told beside its keys
unfoldable pub join_options_of : Data → Option JoinOptions
join_options_of o = do
  parallel ← get (codes "parallel") o
  p ← parallel_of parallel
  args ← join_args_of o
  k ← at (codes "options") (nullable kind_options_of) o
  Some (record { allow_parallel = p.0; force_parallel = p.1; args = args; options = k })

-- the keys of a join's object
unfoldable pub join_keys : List (List ℕ)
join_keys = codes "coalesce" ∷ codes "how" ∷ codes "join_nulls" ∷ codes "left" ∷ codes "left_on" ∷ codes "maintain_order" ∷ codes "op" ∷ codes "options" ∷ codes "parallel" ∷ codes "right" ∷ codes "right_on" ∷ codes "schema" ∷ codes "slice" ∷ codes "suffix" ∷ []

-- the keys over the left columns, and those over the right ones
unfoldable pub key_pairs_of : Data → Option (List ExprIR × List ExprIR)
key_pairs_of o = do
  ls ← at (codes "left_on") outputs_of o
  rs ← at (codes "right_on") outputs_of o
  Some (ls, rs)

-- rows of two inputs that match, side by side
unfoldable pub join_of : Data → Option IR
join_of d = do
  o ← object_of join_keys d
  l ← at (codes "left") link_of o
  r ← at (codes "right") link_of o
  s ← at (codes "schema") columns_of o
  ks ← key_pairs_of o
  options ← join_options_of o
  Some (nodes.Join l r s ks.0 ks.1 options)
