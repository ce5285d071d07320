-- Which columns of two sides a join puts out, by their names alone, and which right key fills a left one.
use Rattle.std.specs.Prelude.{Bool, true, false, List, ◌∷◌, ◌++◌, map, Option, None, Some, if◌then◌else◌}
use Rattle.std.specs.List.{filter as only_where}
use Rattle.std.specs.Str.{bytes_eq}
use Rattle.plan_options.specs.declared.join.JoinArgs.{JoinArgs}
use Rattle.plan_options.specs.declared.join.JoinCoalesce.{JoinCoalesce}
use Rattle.plan_options.specs.declared.join.JoinCoalesce.TheVariants.{CoalesceColumns}
use Rattle.plan_options.specs.declared.join.JoinType.{JoinType}
use Rattle.plan_options.specs.declared.join.JoinType.TheVariants.{Full}
use Rattle.plan_expr.specs.Leaves.{Name}
use Rattle.plan_join.specs.declared.origin.Side.{Side}
use Rattle.plan_join.specs.declared.origin.Side.TheVariants as sides
use Rattle.plan_join.specs.Origins.{puts_out_left, puts_out_right}

-- the left columns that a join puts out, by the columns among its left keys
abbrev pub left_out : JoinArgs → List Name → List Name → List Name
left_out args keys names = only_where (puts_out_left args keys) names

-- the right columns that it puts out, by the columns among its right keys
abbrev pub right_out : JoinArgs → List Name → List Name → List Name
right_out args keys names = only_where (puts_out_right args keys) names

-- the columns that it puts out, in order: of which side each is, and its name there
abbrev pub name_sources : JoinArgs → (left_keys right_keys : List Name) → (left right : List Name) → List (Side × Name)
name_sources args left_keys right_keys left right = map (λ (a : Name). (sides.Left, a)) (left_out args left_keys left) ++ map (λ (a : Name). (sides.Right, a)) (right_out args right_keys right)

-- the right key of the first pair of keys whose left key is this column
abbrev pub partner : (left_keys right_keys : List Name) → Name → Option Name
partner (l ∷ ls) (r ∷ rs) a = if bytes_eq a l then Some r else partner ls rs a
partner _ _ a = None

-- whether a join fills left keys from right ones: a full join that puts each pair of keys out as one
abbrev pub fills : JoinType → JoinCoalesce → Bool
fills Full CoalesceColumns = true
fills _ _ = false

-- the right key from which a left column has its values where the left row is absent
abbrev pub filler : JoinArgs → (left_keys right_keys : List Name) → Name → Option Name
filler args left_keys right_keys a = if fills args.how args.coalesce then partner left_keys right_keys a else None
