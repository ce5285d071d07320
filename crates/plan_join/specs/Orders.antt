-- The order of the pairs of a join, as it is asked.
use Rattle.std.specs.Prelude.{ℕ, List, Option, Some, None}
use Rattle.std.specs.List.{filter_map}
use Rattle.std.specs.List.Sorted.{IsPermutation, IsSorted}
use Rattle.std.specs.Ordering.{nat_cmp, ordering_then}
use Rattle.std.specs.declared.cmp.Ordering.{Ordering}
use Rattle.std.specs.declared.cmp.Ordering.TheVariants.{Less, Equal, Greater}
use Rattle.plan_options.specs.declared.join.JoinType.{JoinType}
use Rattle.plan_options.specs.declared.join.MaintainOrderJoin.{MaintainOrderJoin}
use Rattle.plan_options.specs.declared.join.MaintainOrderJoin.TheVariants as orders
use Rattle.plan_join.specs.declared.pairs.RowPair.{RowPair}
use Rattle.plan_join.specs.Pairs.{Test, join_pairs}

-- how two places stand, of which either may be absent: absent ones come last
abbrev pub place_cmp : Option ℕ → Option ℕ → Ordering
place_cmp (Some i) (Some j) = nat_cmp i j
place_cmp (Some i) None = Less
place_cmp None (Some j) = Greater
place_cmp None None = Equal

-- how two pairs stand by their left rows, and then by their right ones
abbrev pub left_right : RowPair → RowPair → Ordering
left_right p q = ordering_then (place_cmp p.left q.left) (place_cmp p.right q.right)

-- how two pairs stand by their right rows, and then by their left ones
abbrev pub right_left : RowPair → RowPair → Ordering
right_left p q = ordering_then (place_cmp p.right q.right) (place_cmp p.left q.left)

-- pairs stand in the order that is asked: any, by the rows of one side among the pairs that have one, or by those of both
abbrev pub Meets : MaintainOrderJoin → List RowPair → Type 0
Meets orders.None ps = Unit {0}
Meets orders.Left ps = IsSorted nat_cmp (filter_map (λ (p : RowPair). p.left) ps)
Meets orders.Right ps = IsSorted nat_cmp (filter_map (λ (p : RowPair). p.right) ps)
Meets orders.LeftRight ps = IsSorted left_right ps
Meets orders.RightLeft ps = IsSorted right_left ps

-- pairs that a join may give of two sides of these heights: those of its kind, in an order that is asked
pub record ArePicked (how : JoinType) (order : MaintainOrderJoin) (test : Test) (h k : ℕ) (ps : List RowPair) : Type 0 where
  pub pairs : IsPermutation (join_pairs how test h k) ps
  pub in_order : Meets order ps

-- the order by both sides that keeps to one that is asked: by the right rows first where that order speaks of them first, else by the left ones
abbrev pub own_order : MaintainOrderJoin → MaintainOrderJoin
own_order orders.Right = orders.RightLeft
own_order orders.RightLeft = orders.RightLeft
own_order _ = orders.LeftRight
