-- The order of pairs that a join chooses among those that are asked.
use Rattle.plan_join.specs.Told.{Told}
use Rattle.plan_join.specs.Orders.{own_order}

-- what a join is told, with the order by the rows of both sides that keeps to the one that is asked
abbrev pub own_told : Told → Told
own_told told = record told { args = record told.args { maintain_order = own_order told.args.maintain_order } }
