-- A join along the pairs in the order by both sides may give what it gives.
use Rattle.std.proofs.Common.{List}
use Rattle.plan_expr.specs.Exprs.{Named}
use Rattle.plan_frame.specs.Frames.{Frame}
use Rattle.plan_join.specs.Told.{Told}
use Rattle.plan_join.specs.Matching.{Joins}
use Rattle.plan_join.proofs.OrderLemmas.{own-asked}
use Rattle.plan_join.specs.OwnOrders.{own_told}

pub own_joins : (told : Told) (left_on right_on : List Named) (f g frame : Frame) → Joins (own_told told) left_on right_on f g frame → Joins told left_on right_on f g frame
own_joins told left_on right_on f g frame h = (h.0, record { pairs = h.1.pairs; in_order = own-asked told.args.maintain_order h.0 h.1.in_order }, h.2)
