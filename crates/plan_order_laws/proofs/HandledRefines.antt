-- The caches of a number, handled, whatever the plan: it refines.
use Rattle.std.proofs.Common.{ℕ, Bool, true, false}
use Rattle.plan_ir.specs.Plans.{Plan}
use Rattle.plan_meaning.specs.Relating.{Refines}
use Rattle.plan_meaning.specs.Steps.{IsValid}
use Rattle.plan_order_laws.specs.Handled.{handled}
use Rattle.plan_order_laws.proofs.NarrowedRefines.{narrowed_refines}
use Rattle.plan_order_laws.proofs.RemovedRefines.{removed_refines}
use Rattle.plan_order_laws.proofs.RenewedNarrows.{renews}

pub handled_refines : (differ : Bool) (id : ℕ) (p : Plan) → IsValid p → Refines (handled differ id p) p
handled_refines true id p v = removed_refines id false p v
handled_refines false id p v = narrowed_refines renews id p v
