-- Plans that give the frames of others with their rows in any order.
use Rattle.std.specs.Prelude.{◌≡◌}
use Rattle.plan_core.specs.Columns.{Columns}
use Rattle.plan_ir.specs.Plans.{Plan}
use Rattle.plan_order_laws.specs.Reordering.{Reordering}
use Rattle.plan_meaning.specs.Relating.{Relates}

-- a plan reorders another: as refinement, but each frame has its rows in any order
abbrev pub Reorders : Plan → Plan → Type 0
Reorders q p = Relates (λ (s t : Columns). s ≡ t) Reordering q p
