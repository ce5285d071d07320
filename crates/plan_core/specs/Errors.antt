-- Where a fault lies.
use Rattle.std.specs.Prelude.{ℕ, None}
use Rattle.plan_core.specs.declared.error.At.{At}

-- the item of this number, outside plans
abbrev pub item_at : ℕ → At
item_at place = record { node = None; place = place }
