-- Names among others.
use Rattle.std.specs.Prelude.{◌≡◌, true, List}
use Rattle.plan_core.specs.Names.{has}
use Rattle.plan_expr.specs.Leaves.{Name}

-- each of the others is among the names
abbrev pub AreAmong : List Name → List Name → Type 0
AreAmong names others = (a : Name) → has others a ≡ true → has names a ≡ true
