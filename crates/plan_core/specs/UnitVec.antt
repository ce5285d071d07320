-- What a `UnitVec` keeps.
use Rattle.std.specs.Prelude.{◌≡◌, List, [], length}
use Rattle.plan_core.specs.declared.unit_vec.Store.{Store}
use Rattle.plan_core.specs.declared.unit_vec.Store.TheVariants.{Empty, One, Many}

module _ {T : Type 0} where
  -- the values, in order
  abbrev pub items_of : Store T → List T
  items_of Empty = []
  items_of (One one) = one.items
  items_of (Many items) = items.items

  -- what is kept without memory is one value
  abbrev pub HoldsOne : Store T → Type 0
  HoldsOne Empty = Unit {0}
  HoldsOne (One one) = (length one.items ≡ 1) × (one.capacity ≡ 1)
  HoldsOne (Many items) = Unit {0}

  -- no value is kept without memory
  abbrev pub IsNotOne : Store T → Type 0
  IsNotOne (One one) = ⊥
  IsNotOne _ = Unit {0}
