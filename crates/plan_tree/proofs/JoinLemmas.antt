-- What trees side by side have.
use Rattle.std.proofs.Common.{◌≡◌, ◌+◌, max, ◌++◌, refl, arith, append_assoc}
use Rattle.plan_tree.specs.Rose.{Roses, rose, no_roses, more, size, levels, labels, items, join}

module _ {N P : Type 0} where
  pub size-join : (f g : Roses N P) → size (join f g) ≡ size f + size g
  size-join no_roses g = omega arith
  size-join (more (rose n p kids) rest) g = omega (arith, size-join rest g)

  pub levels-join : (f g : Roses N P) → levels (join f g) ≡ max (levels f) (levels g)
  levels-join no_roses g = omega arith
  levels-join (more (rose n p kids) rest) g = omega (arith, levels-join rest g)

  pub labels-join : (f g : Roses N P) → labels (join f g) ≡ labels f ++ labels g
  labels-join no_roses g = refl
  labels-join (more (rose n p kids) rest) g = rw (labels-join rest g, append_assoc) refl

  pub items-join : (f g : Roses N P) → items (join f g) ≡ items f ++ items g
  items-join no_roses g = refl
  items-join (more (rose n p kids) rest) g = rw (items-join rest g, append_assoc) refl

  pub join-none : (f : Roses N P) → join f no_roses ≡ f
  join-none no_roses = refl
  join-none (more r rest) = rw (join-none rest) refl

  pub join-assoc : (f g h : Roses N P) → join (join f g) h ≡ join f (join g h)
  join-assoc no_roses g h = refl
  join-assoc (more r rest) g h = rw (join-assoc rest g h) refl
