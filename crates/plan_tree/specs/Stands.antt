-- The trees that the numbers of an arena stand over.
use Rattle.std.specs.Prelude.{map, ◌≡◌, ℕ, ◌<◌, ◌≤◌, Bool, false, List, [], ◌∷◌, Some, slice_get, length, ◌⊎◌}
use Rattle.plan_core.specs.declared.arena.Node.{Node}
use Rattle.plan_tree.specs.Rose.{Roses, rose, no_roses, more}

-- how the entries of an arena make trees: the inputs of an entry, in order, and whether it can't stand in a tree
pub record Shape (P : Type 0) : Type 0 where
  pub inputs : P → List Node
  pub bad : P → Bool

-- the shape that these two make
abbrev pub shape : {P : Type 0} → (P → List Node) → (P → Bool) → Shape P
shape inputs bad = record { inputs = inputs; bad = bad }

-- trees of numbered entries
abbrev pub Trees : Type 0 → Type 0
Trees P = Roses Node P

-- the numbers themselves
abbrev pub numbers : List Node → List ℕ
numbers ns = map (λ n. n.0) ns

module _ {P : Type 0} where
  -- the number k stands in the trees
  abbrev pub Reaches : Trees P → ℕ → Type 0
  Reaches no_roses k = ⊥
  Reaches (more (rose n p kids) rest) k = (k ≡ n.0) ⊎ (Reaches kids k ⊎ Reaches rest k)

  -- no number stands in both
  abbrev pub Apart : Trees P → Trees P → Type 0
  Apart f g = (k : ℕ) → Reaches f k → Reaches g k → ⊥

  -- no number stands twice
  abbrev pub IsOnce : Trees P → Type 0
  IsOnce no_roses = Unit {0}
  IsOnce (more (rose n p kids) rest) =
      (Reaches kids n.0 → ⊥) × (Reaches rest n.0 → ⊥) × Apart kids rest × IsOnce kids × IsOnce rest

-- the numbers stand over these trees, one for one
abbrev pub Stands : {P : Type 0} → Shape P → List P → List Node → Trees P → Type 0
Stands S lp [] no_roses = Unit {0}
Stands S lp [] (more (rose m p kids) rest) = ⊥
Stands S lp (n ∷ ns) no_roses = ⊥
Stands S lp (n ∷ ns) (more (rose m p kids) rest) =
    (n ≡ m) × (slice_get lp n.0 ≡ Some p) × (S.bad p ≡ false) × Stands S lp (S.inputs p) kids × Stands S lp ns rest

-- the numbers stand over these trees, in which no number stands twice
pub record StandsOnce {P : Type 0} (S : Shape P) (lp : List P) (ns : List Node) (t : Trees P) : Type 0 where
  pub stands : Stands S lp ns t
  pub once : IsOnce t

-- entries are only appended, and each old one that the trees don't reach stays as it is
pub record Keeps {P : Type 0} (old new : List P) (f : Trees P) : Type 0 where
  pub grows : length old ≤ length new
  pub same : (k : ℕ) → k < length old → (Reaches f k → ⊥) → slice_get new k ≡ slice_get old k

-- the trees f over the numbers became the trees g, which reach only what f reached and what was appended
pub record Rewrites {P : Type 0} (S : Shape P) (old new : List P) (ns : List Node) (f g : Trees P) : Type 0 where
  pub stands : StandsOnce S new ns g
  pub keeps : Keeps old new f
  pub within : (k : ℕ) → Reaches g k → Reaches f k ⊎ (length old ≤ k)
