-- Trees of any number of inputs: a label (a number, or nothing), an item, and the trees of the inputs.
use Rattle.std.specs.Prelude.{ℕ, ◌+◌, max, List, [], ◌∷◌, ◌++◌}

-- a tree, and a list of trees
mutual
  pub data Rose (N P : Type 0) : Type 0 where
    rose : (label : N) → (item : P) → (inputs : Roses N P) → Rose N P

  pub data Roses (N P : Type 0) : Type 0 where
    no_roses : Roses N P
    more : Rose N P → Roses N P → Roses N P

module _ {N P : Type 0} where
  -- how many nodes the trees have
  abbrev pub size : Roses N P → ℕ
  size no_roses = 0
  size (more (rose n p kids) rest) = 1 + size kids + size rest

  -- how many levels the tallest tree has
  abbrev pub levels : Roses N P → ℕ
  levels no_roses = 0
  levels (more (rose n p kids) rest) = max (1 + levels kids) (levels rest)

  -- the labels in walk order: a node, then its inputs from first to last
  abbrev pub labels : Roses N P → List N
  labels no_roses = []
  labels (more (rose n p kids) rest) = n ∷ (labels kids ++ labels rest)

  -- the items in walk order
  abbrev pub items : Roses N P → List P
  items no_roses = []
  items (more (rose n p kids) rest) = p ∷ (items kids ++ items rest)

-- trees side by side
abbrev pub join : {N P : Type 0} → Roses N P → Roses N P → Roses N P
join no_roses g = g
join (more r rest) g = more r (join rest g)

-- the trees with other labels and items
abbrev pub map_roses : {N M P Q : Type 0} → (N → M) → (P → Q) → Roses N P → Roses M Q
map_roses f g no_roses = no_roses
map_roses f g (more (rose n p kids) rest) = more (rose (f n) (g p) (map_roses f g kids)) (map_roses f g rest)
