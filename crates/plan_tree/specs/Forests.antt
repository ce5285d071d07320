-- Trees over other numbers of an arena, and trees that are rewritten where a part of them is.
use Rattle.std.specs.Prelude.{◌≡◌, ◌⊎◌, ℕ, List, [], ◌∷◌, ◌++◌, length}
use Rattle.plan_core.specs.declared.arena.Node.{Node}
use Rattle.plan_tree.specs.Stands.{Apart, Reaches, Rewrites, Shape, StandsOnce, Trees}

-- trees reach only what others reach
abbrev pub ReachesNoMore : {P : Type 0} → Trees P → Trees P → Type 0
ReachesNoMore u t = (k : ℕ) → Reaches u k → Reaches t k

-- where trees stand once over some numbers, trees that reach no more stand once over others
abbrev pub StandsToo : {P : Type 0} → Shape P → List P → List Node → List Node → Type 0
StandsToo {P = P} S lp ns ms = (t : Trees P) → StandsOnce S lp ns t → (u : Trees P) × StandsOnce S lp ms u × ReachesNoMore u t

-- trees stand once over some numbers and others over the rest, apart, and both reach no more than given ones
abbrev pub PickedOf : {P : Type 0} → Shape P → List P → List Node → List Node → Trees P → Type 0
PickedOf {P = P} S lp ms rest t =
    (u v : Trees P) × StandsOnce S lp ms u × StandsOnce S lp rest v × Apart u v × ReachesNoMore u t × ReachesNoMore v t

-- trees stand once over the inputs of an entry and further numbers, reach no more than given ones, and don't reach its number
abbrev pub OpenedAt : {P : Type 0} → Shape P → List P → Node → P → List Node → Trees P → Type 0
OpenedAt {P = P} S lp n p ns t = (u : Trees P) × StandsOnce S lp (S.inputs p ++ ns) u × ReachesNoMore u t × (Reaches u n.0 → ⊥)

-- with an entry behind the others trees stand once over its number and further ones, and reach no more than it and given ones
abbrev pub ToppedBy : {P : Type 0} → Shape P → List P → P → Node → List Node → Trees P → Type 0
ToppedBy {P = P} S lp q n ms t =
    (u : Trees P) × StandsOnce S (lp ++ q ∷ []) (n ∷ ms) u × ((k : ℕ) → Reaches u k → (k ≡ length lp) ⊎ Reaches t k)

-- trees over numbers were rewritten, and still reach a number
pub record RewrittenAt {P : Type 0} (S : Shape P) (old new : List P) (ns : List Node) (f : Trees P) (m : Node) : Type 0 where
  pub trees : Trees P
  pub rewrites : Rewrites S old new ns f trees
  pub reached : Reaches trees m.0
