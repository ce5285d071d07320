-- Layers at numbers of an arena, each over the next.
use Rattle.std.specs.Prelude.{◌≡◌, ℕ, ◌<◌, ◌≤◌, ◌⊎◌, false, List, [], ◌++◌, ◌∷◌, Option, Some, None, length, slice_get, slice_set}
use Rattle.plan_core.specs.declared.arena.Node.{Node}
use Rattle.plan_expr.specs.declared.aexpr.AExpr.{AExpr}
use Rattle.plan_ir.specs.declared.ir.IR.{IR}
use Rattle.plan_ir.specs.declared.ir.IR.TheVariants.{HStack, SimpleProjection}
use Rattle.plan_ir.specs.Parts.{is_hstack}
use Rattle.plan_meaning.specs.Checks.{is_empty}
use Rattle.plan_collapse_laws.specs.Runs.{rested}
use Rattle.plan_cluster.specs.declared.layer.Layer.{Layer}
use Rattle.plan_cluster.specs.declared.layer.Layer.TheVariants.{Adds, Projects}
use Rattle.plan_cluster.specs.Layers.{layer_roots, links_at}
use Rattle.plan_cluster.specs.Looks.{ArePart}

-- the node that a layer is over an input
abbrev pub node_over : Layer → Node → IR
node_over (Adds a) input = HStack input a.exprs a.schema a.options
node_over (Projects columns) input = SimpleProjection input columns

-- the first of some numbers, or that below them
abbrev pub top_of : List Node → Node → Node
top_of [] below = below
top_of (n ∷ ns) below = n

-- layers stand at numbers, each over the next, the last one over the number below
abbrev pub Chained : List IR → List Node → List Layer → Node → Type 0
Chained lp [] [] below = Unit {0}
Chained lp [] (k ∷ ks) below = ⊥
Chained lp (n ∷ ns) [] below = ⊥
Chained lp (n ∷ ns) (k ∷ ks) below = (slice_get lp n.0 ≡ Some (node_over k (top_of ns below))) × Chained lp ns ks below

-- the number k is one of these
abbrev pub Among : ℕ → List Node → Type 0
Among k [] = ⊥
Among k (n ∷ ns) = (k ≡ n.0) ⊎ Among k ns

-- no number stands twice
abbrev pub AllDiffer : List Node → Type 0
AllDiffer [] = Unit {0}
AllDiffer (n ∷ ns) = (Among n.0 ns → ⊥) × AllDiffer ns

-- each layer is an addition
abbrev pub AreAdds : List Layer → Type 0
AreAdds [] = Unit {0}
AreAdds (Adds a ∷ ks) = AreAdds ks
AreAdds (Projects columns ∷ ks) = ⊥

-- an addition was taken from a node, and is the last of a run; another node stayed
abbrev pub TakenOne : (old new : List IR) → Node → IR → (before after : List Layer) → Option Node → Type 0
TakenOne old new node p before after None = (is_hstack p ≡ false) × (new ≡ old) × (after ≡ before)
TakenOne old new node p before after (Some input) = (k : Layer) × (d : IR) × (p ≡ node_over k input) × AreAdds (k ∷ []) × (after ≡ before ++ k ∷ []) × (new ≡ slice_set old node.0 d)

-- a run of additions was taken from its numbers, the first of which is that of a node, down to one that is no addition; all else is as it was
pub record TakenOut (old new : List IR) (node : Node) (places : List Node) (run : List Layer) (below : Node) : Type 0 where
  pub chained : Chained old places run below
  pub first : top_of places below ≡ node
  pub adds : AreAdds run
  pub ends : (p : IR) × (slice_get old below.0 ≡ Some p) × (is_hstack p ≡ false)
  pub long : length new ≡ length old
  pub same : (k : ℕ) → (Among k places → ⊥) → slice_get new k ≡ slice_get old k

-- a node was put at a number, or behind all others where there was none
abbrev pub PutOne : (old new : List IR) → Option Node → Node → IR → Type 0
PutOne old new None n entry = (n.0 ≡ length old) × (new ≡ old ++ entry ∷ [])
PutOne old new (Some place) n entry = (n ≡ place) × (new ≡ slice_set old place.0 entry)

-- a run was put at numbers, the first of which is the first of these, and each of which is one of these or new; all else is as it was
pub record PutBack (old new : List IR) (places : List Node) (run : List Layer) (below : Node) : Type 0 where
  pub numbers : List Node
  pub chained : Chained new numbers run below
  pub first : is_empty run ≡ false → (n : Node) → slice_get places 0 ≡ Some n → top_of numbers below ≡ n
  pub differ : AllDiffer numbers
  pub within : (k : ℕ) → Among k numbers → Among k places ⊎ ((length old ≤ k) × (k < length new))
  pub grows : length old ≤ length new
  pub same : (k : ℕ) → k < length old → (Among k places → ⊥) → slice_get new k ≡ slice_get old k

-- the run of additions at a node came to rest: it stood at numbers, the first of which is that of the node, and stands at numbers, each of which is one of these or new; all else is as it was
pub record Settled (old new : List IR) (ex : List AExpr) (node below : Node) : Type 0 where
  pub places : List Node
  pub before : List Layer
  pub was : Chained old places before below
  pub was_first : top_of places below ≡ node
  pub adds : AreAdds before
  pub ends : (p : IR) × (slice_get old below.0 ≡ Some p) × (is_hstack p ≡ false)
  pub numbers : List Node
  pub after : List Layer
  pub is : Chained new numbers after below
  pub is_first : top_of numbers below ≡ node
  pub differ : AllDiffer numbers
  pub within : (k : ℕ) → Among k numbers → Among k places ⊎ ((length old ≤ k) × (k < length new))
  pub grows : length old ≤ length new
  pub same : (k : ℕ) → k < length old → (Among k places → ⊥) → slice_get new k ≡ slice_get old k
  pub rested : links_at ex after ≡ rested (links_at ex before)
  pub roots : ArePart (layer_roots before) (layer_roots after)
