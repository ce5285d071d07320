-- What a meeting of two additions leaves above the lower one.
use Rattle.std.specs.Prelude.{◌≡◌, Bool, true, false, List, [], ◌∷◌, ◌++◌, All}
use Rattle.std.specs.List.Sorted.{IsPermutation}
use Rattle.plan_core.specs.declared.arena.Node.{Node}
use Rattle.plan_core.specs.Columns.{with_types}
use Rattle.plan_core.specs.Options.{merged}
use Rattle.plan_expr.specs.declared.aexpr.AExpr.{AExpr}
use Rattle.plan_expr.specs.declared.expr_ir.ExprIR.{ExprIR}
use Rattle.plan_pruned.specs.Pruned.{typed_names}
use Rattle.plan_collapse_laws.specs.Runs.{Link, looked_at}
use Rattle.plan_cluster.specs.ExprNames.{expr_names, exprs_replaced}
use Rattle.plan_cluster.specs.Layers.{IsOnce, layer_roots, link_at, links_at}
use Rattle.plan_cluster.specs.declared.layer.Addition.{Addition as Taken}
use Rattle.plan_cluster.specs.declared.layer.Layer.{Layer}
use Rattle.plan_cluster.specs.declared.layer.Layer.TheVariants.{Projects}
use Rattle.plan_cluster.specs.declared.meeting.Meeting.{Meeting}
use Rattle.plan_cluster.specs.declared.meeting.Meeting.TheVariants.{Merged, Rests, Moved, Restores}
use Rattle.plan_cluster.specs.declared.parts.Parts.{Parts}

-- the lower expressions with those that take their places, and those that move behind them
abbrev pub exprs_sunk : Parts → List ExprIR → List ExprIR
exprs_sunk p lower = exprs_replaced p.takes lower ++ p.moves

-- both additions as one
abbrev pub merged_into : Parts → Taken → Taken → Taken
merged_into p u l = record { exprs = exprs_sunk p l.exprs; schema = u.schema; options = merged u.options l.options }

-- the lower addition with what moves into it
abbrev pub sunk_to : Parts → Taken → Taken → Taken
sunk_to p u l = record {
  exprs = exprs_sunk p l.exprs;
  schema = with_types (with_types l.schema (typed_names u.schema (expr_names p.takes))) (typed_names u.schema (expr_names p.moves));
  options = merged u.options l.options;
}

-- what stays above, of the columns that it had
abbrev pub left_in_order : Parts → Taken → Taken → Taken
left_in_order p u l = record { exprs = p.stays; schema = u.schema; options = merged u.options l.options }

-- what stays above, of columns in another order
abbrev pub left_out_of_order : Parts → Taken → Taken → Taken
left_out_of_order p u l = record { exprs = p.stays; schema = with_types (sunk_to p u l).schema (typed_names u.schema (expr_names p.stays)); options = merged u.options l.options }

-- what is left of an upper addition, in order or under a projection to the columns that it had
abbrev pub IsLeft : Parts → (u l u' : Taken) → Meeting → Type 0
IsLeft p u l u' Moved = (p.from_behind ≡ false) × (u' ≡ left_in_order p u l)
IsLeft p u l u' (Restores s) = (p.from_behind ≡ true) × (s ≡ u.schema) × (u' ≡ left_out_of_order p u l)
IsLeft p u l u' _ = ⊥

-- the layers above the lower one after a meeting
abbrev pub above_of : Meeting → Layer → List Layer
above_of Merged u = []
above_of Rests u = u ∷ []
above_of Moved u = u ∷ []
above_of (Restores s) u = Projects s ∷ u ∷ []

-- whether a meeting changes something
abbrev pub is_change : Meeting → Bool
is_change Rests = false
is_change _ = true

-- a meeting that changes nothing leaves both layers as they are; one that changes something changes the run
abbrev pub ChangesOrRests : List AExpr → Meeting → (u l u' l' : Layer) → Type 0
ChangesOrRests ex Rests u l u' l' = (u' ≡ u) × (l' ≡ l)
ChangesOrRests ex _ u l u' l' = (ks : List Link) → looked_at (link_at ex u ∷ link_at ex l ∷ ks) ≡ link_at ex u ∷ link_at ex l ∷ ks → ⊥

-- what a meeting of two layers makes of them: what a look makes of them, of the same expressions, each list under different names
pub record IsMet (ex : List AExpr) (u l u' l' : Layer) (m : Meeting) : Type 0 where
  pub looked : (ks : List Link) → looked_at (link_at ex u ∷ link_at ex l ∷ ks) ≡ links_at ex (above_of m u') ++ looked_at (link_at ex l' ∷ ks)
  pub changes : ChangesOrRests ex m u l u' l'
  pub left : List Node
  pub roots : IsPermutation (layer_roots (u ∷ l ∷ [])) (layer_roots (above_of m u' ++ l' ∷ []) ++ left)
  pub once : All IsOnce (above_of m u' ++ l' ∷ [])
