-- Layers of a run, taken out of an arena, as links.
use Rattle.std.specs.Prelude.{List, [], ◌∷◌, ◌++◌, map}
use Rattle.plan_core.specs.declared.arena.Node.{Node}
use Rattle.plan_core.specs.Names.{AreDistinct}
use Rattle.plan_expr.specs.declared.aexpr.AExpr.{AExpr}
use Rattle.plan_expr.specs.declared.expr_ir.ExprIR.{ExprIR}
use Rattle.plan_expr.specs.Exprs.{all_named_at}
use Rattle.plan_collapse_laws.specs.Additions.{Addition}
use Rattle.plan_collapse_laws.specs.Runs.{Link, adds, projects}
use Rattle.plan_cluster.specs.ExprNames.{expr_names}
use Rattle.plan_cluster.specs.declared.layer.Addition.{Addition as Taken}
use Rattle.plan_cluster.specs.declared.layer.Layer.{Layer}
use Rattle.plan_cluster.specs.declared.layer.Layer.TheVariants.{Adds, Projects}

-- an addition that was taken out, its expressions read at their numbers
abbrev pub addition_at : List AExpr → Taken → Addition
addition_at ex a = record { exprs = all_named_at ex a.exprs; schema = a.schema; options = a.options }

-- the link that a layer is
abbrev pub link_at : List AExpr → Layer → Link
link_at ex (Adds a) = adds (addition_at ex a)
link_at ex (Projects s) = projects s

-- the links that layers are, in order
abbrev pub links_at : List AExpr → List Layer → List Link
links_at ex ls = map (link_at ex) ls

-- the expressions of a layer
abbrev pub layer_exprs : Layer → List ExprIR
layer_exprs (Adds a) = a.exprs
layer_exprs (Projects s) = []

-- the numbers of expressions
abbrev pub expr_nodes : List ExprIR → List Node
expr_nodes es = map (λ (e : ExprIR). e.node) es

-- the numbers of the expressions of layers, topmost first
abbrev pub layer_roots : List Layer → List Node
layer_roots [] = []
layer_roots (l ∷ ls) = expr_nodes (layer_exprs l) ++ layer_roots ls

-- the expressions of a layer are put out under names of which none comes twice
abbrev pub IsOnce : Layer → Type 0
IsOnce l = AreDistinct (expr_names (layer_exprs l))
