-- Layers as nodes, nodes that are sound, and those of a valid plan.
use Rattle.std.proofs.Common.{◌≡◌, ◌++◌, All, true, false, List, [], ◌∷◌, None, refl, ap, subst}
use Rattle.std.proofs.lemmas.List.Elements.{All-cons, All-nil}
use Rattle.plan_core.specs.declared.arena.Node.{Node}
use Rattle.plan_core.specs.Columns.{Columns}
use Rattle.plan_core.specs.Names.{AreDistinct}
use Rattle.plan_tree.specs.Rose.{rose, no_roses, more, join}
use Rattle.plan_tree.specs.Stands.{StandsOnce, Trees}
use Rattle.plan_tree.proofs.SplitLemmas.{StandsOnce-split}
use Rattle.plan_expr.specs.declared.aexpr.AExpr.{AExpr}
use Rattle.plan_expr.specs.declared.expr_ir.ExprIR.{ExprIR}
use Rattle.plan_expr.specs.Exprs.{all_named_at}
use Rattle.plan_expr.specs.Leaves.{Name}
use Rattle.plan_expr.specs.Operands.{IsExpr, expr_shape}
use Rattle.plan_expr.proofs.ExprLemmas.{first_stands, rest_stands}
use Rattle.plan_frame.specs.ExprLists.{out_names}
use Rattle.plan_frame.proofs.NameSets.{distinct_none}
use Rattle.plan_ir.specs.declared.ir.IR.{IR}
use Rattle.plan_ir.specs.declared.ir.IR.TheVariants as nodes
use Rattle.plan_ir.specs.Parts.{inputs_of, is_hstack, is_invalid, roots_in, roots_of}
use Rattle.plan_ir.specs.Plans.{Op, bare, hstack, op_at, plans_of}
use Rattle.plan_meaning.specs.Typing.{AllHold, AllValid, checks, schemas}
use Rattle.plan_meaning.proofs.CheckParts.{made_good}
use Rattle.plan_meaning.proofs.KeptExprs.{new_distinct}
use Rattle.plan_collapse_laws.specs.Additions.{added, addition_of}
use Rattle.plan_collapse_laws.specs.Runs.{link_op}
use Rattle.plan_cluster.specs.declared.layer.Layer.{Layer}
use Rattle.plan_cluster.specs.declared.layer.Layer.TheVariants.{Adds, Projects}
use Rattle.plan_cluster.specs.ExprNames.{expr_name, expr_names}
use Rattle.plan_cluster.specs.Layers.{IsOnce, expr_nodes, layer_exprs, link_at}
use Rattle.plan_cluster.specs.Chains.{node_over}
use Rattle.plan_cluster.specs.Sound.{AllSound, IsSound}

-- a layer as a node

pub over_inputs : (k : Layer) (i : Node) → inputs_of (node_over k i) ≡ i ∷ []
over_inputs (Adds a) i = refl
over_inputs (Projects columns) i = refl

pub over_fine : (k : Layer) (i : Node) → is_invalid (node_over k i) ≡ false
over_fine (Adds a) i = refl
over_fine (Projects columns) i = refl

pub over_op : (ex : List AExpr) (k : Layer) (i : Node) → op_at ex (node_over k i) ≡ link_op (link_at ex k)
over_op ex (Adds a) i = refl
over_op ex (Projects columns) i = refl

pub over_roots : (k : Layer) (i : Node) → roots_of (node_over k i) ≡ expr_nodes (layer_exprs k)
over_roots (Adds a) i = refl
over_roots (Projects columns) i = refl

pub over_stand : (ex : List AExpr) (k : Layer) (i : Node) → IsSound ex (node_over k i) → All (λ (n : Node). IsExpr ex n) (expr_nodes (layer_exprs k))
over_stand ex (Adds a) i h = h.0
over_stand ex (Projects columns) i h = h.0

-- the names of expressions don't need what they reach
names_same : (ex : List AExpr) (es : List ExprIR) → out_names (all_named_at ex es) ≡ expr_names es
names_same ex [] = refl
names_same ex (e ∷ es) = ap (λ (ns : List Name). expr_name e ∷ ns) (names_same ex es)

pub over_once : (ex : List AExpr) (k : Layer) (i : Node) → IsSound ex (node_over k i) → IsOnce k
over_once ex (Adds a) i h = subst AreDistinct (names_same ex a.exprs) h.1
over_once ex (Projects columns) i h = distinct_none

-- a node that is no addition
pub no_addition : (ex : List AExpr) (p : IR) → is_hstack p ≡ false → addition_of (op_at ex p) ≡ None
no_addition ex (nodes.HStack input exprs schema options) h = cc
no_addition ex (nodes.Slice input offset len) h = refl
no_addition ex (nodes.Filter input predicate) h = refl
no_addition ex (nodes.Scan sources file_info hive_parts predicate output_schema scan_type file_options) h = refl
no_addition ex (nodes.DataFrameScan df schema output_schema) h = refl
no_addition ex (nodes.SimpleProjection input columns) h = refl
no_addition ex (nodes.Select input expr schema options) h = refl
no_addition ex (nodes.Sort input by_column cut sort_options) h = refl
no_addition ex (nodes.GroupBy input keys aggs schema maintain_order options) h = refl
no_addition ex (nodes.Join input_left input_right schema left_on right_on options) h = refl
no_addition ex (nodes.Distinct input options) h = refl
no_addition ex (nodes.MapFunction input function) h = refl
no_addition ex (nodes.Sink input payload) h = refl
no_addition ex (nodes.Union inputs options) h = refl
no_addition ex (nodes.HConcat inputs schema options) h = refl
no_addition ex (nodes.Cache input id cache_hits) h = refl
no_addition ex nodes.Invalid h = refl

-- sound trees side by side

pub sound_left : (ex : List AExpr) (f g : Trees IR) → AllSound ex (join f g) → AllSound ex f
sound_left ex no_roses g h = tt
sound_left ex (more (rose n p kids) rest) g h = (h.0, h.1, sound_left ex rest g h.2)

pub sound_right : (ex : List AExpr) (f g : Trees IR) → AllSound ex (join f g) → AllSound ex g
sound_right ex no_roses g h = h
sound_right ex (more (rose n p kids) rest) g h = sound_right ex rest g h.2

pub sound_join : (ex : List AExpr) (f g : Trees IR) → AllSound ex f → AllSound ex g → AllSound ex (join f g)
sound_join ex no_roses g a b = b
sound_join ex (more (rose n p kids) rest) g a b = (a.0, a.1, sound_join ex rest g a.2 b)

-- each of some numbers is that of an expression
each_stands : (ex : List AExpr) (ns : List Node) (f : Trees AExpr) → StandsOnce expr_shape ex ns f → All (λ (n : Node). IsExpr ex n) ns
each_stands ex [] f h = All-nil (λ (n : Node). IsExpr ex n)
each_stands ex (n ∷ ns) no_roses h = absurd h.stands
each_stands ex (n ∷ ns) (more (rose m p kids) rest) h =
    All-cons (λ (x : Node). IsExpr ex x) n ns
    (more (rose m p kids) no_roses, first_stands ex n m ns p kids rest h)
    (each_stands ex ns rest (rest_stands ex n m ns p kids rest h))

-- a valid addition puts out each name once
once_named : (op : Op) (ss : List Columns) → AllHold (checks op ss) → AreDistinct (out_names (added (addition_of op)))
once_named (hstack es s o) (t ∷ []) h = new_distinct 1 [] (out_names es) (made_good t es s t h).once
once_named (hstack es s o) [] h = let e : false ≡ true = h.0 in cc
once_named (hstack es s o) (t ∷ u ∷ ts) h = let e : false ≡ true = h.0 in cc
once_named op ss h = distinct_none

-- the nodes of a valid plan over expressions that stand are sound
pub sound_plan : (ex : List AExpr) (f : Trees IR) (e : Trees AExpr) → StandsOnce expr_shape ex (roots_in f) e → AllValid (bare (plans_of ex f)) → AllSound ex f
sound_plan ex no_roses e h v = tt
sound_plan ex (more (rose n p kids) rest) e h v =
    let s = StandsOnce-split expr_shape ex (roots_of p) (roots_in kids ++ roots_in rest) e h in
    let u = StandsOnce-split expr_shape ex (roots_in kids) (roots_in rest) s.right s.second in (
      (each_stands ex (roots_of p) s.left s.first, once_named (op_at ex p) (schemas (bare (plans_of ex kids))) v.0),
      sound_plan ex kids u.left u.first v.1,
      sound_plan ex rest u.right u.second v.2,
    )

-- a node that isn't an addition, as the code tells
pub not_hstack : (p : IR) → ((input : _) (exprs : _) (schema : _) (options : _) → p ≡ nodes.HStack input exprs schema options → ⊥) → is_hstack p ≡ false
not_hstack (nodes.HStack input exprs schema options) h = absurd (h input exprs schema options refl)
not_hstack (nodes.Slice input offset len) h = refl
not_hstack (nodes.Filter input predicate) h = refl
not_hstack (nodes.Scan sources file_info hive_parts predicate output_schema scan_type file_options) h = refl
not_hstack (nodes.DataFrameScan df schema output_schema) h = refl
not_hstack (nodes.SimpleProjection input columns) h = refl
not_hstack (nodes.Select input expr schema options) h = refl
not_hstack (nodes.Sort input by_column cut sort_options) h = refl
not_hstack (nodes.GroupBy input keys aggs schema maintain_order options) h = refl
not_hstack (nodes.Join input_left input_right schema left_on right_on options) h = refl
not_hstack (nodes.Distinct input options) h = refl
not_hstack (nodes.MapFunction input function) h = refl
not_hstack (nodes.Sink input payload) h = refl
not_hstack (nodes.Union inputs options) h = refl
not_hstack (nodes.HConcat inputs schema options) h = refl
not_hstack (nodes.Cache input id cache_hits) h = refl
not_hstack nodes.Invalid h = refl
