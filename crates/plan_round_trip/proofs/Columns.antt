-- The nodes that choose or make columns are read as they are written: projections, selections, additions and groupings.
use Rattle.std.proofs.Common.{◌≡◌, Bool, List, [], ◌∷◌, Some, refl}
use Rattle.std.specs.Prelude.{codes}
use Rattle.serde_json.specs.Data.{Data}
use Rattle.plan_core.specs.Columns.{Columns}
use Rattle.plan_core.specs.declared.arena.Node.{Node}
use Rattle.plan_core.specs.declared.options.ProjectionOptions.{ProjectionOptions}
use Rattle.plan_expr.specs.declared.expr_ir.ExprIR.{ExprIR}
use Rattle.plan_ir.specs.declared.ir.IR.{IR}
use Rattle.plan_ir.specs.declared.ir.IR.TheVariants as nodes
use Rattle.plan_options.specs.declared.group.GroupbyOptions.{GroupbyOptions}
use Rattle.plan_doc_parts.specs.Parts.{nullable, link_of, name_of, truth_of, columns_of, outputs_of, slice_of, options_of}
use Rattle.plan_doc_parts.specs.Members.{object_of, at}
use Rattle.plan_doc_nodes.specs.Nodes.{node_of}
use Rattle.plan_doc_nodes.specs.Columns.{simple_projection_of, made_keys, made_of, select_of, hstack_of, group_by_keys, grouped_of, group_by_of}
use Rattle.plan_text.specs.Nodes.{node_data, made_data, group_by_data}
use Rattle.plan_round_trip.proofs.Gives.{gives3, gives5}
use Rattle.plan_round_trip.proofs.Steps.{Again, object_canonical, under}
use Rattle.plan_round_trip.proofs.Lists.{IsCanonical}
use Rattle.plan_round_trip.proofs.Parts.{link_back}
use Rattle.plan_round_trip.proofs.Pieces.{columns_back, maybe_slice, options_again, outputs_back}
use Rattle.plan_round_trip.proofs.Told.{Told, ToldColumns, ToldOutputs}

pub projection_told : (d : Data) (x : IR) → IsCanonical d → simple_projection_of d ≡ Some x → Told x
unfolding simple_projection_of
projection_told d x c e =
    gives3 (object_of (codes "columns" ∷ codes "input" ∷ codes "op" ∷ []) d) (λ o. at (codes "columns") columns_of o) (λ o cs. at (codes "input") link_of o) (λ o cs i. nodes.SimpleProjection i cs) x e Told
    (λ o cs i eo ecs ei.
    let k = object_canonical _ d o c eo in
    (under link_back _ o i k ei, under columns_back _ o cs k ecs))

pub projection_read : (i : Node) (cs : Columns) → Told (nodes.SimpleProjection i cs) → Again node_of node_data (nodes.SimpleProjection i cs)
unfolding node_of name_of simple_projection_of object_of at node_data
projection_read i cs t = rw (t.1, t.0) refl

made_told : (o : Data) (m : List ExprIR × Columns × ProjectionOptions) → IsCanonical o → made_of o ≡ Some m → ToldOutputs m.0 × ToldColumns m.1
unfolding made_of
made_told o m c e =
    gives3 (at (codes "exprs") outputs_of o) (λ es. at (codes "schema") columns_of o) (λ es s. at (codes "options") options_of o) (λ es s os. (es, s, os)) m e (λ (n : List ExprIR × Columns × ProjectionOptions). ToldOutputs n.0 × ToldColumns n.1)
    (λ es s os ees ess eos. (under outputs_back _ o es c ees, under columns_back _ o s c ess))

pub select_told : (d : Data) (x : IR) → IsCanonical d → select_of d ≡ Some x → Told x
unfolding select_of
select_told d x c e =
    gives3 (object_of made_keys d) (λ o. at (codes "input") link_of o) (λ o i. made_of o) (λ o i m. nodes.Select i m.0 m.1 m.2) x e Told
    (λ o i m eo ei em.
    let k = object_canonical _ d o c eo in
    let made = made_told o m k em in
    (under link_back _ o i k ei, made.0, made.1))

pub select_read : (i : Node) (es : List ExprIR) (s : Columns) (options : ProjectionOptions) → Told (nodes.Select i es s options) → Again node_of node_data (nodes.Select i es s options)
unfolding node_of name_of select_of made_keys object_of at made_of node_data made_data
select_read i es s options t = rw (t.0, t.1, t.2, options_again options) refl

pub hstack_told : (d : Data) (x : IR) → IsCanonical d → hstack_of d ≡ Some x → Told x
unfolding hstack_of
hstack_told d x c e =
    gives3 (object_of made_keys d) (λ o. at (codes "input") link_of o) (λ o i. made_of o) (λ o i m. nodes.HStack i m.0 m.1 m.2) x e Told
    (λ o i m eo ei em.
    let k = object_canonical _ d o c eo in
    let made = made_told o m k em in
    (under link_back _ o i k ei, made.0, made.1))

pub hstack_read : (i : Node) (es : List ExprIR) (s : Columns) (options : ProjectionOptions) → Told (nodes.HStack i es s options) → Again node_of node_data (nodes.HStack i es s options)
unfolding node_of name_of hstack_of made_keys object_of at made_of node_data made_data
hstack_read i es s options t = rw (t.0, t.1, t.2, options_again options) refl

abbrev Grouped : Type 0
Grouped = List ExprIR × List ExprIR × Columns

abbrev ToldGrouped : Grouped → Type 0
ToldGrouped g = ToldOutputs g.0 × ToldOutputs g.1 × ToldColumns g.2

grouped_told : (o : Data) (g : Grouped) → IsCanonical o → grouped_of o ≡ Some g → ToldGrouped g
unfolding grouped_of
grouped_told o g c e =
    gives3 (at (codes "keys") outputs_of o) (λ ks. at (codes "aggs") outputs_of o) (λ ks others. at (codes "schema") columns_of o) (λ ks others s. (ks, others, s)) g e ToldGrouped
    (λ ks others s eks eothers es. (under outputs_back _ o ks c eks, under outputs_back _ o others c eothers, under columns_back _ o s c es))

pub group_by_told : (d : Data) (x : IR) → IsCanonical d → group_by_of d ≡ Some x → Told x
unfolding group_by_of
group_by_told d x c e =
    gives5 (object_of group_by_keys d) (λ o. at (codes "input") link_of o) (λ o i. grouped_of o) (λ o i g. at (codes "maintain_order") truth_of o) (λ o i g m. at (codes "slice") (nullable slice_of) o) (λ o i g m s. nodes.GroupBy i g.0 g.1 g.2 m (record { slice = s })) x e Told
    (λ o i g m s eo ei eg em es.
    let k = object_canonical _ d o c eo in
    let grouped = grouped_told o g k eg in
    (under link_back _ o i k ei, grouped.0, grouped.1, grouped.2, under maybe_slice _ o s k es))

pub group_by_read : (i : Node) (ks others : List ExprIR) (s : Columns) (m : Bool) (options : GroupbyOptions) → Told (nodes.GroupBy i ks others s m options) → Again node_of node_data (nodes.GroupBy i ks others s m options)
unfolding node_of name_of group_by_of group_by_keys object_of at grouped_of truth_of node_data group_by_data
group_by_read i ks others s m options t = rw (t.0, t.1, t.2, t.3, t.4) refl
