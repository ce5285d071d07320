-- The nodes that give rows of their input are read as they are written: slices, filters, sorts and distinct rows.
use Rattle.std.proofs.Common.{◌≡◌, ℕ, ℤ, true, List, [], ◌∷◌, Option, Some, None, refl, ap}
use Rattle.std.specs.Prelude.{codes}
use Rattle.serde_json.specs.Data.{Data}
use Rattle.serde_json.specs.Find.{get}
use Rattle.plan_core.specs.declared.arena.Node.{Node}
use Rattle.plan_expr.specs.declared.expr_ir.ExprIR.{ExprIR}
use Rattle.plan_ir.specs.declared.ir.IR.{IR}
use Rattle.plan_ir.specs.declared.ir.IR.TheVariants as nodes
use Rattle.plan_options.specs.declared.distinct.DistinctOptionsIR.{DistinctOptionsIR}
use Rattle.plan_options.specs.declared.sort.SortMultipleOptions.{SortMultipleOptions}
use Rattle.plan_doc_parts.specs.Parts.{nullable, link_of, integer_of, number_of, name_of, truth_of, truths_of, names_of, output_of, outputs_of, slice_of}
use Rattle.plan_doc_parts.specs.Members.{object_of, at}
use Rattle.plan_doc_nodes.specs.Nodes.{node_of}
use Rattle.plan_doc_nodes.specs.Rows.{slice_node_of, filter_of, sort_keys, sort_options_of, sort_of, keep_of, distinct_keys, distinct_options_of, distinct_of}
use Rattle.plan_text.specs.Nodes.{node_data, slice_node_data, sort_data, distinct_data}
use Rattle.plan_round_trip.proofs.Gives.{gives3, gives4, gives5}
use Rattle.plan_round_trip.proofs.Steps.{Again, object_canonical, under}
use Rattle.plan_round_trip.proofs.Lists.{IsCanonical}
use Rattle.plan_round_trip.proofs.Parts.{link_back, integer_back, number_back}
use Rattle.plan_round_trip.proofs.Names.{keep_again}
use Rattle.plan_round_trip.proofs.Pieces.{maybe_names_again, maybe_slice, output_back, outputs_back, truths_again}
use Rattle.plan_round_trip.proofs.Told.{Told, ToldSlice, told_sort}

pub slice_told : (d : Data) (x : IR) → IsCanonical d → slice_node_of d ≡ Some x → Told x
unfolding slice_node_of
slice_told d x c e =
    gives4 (object_of (codes "input" ∷ codes "len" ∷ codes "offset" ∷ codes "op" ∷ []) d) (λ o. at (codes "input") link_of o) (λ o i. at (codes "offset") integer_of o) (λ o i z. at (codes "len") number_of o) (λ o i z n. nodes.Slice i z n) x e Told
    (λ o i z n eo ei ez en.
    let k = object_canonical _ d o c eo in
    (under link_back _ o i k ei, under integer_back _ o z k ez, under number_back _ o n k en))

pub slice_read : (i : Node) (z : ℤ) (n : ℕ) → Told (nodes.Slice i z n) → Again node_of node_data (nodes.Slice i z n)
unfolding node_of name_of slice_node_of object_of at node_data slice_node_data
slice_read i z n t = rw (t.0, t.1, t.2) refl

pub filter_told : (d : Data) (x : IR) → IsCanonical d → filter_of d ≡ Some x → Told x
unfolding filter_of
filter_told d x c e =
    gives3 (object_of (codes "input" ∷ codes "op" ∷ codes "predicate" ∷ []) d) (λ o. at (codes "input") link_of o) (λ o i. at (codes "predicate") output_of o) (λ o i p. nodes.Filter i p) x e Told
    (λ o i p eo ei ep.
    let k = object_canonical _ d o c eo in
    (under link_back _ o i k ei, under output_back _ o p k ep))

pub filter_read : (i : Node) (p : ExprIR) → Told (nodes.Filter i p) → Again node_of node_data (nodes.Filter i p)
unfolding node_of name_of filter_of object_of at node_data
filter_read i p t = rw (t.0, t.1) refl

sort_options_told : (o : Data) (x : SortMultipleOptions) → sort_options_of o ≡ Some x → told_sort x ≡ x
unfolding sort_options_of
sort_options_told o x e =
    gives3 (at (codes "descending") truths_of o) (λ ds. at (codes "nulls_last") truths_of o) (λ ds ns. at (codes "maintain_order") truth_of o) (λ ds ns m. record { descending = ds; nulls_last = ns; multithreaded = true; maintain_order = m; limit = None }) x e (λ (y : SortMultipleOptions). told_sort y ≡ y)
    (λ ds ns m ed en em. refl)

pub sort_told : (d : Data) (x : IR) → IsCanonical d → sort_of d ≡ Some x → Told x
unfolding sort_of
sort_told d x c e =
    gives5 (object_of sort_keys d) (λ o. at (codes "input") link_of o) (λ o i. at (codes "by") outputs_of o) (λ o i ks. at (codes "slice") (nullable slice_of) o) (λ o i ks s. sort_options_of o) (λ o i ks s options. nodes.Sort i ks s options) x e Told
    (λ o i ks s options eo ei eks es eoptions.
    let k = object_canonical _ d o c eo in
    (under link_back _ o i k ei, under outputs_back _ o ks k eks, under maybe_slice _ o s k es, sort_options_told o options eoptions))

pub sort_read : (i : Node) (ks : List ExprIR) (s : Option (ℤ × ℕ)) (options : SortMultipleOptions) → Told (nodes.Sort i ks s options) → Again node_of node_data (nodes.Sort i ks s options)
unfolding node_of name_of sort_of sort_keys object_of at sort_options_of truth_of node_data sort_data
sort_read i ks s options t = rw (t.0, t.1, t.2, truths_again options.descending, truths_again options.nulls_last) (ap (λ (y : SortMultipleOptions). Some (nodes.Sort i ks s y)) t.3)

distinct_options_told : (o : Data) (x : DistinctOptionsIR) → IsCanonical o → distinct_options_of o ≡ Some x → ToldSlice x.slice
unfolding distinct_options_of
distinct_options_told o x c e =
    gives5 (at (codes "subset") (nullable names_of) o) (λ ns. at (codes "maintain_order") truth_of o) (λ ns m. get (codes "keep") o) (λ ns m keep. keep_of keep) (λ ns m keep k. at (codes "slice") (nullable slice_of) o) (λ ns m keep k s. record { subset = ns; maintain_order = m; keep_strategy = k; slice = s }) x e (λ (y : DistinctOptionsIR). ToldSlice y.slice)
    (λ ns m keep k s ens em ekeep ek es. under maybe_slice _ o s c es)

pub distinct_told : (d : Data) (x : IR) → IsCanonical d → distinct_of d ≡ Some x → Told x
unfolding distinct_of
distinct_told d x c e =
    gives3 (object_of distinct_keys d) (λ o. at (codes "input") link_of o) (λ o i. distinct_options_of o) (λ o i options. nodes.Distinct i options) x e Told
    (λ o i options eo ei eoptions.
    let k = object_canonical _ d o c eo in
    (under link_back _ o i k ei, distinct_options_told o options k eoptions))

pub distinct_read : (i : Node) (options : DistinctOptionsIR) → Told (nodes.Distinct i options) → Again node_of node_data (nodes.Distinct i options)
unfolding node_of name_of distinct_of distinct_keys object_of at distinct_options_of truth_of node_data distinct_data
distinct_read i options t = rw (t.0, maybe_names_again options.subset, keep_again options.keep_strategy, t.1) refl
