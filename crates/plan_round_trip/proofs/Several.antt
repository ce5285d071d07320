-- The nodes over any number of inputs are read as they are written: unions, and concatenations side by side.
use Rattle.std.proofs.Common.{◌≡◌, ℕ, ℤ, Bool, List, [], ◌∷◌, Option, Some, refl, ap}
use Rattle.std.specs.Prelude.{codes}
use Rattle.serde_json.specs.Data.{Data}
use Rattle.plan_core.specs.Columns.{Columns}
use Rattle.plan_core.specs.declared.arena.Node.{Node}
use Rattle.plan_ir.specs.declared.ir.IR.{IR}
use Rattle.plan_ir.specs.declared.ir.IR.TheVariants as nodes
use Rattle.plan_options.specs.Union.{default_union}
use Rattle.plan_options.specs.declared.union.HConcatOptions.{HConcatOptions}
use Rattle.plan_options.specs.declared.union.UnionOptions.{UnionOptions}
use Rattle.plan_doc_parts.specs.Parts.{nullable, links_of, name_of, truth_of, columns_of, slice_of}
use Rattle.plan_doc_parts.specs.Members.{object_of, at}
use Rattle.plan_doc_nodes.specs.Nodes.{node_of}
use Rattle.plan_doc_nodes.specs.Several.{union_keys, union_options_of, union_of, hconcat_of}
use Rattle.plan_text.specs.Nodes.{node_data, union_data, hconcat_data}
use Rattle.plan_round_trip.proofs.Gives.{gives3, gives4, gives5}
use Rattle.plan_round_trip.proofs.Steps.{Again, object_canonical, under}
use Rattle.plan_round_trip.proofs.Lists.{IsCanonical}
use Rattle.plan_round_trip.proofs.Pieces.{columns_back, links_back, maybe_slice}
use Rattle.plan_round_trip.proofs.Told.{Told, ToldSlice, told_union}

union_made : Option (ℤ × ℕ) → Bool → Bool → Bool → Bool → UnionOptions
union_made s p f r m = record default_union { slice = s; parallel = p; flattened_by_opt = f; rechunk = r; maintain_order = m }

abbrev ToldUnion : UnionOptions → Type 0
ToldUnion o = ToldSlice o.slice × (told_union o ≡ o)

union_options_told : (o : Data) (x : UnionOptions) → IsCanonical o → union_options_of o ≡ Some x → ToldUnion x
unfolding union_options_of union_made
union_options_told o x c e =
    gives5 (at (codes "slice") (nullable slice_of) o) (λ s. at (codes "parallel") truth_of o) (λ s p. at (codes "flattened") truth_of o) (λ s p f. at (codes "rechunk") truth_of o) (λ s p f r. at (codes "maintain_order") truth_of o) union_made x e ToldUnion
    (λ s p f r m es ep ef er em. (under maybe_slice _ o s c es, refl))

pub union_told : (d : Data) (x : IR) → IsCanonical d → union_of d ≡ Some x → Told x
unfolding union_of
union_told d x c e =
    gives3 (object_of union_keys d) (λ o. at (codes "inputs") links_of o) (λ o is. union_options_of o) (λ o is options. nodes.Union is options) x e Told
    (λ o is options eo eis eoptions.
    let k = object_canonical _ d o c eo in
    let told = union_options_told o options k eoptions in
    (under links_back _ o is k eis, told.0, told.1))

pub union_read : (is : List Node) (options : UnionOptions) → Told (nodes.Union is options) → Again node_of node_data (nodes.Union is options)
unfolding node_of name_of union_of union_keys object_of at union_options_of truth_of node_data union_data
union_read is options t = rw (t.0, t.1) (ap (λ (y : UnionOptions). Some (nodes.Union is y)) t.2)

pub hconcat_told : (d : Data) (x : IR) → IsCanonical d → hconcat_of d ≡ Some x → Told x
unfolding hconcat_of
hconcat_told d x c e =
    gives4 (object_of (codes "inputs" ∷ codes "op" ∷ codes "parallel" ∷ codes "schema" ∷ []) d) (λ o. at (codes "inputs") links_of o) (λ o is. at (codes "schema") columns_of o) (λ o is s. at (codes "parallel") truth_of o) (λ o is s p. nodes.HConcat is s (record { parallel = p })) x e Told
    (λ o is s p eo eis es ep.
    let k = object_canonical _ d o c eo in
    (under links_back _ o is k eis, under columns_back _ o s k es))

pub hconcat_read : (is : List Node) (s : Columns) (options : HConcatOptions) → Told (nodes.HConcat is s options) → Again node_of node_data (nodes.HConcat is s options)
unfolding node_of name_of hconcat_of object_of at truth_of node_data hconcat_data
hconcat_read is s options t = rw (t.0, t.1) refl
