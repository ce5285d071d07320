-- Joins are read as they are written.
use Rattle.std.proofs.Common.{◌≡◌, List, [], ◌∷◌, Option, Some, None, refl}
use Rattle.std.specs.Prelude.{codes, is_some}
use Rattle.serde_json.specs.Data.{Data, null}
use Rattle.serde_json.specs.Find.{get}
use Rattle.plan_core.specs.Columns.{Columns}
use Rattle.plan_core.specs.declared.arena.Node.{Node}
use Rattle.plan_expr.specs.declared.expr_ir.ExprIR.{ExprIR}
use Rattle.plan_ir.specs.declared.ir.IR.{IR}
use Rattle.plan_ir.specs.declared.ir.IR.TheVariants as nodes
use Rattle.plan_join.specs.declared.options.JoinOptions.{JoinOptions}
use Rattle.plan_join.specs.declared.options.JoinTypeOptionsIR.{JoinTypeOptionsIR}
use Rattle.plan_join.specs.declared.options.JoinTypeOptionsIR.TheVariants as told
use Rattle.plan_options.specs.declared.join.InequalityOperator.{InequalityOperator}
use Rattle.plan_options.specs.declared.join.JoinArgs.{JoinArgs}
use Rattle.plan_doc_parts.specs.Parts.{◌>>=◌, entries_of, nullable, name_of, link_of, truth_of, columns_of, output_of, outputs_of, slice_of, two_of}
use Rattle.plan_doc_parts.specs.Members.{object_of, at, only_of}
use Rattle.plan_doc_parts.proofs.EntryLemmas.{bind_some}
use Rattle.plan_doc_nodes.specs.Nodes.{node_of}
use Rattle.plan_doc_nodes.specs.Joins.{how_of, order_of, inequality_of, one_or_two, inequalities_of, condition_of, kind_options_of, parallel_of, naming_of, join_args_of, join_options_of, join_keys, key_pairs_of, join_of}
use Rattle.plan_text_pieces.specs.JoinOptions.{inequalities_data, kind_options_data}
use Rattle.plan_text_pieces.specs.Values.{nullable_data, output_data}
use Rattle.plan_text.specs.Nodes.{node_data, join_data}
use Rattle.plan_round_trip.proofs.Gives.{gives1, gives2, gives4, gives6, gives7}
use Rattle.plan_round_trip.proofs.Steps.{Again, Back, first_holds, object_canonical, only_said, under}
use Rattle.plan_round_trip.proofs.Lists.{IsCanonical, nullable_back}
use Rattle.plan_round_trip.proofs.Parts.{link_back}
use Rattle.plan_round_trip.proofs.Names.{coalesce_again, how_again, inequality_again, order_again}
use Rattle.plan_round_trip.proofs.Pieces.{columns_back, maybe_name_again, maybe_slice, output_back, outputs_back}
use Rattle.plan_round_trip.proofs.Told.{Told, ToldOutputs, ToldSlice}

-- ---- what only some kinds of joins are told

abbrev KindAgain : JoinTypeOptionsIR → Type 0
KindAgain k = Again kind_options_of kind_options_data k

condition_read : (p : ExprIR) → Again output_of output_data p → KindAgain (told.Cross p)
unfolding kind_options_data only_of object_of condition_of
condition_read p e =
    let h : output_of (output_data p) ≡ Some p = e in
    rw h refl

one_read : (o : InequalityOperator) → KindAgain (told.IEJoin (record { operator1 = o; operator2 = None }))
unfolding kind_options_data inequalities_data only_of object_of inequalities_of entries_of
one_read o = rw (inequality_again o) refl

both_read : (o p : InequalityOperator) → KindAgain (told.IEJoin (record { operator1 = o; operator2 = Some p }))
unfolding kind_options_data inequalities_data only_of object_of inequalities_of entries_of
both_read o p = rw (inequality_again o, inequality_again p) refl

ie_read : (o : InequalityOperator) (p : Option InequalityOperator) → KindAgain (told.IEJoin (record { operator1 = o; operator2 = p }))
ie_read o None = one_read o
ie_read o (Some p) = both_read o p

-- a condition is read again
abbrev pub ToldKind : JoinTypeOptionsIR → Type 0
ToldKind (told.IEJoin o) = Unit {0}
ToldKind (told.Cross p) = Again output_of output_data p

pub kind_read : (k : JoinTypeOptionsIR) → ToldKind k → KindAgain k
kind_read (told.IEJoin o) t = ie_read o.operator1 o.operator2
kind_read (told.Cross p) t = condition_read p t

condition_told : (d : Data) (k : JoinTypeOptionsIR) → IsCanonical d → condition_of d ≡ Some k → ToldKind k
unfolding condition_of
condition_told d k c e = gives1 (output_of d) (λ p. told.Cross p) k e ToldKind (λ p ep. output_back.again d p c ep)

one_or_two_told : (ds : List Data) (k : JoinTypeOptionsIR) → one_or_two ds ≡ Some k → ToldKind k
one_or_two_told [] k e = absurd cc
one_or_two_told (a ∷ []) k e = gives1 (inequality_of a) (λ o. told.IEJoin (record { operator1 = o; operator2 = None })) k e ToldKind (λ o eo. tt)
one_or_two_told (a ∷ b ∷ []) k e = gives2 (inequality_of a) (λ o. inequality_of b) (λ o p. told.IEJoin (record { operator1 = o; operator2 = Some p })) k e ToldKind (λ o p eo ep. tt)
one_or_two_told (a ∷ b ∷ d ∷ ds) k e = absurd cc

inequalities_told : (d : Data) (k : JoinTypeOptionsIR) → inequalities_of d ≡ Some k → ToldKind k
unfolding inequalities_of
inequalities_told d k e =
    let ds = bind_some (entries_of d) (λ ds. one_or_two ds) k e in
    one_or_two_told ds.0 k ds.2

pub kind_told : (d : Data) (k : JoinTypeOptionsIR) → IsCanonical d → kind_options_of d ≡ Some k → ToldKind k
kind_told d k c e =
    first_holds ToldKind ((is_some (get (codes "cross") d), only_of (codes "cross") d >>= condition_of) ∷ (is_some (get (codes "ie") d), only_of (codes "ie") d >>= inequalities_of) ∷ []) k e (
      λ e. let v = only_said (codes "cross") d condition_of k c e in condition_told v.0 k v.1 v.2,
      (
        λ e. let v = only_said (codes "ie") d inequalities_of k c e in inequalities_told v.0 k v.2,
        tt,
      ),
    )

pub no_kind : kind_options_of null ≡ None
no_kind = refl

maybe_kind : Back (nullable kind_options_of) (nullable_data kind_options_data)
maybe_kind = nullable_back (record { again = λ d k c e. kind_read k (kind_told d k c e) }) no_kind

-- ---- a join

join_args_told : (o : Data) (x : JoinArgs) → IsCanonical o → join_args_of o ≡ Some x → ToldSlice x.slice
unfolding join_args_of
join_args_told o x c e =
    gives7 (get (codes "how") o) (λ how. how_of how) (λ how h. naming_of o) (λ how h names. at (codes "join_nulls") truth_of o) (λ how h names n. get (codes "maintain_order") o) (λ how h names n order. order_of order) (λ how h names n order m. at (codes "slice") (nullable slice_of) o) (λ how h names n order m s. record { how = h; coalesce = names.0; suffix = names.1; join_nulls = n; maintain_order = m; slice = s }) x e (λ (y : JoinArgs). ToldSlice y.slice)
    (λ how h names n order m s ehow eh enames en eorder em es. under maybe_slice _ o s c es)

abbrev ToldOptions : JoinOptions → Type 0
ToldOptions o = ToldSlice o.args.slice × Again (nullable kind_options_of) (nullable_data kind_options_data) o.options

join_options_told : (o : Data) (x : JoinOptions) → IsCanonical o → join_options_of o ≡ Some x → ToldOptions x
unfolding join_options_of
join_options_told o x c e =
    gives4 (get (codes "parallel") o) (λ parallel. parallel_of parallel) (λ parallel p. join_args_of o) (λ parallel p args. at (codes "options") (nullable kind_options_of) o) (λ parallel p args k. record { allow_parallel = p.0; force_parallel = p.1; args = args; options = k }) x e ToldOptions
    (λ parallel p args k eparallel ep eargs ek. (join_args_told o args c eargs, under maybe_kind _ o k c ek))

key_pairs_told : (o : Data) (x : List ExprIR × List ExprIR) → IsCanonical o → key_pairs_of o ≡ Some x → ToldOutputs x.0 × ToldOutputs x.1
unfolding key_pairs_of
key_pairs_told o x c e =
    gives2 (at (codes "left_on") outputs_of o) (λ ls. at (codes "right_on") outputs_of o) (λ ls rs. (ls, rs)) x e (λ (y : List ExprIR × List ExprIR). ToldOutputs y.0 × ToldOutputs y.1)
    (λ ls rs els ers. (under outputs_back _ o ls c els, under outputs_back _ o rs c ers))

pub join_told : (d : Data) (x : IR) → IsCanonical d → join_of d ≡ Some x → Told x
unfolding join_of
join_told d x c e =
    gives6 (object_of join_keys d) (λ o. at (codes "left") link_of o) (λ o l. at (codes "right") link_of o) (λ o l r. at (codes "schema") columns_of o) (λ o l r s. key_pairs_of o) (λ o l r s ks. join_options_of o) (λ o l r s ks options. nodes.Join l r s ks.0 ks.1 options) x e Told
    (λ o l r s ks options eo el er es eks eoptions.
    let k = object_canonical _ d o c eo in
    let keys = key_pairs_told o ks k eks in
    let rest = join_options_told o options k eoptions in
    record {
      input_left = under link_back _ o l k el;
      input_right = under link_back _ o r k er;
      schema = under columns_back _ o s k es;
      left_on = keys.0;
      right_on = keys.1;
      slice = rest.0;
      kind = rest.1;
    })

pub join_read : (l r : Node) (s : Columns) (ls rs : List ExprIR) (options : JoinOptions) → Told (nodes.Join l r s ls rs options) → Again node_of node_data (nodes.Join l r s ls rs options)
unfolding node_of name_of join_of join_keys object_of at key_pairs_of join_options_of parallel_of two_of entries_of join_args_of naming_of truth_of node_data join_data
join_read l r s ls rs options t =
    rw (t.input_left, t.input_right, t.schema, t.left_on, t.right_on, how_again options.args.how, coalesce_again options.args.coalesce, maybe_name_again options.args.suffix, order_again options.args.maintain_order, t.slice, t.kind) refl
