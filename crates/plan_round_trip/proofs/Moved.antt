-- JSON values stand for the parts of a plan under other numbers, where they do so for those of the plan.
use Rattle.std.proofs.Common.{◌≡◌, ◌<◌, ◌^◌, ℕ, zero, suc, List, [], ◌∷◌, ◌++◌, length, map, take, drop, get_or, Option, Some, None, refl, sym, subst}
use Rattle.std.specs.List.{AllByRecursion, slice_get}
use Rattle.std.proofs.lemmas.Bool.{lt-ltb}
use Rattle.plan_core.specs.declared.arena.Node.{Node}
use Rattle.plan_expr.specs.Aggregates.{agg_input}
use Rattle.plan_expr.specs.declared.aexpr.AExpr.{AExpr}
use Rattle.plan_expr.specs.declared.aexpr.AExpr.TheVariants as exprs
use Rattle.plan_expr.specs.declared.expr_ir.ExprIR.{ExprIR}
use Rattle.plan_expr.proofs.AggLemmas.{input-over}
use Rattle.plan_ir.specs.declared.ir.IR.{IR}
use Rattle.plan_ir.specs.declared.ir.IR.TheVariants as nodes
use Rattle.plan_ir.specs.Moved.{moved_expr, moved_named, moved_node, new_number}
use Rattle.plan_ir.specs.Parts.{condition_in, list_of, told_over}
use Rattle.plan_join.specs.declared.options.JoinTypeOptionsIR.{JoinTypeOptionsIR}
use Rattle.plan_join.specs.declared.options.JoinTypeOptionsIR.TheVariants as told
use Rattle.plan_doc_parts.specs.Parts.{nullable, number_of, link_of, links_of, name_of, three_of, output_name_of, output_of, outputs_of}
use Rattle.plan_doc.specs.Exprs.{expr_of}
use Rattle.plan_doc_nodes.specs.Joins.{kind_options_of}
use Rattle.plan_doc_nodes.specs.Nodes.{node_of}
use Rattle.plan_text_pieces.specs.JoinOptions.{kind_options_data}
use Rattle.plan_text_pieces.specs.Origins.{origin_text, name_text}
use Rattle.plan_text_pieces.specs.Values.{link_data, nullable_data, output_data}
use Rattle.plan_text.specs.Exprs.{expr_data}
use Rattle.plan_text.specs.Nodes.{node_data}
use Rattle.plan_round_trip.specs.Back.{IsSaid, AreSaid}
use Rattle.plan_round_trip.proofs.Gives.{gives5}
use Rattle.plan_round_trip.proofs.Steps.{Again}
use Rattle.plan_round_trip.proofs.Lists.{list_parts, list_read, nullable_inner, nullable_read}
use Rattle.plan_round_trip.proofs.Parts.{link_again}
use Rattle.plan_round_trip.proofs.Pieces.{no_output, origin_again, output_read}
use Rattle.plan_round_trip.proofs.Told.{Told, ToldExpr, ToldLink, ToldLinks, ToldOutputs}
use Rattle.plan_round_trip.proofs.Joins.{ToldKind, kind_read, kind_told, no_kind}
use Rattle.plan_round_trip.proofs.Exprs.{expr_told, expr_read}
use Rattle.plan_round_trip.proofs.Trees.{all_append}
use Rattle.plan_round_trip.proofs.Nodes.{node_told, node_read}
use Rattle.plan_round_trip.proofs.Canonicals.{kind_options_canonical, expr_canonical, node_canonical}

-- ---- lists

all_take : {A : Type 0} (P : A → Type 0) (n : ℕ) (xs : List A) → AllByRecursion P xs → AllByRecursion P (take n xs)
all_take P zero xs a = tt
all_take P (suc n) [] a = tt
all_take P (suc n) (x ∷ xs) a = (a.0, all_take P n xs a.1)

all_drop : {A : Type 0} (P : A → Type 0) (n : ℕ) (xs : List A) → AllByRecursion P xs → AllByRecursion P (drop n xs)
all_drop P zero xs a = a
all_drop P (suc n) [] a = tt
all_drop P (suc n) (x ∷ xs) a = all_drop P n xs a.1

all_map : {A B : Type 0} (P : A → Type 0) (Q : B → Type 0) (f : A → B) → ((x : A) → P x → Q (f x)) → (xs : List A) → AllByRecursion P xs → AllByRecursion Q (map f xs)
all_map P Q f one [] a = tt
all_map P Q f one (x ∷ xs) a = (one x a.0, all_map P Q f one xs a.1)

-- ---- expressions with their output names

abbrev pub ToldOutput : ExprIR → Type 0
ToldOutput e = Again output_of output_data e

abbrev pub OutputParts : ExprIR → Type 0
OutputParts e = ToldLink e.node × (output_name_of (origin_text e.output_name) (name_text e.output_name) ≡ Some e.output_name)

pub output_parts : (e : ExprIR) → ToldOutput e → OutputParts e
unfolding output_of
output_parts e is =
    gives5 (three_of (output_data e)) (λ t. link_of t.0) (λ t l. name_of t.1) (λ t l k. name_of t.2) (λ t l k n. output_name_of k n) (λ t l k n o. record { node = l; output_name = o }) e is OutputParts
    (λ t l k n o et el ek en eo. (link_again t.0 l el, origin_again k n o eo))

pub outputs_all : (es : List ExprIR) → ToldOutputs es → AllByRecursion ToldOutput es
unfolding outputs_of
outputs_all es t = list_parts output_of output_data es t

pub outputs_told : (es : List ExprIR) → AllByRecursion ToldOutput es → ToldOutputs es
unfolding outputs_of
outputs_told es a = list_read output_of output_data es a

abbrev pub ToldMaybe : Option ExprIR → Type 0
ToldMaybe o = Again (nullable output_of) (nullable_data output_data) o

first_told : (es : List ExprIR) → AllByRecursion ToldOutput es → ToldMaybe (slice_get es 0)
first_told [] a = refl
first_told (e ∷ es) a = nullable_read output_of output_data e no_output a.0

pub maybe_all : (o : Option ExprIR) → ToldMaybe o → AllByRecursion ToldOutput (list_of o)
maybe_all None t = tt
maybe_all (Some e) t = (nullable_inner output_of output_data (output_data e) e t, tt)

-- ---- the conditions of joins

abbrev pub ToldKinds : Option JoinTypeOptionsIR → Type 0
ToldKinds k = Again (nullable kind_options_of) (nullable_data kind_options_data) k

kind_inner : (k : JoinTypeOptionsIR) → ToldKinds (Some k) → ToldKind k
kind_inner k t = kind_told (kind_options_data k) k (kind_options_canonical k) (nullable_inner kind_options_of kind_options_data (kind_options_data k) k t)

pub condition_all : (k : Option JoinTypeOptionsIR) → ToldKinds k → AllByRecursion ToldOutput (list_of (condition_in k))
condition_all None t = tt
condition_all (Some (told.IEJoin o)) t = tt
condition_all (Some (told.Cross p)) t = (kind_inner (told.Cross p) t, tt)

over_told : (k : Option JoinTypeOptionsIR) (o : Option ExprIR) → ToldKinds k → ToldMaybe o → ToldKinds (told_over k o)
over_told None o t m = t
over_told (Some (told.IEJoin i)) o t m = t
over_told (Some (told.Cross p)) None t m = t
over_told (Some (told.Cross p)) (Some q) t m =
    nullable_read kind_options_of kind_options_data (told.Cross q) no_kind (kind_read (told.Cross q) (nullable_inner output_of output_data (output_data q) q m))

-- ---- under other numbers

at_told : (table : List Node) → AllByRecursion ToldLink table → (i : ℕ) (n : Node) → ToldLink n → ToldLink (get_or table i n)
at_told [] a i n t = t
at_told (m ∷ ms) a zero n t = a.0
at_told (m ∷ ms) a (suc i) n t = at_told ms a.1 i n t

module _ (table : List Node) (few : AllByRecursion ToldLink table) where
  link_moved : (n : Node) → ToldLink n → ToldLink (new_number table n)
  link_moved n t = at_told table few n.0 n t

  links_moved : (ns : List Node) → ToldLinks ns → ToldLinks (map (new_number table) ns)
  unfolding links_of
  links_moved ns t = list_read link_of link_data (map (new_number table) ns) (all_map ToldLink ToldLink (new_number table) link_moved ns (list_parts link_of link_data ns t))

  output_moved : (e : ExprIR) → ToldOutput e → ToldOutput (moved_named table e)
  output_moved e t =
      let p = output_parts e t in
      output_read (new_number table e.node) e.output_name (link_moved e.node p.0) p.1

  all_moved : (es : List ExprIR) → AllByRecursion ToldOutput es → AllByRecursion ToldOutput (map (moved_named table) es)
  all_moved es a = all_map ToldOutput ToldOutput (moved_named table) output_moved es a

  outputs_moved : (es : List ExprIR) → ToldOutputs es → ToldOutputs (map (moved_named table) es)
  outputs_moved es t = outputs_told (map (moved_named table) es) (all_moved es (outputs_all es t))

  expr_moved : (x : AExpr) → ToldExpr x → ToldExpr (moved_expr table x)
  expr_moved (exprs.Column s) t = tt
  expr_moved (exprs.Literal v) t = t
  expr_moved (exprs.Alias input s) t = link_moved input t
  expr_moved (exprs.BinaryExpr left op right) t = (link_moved left t.0, link_moved right t.1)
  expr_moved (exprs.Ternary predicate truthy falsy) t = (link_moved predicate t.0, link_moved truthy t.1, link_moved falsy t.2)
  expr_moved (exprs.Agg agg) t = subst ToldLink (sym (input-over agg (new_number table (agg_input agg)))) (link_moved (agg_input agg) t)
  expr_moved (exprs.Function input function options) t = (links_moved input t.0, t.1)
  expr_moved (exprs.Window function partition_by) t = (link_moved function t.0, links_moved partition_by t.1)
  expr_moved exprs.Len t = tt

module _ (inputs roots : List Node) (few_inputs : AllByRecursion ToldLink inputs) (few_roots : AllByRecursion ToldLink roots) where
  node_moved : (x : IR) → Told x → Told (moved_node inputs roots x)
  node_moved (nodes.Slice input offset len) t = (link_moved inputs few_inputs input t.0, t.1, t.2)
  node_moved (nodes.Filter input predicate) t = (link_moved inputs few_inputs input t.0, output_moved roots few_roots predicate t.1)
  node_moved (nodes.Scan from info hive predicate output format options) t = record {
    sources = t.sources;
    schema = t.schema;
    reader = t.reader;
    hive = t.hive;
    predicate = first_told (map (moved_named roots) (list_of predicate)) (all_moved roots few_roots (list_of predicate) (maybe_all predicate t.predicate));
    output = t.output;
    reading = t.reading;
  }
  node_moved (nodes.DataFrameScan df schema output) t = t
  node_moved (nodes.SimpleProjection input columns) t = (link_moved inputs few_inputs input t.0, t.1)
  node_moved (nodes.Select input expr schema options) t = (link_moved inputs few_inputs input t.0, outputs_moved roots few_roots expr t.1, t.2)
  node_moved (nodes.HStack input exprs schema options) t = (link_moved inputs few_inputs input t.0, outputs_moved roots few_roots exprs t.1, t.2)
  node_moved (nodes.Sort input keys slice options) t = (link_moved inputs few_inputs input t.0, outputs_moved roots few_roots keys t.1, t.2, t.3)
  node_moved (nodes.GroupBy input keys aggs schema maintain_order options) t =
      let all = all_moved roots few_roots (keys ++ aggs) (all_append ToldOutput keys aggs (outputs_all keys t.1) (outputs_all aggs t.2)) in
      let es = map (moved_named roots) (keys ++ aggs) in
      (link_moved inputs few_inputs input t.0, outputs_told (take (length keys) es) (all_take ToldOutput (length keys) es all), outputs_told (drop (length keys) es) (all_drop ToldOutput (length keys) es all), t.3, t.4)
  node_moved (nodes.Join left right schema left_on right_on options) t =
      let keys = all_append ToldOutput left_on right_on (outputs_all left_on t.left_on) (outputs_all right_on t.right_on) in
      let given = (left_on ++ right_on) ++ list_of (condition_in options.options) in
      let es = map (moved_named roots) given in
      let all = all_moved roots few_roots given (all_append ToldOutput (left_on ++ right_on) (list_of (condition_in options.options)) keys (condition_all options.options t.kind)) in
      let rest = drop (length left_on) es in
      let all_rest = all_drop ToldOutput (length left_on) es all in
      let last = drop (length right_on) rest in
      let all_last = all_drop ToldOutput (length right_on) rest all_rest in
      record {
        input_left = link_moved inputs few_inputs left t.input_left;
        input_right = link_moved inputs few_inputs right t.input_right;
        schema = t.schema;
        left_on = outputs_told (take (length left_on) es) (all_take ToldOutput (length left_on) es all);
        right_on = outputs_told (take (length right_on) rest) (all_take ToldOutput (length right_on) rest all_rest);
        slice = t.slice;
        kind = over_told options.options (slice_get last 0) t.kind (first_told last all_last);
      }
  node_moved (nodes.Distinct input options) t = (link_moved inputs few_inputs input t.0, t.1)
  node_moved (nodes.MapFunction input function) t = (link_moved inputs few_inputs input t.0, t.1)
  node_moved (nodes.Sink input payload) t = link_moved inputs few_inputs input t
  node_moved (nodes.Union own options) t = (links_moved inputs few_inputs own t.0, t.1, t.2)
  node_moved (nodes.HConcat own schema options) t = (links_moved inputs few_inputs own t.0, t.1)
  node_moved (nodes.Cache input id hits) t = (link_moved inputs few_inputs input t.0, t.1, t.2)
  node_moved nodes.Invalid t = tt

-- ---- plans

-- a JSON value stands for a number below 2 ^ 32
pub small_told : (n : Node) → n.0 < 2 ^ 32 → ToldLink n
unfolding link_of number_of
small_told n h = rw (lt-ltb n.0 (2 ^ 32) h) refl

pub link_said : (n : Node) → ToldLink n → IsSaid link_of n
link_said n t = record { value = link_data n; canonical = refl; stands = t }

-- and for a node and an expression whose parts are read again
pub node_said : (x : IR) → Told x → IsSaid node_of x
node_said x t = record { value = node_data x; canonical = node_canonical x; stands = node_read x t }

pub expr_said : (x : AExpr) → ToldExpr x → IsSaid expr_of x
expr_said x t = record { value = expr_data x; canonical = expr_canonical x; stands = expr_read x t }

pub said_told : (x : IR) → IsSaid node_of x → Told x
said_told x s = node_told s.value x s.canonical s.stands

pub said_told_expr : (x : AExpr) → IsSaid expr_of x → ToldExpr x
said_told_expr x s = expr_told s.value x s.canonical s.stands

abbrev IsSmall : Node → Type 0
IsSmall n = n.0 < 2 ^ 32

all_small : (ns : List Node) → AllByRecursion IsSmall ns → AllByRecursion ToldLink ns
all_small [] a = tt
all_small (n ∷ ns) a = (small_told n a.0, all_small ns a.1)

pub plan_moved : (inputs roots : List Node) (lp : List IR) (ex : List AExpr) (root : Node) → AllByRecursion IsSmall inputs → AllByRecursion IsSmall roots → AreSaid lp ex root → AreSaid (map (moved_node inputs roots) lp) (map (moved_expr roots) ex) (new_number inputs root)
plan_moved inputs roots lp ex root few_inputs few_roots said =
    let i = all_small inputs few_inputs in
    let r = all_small roots few_roots in
    record {
      nodes = all_map (IsSaid node_of) (IsSaid node_of) (moved_node inputs roots) (λ x s. node_said (moved_node inputs roots x) (node_moved inputs roots i r x (said_told x s))) lp said.nodes;
      exprs = all_map (IsSaid expr_of) (IsSaid expr_of) (moved_expr roots) (λ x s. expr_said (moved_expr roots x) (expr_moved roots r x (said_told_expr x s))) ex said.exprs;
      root = link_said (new_number inputs root) (link_moved inputs i root (link_again said.root.value root said.root.stands));
    }
