-- A plan that is numbered anew has the operators of the plan, so that JSON values stand for its parts where they do for those of the plan.
use Rattle.std.proofs.Common.{◌≡◌, ◌<◌, ◌≤◌, ◌^◌, List, [], ◌∷◌, ◌++◌, length, map, Option, Some, None, refl, sym, ap, subst, ◌∙◌, arith}
use Rattle.std.specs.List.{AllByRecursion, flat_map}
use Rattle.std.specs.Option.{option_map}
use Rattle.plan_core.specs.declared.arena.Node.{Node}
use Rattle.plan_tree.specs.Rose.{items, labels}
use Rattle.plan_tree.specs.Stands.{Trees}
use Rattle.plan_tree.proofs.ReadLemmas.{trees_at-is}
use Rattle.plan_expr.specs.Exprs.{ExprOp, Named, all_named_at, alias, aggregate, binary, call, column, expr_at, expr_op, exprs_at, len, literal, named_at, ternary, window}
use Rattle.plan_expr.specs.Functions.{options_of}
use Rattle.plan_expr.specs.Operands.{expr_shape, operands_of}
use Rattle.plan_expr.specs.declared.aexpr.AExpr.{AExpr}
use Rattle.plan_expr.specs.declared.aexpr.AExpr.TheVariants as exprs
use Rattle.plan_expr.specs.declared.expr_ir.ExprIR.{ExprIR}
use Rattle.plan_expr.proofs.ExprLemmas.{exprs_at-is}
use Rattle.plan_join.specs.Told.{KindOptions, condition, inequalities, kind_options_at}
use Rattle.plan_join.specs.declared.options.JoinTypeOptionsIR.{JoinTypeOptionsIR}
use Rattle.plan_join.specs.declared.options.JoinTypeOptionsIR.TheVariants as told
use Rattle.plan_ir.specs.Copies.{IsRenumbered}
use Rattle.plan_ir.specs.Parts.{IsPlan, condition_in, condition_of, exprs_of, inputs_of, list_of, plan_shape, roots_in, roots_of}
use Rattle.plan_ir.specs.Plans.{Op, bare, cache, distinct, filter, frame_scan, group_by, hconcat, hstack, invalid, join, map_function, op_at, plans_at, plans_of, scan, select, simple_projection, sink, slice, sort, union}
use Rattle.plan_ir.specs.declared.copy.PlanCopy.{PlanCopy}
use Rattle.plan_ir.specs.declared.ir.IR.{IR}
use Rattle.plan_ir.specs.declared.ir.IR.TheVariants as nodes
use Rattle.plan_ir.proofs.PlanLemmas.{roots-items}
use Rattle.plan_ir.proofs.RenumberedLemmas.{renumbered-exprs, renumbered-nodes}
use Rattle.plan_doc_parts.specs.Parts.{nullable, number_of, integer_of, link_of, links_of, output_of, output_name_of}
use Rattle.plan_doc.specs.Exprs.{expr_of, value_or_null}
use Rattle.plan_doc_scans.specs.Functions.{frame_function_of}
use Rattle.plan_doc_nodes.specs.Joins.{kind_options_of}
use Rattle.plan_doc_nodes.specs.Nodes.{node_of}
use Rattle.plan_text_pieces.specs.Functions.{frame_function_data}
use Rattle.plan_text_pieces.specs.JoinOptions.{kind_options_data}
use Rattle.plan_text_pieces.specs.Origins.{origin_text, name_text}
use Rattle.plan_text_pieces.specs.Values.{integer_data, link_data, nullable_data, number_data, output_data}
use Rattle.plan_text.specs.Exprs.{literal_data}
use Rattle.plan_round_trip.specs.Back.{AreSaid, IsSaid}
use Rattle.plan_round_trip.proofs.Joins.{kind_read, no_kind}
use Rattle.plan_round_trip.proofs.Lists.{list_read, nullable_read}
use Rattle.plan_round_trip.proofs.Literals.{literal_type}
use Rattle.plan_round_trip.proofs.Moved.{ToldKinds, condition_all, expr_said, link_said, maybe_all, node_said, output_parts, outputs_all, outputs_told, said_told, said_told_expr, small_told, ToldOutput}
use Rattle.plan_round_trip.proofs.Pieces.{no_output, output_read}
use Rattle.plan_round_trip.proofs.Steps.{Again}
use Rattle.plan_round_trip.proofs.Told.{Told, ToldColumns, ToldExpr, ToldLink, ToldLinks, ToldNumber, ToldScan, ToldSlice, ToldSomeColumns, told_sort, told_union}
use Rattle.plan_round_trip.proofs.Trees.{Within, all_append, all_first, all_flat, all_from, all_from_both, all_mapped, all_parts, all_second, all_unmapped, inputs_hold, items-map_roses, items_hold, numbers_hold, ranged, within_first, within_more, within_rest}

-- ---- expressions

-- an expression beside its operands is read again of what is written for it
abbrev pub OpTold : ExprOp → Type 0
OpTold (column name) = Unit {0}
OpTold (literal value) = Again (value_or_null (literal_type value)) literal_data value
OpTold (alias name) = Unit {0}
OpTold (binary op) = Unit {0}
OpTold ternary = Unit {0}
OpTold (aggregate op) = Unit {0}
OpTold (call function options) = options_of function ≡ options
OpTold window = Unit {0}
OpTold len = Unit {0}

op_told : (x : AExpr) → ToldExpr x → OpTold (expr_op x)
op_told (exprs.Column s) t = tt
op_told (exprs.Literal v) t = t
op_told (exprs.Alias input s) t = tt
op_told (exprs.BinaryExpr left op right) t = tt
op_told (exprs.Ternary predicate truthy falsy) t = tt
op_told (exprs.Agg agg) t = tt
op_told (exprs.Function input function options) t = t.1
op_told (exprs.Window function partition_by) t = tt
op_told exprs.Len t = tt

links_told : (ns : List Node) → AllByRecursion ToldLink ns → ToldLinks ns
unfolding links_of
links_told ns a = list_read link_of link_data ns a

told_op : (x : AExpr) → OpTold (expr_op x) → AllByRecursion ToldLink (operands_of x) → ToldExpr x
told_op (exprs.Column s) t a = tt
told_op (exprs.Literal v) t a = t
told_op (exprs.Alias input s) t a = a.0
told_op (exprs.BinaryExpr left op right) t a = (a.0, a.1.0)
told_op (exprs.Ternary predicate truthy falsy) t a = (a.1.1.0, a.0, a.1.0)
told_op (exprs.Agg agg) t a = a.0
told_op (exprs.Function input function options) t a = (links_told input a, t)
told_op (exprs.Window function partition_by) t a = (a.0, links_told partition_by a.1)
told_op exprs.Len t a = tt

-- an expression with its output name is read again, its numbers aside
pub record NamedTold (n : Named) : Type 0 where
  pub name : output_name_of (origin_text n.name) (name_text n.name) ≡ Some n.name
  pub expr : Within OpTold n.expr

module _ (ex : List AExpr) where
  -- so is the expression at a number
  abbrev AtTold : Node → Type 0
  AtTold n = Within OpTold (expr_at ex n)

  abbrev NodeTold : ExprIR → Type 0
  NodeTold e = AtTold e.node

  all_at_told : (ns : List Node) → AllByRecursion OpTold (items (exprs_at ex ns)) → AllByRecursion AtTold ns
  all_at_told [] a = tt
  all_at_told (n ∷ ns) a = (within_first OpTold (expr_at ex n) (exprs_at ex ns) a, all_at_told ns (within_rest OpTold (expr_at ex n) (exprs_at ex ns) a))

  told_at_all : (ns : List Node) → AllByRecursion AtTold ns → AllByRecursion OpTold (items (exprs_at ex ns))
  told_at_all [] a = tt
  told_at_all (n ∷ ns) a = within_more OpTold (expr_at ex n) (exprs_at ex ns) a.0 (told_at_all ns a.1)

  all_named : (es : List ExprIR) → AllByRecursion ToldOutput es → AllByRecursion NodeTold es → AllByRecursion NamedTold (all_named_at ex es)
  all_named [] t a = tt
  all_named (e ∷ es) t a = (record { name = (output_parts e t.0).1; expr = a.0 }, all_named es t.1 a.1)

  named_output : (e : ExprIR) → NamedTold (named_at ex e) → ToldLink e.node → ToldOutput e
  named_output e t l = output_read e.node e.output_name l t.name

  named_outputs : (es : List ExprIR) → AllByRecursion NamedTold (all_named_at ex es) → AllByRecursion (λ (e : ExprIR). ToldLink e.node) es → AllByRecursion ToldOutput es
  named_outputs [] t a = tt
  named_outputs (e ∷ es) t a = (named_output e t.0 a.0, named_outputs es t.1 a.1)

  named_nodes : (es : List ExprIR) → AllByRecursion NamedTold (all_named_at ex es) → AllByRecursion NodeTold es
  named_nodes [] t = tt
  named_nodes (e ∷ es) t = (t.0.expr, named_nodes es t.1)

-- ---- nodes

-- the condition among what only some kinds of joins are told, if there is one
abbrev pub conditions : Option KindOptions → List Named
conditions None = []
conditions (Some (inequalities operators)) = []
conditions (Some (condition n)) = n ∷ []

-- a node beside its inputs is read again, its numbers aside
abbrev pub NodeOpTold : Op → Type 0
NodeOpTold (slice offset count) = Again integer_of integer_data offset × ToldNumber count
NodeOpTold (filter predicate) = NamedTold predicate
NodeOpTold (scan from info hive predicate output format options) = ToldScan from info hive None output options × AllByRecursion NamedTold (list_of predicate)
NodeOpTold (frame_scan df schema output) = Again (nullable number_of) (nullable_data number_data) df × ToldColumns schema × ToldSomeColumns output
NodeOpTold (simple_projection columns) = ToldColumns columns
NodeOpTold (select own schema options) = AllByRecursion NamedTold own × ToldColumns schema
NodeOpTold (hstack own schema options) = AllByRecursion NamedTold own × ToldColumns schema
NodeOpTold (sort keys cut options) = AllByRecursion NamedTold keys × ToldSlice cut × (told_sort options ≡ options)
NodeOpTold (group_by keys aggs schema maintain_order options) = AllByRecursion NamedTold keys × AllByRecursion NamedTold aggs × ToldColumns schema × ToldSlice options.slice
NodeOpTold (join left_on right_on schema told) = AllByRecursion NamedTold left_on × AllByRecursion NamedTold right_on × ToldColumns schema × ToldSlice told.args.slice × AllByRecursion NamedTold (conditions told.options)
NodeOpTold (distinct options) = ToldSlice options.slice
NodeOpTold (map_function function) = Again frame_function_of frame_function_data function
NodeOpTold (sink payload) = Unit {0}
NodeOpTold (union options) = ToldSlice options.slice × (told_union options ≡ options)
NodeOpTold (hconcat schema options) = ToldColumns schema
NodeOpTold (cache id hits) = ToldNumber id × ToldNumber hits
NodeOpTold invalid = Unit {0}

module _ (ex : List AExpr) where
  condition_named : (k : Option JoinTypeOptionsIR) → ToldKinds k → AllByRecursion (NodeTold ex) (list_of (condition_in k)) → AllByRecursion NamedTold (conditions (option_map (kind_options_at ex) k))
  condition_named None t a = tt
  condition_named (Some (told.IEJoin operators)) t a = tt
  condition_named (Some (told.Cross p)) t a = all_named ex (p ∷ []) (condition_all (Some (told.Cross p)) t) a

  node_op : (x : IR) → Told x → AllByRecursion (NodeTold ex) (exprs_of x) → NodeOpTold (op_at ex x)
  node_op (nodes.Slice input offset count) t a = (t.1, t.2)
  node_op (nodes.Filter input predicate) t a = (all_named ex (predicate ∷ []) (t.1, tt) a).0
  node_op (nodes.Scan from info hive None output format options) t a = (t, tt)
  node_op (nodes.Scan from info hive (Some p) output format options) t a =
      (record { sources = t.sources; schema = t.schema; reader = t.reader; hive = t.hive; predicate = refl; output = t.output; reading = t.reading }, all_named ex (p ∷ []) (maybe_all (Some p) t.predicate) a)
  node_op (nodes.DataFrameScan df schema output) t a = t
  node_op (nodes.SimpleProjection input columns) t a = t.1
  node_op (nodes.Select input own schema options) t a = (all_named ex own (outputs_all own t.1) a, t.2)
  node_op (nodes.HStack input own schema options) t a = (all_named ex own (outputs_all own t.1) a, t.2)
  node_op (nodes.Sort input keys cut options) t a = (all_named ex keys (outputs_all keys t.1) a, t.2, t.3)
  node_op (nodes.GroupBy input keys aggs schema maintain_order options) t a =
      (all_named ex keys (outputs_all keys t.1) (all_first (NodeTold ex) keys aggs a), all_named ex aggs (outputs_all aggs t.2) (all_second (NodeTold ex) keys aggs a), t.3, t.4)
  node_op (nodes.Join left right schema left_on right_on options) t a =
      let last = list_of (condition_of options) in
      let keys = all_first (NodeTold ex) (left_on ++ right_on) last a in (
        all_named ex left_on (outputs_all left_on t.left_on) (all_first (NodeTold ex) left_on right_on keys),
        all_named ex right_on (outputs_all right_on t.right_on) (all_second (NodeTold ex) left_on right_on keys),
        t.schema,
        t.slice,
        condition_named options.options t.kind (all_second (NodeTold ex) (left_on ++ right_on) last a),
      )
  node_op (nodes.Distinct input options) t a = t.1
  node_op (nodes.MapFunction input function) t a = t.1
  node_op (nodes.Sink input payload) t a = tt
  node_op (nodes.Union inputs options) t a = (t.1, t.2)
  node_op (nodes.HConcat inputs schema options) t a = t.1
  node_op (nodes.Cache input id hits) t a = (t.1, t.2)
  node_op nodes.Invalid t a = tt

  abbrev LinkTold : ExprIR → Type 0
  LinkTold e = ToldLink e.node

  kind_back : (k : Option JoinTypeOptionsIR) → AllByRecursion NamedTold (conditions (option_map (kind_options_at ex) k)) → AllByRecursion LinkTold (list_of (condition_in k)) → ToldKinds k
  kind_back None t a = refl
  kind_back (Some (told.IEJoin operators)) t a = nullable_read kind_options_of kind_options_data (told.IEJoin operators) no_kind (kind_read (told.IEJoin operators) tt)
  kind_back (Some (told.Cross p)) t a = nullable_read kind_options_of kind_options_data (told.Cross p) no_kind (kind_read (told.Cross p) (named_output ex p t.0 a.0))

  node_back : (x : IR) → NodeOpTold (op_at ex x) → AllByRecursion ToldLink (inputs_of x) → AllByRecursion LinkTold (exprs_of x) → Told x
  node_back (nodes.Slice input offset count) t a b = (a.0, t.0, t.1)
  node_back (nodes.Filter input predicate) t a b = (a.0, named_output ex predicate t b.0)
  node_back (nodes.Scan from info hive None output format options) t a b = t.0
  node_back (nodes.Scan from info hive (Some p) output format options) t a b = record {
    sources = t.0.sources;
    schema = t.0.schema;
    reader = t.0.reader;
    hive = t.0.hive;
    predicate = nullable_read output_of output_data p no_output (named_output ex p t.1.0 b.0);
    output = t.0.output;
    reading = t.0.reading;
  }
  node_back (nodes.DataFrameScan df schema output) t a b = t
  node_back (nodes.SimpleProjection input columns) t a b = (a.0, t)
  node_back (nodes.Select input own schema options) t a b = (a.0, outputs_told own (named_outputs ex own t.0 b), t.1)
  node_back (nodes.HStack input own schema options) t a b = (a.0, outputs_told own (named_outputs ex own t.0 b), t.1)
  node_back (nodes.Sort input keys cut options) t a b = (a.0, outputs_told keys (named_outputs ex keys t.0 b), t.1, t.2)
  node_back (nodes.GroupBy input keys aggs schema maintain_order options) t a b =
      (a.0, outputs_told keys (named_outputs ex keys t.0 (all_first LinkTold keys aggs b)), outputs_told aggs (named_outputs ex aggs t.1 (all_second LinkTold keys aggs b)), t.2, t.3)
  node_back (nodes.Join left right schema left_on right_on options) t a b =
      let last = list_of (condition_of options) in
      let keys = all_first LinkTold (left_on ++ right_on) last b in
      record {
        input_left = a.0;
        input_right = a.1.0;
        schema = t.2;
        left_on = outputs_told left_on (named_outputs ex left_on t.0 (all_first LinkTold left_on right_on keys));
        right_on = outputs_told right_on (named_outputs ex right_on t.1 (all_second LinkTold left_on right_on keys));
        slice = t.3;
        kind = kind_back options.options t.4 (all_second LinkTold (left_on ++ right_on) last b);
      }
  node_back (nodes.Distinct input options) t a b = (a.0, t)
  node_back (nodes.MapFunction input function) t a b = (a.0, t)
  node_back (nodes.Sink input payload) t a b = a.0
  node_back (nodes.Union inputs options) t a b = (links_told inputs a, t.0, t.1)
  node_back (nodes.HConcat inputs schema options) t a b = (links_told inputs a, t)
  node_back (nodes.Cache input id hits) t a b = (a.0, t.0, t.1)
  node_back nodes.Invalid t a b = tt

  condition_nodes : (k : Option JoinTypeOptionsIR) → AllByRecursion NamedTold (conditions (option_map (kind_options_at ex) k)) → AllByRecursion (NodeTold ex) (list_of (condition_in k))
  condition_nodes None t = tt
  condition_nodes (Some (told.IEJoin operators)) t = tt
  condition_nodes (Some (told.Cross p)) t = named_nodes ex (p ∷ []) t

  -- its expressions are read again
  node_exprs : (x : IR) → NodeOpTold (op_at ex x) → AllByRecursion (NodeTold ex) (exprs_of x)
  node_exprs (nodes.Slice input offset count) t = tt
  node_exprs (nodes.Filter input predicate) t = (t.expr, tt)
  node_exprs (nodes.Scan from info hive None output format options) t = tt
  node_exprs (nodes.Scan from info hive (Some p) output format options) t = named_nodes ex (p ∷ []) t.1
  node_exprs (nodes.DataFrameScan df schema output) t = tt
  node_exprs (nodes.SimpleProjection input columns) t = tt
  node_exprs (nodes.Select input own schema options) t = named_nodes ex own t.0
  node_exprs (nodes.HStack input own schema options) t = named_nodes ex own t.0
  node_exprs (nodes.Sort input keys cut options) t = named_nodes ex keys t.0
  node_exprs (nodes.GroupBy input keys aggs schema maintain_order options) t = all_append (NodeTold ex) keys aggs (named_nodes ex keys t.0) (named_nodes ex aggs t.1)
  node_exprs (nodes.Join left right schema left_on right_on options) t =
      all_append (NodeTold ex) (left_on ++ right_on) (list_of (condition_of options)) (all_append (NodeTold ex) left_on right_on (named_nodes ex left_on t.0) (named_nodes ex right_on t.1)) (condition_nodes options.options t.4)
  node_exprs (nodes.Distinct input options) t = tt
  node_exprs (nodes.MapFunction input function) t = tt
  node_exprs (nodes.Sink input payload) t = tt
  node_exprs (nodes.Union inputs options) t = tt
  node_exprs (nodes.HConcat inputs schema options) t = tt
  node_exprs (nodes.Cache input id hits) t = tt
  node_exprs nodes.Invalid t = tt

-- ---- plans

-- the numbers of a node's expressions are those of the expressions
abbrev number_of_expr : ExprIR → Node
number_of_expr e = e.node

-- the operators of a plan's nodes, in walk order
bare_items : (ex : List AExpr) (t : Trees IR) → items (bare (plans_of ex t)) ≡ map (op_at ex) (items t)
bare_items ex t = items-map_roses (λ _. tt {0}) (λ (op : Op). op) (plans_of ex t) ∙ map_same (items (plans_of ex t)) ∙ items-map_roses (λ (n : Node). n) (op_at ex) t
  where
    map_same : (ops : List Op) → map (λ (op : Op). op) ops ≡ ops
    map_same [] = refl
    map_same (op ∷ ops) = ap (λ (l : List Op). op ∷ l) (map_same ops)

-- of a plan for whose parts JSON values stand, all operators are read again
plan_ops : (lp : List IR) (ex : List AExpr) (root : Node) (h : IsPlan lp ex root) → AreSaid lp ex root → AllByRecursion NodeOpTold (map (op_at ex) (items h.nodes))
plan_ops lp ex root h said =
    let below : AllByRecursion ToldExpr (items h.exprs) = items_hold expr_shape ex ToldExpr (all_from (IsSaid expr_of) ToldExpr said_told_expr ex said.exprs) (roots_in h.nodes) h.exprs h.stands.exprs.stands in
    let ops : AllByRecursion OpTold (map expr_op (items h.exprs)) = all_mapped OpTold expr_op (items h.exprs) (all_from ToldExpr (λ (x : AExpr). OpTold (expr_op x)) op_told (items h.exprs) below) in
    let read : AllByRecursion OpTold (items (exprs_at ex (roots_in h.nodes))) = rw (exprs_at-is ex (roots_in h.nodes) h.exprs h.stands.exprs, items-map_roses (λ (n : Node). tt {0}) expr_op h.exprs) ops in
    let each : AllByRecursion (AtTold ex) (flat_map roots_of (items h.nodes)) = rw (roots-items h.nodes) (all_at_told ex (roots_in h.nodes) read) in
    let own : AllByRecursion (λ (x : IR). AllByRecursion (AtTold ex) (roots_of x)) (items h.nodes) = all_parts (AtTold ex) roots_of (items h.nodes) each in
    let told : AllByRecursion Told (items h.nodes) = items_hold plan_shape lp Told (all_from (IsSaid node_of) Told said_told lp said.nodes) (root ∷ []) h.nodes h.stands.nodes.stands in
    all_mapped NodeOpTold (op_at ex) (items h.nodes) (all_from_both Told (λ (x : IR). AllByRecursion (AtTold ex) (roots_of x)) (λ (x : IR). NodeOpTold (op_at ex x)) (λ x t a. node_op ex x t (all_unmapped (AtTold ex) number_of_expr (exprs_of x) a)) (items h.nodes) told own)

-- all operators of a plan are read again, its numbers aside
abbrev pub PlanTold : List IR → List AExpr → Node → Type 0
PlanTold lp ex root = AllByRecursion NodeOpTold (items (bare (plans_at lp ex (root ∷ []))))

-- so it is where JSON values stand for the parts of the plan
pub plan_told : (lp : List IR) (ex : List AExpr) (root : Node) → IsPlan lp ex root → AreSaid lp ex root → PlanTold lp ex root
plan_told lp ex root h said =
    subst (AllByRecursion NodeOpTold)
    (sym (ap (λ (t : Trees IR). items (bare (plans_of ex t))) (trees_at-is plan_shape lp (root ∷ []) h.nodes h.stands.nodes) ∙ bare_items ex h.nodes))
    (plan_ops lp ex root h said)

-- numbers below a bound are read again
abbrev IsSmall : Node → Type 0
IsSmall n = n.0 < 2 ^ 32

module _ (lp : List IR) (ex : List AExpr) (root : Node) (copy : PlanCopy) (h : IsRenumbered lp ex root copy) (few_nodes : length copy.lp ≤ 2 ^ 32) (few_exprs : length copy.ex ≤ 2 ^ 32) (told : PlanTold lp ex root) where
  same_ops : items (bare (plans_at lp ex (root ∷ []))) ≡ map (op_at copy.ex) (items h.nodes)
  same_ops =
      sym (ap items h.same)
      ∙ ap (λ (t : Trees IR). items (bare (plans_of copy.ex t))) (trees_at-is plan_shape copy.lp (copy.root ∷ []) h.nodes h.stands.nodes)
      ∙ bare_items copy.ex h.nodes

  ops : AllByRecursion (λ (x : IR). NodeOpTold (op_at copy.ex x)) (items h.nodes)
  ops = all_unmapped NodeOpTold (op_at copy.ex) (items h.nodes) (subst (AllByRecursion NodeOpTold) same_ops told)

  node_links : AllByRecursion ToldLink (labels h.nodes)
  node_links = all_from IsSmall ToldLink small_told (labels h.nodes) (ranged (2 ^ 32) (labels h.nodes) 0 (length copy.lp) h.nodes_in_order (omega (arith, few_nodes)))

  expr_links : AllByRecursion ToldLink (labels h.exprs)
  expr_links = all_from IsSmall ToldLink small_told (labels h.exprs) (ranged (2 ^ 32) (labels h.exprs) 0 (length copy.ex) h.exprs_in_order (omega (arith, few_exprs)))

  abbrev RootsTold : IR → Type 0
  RootsTold x = AllByRecursion ToldLink (roots_of x)

  root_links : AllByRecursion RootsTold (items h.nodes)
  root_links = all_parts ToldLink roots_of (items h.nodes) (rw (roots-items h.nodes) (numbers_hold expr_shape copy.ex ToldLink (roots_in h.nodes) h.exprs h.stands.exprs.stands expr_links))

  abbrev InputsTold : IR → Type 0
  InputsTold x = AllByRecursion ToldLink (inputs_of x)

  abbrev OpAtTold : IR → Type 0
  OpAtTold x = NodeOpTold (op_at copy.ex x)

  input_links : AllByRecursion InputsTold (items h.nodes)
  input_links = inputs_hold plan_shape copy.lp ToldLink (copy.root ∷ []) h.nodes h.stands.nodes.stands node_links

  -- each node is said
  nodes_said_anew : AllByRecursion (IsSaid node_of) (items h.nodes)
  nodes_said_anew =
      all_from_both OpAtTold (λ (x : IR). InputsTold x × RootsTold x) (IsSaid node_of)
      (λ x t links. node_said x (node_back copy.ex x t links.0 (all_unmapped ToldLink number_of_expr (exprs_of x) links.1)))
      (items h.nodes) ops
      (all_from_both InputsTold RootsTold (λ (x : IR). InputsTold x × RootsTold x) (λ x a b. (a, b)) (items h.nodes) input_links root_links)

  -- the operators of the expressions are read again
  expr_ops : AllByRecursion (λ (x : AExpr). OpTold (expr_op x)) (items h.exprs)
  expr_ops =
      let each : AllByRecursion (AtTold copy.ex) (flat_map roots_of (items h.nodes)) = all_flat (AtTold copy.ex) roots_of (items h.nodes) (all_from OpAtTold (λ (x : IR). AllByRecursion (AtTold copy.ex) (roots_of x)) (λ x t. all_mapped (AtTold copy.ex) number_of_expr (exprs_of x) (node_exprs copy.ex x t)) (items h.nodes) ops) in
      let read : AllByRecursion OpTold (items (exprs_at copy.ex (roots_in h.nodes))) = told_at_all copy.ex (roots_in h.nodes) (rw (← roots-items h.nodes) each) in
      all_unmapped OpTold expr_op (items h.exprs) (rw (← items-map_roses (λ (n : Node). tt {0}) expr_op h.exprs, ← exprs_at-is copy.ex (roots_in h.nodes) h.exprs h.stands.exprs) read)

  exprs_said_anew : AllByRecursion (IsSaid expr_of) (items h.exprs)
  exprs_said_anew =
      all_from_both (λ (x : AExpr). OpTold (expr_op x)) (λ (x : AExpr). AllByRecursion ToldLink (operands_of x)) (IsSaid expr_of)
      (λ x t a. expr_said x (told_op x t a))
      (items h.exprs) expr_ops
      (inputs_hold expr_shape copy.ex ToldLink (roots_in h.nodes) h.exprs h.stands.exprs.stands expr_links)

  -- JSON values stand for the parts of the plan that is numbered anew
  pub told_said : AreSaid copy.lp copy.ex copy.root
  told_said = record {
    nodes = rw (← renumbered-nodes lp ex root copy h) nodes_said_anew;
    exprs = rw (← renumbered-exprs lp ex root copy h) exprs_said_anew;
    root = link_said copy.root (numbers_hold plan_shape copy.lp ToldLink (copy.root ∷ []) h.nodes h.stands.nodes.stands node_links).0;
  }

-- and so where they stand for those of the plan
pub renumbered_said : (lp : List IR) (ex : List AExpr) (root : Node) (copy : PlanCopy) → IsPlan lp ex root → IsRenumbered lp ex root copy → length copy.lp ≤ 2 ^ 32 → length copy.ex ≤ 2 ^ 32 → AreSaid lp ex root → AreSaid copy.lp copy.ex copy.root
renumbered_said lp ex root copy plan h few_nodes few_exprs said = told_said lp ex root copy h few_nodes few_exprs (plan_told lp ex root plan said)
