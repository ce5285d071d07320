-- Copies of the nodes and expressions of a plan, in walk order and numbered so, are that plan.
use Rattle.std.proofs.Common.{◌≡◌, ℕ, ◌<◌, All, List, [], ◌∷◌, ◌++◌, length, map, take, drop, nat_eq, Some, None, Option, refl, sym, ap, ap₂, ◌∙◌}
use Rattle.std.specs.List.{AllByRecursion, IsDistinct, flat_map, range_with_len, slice_get}
use Rattle.std.specs.Option.{option_map}
use Rattle.std.proofs.lemmas.List.{length-map, map-append, take-append-drop}
use Rattle.std.proofs.lemmas.List.Elements.{All-from_recursion}
use Rattle.std.proofs.lemmas.Option.{slice_get_within}
use Rattle.std.proofs.Math.Seq.{take-append_seam, drop-append_seam}
use Rattle.plan_core.specs.declared.arena.Node.{Node}
use Rattle.plan_tree.proofs.Numbers.{IsDistinct-labels, length-items, length-labels}
use Rattle.plan_tree.proofs.WalkTrees.{nodes-steps}
use Rattle.plan_tree.proofs.ReadLemmas.{trees_at-is}
use Rattle.plan_tree.specs.declared.walking.Step.{Step}
use Rattle.plan_tree.specs.Rose.{Rose, Roses, rose, no_roses, more, labels, items, map_roses}
use Rattle.plan_tree.specs.Stands.{Shape, Trees, numbers, Stands, StandsOnce}
use Rattle.plan_tree.specs.Walk.{nodes_of, steps_to}
use Rattle.plan_copy.specs.declared.copy.Listed.{Listed}
use Rattle.plan_ir.specs.declared.copy.PlanCopy.{PlanCopy}
use Rattle.plan_expr.specs.declared.aexpr.AExpr.{AExpr}
use Rattle.plan_expr.specs.declared.aexpr.AExpr.TheVariants.{Column, Literal, Alias, BinaryExpr, Ternary, Agg, Function, Window, Len}
use Rattle.plan_expr.specs.declared.expr_ir.ExprIR.{ExprIR}
use Rattle.plan_ir.specs.declared.ir.IR.{IR}
use Rattle.plan_ir.specs.declared.ir.IR.TheVariants.{Slice, Filter, Scan, DataFrameScan, SimpleProjection, Select, HStack, Sort, GroupBy, Join, Distinct, MapFunction, Sink, Union, HConcat, Cache, Invalid}
use Rattle.plan_core.specs.Columns.{Columns}
use Rattle.plan_join.specs.Told.{Told, KindOptions, condition, kind_options_at}
use Rattle.plan_join.specs.declared.options.JoinOptions.{JoinOptions}
use Rattle.plan_join.specs.declared.options.JoinTypeOptionsIR.{JoinTypeOptionsIR}
use Rattle.plan_join.specs.declared.options.JoinTypeOptionsIR.TheVariants.{IEJoin, Cross}
use Rattle.plan_ir.specs.Copies.{IsRenumbered}
use Rattle.plan_copy.specs.Lists.{Lists}
use Rattle.plan_ir.specs.Moved.{entries_at, moved_expr, moved_named, moved_node, new_number}
use Rattle.plan_expr.specs.Operands.{expr_shape, operands_of}
use Rattle.plan_ir.specs.Parts.{condition_in, condition_of, inputs_of, is_invalid, list_of, options_over, plan_shape, roots_of, roots_in, told_over, StandsPlan, IsPlan}
use Rattle.plan_expr.specs.Exprs.{aggregate, Expr, Named, all_named_at, expr_op, expr_at, exprs_at, named_at}
use Rattle.plan_ir.specs.Plans.{Op, filter, scan, select, hstack, sort, group_by, join, op_at, plans_of, bare}
use Rattle.plan_ir.proofs.EntryLemmas.{entries_at-labels}
use Rattle.plan_ir.proofs.PartLemmas.{ap-three, first-part, second-part, last-part}
use Rattle.plan_expr.specs.Aggregates.{agg_input}
use Rattle.plan_expr.proofs.AggLemmas.{input-over, op-over}
use Rattle.plan_expr.proofs.ExprLemmas.{exprs_at-is}
use Rattle.plan_ir.proofs.PlanLemmas.{map_twice, roots-items}
use Rattle.plan_copy.proofs.MovedLemmas.{labels-map_roses, StandsOnce-moved}

all_append : {A : Type 0} (P : A → Type 0) (xs ys : List A) → AllByRecursion P xs → AllByRecursion P ys → AllByRecursion P (xs ++ ys)
all_append P [] ys a b = b
all_append P (x ∷ xs) ys a b = (a.0, all_append P xs ys a.1 b)

all_first : {A : Type 0} (P : A → Type 0) (xs ys : List A) → AllByRecursion P (xs ++ ys) → AllByRecursion P xs
all_first P [] ys a = tt
all_first P (x ∷ xs) ys a = (a.0, all_first P xs ys a.1)

all_second : {A : Type 0} (P : A → Type 0) (xs ys : List A) → AllByRecursion P (xs ++ ys) → AllByRecursion P ys
all_second P [] ys a = a
all_second P (x ∷ xs) ys a = all_second P xs ys a.1

-- each label of trees has an entry
labels-entered : {P : Type 0} (S : Shape P) (lp : List P) (ns : List Node) (f : Trees P) → Stands S lp ns f → AllByRecursion (λ (n : Node). n.0 < length lp) (labels f)
labels-entered S lp [] no_roses s = tt
labels-entered S lp [] (more (rose m p kids) rest) s = absurd s
labels-entered S lp (n ∷ ns) no_roses s = absurd s
labels-entered S lp (n ∷ ns) (more (rose m p kids) rest) s = (
  slice_get_within lp m.0 p (ap (λ (x : Node). slice_get lp x.0) (sym s.0) ∙ s.1),
  all_append (λ (k : Node). k.0 < length lp) (labels kids) (labels rest) (labels-entered S lp (S.inputs p) kids s.3) (labels-entered S lp ns rest s.4),
)

pub labels-within : {P : Type 0} (S : Shape P) (lp : List P) (ns : List Node) (f : Trees P) → StandsOnce S lp ns f → (size : ℕ) → size ≡ length lp → (listed : List Node) → listed ≡ labels f → All (λ (n : Node). n.0 < size) listed
labels-within S lp ns f h size long listed is = rw (long, is) (All-from_recursion (λ (n : Node). n.0 < length lp) (labels f) (labels-entered S lp ns f h.stands))

labels-distinct : {P : Type 0} (S : Shape P) (lp : List P) (ns : List Node) (f : Trees P) → StandsOnce S lp ns f → (listed : List Node) → listed ≡ labels f → IsDistinct nat_eq (numbers listed)
labels-distinct S lp ns f h listed is = rw is (IsDistinct-labels f h.once)

-- trees with other labels and items, and then without labels
module _ {N P Q : Type 0} (f : N → N) (g : P → P) (h : P → Q) (same : (p : P) → h (g p) ≡ h p) where
  abbrev bared : Roses N P → Roses (Unit {0}) Q
  bared t = map_roses (λ _. tt) h t

  bared-moved : (t : Roses N P) → bared (map_roses f g t) ≡ bared t
  bared-moved no_roses = refl
  bared-moved (more (rose n p kids) rest) =
      ap₂ (λ (r : Rose (Unit {0}) Q) (rs : Roses (Unit {0}) Q). more r rs)
      (ap₂ (λ (q : Q) (rs : Roses (Unit {0}) Q). rose tt q rs) (same p) (bared-moved kids))
      (bared-moved rest)

module _ (table : List Node) where
  pub operands-moved : (e : AExpr) → operands_of (moved_expr table e) ≡ map (new_number table) (operands_of e)
  operands-moved (Column name) = refl
  operands-moved (Literal value) = refl
  operands-moved (Alias input name) = refl
  operands-moved (BinaryExpr left op right) = refl
  operands-moved (Ternary predicate truthy falsy) = refl
  operands-moved (Agg agg) = ap (λ (n : Node). n ∷ []) (input-over agg (new_number table (agg_input agg)))
  operands-moved (Function input function options) = refl
  operands-moved (Window function partition_by) = refl
  operands-moved Len = refl

  op-moved : (e : AExpr) → expr_op (moved_expr table e) ≡ expr_op e
  op-moved (Column name) = refl
  op-moved (Literal value) = refl
  op-moved (Alias input name) = refl
  op-moved (BinaryExpr left op right) = refl
  op-moved (Ternary predicate truthy falsy) = refl
  op-moved (Agg agg) = ap aggregate (op-over agg (new_number table (agg_input agg)))
  op-moved (Function input function options) = refl
  op-moved (Window function partition_by) = refl
  op-moved Len = refl

module _ (nodes exprs : List Node) where
  pub inputs-moved : (p : IR) → inputs_of (moved_node nodes exprs p) ≡ map (new_number nodes) (inputs_of p)
  inputs-moved (Slice input offset len) = refl
  inputs-moved (Filter input predicate) = refl
  inputs-moved (Scan sources file_info hive_parts predicate output_schema scan_type file_options) = refl
  inputs-moved (DataFrameScan df schema output_schema) = refl
  inputs-moved (SimpleProjection input columns) = refl
  inputs-moved (Select input expr schema options) = refl
  inputs-moved (HStack input own schema options) = refl
  inputs-moved (Sort input by_column slice sort_options) = refl
  inputs-moved (GroupBy input keys aggs schema maintain_order options) = refl
  inputs-moved (Join input_left input_right schema left_on right_on options) = refl
  inputs-moved (Distinct input options) = refl
  inputs-moved (MapFunction input function) = refl
  inputs-moved (Sink input payload) = refl
  inputs-moved (Union inputs options) = refl
  inputs-moved (HConcat inputs schema options) = refl
  inputs-moved (Cache input id cache_hits) = refl
  inputs-moved Invalid = refl

  pub invalid-moved : (p : IR) → is_invalid (moved_node nodes exprs p) ≡ is_invalid p
  invalid-moved (Slice input offset len) = refl
  invalid-moved (Filter input predicate) = refl
  invalid-moved (Scan sources file_info hive_parts predicate output_schema scan_type file_options) = refl
  invalid-moved (DataFrameScan df schema output_schema) = refl
  invalid-moved (SimpleProjection input columns) = refl
  invalid-moved (Select input expr schema options) = refl
  invalid-moved (HStack input own schema options) = refl
  invalid-moved (Sort input by_column slice sort_options) = refl
  invalid-moved (GroupBy input keys aggs schema maintain_order options) = refl
  invalid-moved (Join input_left input_right schema left_on right_on options) = refl
  invalid-moved (Distinct input options) = refl
  invalid-moved (MapFunction input function) = refl
  invalid-moved (Sink input payload) = refl
  invalid-moved (Union inputs options) = refl
  invalid-moved (HConcat inputs schema options) = refl
  invalid-moved (Cache input id cache_hits) = refl
  invalid-moved Invalid = refl

  -- the first so many of moved keys and aggregates are the keys
  pub keys-moved : (keys aggs : List ExprIR) → take (length keys) (map (moved_named exprs) (keys ++ aggs)) ≡ map (moved_named exprs) keys
  keys-moved keys aggs =
      ap₂ take (sym (length-map keys (moved_named exprs))) (map-append (moved_named exprs) keys aggs)
      ∙ take-append_seam (map (moved_named exprs) keys) (map (moved_named exprs) aggs)

  -- and those after them the aggregates
  pub aggs-moved : (keys aggs : List ExprIR) → drop (length keys) (map (moved_named exprs) (keys ++ aggs)) ≡ map (moved_named exprs) aggs
  aggs-moved keys aggs =
      ap₂ drop (sym (length-map keys (moved_named exprs))) (map-append (moved_named exprs) keys aggs)
      ∙ drop-append_seam (map (moved_named exprs) keys) (map (moved_named exprs) aggs)

  -- the parts of moved keys and a condition are those of the keys and the condition, moved
  module _ (ls rs cs : List ExprIR) where
    three-moved : map (moved_named exprs) ((ls ++ rs) ++ cs) ≡ (map (moved_named exprs) ls ++ map (moved_named exprs) rs) ++ map (moved_named exprs) cs
    three-moved = map-append (moved_named exprs) (ls ++ rs) cs ∙ ap (λ (x : List ExprIR). x ++ map (moved_named exprs) cs) (map-append (moved_named exprs) ls rs)

    pub left-moved : take (length ls) (map (moved_named exprs) ((ls ++ rs) ++ cs)) ≡ map (moved_named exprs) ls
    left-moved = ap₂ take (sym (length-map ls (moved_named exprs))) three-moved ∙ first-part (map (moved_named exprs) ls) (map (moved_named exprs) rs) (map (moved_named exprs) cs)

    behind-moved : drop (length ls) (map (moved_named exprs) ((ls ++ rs) ++ cs)) ≡ drop (length (map (moved_named exprs) ls)) ((map (moved_named exprs) ls ++ map (moved_named exprs) rs) ++ map (moved_named exprs) cs)
    behind-moved = ap₂ drop (sym (length-map ls (moved_named exprs))) three-moved

    pub right-moved : take (length rs) (drop (length ls) (map (moved_named exprs) ((ls ++ rs) ++ cs))) ≡ map (moved_named exprs) rs
    right-moved = ap₂ take (sym (length-map rs (moved_named exprs))) behind-moved ∙ second-part (map (moved_named exprs) ls) (map (moved_named exprs) rs) (map (moved_named exprs) cs)

    pub condition-moved : drop (length rs) (drop (length ls) (map (moved_named exprs) ((ls ++ rs) ++ cs))) ≡ map (moved_named exprs) cs
    condition-moved = ap₂ drop (sym (length-map rs (moved_named exprs))) behind-moved ∙ last-part (map (moved_named exprs) ls) (map (moved_named exprs) rs) (map (moved_named exprs) cs)

  -- the condition of a join that is told what another is, with the condition moved
  told-moved : (o : Option JoinTypeOptionsIR) → list_of (condition_in (told_over o (slice_get (map (moved_named exprs) (list_of (condition_in o))) 0))) ≡ map (moved_named exprs) (list_of (condition_in o))
  told-moved None = refl
  told-moved (Some (IEJoin operators)) = refl
  told-moved (Some (Cross predicate)) = refl

  -- a moved join
  pub join-moved : (l r : Node) (schema : Columns) (ls rs : List ExprIR) (o : JoinOptions) → moved_node nodes exprs (Join l r schema ls rs o) ≡ Join (new_number nodes l) (new_number nodes r) schema (map (moved_named exprs) ls) (map (moved_named exprs) rs) (options_over o (slice_get (map (moved_named exprs) (list_of (condition_of o))) 0))
  join-moved l r schema ls rs o =
      let cs = list_of (condition_of o) in
      ap-three (λ (x y : List ExprIR) (u : JoinOptions). Join (new_number nodes l) (new_number nodes r) schema x y u)
      (left-moved ls rs cs)
      (right-moved ls rs cs)
      (ap (λ (es : List ExprIR). options_over o (slice_get es 0)) (condition-moved ls rs cs))

  nodes-moved : (es : List ExprIR) → map (λ (e : ExprIR). e.node) (map (moved_named exprs) es) ≡ map (new_number exprs) (map (λ (e : ExprIR). e.node) es)
  nodes-moved es = sym (map_twice (λ (e : ExprIR). e.node) (moved_named exprs) es) ∙ map_twice (new_number exprs) (λ (e : ExprIR). e.node) es

  roots-moved : (p : IR) → roots_of (moved_node nodes exprs p) ≡ map (new_number exprs) (roots_of p)
  roots-moved (Slice input offset len) = refl
  roots-moved (Filter input predicate) = refl
  roots-moved (Scan sources file_info hive_parts None output_schema scan_type file_options) = refl
  roots-moved (Scan sources file_info hive_parts (Some predicate) output_schema scan_type file_options) = refl
  roots-moved (DataFrameScan df schema output_schema) = refl
  roots-moved (SimpleProjection input columns) = refl
  roots-moved (Select input expr schema options) = nodes-moved expr
  roots-moved (HStack input own schema options) = nodes-moved own
  roots-moved (Sort input by_column slice sort_options) = nodes-moved by_column
  roots-moved (GroupBy input keys aggs schema maintain_order options) = ap (map (λ (e : ExprIR). e.node)) (take-append-drop (length keys) (map (moved_named exprs) (keys ++ aggs))) ∙ nodes-moved (keys ++ aggs)
  roots-moved (Join input_left input_right schema left_on right_on options) =
      let cs = list_of (condition_of options) in
      ap roots_of (join-moved input_left input_right schema left_on right_on options)
      ∙ ap (λ (es : List ExprIR). map (λ (e : ExprIR). e.node) ((map (moved_named exprs) left_on ++ map (moved_named exprs) right_on) ++ es)) (told-moved options.options)
      ∙ ap (map (λ (e : ExprIR). e.node)) (sym (three-moved left_on right_on cs))
      ∙ nodes-moved ((left_on ++ right_on) ++ cs)
  roots-moved (Distinct input options) = refl
  roots-moved (MapFunction input function) = refl
  roots-moved (Sink input payload) = refl
  roots-moved (Union inputs options) = refl
  roots-moved (HConcat inputs schema options) = refl
  roots-moved (Cache input id cache_hits) = refl
  roots-moved Invalid = refl

  roots_in-moved : (t : Trees IR) → roots_in (map_roses (new_number nodes) (moved_node nodes exprs) t) ≡ map (new_number exprs) (roots_in t)
  roots_in-moved no_roses = refl
  roots_in-moved (more (rose n p kids) rest) =
      ap₂ (λ (x y : List Node). x ++ y) (roots-moved p) (ap₂ (λ (x y : List Node). x ++ y) (roots_in-moved kids) (roots_in-moved rest) ∙ sym (map-append (new_number exprs) (roots_in kids) (roots_in rest)))
      ∙ sym (map-append (new_number exprs) (roots_of p) (roots_in kids ++ roots_in rest))

module _ (ex ex' : List AExpr) (nodes exprs : List Node) where
  -- the same expression stands at the new number
  abbrev Same : Node → Type 0
  Same n = expr_at ex' (new_number exprs n) ≡ expr_at ex n

  same_each : (ns : List Node) → exprs_at ex' (map (new_number exprs) ns) ≡ exprs_at ex ns → AllByRecursion Same ns
  same_each [] e = tt
  same_each (n ∷ ns) e = ((cc), same_each ns (cc))

  named-moved : (e : ExprIR) → Same e.node → named_at ex' (moved_named exprs e) ≡ named_at ex e
  named-moved e same = ap (λ (x : Expr). let n : Named = record { name = e.output_name; expr = x } in n) same

  all-moved : (es : List ExprIR) → AllByRecursion Same (map (λ (e : ExprIR). e.node) es) → all_named_at ex' (map (moved_named exprs) es) ≡ all_named_at ex es
  all-moved [] same = refl
  all-moved (e ∷ es) same = ap₂ (λ (n : Named) (ns : List Named). n ∷ ns) (named-moved e same.0) (all-moved es same.1)

  -- what a join is told, with its condition moved
  told_at-moved : (o : Option JoinTypeOptionsIR) → AllByRecursion Same (map (λ (e : ExprIR). e.node) (list_of (condition_in o))) → option_map (kind_options_at ex') (told_over o (slice_get (map (moved_named exprs) (list_of (condition_in o))) 0)) ≡ option_map (kind_options_at ex) o
  told_at-moved None same = refl
  told_at-moved (Some (IEJoin operators)) same = refl
  told_at-moved (Some (Cross predicate)) same = ap (λ (n : Named). Some (condition n)) (named-moved predicate same.0)

  op_at-moved : (p : IR) → AllByRecursion Same (roots_of p) → op_at ex' (moved_node nodes exprs p) ≡ op_at ex p
  op_at-moved (Slice input offset len) same = refl
  op_at-moved (Filter input predicate) same = ap filter (named-moved predicate same.0)
  op_at-moved (Scan sources file_info hive_parts None output_schema scan_type file_options) same = refl
  op_at-moved (Scan sources file_info hive_parts (Some predicate) output_schema scan_type file_options) same = ap (λ (n : Named). scan sources file_info hive_parts (Some n) output_schema scan_type file_options) (named-moved predicate same.0)
  op_at-moved (DataFrameScan df schema output_schema) same = refl
  op_at-moved (SimpleProjection input columns) same = refl
  op_at-moved (Select input expr schema options) same = ap (λ (ns : List Named). select ns schema options) (all-moved expr same)
  op_at-moved (HStack input own schema options) same = ap (λ (ns : List Named). hstack ns schema options) (all-moved own same)
  op_at-moved (Sort input by_column slice sort_options) same = ap (λ (ns : List Named). sort ns slice sort_options) (all-moved by_column same)
  op_at-moved (GroupBy input keys aggs schema maintain_order options) same =
      let parts : AllByRecursion Same (map (λ (e : ExprIR). e.node) keys ++ map (λ (e : ExprIR). e.node) aggs) = rw (← map-append (λ (e : ExprIR). e.node) keys aggs) same in
      ap₂ (λ (ks others : List Named). group_by ks others schema maintain_order options)
      (ap (all_named_at ex') (keys-moved nodes exprs keys aggs) ∙ all-moved keys (all_first Same (map (λ (e : ExprIR). e.node) keys) (map (λ (e : ExprIR). e.node) aggs) parts))
      (ap (all_named_at ex') (aggs-moved nodes exprs keys aggs) ∙ all-moved aggs (all_second Same (map (λ (e : ExprIR). e.node) keys) (map (λ (e : ExprIR). e.node) aggs) parts))
  op_at-moved (Join input_left input_right schema left_on right_on options) same =
      let cs = list_of (condition_of options) in
      let number = λ (e : ExprIR). e.node in
      let parts : AllByRecursion Same ((map number left_on ++ map number right_on) ++ map number cs) = rw (← map-append number left_on right_on) (rw (← map-append number (left_on ++ right_on) cs) same) in
      let keys = all_first Same (map number left_on ++ map number right_on) (map number cs) parts in
      ap (op_at ex') (join-moved nodes exprs input_left input_right schema left_on right_on options)
      ∙ ap-three (λ (ls rs : List Named) (o : Option KindOptions). let told : Told = record { allow_parallel = options.allow_parallel; force_parallel = options.force_parallel; args = options.args; options = o } in join ls rs schema told)
      (all-moved left_on (all_first Same (map number left_on) (map number right_on) keys))
      (all-moved right_on (all_second Same (map number left_on) (map number right_on) keys))
      (told_at-moved options.options (all_second Same (map number left_on ++ map number right_on) (map number cs) parts))
  op_at-moved (Distinct input options) same = refl
  op_at-moved (MapFunction input function) same = refl
  op_at-moved (Sink input payload) same = refl
  op_at-moved (Union inputs options) same = refl
  op_at-moved (HConcat inputs schema options) same = refl
  op_at-moved (Cache input id cache_hits) same = refl
  op_at-moved Invalid same = refl

  bare-moved : (t : Trees IR) → AllByRecursion Same (roots_in t) → bare (plans_of ex' (map_roses (new_number nodes) (moved_node nodes exprs) t)) ≡ bare (plans_of ex t)
  bare-moved no_roses same = refl
  bare-moved (more (rose n p kids) rest) same =
      let below = all_second Same (roots_of p) (roots_in kids ++ roots_in rest) same in
      ap₂ (λ (r : Rose (Unit {0}) Op) (rs : Roses (Unit {0}) Op). more r rs)
      (ap₂ (λ (o : Op) (rs : Roses (Unit {0}) Op). rose tt o rs)
      (op_at-moved p (all_first Same (roots_of p) (roots_in kids ++ roots_in rest) same))
      (bare-moved kids (all_first Same (roots_in kids) (roots_in rest) below)))
      (bare-moved rest (all_second Same (roots_in kids) (roots_in rest) below))

first : (lp : List IR) (root : Node) (to : Node → Node) (t : Trees IR) → Stands plan_shape lp (root ∷ []) t → numbers (map to (labels t)) ≡ range_with_len 0 (length (labels t)) → (to root).0 ≡ 0
first lp root to no_roses s e = absurd s
first lp root to (more (rose n p kids) rest) s e = ap (λ (x : Node). (to x).0) s.0 ∙ cc

in_order : {P : Type 0} (to : Node → Node) (g : P → P) (f : Trees P) → numbers (map to (labels f)) ≡ range_with_len 0 (length (labels f)) → numbers (labels (map_roses to g f)) ≡ range_with_len 0 (length (map g (items f)))
in_order to g f e =
    ap numbers (labels-map_roses to g f) ∙ e
    ∙ ap (range_with_len 0) (length-labels f ∙ sym (length-items f) ∙ sym (length-map (items f) g))

-- steps to the expressions of the listed nodes
pub steps-roots : (lp : List IR) (root : Node) (t : Trees IR) (listed : List Node) (steps : List (Step (Unit {0}))) → StandsOnce plan_shape lp (root ∷ []) t → listed ≡ labels t → steps ≡ steps_to tt (flat_map roots_of (entries_at lp listed)) → nodes_of steps ≡ roots_in t
steps-roots lp root t listed steps h listed_is steps_are =
    ap nodes_of steps_are
    ∙ nodes-steps tt (flat_map roots_of (entries_at lp listed))
    ∙ ap (flat_map roots_of) (ap (entries_at lp) listed_is ∙ entries_at-labels plan_shape lp (root ∷ []) t h.stands)
    ∙ roots-items t

pub lists : (lp : List IR) (ex : List AExpr) (root : Node) (nodes exprs : List Node) (steps : List (Step (Unit {0}))) → IsPlan lp ex root → ((t : Trees IR) → StandsOnce plan_shape lp (root ∷ []) t → nodes ≡ labels t) → steps ≡ steps_to tt (flat_map roots_of (entries_at lp nodes)) → ((e : Trees AExpr) → StandsOnce expr_shape ex (nodes_of steps) e → exprs ≡ labels e) → Lists lp ex root (record { nodes = nodes; exprs = exprs })
lists lp ex root nodes exprs steps h order steps_are order_exprs =
    let nodes_are = order h.nodes h.stands.nodes in
    record {
      nodes = h.nodes;
      exprs = h.exprs;
      stands = h.stands;
      nodes_in_order = nodes_are;
      exprs_in_order = order_exprs h.exprs (rw (steps-roots lp root h.nodes nodes steps h.stands.nodes nodes_are steps_are) h.stands.exprs);
    }

-- the copy that two tables give
abbrev pub copy_of : List Node → List Node → Node → Trees IR → Trees AExpr → PlanCopy
copy_of nodes exprs root t e = record { root = new_number nodes root; lp = map (moved_node nodes exprs) (items t); ex = map (moved_expr exprs) (items e) }

pub copy_is : (lp : List IR) (ex : List AExpr) (root : Node) (nodes exprs : List Node) (t : Trees IR) (e : Trees AExpr) → StandsPlan lp ex root t e → numbers (map (new_number nodes) (labels t)) ≡ range_with_len 0 (length (labels t)) → numbers (map (new_number exprs) (labels e)) ≡ range_with_len 0 (length (labels e)) → IsRenumbered lp ex root (copy_of nodes exprs root t e)
copy_is lp ex root nodes exprs t e h node_numbers expr_numbers =
    let lp' : List IR = map (moved_node nodes exprs) (items t) in
    let ex' : List AExpr = map (moved_expr exprs) (items e) in
    let t' : Trees IR = map_roses (new_number nodes) (moved_node nodes exprs) t in
    let e' : Trees AExpr = map_roses (new_number exprs) (moved_expr exprs) e in
    let over : StandsOnce plan_shape lp' (new_number nodes root ∷ []) t' = StandsOnce-moved plan_shape nodes (moved_node nodes exprs) (inputs-moved nodes exprs) (invalid-moved nodes exprs) lp (root ∷ []) t h.nodes node_numbers in
    let under : StandsOnce expr_shape ex' (map (new_number exprs) (roots_in t)) e' = StandsOnce-moved expr_shape exprs (moved_expr exprs) (operands-moved exprs) (λ x. refl) ex (roots_in t) e h.exprs expr_numbers in
    let alike : exprs_at ex' (map (new_number exprs) (roots_in t)) ≡ exprs_at ex (roots_in t) =
    exprs_at-is ex' (map (new_number exprs) (roots_in t)) e' under
    ∙ bared-moved (new_number exprs) (moved_expr exprs) expr_op (op-moved exprs) e
    ∙ sym (exprs_at-is ex (roots_in t) e h.exprs) in
    record {
      nodes = t';
      exprs = e';
      stands = record { nodes = over; exprs = rw (roots_in-moved nodes exprs t) under };
      same =
          ap (λ (x : Trees IR). bare (plans_of ex' x)) (trees_at-is plan_shape lp' (new_number nodes root ∷ []) t' over)
          ∙ bare-moved ex ex' nodes exprs t (same_each ex ex' nodes exprs (roots_in t) alike)
          ∙ sym (ap (λ (x : Trees IR). bare (plans_of ex x)) (trees_at-is plan_shape lp (root ∷ []) t h.nodes));
      first = first lp root (new_number nodes) t h.nodes.stands node_numbers;
      nodes_in_order = in_order (new_number nodes) (moved_node nodes exprs) t node_numbers;
      exprs_in_order = in_order (new_number exprs) (moved_expr exprs) e expr_numbers;
    }

-- copies of what is listed are the plan
pub copied : (lp : List IR) (ex : List AExpr) (root : Node) (listed : Listed) (nodes exprs : List Node) → Lists lp ex root listed → numbers (map (new_number nodes) listed.nodes) ≡ range_with_len 0 (length listed.nodes) → numbers (map (new_number exprs) listed.exprs) ≡ range_with_len 0 (length listed.exprs) → IsRenumbered lp ex root (record { root = new_number nodes root; lp = map (moved_node nodes exprs) (entries_at lp listed.nodes); ex = map (moved_expr exprs) (entries_at ex listed.exprs) })
copied lp ex root listed nodes exprs h node_numbers expr_numbers =
    rw (
      h.nodes_in_order,
      h.exprs_in_order,
      entries_at-labels plan_shape lp (root ∷ []) h.nodes h.stands.nodes.stands,
      entries_at-labels expr_shape ex (roots_in h.nodes) h.exprs h.stands.exprs.stands,
    ) (copy_is lp ex root nodes exprs h.nodes h.exprs h.stands (rw (← h.nodes_in_order) node_numbers) (rw (← h.exprs_in_order) expr_numbers))

-- what is listed has entries, and none twice
module _ (lp : List IR) (ex : List AExpr) (root : Node) (listed : Listed) (h : Lists lp ex root listed) where
  pub nodes-within : (size : ℕ) → size ≡ length lp → (ns : List Node) → ns ≡ listed.nodes → All (λ (n : Node). n.0 < size) ns
  nodes-within size long ns is = labels-within plan_shape lp (root ∷ []) h.nodes h.stands.nodes size long ns (is ∙ h.nodes_in_order)

  pub nodes-distinct : (ns : List Node) → ns ≡ listed.nodes → IsDistinct nat_eq (numbers ns)
  nodes-distinct ns is = labels-distinct plan_shape lp (root ∷ []) h.nodes h.stands.nodes ns (is ∙ h.nodes_in_order)

  pub exprs-within : (size : ℕ) → size ≡ length ex → (ns : List Node) → ns ≡ listed.exprs → All (λ (n : Node). n.0 < size) ns
  exprs-within size long ns is = labels-within expr_shape ex (roots_in h.nodes) h.exprs h.stands.exprs size long ns (is ∙ h.exprs_in_order)

  pub exprs-distinct : (ns : List Node) → ns ≡ listed.exprs → IsDistinct nat_eq (numbers ns)
  exprs-distinct ns is = labels-distinct expr_shape ex (roots_in h.nodes) h.exprs h.stands.exprs ns (is ∙ h.exprs_in_order)
