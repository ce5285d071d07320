-- What a plan weighs: its nodes and selections, and the trees of its expressions.
use Rattle.std.proofs.Common.{◌≡◌, ℕ, ◌+◌, ◌<◌, ◌≤◌, ◌^◌, List, [], ◌∷◌, ◌++◌, length, map, Option, Some, None, refl, sym, ap, ap₂, ◌∙◌, subst, arith}
use Rattle.std.specs.Option.{option_map}
use Rattle.std.proofs.lemmas.List.{map-append}
use Rattle.plan_core.specs.declared.arena.Node.{Node}
use Rattle.plan_tree.specs.Rose.{Rose, Roses, rose, no_roses, more, size}
use Rattle.plan_tree.specs.Stands.{Trees, StandsOnce}
use Rattle.plan_tree.proofs.Numbers.{size-le}
use Rattle.plan_expr.specs.declared.aexpr.AExpr.{AExpr}
use Rattle.plan_expr.specs.declared.expr_ir.ExprIR.{ExprIR}
use Rattle.plan_expr.specs.Operands.{expr_shape}
use Rattle.plan_expr.specs.Exprs.{Expr, ExprOp, Named, all_named_at, bare_exprs, expr_at, exprs_at, named_at}
use Rattle.plan_expr.proofs.ExprLemmas.{exprs_at-is}
use Rattle.plan_join.specs.declared.options.JoinTypeOptionsIR.{JoinTypeOptionsIR}
use Rattle.plan_join.specs.declared.options.JoinTypeOptionsIR.TheVariants.{IEJoin, Cross}
use Rattle.plan_join.specs.Told.{kind_options_at}
use Rattle.plan_ir.specs.declared.ir.IR.{IR}
use Rattle.plan_ir.specs.declared.ir.IR.TheVariants.{Slice, Filter, Scan, DataFrameScan, SimpleProjection, Select, HStack, Sort, GroupBy, Join, Distinct, MapFunction, Sink, Union, HConcat, Cache, Invalid}
use Rattle.plan_ir.specs.Parts.{IsPlan, StandsPlan, condition_in, condition_of, exprs_of, list_of, plan_shape, roots_in, roots_of}
use Rattle.plan_ir.specs.Plans.{bare, op_at, plans_of}
use Rattle.plan_meaning.specs.JoinChecks.{conditions}
use Rattle.plan_meaning.specs.PlanAt.{plan_at}
use Rattle.plan_pass_laws.specs.Weights.{bulk, bulk_in, expr_nodes, own_bulk, own_exprs, weight, weight_in}
use Rattle.plan_rule.specs.Calls.{plan_of}
use Rattle.plan_reshape.proofs.Brings.{one_of, plan_at_is}

size_more : (r : Expr) (rest : Roses (Unit {0}) ExprOp) → size (more r rest) ≡ size (more r no_roses) + size rest
size_more (rose n op kids) rest = omega arith

module _ (ex : List AExpr) where
  abbrev numbers_of : List ExprIR → List Node
  numbers_of es = map (λ (e : ExprIR). e.node) es

  named_sizes : (es : List ExprIR) → expr_nodes (all_named_at ex es) ≡ size (exprs_at ex (numbers_of es))
  named_sizes [] = refl
  named_sizes (e ∷ es) = let r = named_sizes es in let s = size_more (expr_at ex e.node) (exprs_at ex (numbers_of es)) in omega (arith, r, s)

  two_sizes : (es fs : List ExprIR) → expr_nodes (all_named_at ex es ++ all_named_at ex fs) ≡ size (exprs_at ex (numbers_of (es ++ fs)))
  two_sizes es fs = ap expr_nodes (sym (map-append (named_at ex) es fs)) ∙ named_sizes (es ++ fs)

  told_conditions : (o : Option JoinTypeOptionsIR) → conditions (option_map (kind_options_at ex) o) ≡ all_named_at ex (list_of (condition_in o))
  told_conditions None = refl
  told_conditions (Some (IEJoin operators)) = refl
  told_conditions (Some (Cross predicate)) = refl

  op_sizes : (p : IR) → expr_nodes (own_exprs (op_at ex p)) ≡ size (exprs_at ex (roots_of p))
  op_sizes (Slice input offset len) = refl
  op_sizes (Filter input predicate) = named_sizes (predicate ∷ [])
  op_sizes (Scan sources file_info hive_parts None output_schema scan_type file_options) = refl
  op_sizes (Scan sources file_info hive_parts (Some predicate) output_schema scan_type file_options) = named_sizes (predicate ∷ [])
  op_sizes (DataFrameScan df schema output_schema) = refl
  op_sizes (SimpleProjection input columns) = refl
  op_sizes (Select input expr schema options) = named_sizes expr
  op_sizes (HStack input exprs schema options) = named_sizes exprs
  op_sizes (Sort input by_column cut sort_options) = named_sizes by_column
  op_sizes (GroupBy input keys aggs schema maintain_order options) = two_sizes keys aggs
  op_sizes (Join input_left input_right schema left_on right_on options) =
      ap₂ (λ (xs ys : List Named). expr_nodes (xs ++ ys)) (sym (map-append (named_at ex) left_on right_on)) (told_conditions options.options)
      ∙ two_sizes (left_on ++ right_on) (list_of (condition_of options))
  op_sizes (Distinct input options) = refl
  op_sizes (MapFunction input function) = refl
  op_sizes (Sink input payload) = refl
  op_sizes (Union inputs options) = refl
  op_sizes (HConcat inputs schema options) = refl
  op_sizes (Cache input id cache_hits) = refl
  op_sizes Invalid = refl

  exprs_sizes : (ns ms : List Node) → size (exprs_at ex (ns ++ ms)) ≡ size (exprs_at ex ns) + size (exprs_at ex ms)
  exprs_sizes [] ms = omega arith
  exprs_sizes (n ∷ ns) ms =
      let r = exprs_sizes ns ms in
      let s = size_more (expr_at ex n) (exprs_at ex (ns ++ ms)) in
      let q = size_more (expr_at ex n) (exprs_at ex ns) in
      omega (arith, r, s, q)

  weights : (f : Trees IR) → weight_in (bare (plans_of ex f)) ≡ bulk_in (bare (plans_of ex f)) + size (exprs_at ex (roots_in f))
  weights no_roses = refl
  weights (more (rose n p kids) rest) =
      let a = weights kids in
      let b = weights rest in
      let o = op_sizes p in
      let s = exprs_sizes (roots_of p) (roots_in kids ++ roots_in rest) in
      let q = exprs_sizes (roots_in kids) (roots_in rest) in
      omega (arith, a, b, o, s, q)

  own_small : (p : IR) → own_bulk (op_at ex p) ≤ 2
  own_small (Slice input offset len) = omega arith
  own_small (Filter input predicate) = omega arith
  own_small (Scan sources file_info hive_parts predicate output_schema scan_type file_options) = omega arith
  own_small (DataFrameScan df schema output_schema) = omega arith
  own_small (SimpleProjection input columns) = omega arith
  own_small (Select input expr schema options) = omega arith
  own_small (HStack input exprs schema options) = omega arith
  own_small (Sort input by_column cut sort_options) = omega arith
  own_small (GroupBy input keys aggs schema maintain_order options) = omega arith
  own_small (Join input_left input_right schema left_on right_on options) = omega arith
  own_small (Distinct input options) = omega arith
  own_small (MapFunction input function) = omega arith
  own_small (Sink input payload) = omega arith
  own_small (Union inputs options) = omega arith
  own_small (HConcat inputs schema options) = omega arith
  own_small (Cache input id cache_hits) = omega arith
  own_small Invalid = omega arith

  bulk_small : (f : Trees IR) → bulk_in (bare (plans_of ex f)) ≤ size f + size f
  bulk_small no_roses = omega arith
  bulk_small (more (rose n p kids) rest) = let a = bulk_small kids in let b = bulk_small rest in let o = own_small p in omega (arith, a, b, o)

-- nodes and selections are counted without the expressions
own_same : (ex grown : List AExpr) (p : IR) → own_bulk (op_at grown p) ≡ own_bulk (op_at ex p)
own_same ex grown (Slice input offset len) = refl
own_same ex grown (Filter input predicate) = refl
own_same ex grown (Scan sources file_info hive_parts predicate output_schema scan_type file_options) = refl
own_same ex grown (DataFrameScan df schema output_schema) = refl
own_same ex grown (SimpleProjection input columns) = refl
own_same ex grown (Select input expr schema options) = refl
own_same ex grown (HStack input exprs schema options) = refl
own_same ex grown (Sort input by_column cut sort_options) = refl
own_same ex grown (GroupBy input keys aggs schema maintain_order options) = refl
own_same ex grown (Join input_left input_right schema left_on right_on options) = refl
own_same ex grown (Distinct input options) = refl
own_same ex grown (MapFunction input function) = refl
own_same ex grown (Sink input payload) = refl
own_same ex grown (Union inputs options) = refl
own_same ex grown (HConcat inputs schema options) = refl
own_same ex grown (Cache input id cache_hits) = refl
own_same ex grown Invalid = refl

pub bulk_same : (ex grown : List AExpr) (f : Trees IR) → bulk_in (bare (plans_of grown f)) ≡ bulk_in (bare (plans_of ex f))
bulk_same ex grown no_roses = refl
bulk_same ex grown (more (rose n p kids) rest) = let a = bulk_same ex grown kids in let b = bulk_same ex grown rest in let o = own_same ex grown p in omega (arith, a, b, o)

bare_size : (f : Trees AExpr) → size (bare_exprs f) ≡ size f
bare_size no_roses = refl
bare_size (more (rose n p kids) rest) = let a = bare_size kids in let b = bare_size rest in omega (arith, a, b)

-- of trees that stand
pub weight_is : (ex : List AExpr) (f : Trees IR) (e : Trees AExpr) → StandsOnce expr_shape ex (roots_in f) e → weight_in (bare (plans_of ex f)) ≡ bulk_in (bare (plans_of ex f)) + size e
weight_is ex f e h = let w = weights ex f in let s = ap size (exprs_at-is ex (roots_in f) e h) ∙ bare_size e in omega (arith, w, s)

-- no plan weighs more than its arenas hold
pub weight_le : (lp : List IR) (ex : List AExpr) (n : Node) → IsPlan lp ex n → weight (plan_at lp ex n) ≤ length lp + length lp + length ex
weight_le lp ex n plan =
    let t = plan.nodes in
    let w = weight_is ex t plan.exprs plan.stands.exprs in
    let one : weight_in (bare (plans_of ex t)) ≡ weight (plan_of ex t) + 0 = ap weight_in (one_of lp ex n t plan.stands.nodes) in
    let at : weight (plan_at lp ex n) ≡ weight (plan_of ex t) = ap weight (plan_at_is lp ex n t plan.stands.nodes) in
    let b = bulk_small ex t in
    let few = size-le plan_shape lp (n ∷ []) t plan.stands.nodes in
    let short = size-le expr_shape ex (roots_in t) plan.exprs plan.stands.exprs in
    omega (arith, w, one, at, b, few, short)

pub weight_fits : (lp : List IR) (ex : List AExpr) (n : Node) → IsPlan lp ex n → length lp < 2 ^ 32 → length ex < 2 ^ 32 → weight (plan_at lp ex n) < 2 ^ 64
weight_fits lp ex n plan a b = let w = weight_le lp ex n plan in omega (arith, w, a, b)
