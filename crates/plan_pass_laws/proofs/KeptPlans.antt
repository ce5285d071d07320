-- Plans over expressions none of which changed: they are what they were, in an arena that kept these entries.
use Rattle.std.proofs.Common.{◌≡◌, ◌∙◌, List, [], ◌∷◌, ◌++◌, map, Option, Some, None, refl, sym, ap, ap₂, subst}
use Rattle.std.specs.List.{AllByRecursion}
use Rattle.std.specs.Option.{option_map}
use Rattle.std.proofs.lemmas.List.{map-append}
use Rattle.plan_core.specs.declared.arena.Node.{Node}
use Rattle.plan_tree.specs.Rose.{Rose, Roses, rose, no_roses, more}
use Rattle.plan_tree.specs.Stands.{Keeps, Reaches, Trees, StandsOnce}
use Rattle.plan_tree.proofs.Frames.{Stands-kept, join-left, join-right}
use Rattle.plan_tree.proofs.Numbers.{Reaches-within}
use Rattle.plan_tree.proofs.SplitLemmas.{StandsOnce-split}
use Rattle.plan_expr.specs.declared.aexpr.AExpr.{AExpr}
use Rattle.plan_expr.specs.declared.expr_ir.ExprIR.{ExprIR}
use Rattle.plan_expr.specs.Operands.{expr_shape}
use Rattle.plan_expr.specs.Exprs.{Expr, Named, all_named_at, expr_at, exprs_at, named_at}
use Rattle.plan_expr.proofs.ExprLemmas.{exprs_at-is}
use Rattle.plan_join.specs.declared.options.JoinOptions.{JoinOptions}
use Rattle.plan_join.specs.declared.options.JoinTypeOptionsIR.{JoinTypeOptionsIR}
use Rattle.plan_join.specs.declared.options.JoinTypeOptionsIR.TheVariants.{IEJoin, Cross}
use Rattle.plan_join.specs.Told.{KindOptions, Told, condition, kind_options_at}
use Rattle.plan_ir.specs.declared.ir.IR.{IR}
use Rattle.plan_ir.specs.declared.ir.IR.TheVariants.{Slice, Filter, Scan, DataFrameScan, SimpleProjection, Select, HStack, Sort, GroupBy, Join, Distinct, MapFunction, Sink, Union, HConcat, Cache, Invalid}
use Rattle.plan_ir.specs.Parts.{condition_in, condition_of, list_of, roots_in, roots_of}
use Rattle.plan_pass_laws.specs.Becoming.{StandApart}
use Rattle.plan_ir.specs.Plans.{Op, bare, filter, group_by, hstack, join, op_at, plans_of, scan, select, sort}

-- all of two lists, one after the other

all_first : {A : Type 0} (P : A → Type 0) (xs ys : List A) → AllByRecursion P (xs ++ ys) → AllByRecursion P xs
all_first P [] ys a = tt
all_first P (x ∷ xs) ys a = (a.0, all_first P xs ys a.1)

all_second : {A : Type 0} (P : A → Type 0) (xs ys : List A) → AllByRecursion P (xs ++ ys) → AllByRecursion P ys
all_second P [] ys a = a
all_second P (x ∷ xs) ys a = all_second P xs ys a.1

-- an arena in which every entry stays that some trees don't reach
module _ (ex grown : List AExpr) (changed : Trees AExpr) (keeps : Keeps ex grown changed) where
  trees_kept : (ns : List Node) (h : StandApart ex changed ns) → StandsOnce expr_shape grown ns h.trees
  trees_kept ns h = record {
    stands = Stands-kept expr_shape ex grown ns h.trees h.stand.stands (λ k r. keeps.same k (Reaches-within expr_shape ex ns h.trees k h.stand.stands r) (λ u. h.apart k r u));
    once = h.stand.once;
  }

  first_exprs : (ns ms : List Node) → StandApart ex changed (ns ++ ms) → StandApart ex changed ns
  first_exprs ns ms h =
      let s = StandsOnce-split expr_shape ex ns ms h.trees h.stand in
      record { trees = s.left; stand = s.first; apart = λ k r u. h.apart k (subst (λ (f : Trees AExpr). Reaches f k) (sym s.is) (join-left expr_shape s.left s.right k r)) u }

  last_exprs : (ns ms : List Node) → StandApart ex changed (ns ++ ms) → StandApart ex changed ms
  last_exprs ns ms h =
      let s = StandsOnce-split expr_shape ex ns ms h.trees h.stand in
      record { trees = s.right; stand = s.second; apart = λ k r u. h.apart k (subst (λ (f : Trees AExpr). Reaches f k) (sym s.is) (join-right expr_shape s.left s.right k r)) u }

  -- the same expression is read at the number
  abbrev Same : Node → Type 0
  Same n = expr_at grown n ≡ expr_at ex n

  each_same : (ns : List Node) → exprs_at grown ns ≡ exprs_at ex ns → AllByRecursion Same ns
  each_same [] e = tt
  each_same (n ∷ ns) e = ((cc), each_same ns (cc))

  all_same : (ns : List Node) → StandApart ex changed ns → AllByRecursion Same ns
  all_same ns h = each_same ns (exprs_at-is grown ns h.trees (trees_kept ns h) ∙ sym (exprs_at-is ex ns h.trees h.stand))

  named_same : (e : ExprIR) → Same e.node → named_at grown e ≡ named_at ex e
  named_same e same = ap (λ (x : Expr). let n : Named = record { name = e.output_name; expr = x } in n) same

  list_same : (es : List ExprIR) → AllByRecursion Same (map (λ (e : ExprIR). e.node) es) → all_named_at grown es ≡ all_named_at ex es
  list_same [] same = refl
  list_same (e ∷ es) same = ap₂ (λ (n : Named) (ns : List Named). n ∷ ns) (named_same e same.0) (list_same es same.1)

  two_same : (es fs : List ExprIR) → AllByRecursion Same (map (λ (e : ExprIR). e.node) (es ++ fs)) → (all_named_at grown es ≡ all_named_at ex es) × (all_named_at grown fs ≡ all_named_at ex fs)
  two_same es fs same =
      let number = λ (e : ExprIR). e.node in
      let parts : AllByRecursion Same (map number es ++ map number fs) = rw (← map-append number es fs) same in
      (list_same es (all_first Same (map number es) (map number fs) parts), list_same fs (all_second Same (map number es) (map number fs) parts))

  told_same : (o : Option JoinTypeOptionsIR) → AllByRecursion Same (map (λ (e : ExprIR). e.node) (list_of (condition_in o))) → option_map (kind_options_at grown) o ≡ option_map (kind_options_at ex) o
  told_same None same = refl
  told_same (Some (IEJoin operators)) same = refl
  told_same (Some (Cross predicate)) same = ap (λ (n : Named). Some (condition n)) (named_same predicate same.0)

  -- so are the keys of a join, and its condition
  join_same : (left_on right_on : List ExprIR) (options : JoinOptions) → AllByRecursion Same (map (λ (e : ExprIR). e.node) ((left_on ++ right_on) ++ list_of (condition_of options))) → (all_named_at grown left_on ≡ all_named_at ex left_on) × (all_named_at grown right_on ≡ all_named_at ex right_on) × (option_map (kind_options_at grown) options.options ≡ option_map (kind_options_at ex) options.options)
  join_same left_on right_on options same =
      let cs = list_of (condition_of options) in
      let number = λ (e : ExprIR). e.node in
      let all : AllByRecursion Same (map number (left_on ++ right_on) ++ map number cs) = rw (← map-append number (left_on ++ right_on) cs) same in
      let keys = two_same left_on right_on (all_first Same (map number (left_on ++ right_on)) (map number cs) all) in
      (keys.0, keys.1, told_same options.options (all_second Same (map number (left_on ++ right_on)) (map number cs) all))

  op_same : (p : IR) → AllByRecursion Same (roots_of p) → op_at grown p ≡ op_at ex p
  op_same (Slice input offset len) same = refl
  op_same (Filter input predicate) same = ap filter (named_same predicate same.0)
  op_same (Scan sources file_info hive_parts None output_schema scan_type file_options) same = refl
  op_same (Scan sources file_info hive_parts (Some predicate) output_schema scan_type file_options) same = ap (λ (n : Named). scan sources file_info hive_parts (Some n) output_schema scan_type file_options) (named_same predicate same.0)
  op_same (DataFrameScan df schema output_schema) same = refl
  op_same (SimpleProjection input columns) same = refl
  op_same (Select input expr schema options) same = ap (λ (ns : List Named). select ns schema options) (list_same expr same)
  op_same (HStack input exprs schema options) same = ap (λ (ns : List Named). hstack ns schema options) (list_same exprs same)
  op_same (Sort input by_column cut sort_options) same = ap (λ (ns : List Named). sort ns cut sort_options) (list_same by_column same)
  op_same (GroupBy input keys aggs schema maintain_order options) same =
      let parts = two_same keys aggs same in
      ap₂ (λ (ks others : List Named). group_by ks others schema maintain_order options) parts.0 parts.1
  op_same (Join input_left input_right schema left_on right_on options) same =
      let parts = join_same left_on right_on options same in
      ap₂ (λ (ls rs : List Named). join ls rs schema (told_with grown)) parts.0 parts.1
      ∙ ap (λ (o : Option KindOptions). join (all_named_at ex left_on) (all_named_at ex right_on) schema (told_as o)) parts.2
    where
      told_as : Option KindOptions → Told
      told_as o = record { allow_parallel = options.allow_parallel; force_parallel = options.force_parallel; args = options.args; options = o }

      told_with : List AExpr → Told
      told_with es = told_as (option_map (kind_options_at es) options.options)
  op_same (Distinct input options) same = refl
  op_same (MapFunction input function) same = refl
  op_same (Sink input payload) same = refl
  op_same (Union inputs options) same = refl
  op_same (HConcat inputs schema options) same = refl
  op_same (Cache input id cache_hits) same = refl
  op_same Invalid same = refl

  -- a node whose expressions stand is what it was
  pub op_kept : (p : IR) → StandApart ex changed (roots_of p) → op_at grown p ≡ op_at ex p
  op_kept p h = op_same p (all_same (roots_of p) h)

  -- and so are plans
  pub plans_kept : (t : Trees IR) → StandApart ex changed (roots_in t) → bare (plans_of grown t) ≡ bare (plans_of ex t)
  plans_kept no_roses h = refl
  plans_kept (more (rose n p kids) rest) h =
      let below = last_exprs (roots_of p) (roots_in kids ++ roots_in rest) h in
      ap₂ (λ (r : Rose (Unit {0}) Op) (rs : Roses (Unit {0}) Op). more r rs)
      (ap₂ (λ (o : Op) (rs : Roses (Unit {0}) Op). rose tt o rs)
      (op_kept p (first_exprs (roots_of p) (roots_in kids ++ roots_in rest) h))
      (plans_kept kids (first_exprs (roots_in kids) (roots_in rest) below)))
      (plans_kept rest (last_exprs (roots_in kids) (roots_in rest) below))
