-- What stands in for the rows of the plan at a number, by its node.
use Rattle.std.proofs.Common.{◌≡◌, ℕ, zero, suc, All, List, [], ◌∷◌, length, Option, Some, None, IfNone, refl, sym, ap, ◌∙◌, arith}
use Rattle.std.specs.List.{slice_get}
use Rattle.plan_core.specs.declared.arena.Node.{Node}
use Rattle.plan_core.specs.declared.data_type.DataType.{DataType}
use Rattle.plan_core.specs.Columns.{Columns}
use Rattle.plan_tree.specs.Rose.{rose, no_roses, more}
use Rattle.plan_tree.specs.Stands.{Trees}
use Rattle.plan_tree.specs.Read.{trees_at}
use Rattle.plan_tree.proofs.ReadLemmas.{trees_at-is}
use Rattle.plan_tree.proofs.TreeLemmas.{opened}
use Rattle.plan_expr.specs.declared.aexpr.AExpr.{AExpr}
use Rattle.plan_expr.specs.declared.expr_ir.ExprIR.{ExprIR}
use Rattle.plan_expr.specs.Exprs.{Named, all_named_at}
use Rattle.plan_expr.specs.Leaves.{Name}
use Rattle.plan_expr.specs.Naming.{name_of}
use Rattle.plan_expr.specs.Operands.{IsExpr}
use Rattle.plan_ir.specs.declared.ir.IR.{IR}
use Rattle.plan_ir.specs.declared.ir.IR.TheVariants.{Slice, Filter, Scan, DataFrameScan, SimpleProjection, Select, HStack, Sort, GroupBy, Join, Distinct, MapFunction, Sink, Union, HConcat, Cache, Invalid}
use Rattle.plan_ir.specs.Parts.{plan_shape, IsPlan}
use Rattle.plan_ir.specs.Plans.{op_at, plans_of, plans_at, bare}
use Rattle.plan_meaning.specs.Typing.{first_schema}
use Rattle.plan_frame.specs.ExprLists.{first_many}
use Rattle.plan_meaning.specs.Counting.{first_name, last_name, stand_in, stand_ins, first_stand_in}
use Rattle.plan_meaning.proofs.NodeExprs.{all_stand}
use Rattle.plan_schema.specs.Stored.{stored_all}
use Rattle.plan_prune_parts.specs.Kept.{made_by, many_at}
use Rattle.plan_prune_parts.specs.Said.{stand_in_at}
use Rattle.plan_prune_parts.proofs.KeptLemmas.{many_named}

-- the last column is that at the last place

pub last_at : (cs : Columns) (k : ℕ) (c : Name × DataType) → length cs ≡ suc k → slice_get cs k ≡ Some c → last_name cs ≡ Some c.0
last_at [] k c n e = cc
last_at (x ∷ []) zero c n e = let same : x ≡ c = cc in ap (λ (y : Name × DataType). Some y.0) same
last_at (x ∷ []) (suc k) c n e = absurd (omega (arith, n))
last_at (x ∷ y ∷ cs) zero c n e = absurd (omega (arith, n))
last_at (x ∷ y ∷ cs) (suc k) c n e = last_at (y ∷ cs) k c (omega (arith, n)) e

pub no_last : (cs : Columns) → length cs ≡ 0 → last_name cs ≡ None
no_last [] n = refl
no_last (c ∷ cs) n = absurd (omega (arith, n))

-- kind by kind

stand_in_by : (ex : List AExpr) (p : IR) (s : Columns) → stand_in (op_at ex p) s ≡ first_name (first_many (all_named_at ex (made_by p))) (last_name s)
stand_in_by ex (Slice i offset len) s = refl
stand_in_by ex (Filter i predicate) s = refl
stand_in_by ex (Scan sources info hive predicate output kind options) s = refl
stand_in_by ex (DataFrameScan df schema output) s = refl
stand_in_by ex (SimpleProjection i columns) s = refl
stand_in_by ex (Select i es schema options) s = refl
stand_in_by ex (HStack i es schema options) s = refl
stand_in_by ex (Sort i keys part options) s = refl
stand_in_by ex (GroupBy i keys aggs schema ordered options) s = refl
stand_in_by ex (Join left right schema left_on right_on options) s = refl
stand_in_by ex (Distinct i options) s = refl
stand_in_by ex (MapFunction i function) s = refl
stand_in_by ex (Sink i payload) s = refl
stand_in_by ex (Union inputs options) s = refl
stand_in_by ex (HConcat inputs schema options) s = refl
stand_in_by ex (Cache i id cache_hits) s = refl
stand_in_by ex Invalid s = refl

none_stand : (P : ExprIR → Type 0) → All P []
none_stand P = λ i d lt. absurd (omega (arith, lt))

module _ (lp : List IR) (ex : List AExpr) (n : Node) (h : IsPlan lp ex n) where
  -- the expressions that make columns stand
  pub made_stand : (p : IR) → slice_get lp n.0 ≡ Some p → All (λ (e : ExprIR). IsExpr ex e.node) (made_by p)
  made_stand (Select i es schema options) e = all_stand lp ex n (Select i es schema options) es h e refl
  made_stand (HStack i es schema options) e = all_stand lp ex n (HStack i es schema options) es h e refl
  made_stand (Slice i offset len) e = none_stand (λ (x : ExprIR). IsExpr ex x.node)
  made_stand (Filter i predicate) e = none_stand (λ (x : ExprIR). IsExpr ex x.node)
  made_stand (Scan sources info hive predicate output kind options) e = none_stand (λ (x : ExprIR). IsExpr ex x.node)
  made_stand (DataFrameScan df schema output) e = none_stand (λ (x : ExprIR). IsExpr ex x.node)
  made_stand (SimpleProjection i columns) e = none_stand (λ (x : ExprIR). IsExpr ex x.node)
  made_stand (Sort i keys part options) e = none_stand (λ (x : ExprIR). IsExpr ex x.node)
  made_stand (GroupBy i keys aggs schema ordered options) e = none_stand (λ (x : ExprIR). IsExpr ex x.node)
  made_stand (Join left right schema left_on right_on options) e = none_stand (λ (x : ExprIR). IsExpr ex x.node)
  made_stand (Distinct i options) e = none_stand (λ (x : ExprIR). IsExpr ex x.node)
  made_stand (MapFunction i function) e = none_stand (λ (x : ExprIR). IsExpr ex x.node)
  made_stand (Sink i payload) e = none_stand (λ (x : ExprIR). IsExpr ex x.node)
  made_stand (Union inputs options) e = none_stand (λ (x : ExprIR). IsExpr ex x.node)
  made_stand (HConcat inputs schema options) e = none_stand (λ (x : ExprIR). IsExpr ex x.node)
  made_stand (Cache i id cache_hits) e = none_stand (λ (x : ExprIR). IsExpr ex x.node)
  made_stand Invalid e = none_stand (λ (x : ExprIR). IsExpr ex x.node)

  abbrev said : Columns
  said = first_schema (stored_all (bare (plans_at lp ex (n ∷ []))))

  stand_in_open : (p : IR) → slice_get lp n.0 ≡ Some p → stand_in_at lp ex n ≡ first_name (first_many (all_named_at ex (made_by p))) (last_name (first_schema (stored_all (bare (plans_at lp ex (n ∷ []))))))
  stand_in_open p e =
      let o = opened plan_shape lp n p h.nodes h.stands.nodes e in
      let here : trees_at plan_shape lp (n ∷ []) ≡ more (rose n p o.kids) no_roses = trees_at-is plan_shape lp (n ∷ []) h.nodes h.stands.nodes ∙ o.is in
      ap (λ (t : Trees IR). first_stand_in (stand_ins (bare (plans_of ex t)) (stored_all (bare (plans_of ex t))))) here
      ∙ ap (λ (t : Trees IR). stand_in (op_at ex p) (first_schema (stored_all (bare (plans_of ex t))))) (sym here)
      ∙ stand_in_by ex p said

  -- the first expression that isn't scalar stands in, else the last column
  pub stands_first : (p : IR) (x : ExprIR) → slice_get lp n.0 ≡ Some p → many_at ex (made_by p) ≡ x ∷ [] → stand_in_at lp ex n ≡ Some (name_of x.output_name)
  stands_first p x e first =
      stand_in_open p e
      ∙ ap (λ (l : List Named). first_name l (last_name said)) (sym (many_named ex (made_by p)) ∙ ap (all_named_at ex) first)

  pub stands_last : (p : IR) (o : Option Name) → slice_get lp n.0 ≡ Some p → many_at ex (made_by p) ≡ [] → last_name (first_schema (stored_all (bare (plans_at lp ex (n ∷ []))))) ≡ o → stand_in_at lp ex n ≡ o
  stands_last p o e none last =
      stand_in_open p e
      ∙ ap (λ (l : List Named). first_name l (last_name said)) (sym (many_named ex (made_by p)) ∙ ap (all_named_at ex) none)
      ∙ last

-- what follows from what is said where there is nothing
pub none_then : {X : Type 0} (r : Option X) {P Q : Type 0} → IfNone r P → (P → Q) → IfNone r Q
none_then None h f = f h
none_then (Some x) h f = tt
