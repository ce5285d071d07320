-- When tables have what nodes and plans need.
use Rattle.std.proofs.Common.{◌≡◌, ◌++◌, Bool, true, false, cond, List, [], ◌∷◌, Option, None, Some, option_map, refl, ap, ap₂, sym, subst, ◌∙◌}
use Rattle.std.specs.Prelude.{◌↔◌, IsTrue, IfSome}
use Rattle.std.specs.List.{AllByRecursion, slice_get}
use Rattle.std.specs.Str.{bytes_eq}
use Rattle.plan_core.specs.Columns.{Columns, type_of}
use Rattle.plan_core.specs.declared.arena.Node.{Node}
use Rattle.plan_core.specs.declared.data_type.DataType.{DataType}
use Rattle.plan_tree.specs.Rose.{Roses, rose, no_roses, more}
use Rattle.plan_expr.specs.declared.aexpr.AExpr.{AExpr}
use Rattle.plan_ir.specs.declared.ir.IR.{IR}
use Rattle.plan_ir.specs.Parts.{inputs_of, IsPlan}
use Rattle.plan_ir.specs.Plans.{Op, bare, op_at, plans_at}
use Rattle.plan_ir.proofs.PlanLemmas.{plan_open}
use Rattle.plan_meaning.specs.PlanAt.{one_plan}
use Rattle.plan_expr.specs.Leaves.{Name}
use Rattle.plan_frame.specs.Frames.{Frame}
use Rattle.plan_meaning.specs.Contents.{Contents, Fits, FitsAll, FitsAt, frame_at, same_source}
use Rattle.plan_table.specs.declared.column.Column.{Column as Typed}
use Rattle.plan_table.specs.declared.source_key.SourceKey.{SourceKey}
use Rattle.plan_table.specs.declared.source_key.SourceKey.TheVariants as keys
use Rattle.plan_table.specs.declared.table.Table.{Table}
use Rattle.plan_table.specs.Tables.{IsTable, column_of, same_key, table_at, types_of}
use Rattle.plan_fit.specs.Fitting.{HasColumns, IsMet, TablesFit, needs, needs_by}
use Rattle.plan_fit.specs.Sources.{contents_of, source_of}
use Rattle.plan_value.specs.Shown.{frame_of}

-- One source

type-cond : (b : Bool) (c : Typed) (o : Option Typed) → cond b (Some c.dtype) (option_map (λ (d : Typed). d.dtype) o) ≡ option_map (λ (d : Typed). d.dtype) (cond b (Some c) o)
type-cond true c o = refl
type-cond false c o = refl

-- the type of a name is that of the column of that name
pub type-shown : (cs : List Typed) (a : Name) → type_of (types_of cs) a ≡ option_map (λ (c : Typed). c.dtype) (column_of cs a)
type-shown [] a = refl
type-shown (c ∷ cs) a = ap (λ (o : Option DataType). cond (bytes_eq a c.name) (Some c.dtype) o) (type-shown cs a) ∙ type-cond (bytes_eq a c.name) c (column_of cs a)

-- a source that has a table meets what that has
pub met-found : (ts : List (SourceKey × Table)) (key : SourceKey) (s : Columns) (t : Table) (b : Bool) → Some t ≡ table_at ts key → (IsTrue b ↔ HasColumns s t) → IsTrue b ↔ IsMet ts (key, s)
met-found ts key s t b e h = (λ i. (t, sym e, h.0 i), λ m. h.1 (subst (HasColumns s) (let q : m.0 ≡ t = same (sym m.1 ∙ sym e) in q) m.2))
  where
    same : {t u : Table} → Some t ≡ Some u → t ≡ u
    same q = cc

-- a source without a table meets nothing
pub met-absent : (ts : List (SourceKey × Table)) (key : SourceKey) (s : Columns) → None ≡ table_at ts key → IsTrue false ↔ IsMet ts (key, s)
met-absent ts key s e = (λ i. cc, λ m. absurd (apart (e ∙ m.1)))
  where
    apart : {t : Table} → None ≡ Some t → ⊥
    apart q = cc

pub formed-found : (ts : List (SourceKey × Table)) (key : SourceKey) (t : Table) → Some t ≡ table_at ts key → IsTable t → IfSome (table_at ts key) IsTable
formed-found ts key t e h = subst (λ (o : Option Table). IfSome o IsTable) e h

pub formed-absent : (ts : List (SourceKey × Table)) (key : SourceKey) → None ≡ table_at ts key → IfSome (table_at ts key) IsTable
formed-absent ts key e = subst (λ (o : Option Table). IfSome o IsTable) e tt

-- Nodes and plans

pub all-both : {X : Type 0} (P : X → Type 0) (xs ys : List X) → AllByRecursion P xs → AllByRecursion P ys → AllByRecursion P (xs ++ ys)
all-both P [] ys h k = k
all-both P (x ∷ xs) ys h k = (h.0, all-both P xs ys h.1 k)

pub all-first : {X : Type 0} (P : X → Type 0) (xs ys : List X) → AllByRecursion P (xs ++ ys) → AllByRecursion P xs
all-first P [] ys h = tt
all-first P (x ∷ xs) ys h = (h.0, all-first P xs ys h.1)

pub all-second : {X : Type 0} (P : X → Type 0) (xs ys : List X) → AllByRecursion P (xs ++ ys) → AllByRecursion P ys
all-second P [] ys h = h
all-second P (x ∷ xs) ys h = all-second P xs ys h.1

module _ (lp : List IR) (ex : List AExpr) (n : Node) (p : IR) (h : IsPlan lp ex n) (entry : slice_get lp n.0 ≡ Some p) (ts : List (SourceKey × Table)) where
  plan-needs : needs (plans_at lp ex (n ∷ [])) ≡ needs_by (op_at ex p) ++ (needs (plans_at lp ex (inputs_of p)) ++ [])
  plan-needs = ap needs (plan_open lp ex n p h entry)

  -- tables fit a plan where they meet its node, and fit its inputs
  pub plan-fits : AllByRecursion (IsMet ts) (needs_by (op_at ex p)) → TablesFit ts (plans_at lp ex (inputs_of p)) → TablesFit ts (plans_at lp ex (n ∷ []))
  plan-fits a b = subst (AllByRecursion (IsMet ts)) (sym plan-needs) (all-both (IsMet ts) _ _ a (all-both (IsMet ts) _ _ b tt))

  pub node-fits : TablesFit ts (plans_at lp ex (n ∷ [])) → AllByRecursion (IsMet ts) (needs_by (op_at ex p))
  node-fits f = all-first (IsMet ts) _ _ (subst (AllByRecursion (IsMet ts)) plan-needs f)

  pub inputs-fit : TablesFit ts (plans_at lp ex (n ∷ [])) → TablesFit ts (plans_at lp ex (inputs_of p))
  inputs-fit f = all-first (IsMet ts) _ _ (all-second (IsMet ts) (needs_by (op_at ex p)) _ (subst (AllByRecursion (IsMet ts)) plan-needs f))

  -- contents fit a plan where they fit its node and its inputs
  pub plan-frames : (c : Contents) → FitsAt c (op_at ex p) → FitsAll c (bare (plans_at lp ex (inputs_of p))) → FitsAll c (bare (plans_at lp ex (n ∷ [])))
  plan-frames c a b = subst (λ (t : Roses Node Op). FitsAll c (bare t)) (sym (plan_open lp ex n p h entry)) (a, b, tt)

pub fits-one : (c : Contents) (r : Roses (Unit {0}) Op) → FitsAll c r → Fits c (one_plan r)
fits-one c no_roses h = (tt, tt)
fits-one c (more (rose n op ts) rest) h = (h.0, h.1)

-- Tables as contents

same-sources : (a b : SourceKey) → same_source (source_of a) (source_of b) ≡ same_key a b
same-sources (keys.Path a) (keys.Path b) = refl
same-sources (keys.Path a) (keys.Buffer j) = refl
same-sources (keys.Path a) (keys.Frame j) = refl
same-sources (keys.Buffer i) (keys.Path b) = refl
same-sources (keys.Buffer i) (keys.Buffer j) = refl
same-sources (keys.Buffer i) (keys.Frame j) = refl
same-sources (keys.Frame i) (keys.Path b) = refl
same-sources (keys.Frame i) (keys.Buffer j) = refl
same-sources (keys.Frame i) (keys.Frame j) = refl

frame-cond : (b : Bool) (t : Table) (o : Option Table) → cond b (Some (frame_of t)) (option_map frame_of o) ≡ option_map frame_of (cond b (Some t) o)
frame-cond true t o = refl
frame-cond false t o = refl

-- the frame of a source is the one of its table
pub frame-shown : (ts : List (SourceKey × Table)) (key : SourceKey) → frame_at (contents_of ts) (source_of key) ≡ option_map frame_of (table_at ts key)
frame-shown [] key = refl
frame-shown (p ∷ ts) key =
    ap₂ (λ (b : Bool) (o : Option Frame). cond b (Some (frame_of p.1)) o) (same-sources key p.0) (frame-shown ts key)
    ∙ frame-cond (same_key key p.0) p.1 (table_at ts key)
