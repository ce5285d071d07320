-- From the table that a node gives over those of its inputs, to the table that the plan gives.
use Rattle.std.proofs.Common.{◌≡◌, ◌∙◌, ◌++◌, All, List, [], ◌∷◌, map, Some, ap, sym, subst}
use Rattle.std.specs.List.{AllByRecursion, slice_get}
use Rattle.std.proofs.lemmas.List.Elements.{All-from_recursion, recursion_from_All}
use Rattle.plan_core.specs.declared.arena.Node.{Node}
use Rattle.plan_core.specs.Columns.{Columns}
use Rattle.plan_tree.specs.Rose.{Roses, rose, no_roses, more}
use Rattle.plan_expr.specs.declared.aexpr.AExpr.{AExpr}
use Rattle.plan_ir.specs.declared.ir.IR.{IR}
use Rattle.plan_ir.specs.Parts.{inputs_of, IsPlan}
use Rattle.plan_ir.specs.Plans.{Op, bare, op_at, plans_at}
use Rattle.plan_ir.proofs.PlanLemmas.{plan_open}
use Rattle.plan_meaning.specs.Contents.{Contents, Fits, FitsAll}
use Rattle.plan_frame.specs.Frames.{HasSchema}
use Rattle.plan_meaning.specs.PlanAt.{one_plan, plan_at}
use Rattle.plan_meaning.specs.Steps.{IsValid, May}
use Rattle.plan_meaning.specs.Typing.{AllHold, AllValid, checks, schema, schema_by, schemas}
use Rattle.plan_frame.proofs.GroupLemmas.{all_back, all_front}
use Rattle.plan_meaning.proofs.Runs.{may_has, may_have_all}
use Rattle.plan_frame.proofs.TurnLemmas.{HaveSchemas}
use Rattle.plan_meaning.proofs.Validity.{bare-valid, one_stands, schemas-bare, valid-bare}
use Rattle.plan_table.specs.declared.source_key.SourceKey.{SourceKey}
use Rattle.plan_table.specs.declared.table.Table.{Table}
use Rattle.plan_table.specs.Tables.{HasRows}
use Rattle.plan_meaning.specs.Choices.{ChooseAll, Chooses}
use Rattle.plan_function_tables.specs.Given.{GiveAll, Gives}
use Rattle.plan_value.specs.Shown.{frame_of, schema_of}
use Rattle.plan_fit.specs.Sources.{contents_of}
use Rattle.plan_fit.proofs.FormedLemmas.{have-columns}
use Rattle.plan_meaning.proofs.ChosenMay.{all-may, chosen-may}
use Rattle.plan_eval.proofs.TurnLemmas.{have-rows}

-- what holds of each item of two lists in turn holds of each of the first, and of the second
pub all-first : {X : Type 0} (P : X → Type 0) (xs ys : List X) → All P (xs ++ ys) → All P xs
all-first P xs ys h = All-from_recursion P xs (all_front P xs ys (recursion_from_All P (xs ++ ys) h))

pub all-second : {X : Type 0} (P : X → Type 0) (xs ys : List X) → All P (xs ++ ys) → All P ys
all-second P xs ys h = All-from_recursion P ys (all_back P xs ys (recursion_from_All P (xs ++ ys) h))

module _ (lp : List IR) (ex : List AExpr) (n : Node) (p : IR) (h : IsPlan lp ex n) (entry : slice_get lp n.0 ≡ Some p) where
  -- a plan gives what its node gives over what its inputs give
  pub plan-gives : (ts : List (SourceKey × Table)) (tables : List Table) (t : Table) → GiveAll ts (plans_at lp ex (inputs_of p)) tables → Gives ts (op_at ex p) tables t → GiveAll ts (plans_at lp ex (n ∷ [])) (t ∷ [])
  plan-gives ts tables t below here =
      let whole = plan_open lp ex n p h entry in
      record {
        chosen = subst (λ (r : Roses Node Op). ChooseAll (contents_of ts) (bare r) (frame_of t ∷ [])) (sym whole) ((map frame_of tables, below.chosen, here.step), tt);
        types =
            ap (λ (s : Columns). s ∷ []) (here.types ∙ ap (schema_by (op_at ex p)) below.types)
            ∙ sym (ap schemas whole);
      }

  -- a valid plan is valid at its node and its inputs
  pub node-valid : AllValid (plans_at lp ex (n ∷ [])) → AllHold (checks (op_at ex p) (schemas (plans_at lp ex (inputs_of p))))
  node-valid v = (subst (λ (r : Roses Node Op). AllValid r) (plan_open lp ex n p h entry) v).0

  pub inputs-valid : AllValid (plans_at lp ex (n ∷ [])) → AllValid (plans_at lp ex (inputs_of p))
  inputs-valid v = (subst (λ (r : Roses Node Op). AllValid r) (plan_open lp ex n p h entry) v).1

  -- contents that fit a plan fit its inputs
  pub inputs-frames : (c : Contents) → FitsAll c (bare (plans_at lp ex (n ∷ []))) → FitsAll c (bare (plans_at lp ex (inputs_of p)))
  inputs-frames c f = (subst (λ (r : Roses Node Op). FitsAll c (bare r)) (plan_open lp ex n p h entry) f).1

-- the tables that valid plans give over contents that fit them have a value of each column's type in each row
pub given-rows : (ts : List (SourceKey × Table)) (plans : Roses Node Op) (tables : List Table) → AllValid plans → FitsAll (contents_of ts) (bare plans) → GiveAll ts plans tables → AllByRecursion HasRows tables
given-rows ts plans tables v f g =
    let has : HaveSchemas (map frame_of tables) (schemas (bare plans)) = may_have_all (contents_of ts) (bare plans) (map frame_of tables) (valid-bare plans v) f (all-may (contents_of ts) (bare plans) (map frame_of tables) g.chosen) in
    have-rows tables (subst (HaveSchemas (map frame_of tables)) (schemas-bare plans ∙ sym g.types) has)

module _ (lp : List IR) (ex : List AExpr) (root : Node) (h : IsPlan lp ex root) where
  -- contents fit the plan at a number where they fit what stands there
  pub plans-fit : (c : Contents) → Fits c (plan_at lp ex root) → FitsAll c (bare (plans_at lp ex (root ∷ [])))
  plans-fit c f =
      let t = one_stands lp ex root h in
      let w : Fits c (rose tt t.1 (bare t.2)) = subst (λ (r : Roses Node Op). Fits c (one_plan (bare r))) t.3 f in
      subst (λ (r : Roses Node Op). FitsAll c (bare r)) (sym t.3) (w.0, w.1, tt)

  -- the plan at a number is valid where what stands there is
  pub plans-valid : IsValid (plan_at lp ex root) → AllValid (plans_at lp ex (root ∷ []))
  plans-valid v =
      let t = one_stands lp ex root h in
      let w : IsValid (rose tt t.1 (bare t.2)) = subst (λ (r : Roses Node Op). IsValid (one_plan (bare r))) t.3 v in
      subst (λ (r : Roses Node Op). AllValid r) (sym t.3) (bare-valid (more (rose t.0 t.1 t.2) no_roses) (w.0, w.1, tt))

  module _ (ts : List (SourceKey × Table)) (t : Table) (g : GiveAll ts (plans_at lp ex (root ∷ [])) (t ∷ [])) where
    pub plan-chooses : Chooses (contents_of ts) (plan_at lp ex root) (frame_of t)
    plan-chooses =
        let k = one_stands lp ex root h in
        let m : ChooseAll (contents_of ts) (bare (more (rose k.0 k.1 k.2) no_roses)) (frame_of t ∷ []) = subst (λ (r : Roses Node Op). ChooseAll (contents_of ts) (bare r) (frame_of t ∷ [])) k.3 g.chosen in
        subst (λ (r : Roses Node Op). Chooses (contents_of ts) (one_plan (bare r)) (frame_of t)) (sym k.3) m.0

    pub plan-may : May (contents_of ts) (plan_at lp ex root) (frame_of t)
    plan-may = chosen-may (contents_of ts) (plan_at lp ex root) (frame_of t) plan-chooses

    pub plan-types : schema_of t ≡ schema (plan_at lp ex root)
    plan-types =
        let k = one_stands lp ex root h in
        let first : List Columns → Columns = λ (ss : List Columns). first_of ss in
        ap first (g.types ∙ ap schemas k.3)
        ∙ ap (schema_by k.1) (sym (schemas-bare k.2))
        ∙ sym (ap (λ (r : Roses Node Op). schema (one_plan (bare r))) k.3)
      where
        first_of : List Columns → Columns
        first_of [] = []
        first_of (s ∷ ss) = s

    -- each column has a value of its type for each row
    pub plan-rows : IsValid (plan_at lp ex root) → Fits (contents_of ts) (plan_at lp ex root) → HasRows t
    plan-rows v f =
        have-columns t.height t.columns (subst (HasSchema (frame_of t)) (sym plan-types) (may_has (contents_of ts) (plan_at lp ex root) (frame_of t) v f plan-may))
