-- Counts in the place of plans.
use Rattle.std.proofs.Common.{◌≡◌, ◌∙◌, ◌≤◌, ◌⊎◌, Bool, true, false, cond, ℕ, get_or, List, [], ◌∷◌, ◌++◌, ◌+◌, length, length-append, Option, Some, None, is_some, inl, inr, refl, sym, ap, subst, arith}
use Rattle.std.specs.List.{slice_get, slice_set}
use Rattle.std.specs.Prelude.{option_map}
use Rattle.plan_core.specs.declared.arena.Node.{Node}
use Rattle.plan_tree.specs.Rose.{Roses, rose, no_roses, more}
use Rattle.plan_tree.specs.Stands.{Reaches, StandsOnce, Trees}
use Rattle.plan_tree.proofs.Frames.{Keeps-append, Rewrites-above, Rewrites-refl, slice_get-append_last, slice_get-set_same}
use Rattle.plan_tree.proofs.ReadLemmas.{trees_at-is}
use Rattle.plan_tree.proofs.TreeLemmas.{StandsOnce-input, opened}
use Rattle.plan_expr.specs.declared.aexpr.AExpr.{AExpr}
use Rattle.plan_expr.specs.declared.expr_ir.ExprIR.{ExprIR}
use Rattle.plan_expr.specs.Exprs.{Named, named_at}
use Rattle.plan_expr.specs.Operands.{expr_shape}
use Rattle.plan_frame.specs.ExprLists.{counts_rows}
use Rattle.plan_ir.specs.declared.functions.FunctionIR.{FunctionIR}
use Rattle.plan_ir.specs.declared.functions.FunctionIR.TheVariants.{FastCount}
use Rattle.plan_ir.specs.declared.ir.IR.{IR}
use Rattle.plan_ir.specs.declared.ir.IR.TheVariants.{Slice, Filter, Scan, DataFrameScan, SimpleProjection, Select, HStack, Sort, GroupBy, Join, Distinct, MapFunction, Sink, Union, HConcat, Cache, Invalid}
use Rattle.plan_ir.specs.Parts.{IsPlan, StandsPlan, plan_shape, roots_in}
use Rattle.plan_ir.specs.Plans.{Op, Plan, bare, frame_scan, map_function, op_at, plans_of, select}
use Rattle.plan_meaning.specs.Caches.{AreShared}
use Rattle.plan_meaning.specs.PlanAt.{one_plan, plan_at}
use Rattle.plan_pass_laws.specs.Becoming.{Becomes}
use Rattle.plan_scan.specs.declared.file_scan.FileScan.{FileScan}
use Rattle.plan_scan.specs.declared.sources.ScanSources.{ScanSources}
use Rattle.plan_order.proofs.CountLemmas.{entry-of, entry-within, plan-is, plans-one}
use Rattle.plan_order_laws.specs.Counted.{alias_of, as_one, count_alias, count_of, counted_scans, count_or, counted}

-- plans that are no counts
pub count-other : (ex : List AExpr) (p : IR) (ts : Roses (Unit {0}) Op) → ((input : _) (es : _) (schema : _) (options : _) → p ≡ Select input es schema options → ⊥) → count_of (rose tt (op_at ex p) ts) ≡ None
count-other ex (Select j es schema options) ts a = absurd (a j es schema options refl)
count-other ex (Slice j offset len) ts a = refl
count-other ex (Filter j predicate) ts a = refl
count-other ex (Scan sources info hive predicate output kind options) ts a = refl
count-other ex (DataFrameScan df schema output) ts a = refl
count-other ex (SimpleProjection j columns) ts a = refl
count-other ex (HStack j es schema options) ts a = refl
count-other ex (Sort j keys part options) ts a = refl
count-other ex (GroupBy j keys aggs schema ordered options) ts a = refl
count-other ex (Join left right schema left_on right_on options) ts a = refl
count-other ex (Distinct j options) ts a = refl
count-other ex (MapFunction j function) ts a = refl
count-other ex (Sink j payload) ts a = refl
count-other ex (Union inputs options) ts a = refl
count-other ex (HConcat inputs schema options) ts a = refl
count-other ex (Cache j id hits) ts a = refl
count-other ex Invalid ts a = refl

pub count-false : (es : List Named) (schema : _) (options : _) (ts : Roses (Unit {0}) Op) → counts_rows es ≡ false → count_of (rose tt (select es schema options) ts) ≡ None
count-false es schema options no_roses e = refl
count-false es schema options (more p no_roses) e = rw e refl
count-false es schema options (more p (more q rest)) e = refl

-- a list of one
pub one-only : {A : Type 0} (xs : List A) (x : A) → length xs ≡ 1 → x ≡ get_or xs 0 x → xs ≡ x ∷ []
one-only [] x l e = cc
one-only (y ∷ []) x l e = ap (λ (z : _). z ∷ []) (sym e)
one-only (y ∷ z ∷ xs) x l e = absurd (omega (arith, l))

-- a selection of the number of rows
module _ (lp : List IR) (ex : List AExpr) (n input : Node) (only : ExprIR) (schema : _) (options : _) (stands : (t : Trees IR) × StandsOnce plan_shape lp (n ∷ []) t) (entry : slice_get lp n.0 ≡ Some (Select input (only ∷ []) schema options)) where
  plan : plan_at lp ex n ≡ rose tt (select (named_at ex only ∷ []) schema options) (more (plan_at lp ex input) no_roses)
  plan =
      let below = StandsOnce-input plan_shape lp n input (Select input (only ∷ []) schema options) 0 stands entry refl in
      let there = entry-of lp input below in
      plan-is lp ex n (Select input (only ∷ []) schema options) stands entry
      ∙ ap (λ (ts : Roses (Unit {0}) Op). rose tt (select (named_at ex only ∷ []) schema options) ts) (plans-one lp ex input there.0 below there.1)

  pub selected-count : counts_rows (named_at ex only ∷ []) ≡ true → count_of (plan_at lp ex n) ≡ as_one (counted_scans (plan_at lp ex input))
  selected-count e = ap count_of plan ∙ ap (λ (b : Bool). cond b (as_one (counted_scans (plan_at lp ex input))) None) e

  pub selected-alias : count_alias (plan_at lp ex n) ≡ alias_of only.output_name
  selected-alias = ap count_alias plan

-- a count in the place of a plan
module _ (lp : List IR) (ex : List AExpr) (n : Node) (function : FunctionIR) (m : Node) where
  abbrev leaf : IR
  leaf = DataFrameScan None [] None

  abbrev node : IR
  node = MapFunction m function

  abbrev below : Trees IR
  below = more (rose m leaf no_roses) no_roses

  below-stands : m.0 ≡ length lp → StandsOnce plan_shape (lp ++ leaf ∷ []) (m ∷ []) below
  below-stands e = record {
    stands = (refl, ap (λ (k : ℕ). slice_get (lp ++ leaf ∷ []) k) e ∙ slice_get-append_last plan_shape lp leaf, refl, tt, tt);
    once = (λ r. r, λ r. r, λ k r v. v, tt, tt);
  }

  module _ (p : IR) (kids : Trees IR) (e : Trees AExpr) (fresh : m.0 ≡ length lp) (h : StandsPlan lp ex n (more (rose n p kids) no_roses) e) where
    pub replaced : Becomes lp (slice_set (lp ++ leaf ∷ []) n.0 node) ex ex n (more (rose n p kids) no_roses) e
    replaced = record {
      nodes = more (rose n node below) no_roses;
      exprs = no_roses;
      places = Rewrites-above plan_shape lp (lp ++ leaf ∷ []) n p node kids below h.nodes (Keeps-append plan_shape lp leaf (more (rose n p kids) no_roses)) (below-stands fresh) (λ k r. added k r) refl;
      under = record {
        stands = record { stands = tt; once = tt };
        keeps = (Rewrites-refl expr_shape ex (roots_in (more (rose n p kids) no_roses)) e h.exprs).keeps;
        within = λ k r. absurd r;
      };
    }
      where
        added : (k : ℕ) → Reaches below k → Reaches kids k ⊎ (length lp ≤ k)
        added k r = elim r as (λ _. Reaches kids k ⊎ (length lp ≤ k)) [
          | inl q ↦ inr (omega (arith, q, fresh))
          | inr v ↦ elim v as (λ _. Reaches kids k ⊎ (length lp ≤ k)) [ inl w ↦ absurd w | inr w ↦ absurd w ]
        ]

    pub replaced-plan : (plan_at (slice_set (lp ++ leaf ∷ []) n.0 node) ex n) ≡ rose tt (map_function function) (more (rose tt (frame_scan None [] None) no_roses) no_roses)
    unfolding replaced
    replaced-plan = ap (λ (t : Trees IR). one_plan (bare (plans_of ex t))) (trees_at-is plan_shape (slice_set (lp ++ leaf ∷ []) n.0 node) (n ∷ []) (more (rose n node below) no_roses) replaced.places.stands)

    pub replaced-stands : IsPlan (slice_set (lp ++ leaf ∷ []) n.0 node) ex n
    unfolding replaced
    replaced-stands = record { nodes = more (rose n node below) no_roses; exprs = no_roses; stands = record { nodes = replaced.places.stands; exprs = record { stands = tt; once = tt } } }

-- the count that is put is that of the plan
pub counted-by : (p : Plan) (function : FunctionIR) → Some function ≡ option_map (λ (x : ScanSources × FileScan). FastCount x.0 x.1 (count_alias p)) (count_of p) → rose tt (map_function function) (more (rose tt (frame_scan None [] None) no_roses) no_roses) ≡ counted p
counted-by p function e = at (count_of p) e
  where
    at : (o : Option (ScanSources × FileScan)) → Some function ≡ option_map (λ (x : ScanSources × FileScan). FastCount x.0 x.1 (count_alias p)) o → rose tt (map_function function) (more (rose tt (frame_scan None [] None) no_roses) no_roses) ≡ count_or o (count_alias p) p
    at None w = cc
    at (Some x) w = let same : function ≡ FastCount x.0 x.1 (count_alias p) = cc in ap (λ (f : FunctionIR). rose tt (map_function f) (more (rose tt (frame_scan None [] None) no_roses) no_roses)) same

-- a count has no cache
pub counted-shared : (p : Plan) → AreShared p → AreShared (counted p)
counted-shared p s = at (count_of p)
  where
    at : (o : Option (ScanSources × FileScan)) → AreShared (count_or o (count_alias p) p)
    at None = s
    at (Some x) = λ c d u v e. absurd u

-- what is put in the place of a plan
module _ (lp new : List IR) (ex : List AExpr) (n : Node) (function : FunctionIR) (m : Node) (entry : IR) (fresh : m.0 ≡ length lp) (is : entry ≡ MapFunction m function) (placed : new ≡ slice_set (lp ++ DataFrameScan None [] None ∷ []) n.0 entry) where
  same : new ≡ slice_set (lp ++ DataFrameScan None [] None ∷ []) n.0 (MapFunction m function)
  same = placed ∙ ap (λ (q : IR). slice_set (lp ++ DataFrameScan None [] None ∷ []) n.0 q) is

  pub put-in-place : (t : Trees IR) (e : Trees AExpr) → StandsPlan lp ex n t e → Becomes lp new ex ex n t e
  put-in-place t e h =
      let there = entry-of lp n (t, h.nodes) in
      let o = opened plan_shape lp n there.0 t h.nodes there.1 in
      subst (λ (l : List IR). Becomes lp l ex ex n t e) (sym same)
      (subst (λ (u : Trees IR). Becomes lp (slice_set (lp ++ DataFrameScan None [] None ∷ []) n.0 (MapFunction m function)) ex ex n u e) (sym o.is)
      (replaced lp ex n function m there.0 o.kids e fresh (subst (λ (u : Trees IR). StandsPlan lp ex n u e) o.is h)))

  pub put-plan : IsPlan lp ex n → plan_at new ex n ≡ rose tt (map_function function) (more (rose tt (frame_scan None [] None) no_roses) no_roses)
  put-plan h =
      let there = entry-of lp n (h.nodes, h.stands.nodes) in
      let o = opened plan_shape lp n there.0 h.nodes h.stands.nodes there.1 in
      ap (λ (l : List IR). plan_at l ex n) same
      ∙ replaced-plan lp ex n function m there.0 o.kids h.exprs fresh (subst (λ (u : Trees IR). StandsPlan lp ex n u h.exprs) o.is h.stands)

  pub put-stands : IsPlan lp ex n → IsPlan new ex n
  put-stands h =
      let there = entry-of lp n (h.nodes, h.stands.nodes) in
      let o = opened plan_shape lp n there.0 h.nodes h.stands.nodes there.1 in
      subst (λ (l : List IR). IsPlan l ex n) (sym same)
      (replaced-stands lp ex n function m there.0 o.kids h.exprs fresh (subst (λ (u : Trees IR). StandsPlan lp ex n u h.exprs) o.is h.stands))

  pub put-here : IsPlan lp ex n → slice_get new n.0 ≡ Some entry
  put-here h =
      let low = entry-within lp n (h.nodes, h.stands.nodes) in
      let long : length (lp ++ DataFrameScan None [] None ∷ []) ≡ length lp + 1 = length-append lp (DataFrameScan None [] None ∷ []) in
      ap (λ (l : List IR). slice_get l n.0) placed ∙ slice_get-set_same plan_shape (lp ++ DataFrameScan None [] None ∷ []) n.0 entry (omega (arith, low, long))

-- whether something is made of something
pub some-of : {A B : Type 0} (f : A → B) (o : Option A) (x : B) → Some x ≡ option_map f o → true ≡ is_some o
some-of f None x e = cc
some-of f (Some a) x e = refl

pub none-of : {A B : Type 0} (f : A → B) (o : Option A) → None ≡ option_map f o → false ≡ is_some o
none-of f None e = refl
none-of f (Some a) e = cc
