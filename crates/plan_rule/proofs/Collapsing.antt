-- The rule that collapses, over what stands at its number.
use Rattle.std.proofs.Common.{◌≡◌, ℕ, ◌||◌, Bool, true, false, cond, List, [], ◌∷◌, ◌++◌, append-nil, Option, Some, None, is_some, refl, sym, ap, ◌∙◌, subst, inl, inr}
use Rattle.std.specs.List.{slice_get, slice_set}
use Rattle.plan_core.specs.declared.arena.Node.{Node}
use Rattle.plan_core.specs.Columns.{Columns, same_columns}
use Rattle.plan_tree.specs.Rose.{Roses, rose, no_roses, more}
use Rattle.plan_tree.specs.Stands.{Reaches, StandsOnce, Trees}
use Rattle.plan_tree.proofs.Frames.{Keeps-set, Rewrites-refl, StandsOnce-set}
use Rattle.plan_tree.proofs.TreeLemmas.{opened}
use Rattle.plan_expr.specs.declared.aexpr.AExpr.{AExpr}
use Rattle.plan_ir.specs.declared.ir.IR.{IR}
use Rattle.plan_ir.specs.declared.ir.IR.TheVariants.{SimpleProjection, Select, Cache}
use Rattle.plan_ir.specs.Parts.{IsPlan, StandsPlan, inputs_of, is_invalid, plan_shape, roots_in, roots_of}
use Rattle.plan_ir.specs.Plans.{Op, Plan, bare, cache, op_at, plans_of, simple_projection}
use Rattle.plan_ir.proofs.PlanLemmas.{plan_down}
use Rattle.plan_meaning.specs.PlanAt.{plan_at}
use Rattle.plan_meaning.specs.Steps.{IsValid}
use Rattle.plan_meaning.specs.Typing.{schema, schema_by, schemas}
use Rattle.plan_pass_laws.specs.declared.kind.RuleKind.TheVariants as kinds
use Rattle.plan_pass_laws.specs.Answers.{answer_of, as_projection, hits_of, joined_node, or_answer, selects_columns}
use Rattle.plan_pass_laws.specs.Patterns.{shows}
use Rattle.plan_pass_laws.proofs.AnswerLaws.{collapse_shows}
use Rattle.plan_rule.specs.Calls.{Answers, Leaves, Replaces, plan_of}
use Rattle.plan_rule.specs.Joined.{as_projection_node, caches_joined, projected_input, projection_onto}
use Rattle.plan_rule.proofs.InputUp.{input_up}
use Rattle.plan_rule.proofs.Placed.{Last, last_exprs, over_one, plan_at-of, put_at, same_numbers, stays}

-- no answer: the plan stays, and shows no pattern
pub collapse_stays : (eager : Bool) (lp : List IR) (ex : List AExpr) (n : Node) (t : Trees IR) (e : Trees AExpr) → StandsPlan lp ex n t e → answer_of (kinds.Collapse eager) (plan_of ex t) ≡ None → Leaves (kinds.Collapse eager) true lp lp ex ex n t e
collapse_stays eager lp ex n t e h none = stays (kinds.Collapse eager) true lp ex n t e h (sym (collapse_shows eager (plan_of ex t)) ∙ ap is_some none) none refl

-- A selection

selection_node : (ex : List AExpr) (p : IR) → selects_columns (op_at ex p) ≡ true → (inputs_of (as_projection_node p) ≡ inputs_of p) × (op_at ex (as_projection_node p) ≡ as_projection (op_at ex p)) × (roots_of (as_projection_node p) ≡ []) × (is_invalid (as_projection_node p) ≡ false)
selection_node ex (Select input expr schema options) s = (refl, refl, refl, refl)
selection_node ex p s = cc

selection_answer : (eager : Bool) (op : Op) (ts : Roses (Unit {0}) Op) → selects_columns op ≡ true → answer_of (kinds.Collapse eager) (rose tt op ts) ≡ Some (rose tt (as_projection op) ts)
selection_answer eager op ts s = ap (λ (b : Bool). cond b (Some (rose tt (as_projection op) ts)) (cond eager None (joined_node op ts))) s

pub selection_goes : (eager : Bool) (lp : List IR) (ex : List AExpr) (n : Node) (p d : IR) (t : Trees IR) (e : Trees AExpr) → StandsPlan lp ex n t e → IsValid (plan_at lp ex n) → slice_get lp n.0 ≡ Some p → selects_columns (op_at ex p) ≡ true → Replaces (kinds.Collapse eager) true lp (slice_set (slice_set lp n.0 d) n.0 (as_projection_node p)) ex ex n t e
selection_goes eager lp ex n p d t e h v entry s =
    let o = opened plan_shape lp n p t h.nodes entry in
    let parts = selection_node ex p s in
    let h1 : StandsPlan lp ex n (more (rose n p o.kids) no_roses) e = subst (λ (f : Trees IR). StandsPlan lp ex n f e) o.is h in
    let low : StandsOnce plan_shape lp (inputs_of (as_projection_node p)) o.kids = subst (λ (ns : List Node). StandsOnce plan_shape lp ns o.kids) (sym parts.0) o.inputs in
    let last : Last ex (roots_in o.kids ++ []) e = last_exprs ex (roots_of p) (roots_in o.kids ++ []) e h1.exprs in
    let numbers : roots_in o.kids ++ [] ≡ roots_of (as_projection_node p) ++ (roots_in o.kids ++ []) = ap (λ (l : List Node). l ++ (roots_in o.kids ++ [])) (sym parts.2) in
    subst (λ (f : Trees IR). Replaces (kinds.Collapse eager) true lp (slice_set (slice_set lp n.0 d) n.0 (as_projection_node p)) ex ex n f e) (sym o.is)
    (put_at (kinds.Collapse eager) true lp (slice_set lp n.0 d) ex n p (as_projection_node p) o.kids o.kids e h1 v
    (Keeps-set plan_shape lp n.0 d (more (rose n p o.kids) no_roses) (inl refl))
    (StandsOnce-set plan_shape lp (inputs_of (as_projection_node p)) o.kids n.0 d low o.above)
    (λ k r. r) parts.3
    (same_numbers ex (roots_in o.kids ++ []) (roots_of (as_projection_node p) ++ (roots_in o.kids ++ [])) e numbers last)
    (selection_answer eager (op_at ex p) (bare (plans_of ex o.kids)) s ∙ ap (λ (op : Op). Some (rose tt op (bare (plans_of ex o.kids)))) (sym parts.1)))

pub unselected_eager : (op : Op) (ts : Roses (Unit {0}) Op) → selects_columns op ≡ false → answer_of (kinds.Collapse true) (rose tt op ts) ≡ None
unselected_eager op ts s = ap (λ (b : Bool). cond b (Some (rose tt (as_projection op) ts)) None) s

-- where there is no selection, the node that is joined with its input is the answer
unselected : (op : Op) (ts : Roses (Unit {0}) Op) → selects_columns op ≡ false → answer_of (kinds.Collapse false) (rose tt op ts) ≡ joined_node op ts
unselected op ts s = ap (λ (b : Bool). cond b (Some (rose tt (as_projection op) ts)) (joined_node op ts)) s

-- the plan over a node, opened
pub tree_plan : (lp : List IR) (ex : List AExpr) (n : Node) (p : IR) (t : Trees IR) → StandsOnce plan_shape lp (n ∷ []) t → slice_get lp n.0 ≡ Some p → (ts : Roses (Unit {0}) Op) × (plan_of ex t ≡ rose tt (op_at ex p) ts)
tree_plan lp ex n p t h entry =
    let o = opened plan_shape lp n p t h entry in
    (bare (plans_of ex o.kids), ap (λ (f : Trees IR). plan_of ex f) o.is)

pub eager_stays : (lp : List IR) (ex : List AExpr) (n : Node) (p : IR) (t : Trees IR) (e : Trees AExpr) → StandsPlan lp ex n t e → slice_get lp n.0 ≡ Some p → selects_columns (op_at ex p) ≡ false → Leaves (kinds.Collapse true) true lp lp ex ex n t e
eager_stays lp ex n p t e h entry s =
    let is = tree_plan lp ex n p t h.nodes entry in
    collapse_stays true lp ex n t e h (ap (answer_of (kinds.Collapse true)) is.1 ∙ unselected_eager (op_at ex p) is.0 s)

-- A projection or a cache on another

module _ (lp : List IR) (ex : List AExpr) (n i : Node) (e : Trees AExpr) where
  numbers_below : (kids : Trees IR) → Last ex ((roots_in kids ++ []) ++ []) e → Last ex (roots_in kids ++ []) e
  numbers_below kids l = same_numbers ex ((roots_in kids ++ []) ++ []) (roots_in kids ++ []) e (append-nil (roots_in kids ++ [])) l

  -- a projection is taken, and put back onto the input of the one below it
  pub onto_lower : (j : Node) (cs ds : Columns) (d : IR) (t : Trees IR) → StandsPlan lp ex n t e → IsValid (plan_at lp ex n) → slice_get lp n.0 ≡ Some (SimpleProjection i cs) → slice_get lp i.0 ≡ Some (SimpleProjection j ds) → Replaces (kinds.Collapse false) true lp (slice_set (slice_set lp n.0 d) n.0 (SimpleProjection j cs)) ex ex n t e
  onto_lower j cs ds d t h v entry lower =
      let o = opened plan_shape lp n (SimpleProjection i cs) t h.nodes entry in
      let u = opened plan_shape lp i (SimpleProjection j ds) o.kids o.inputs lower in
      let is : t ≡ more (rose n (SimpleProjection i cs) (more (rose i (SimpleProjection j ds) u.kids) no_roses)) no_roses = o.is ∙ ap (λ (f : Trees IR). more (rose n (SimpleProjection i cs) f) no_roses) u.is in
      let away : Reaches u.kids n.0 → ⊥ = λ r. o.above (subst (λ (f : Trees IR). Reaches f n.0) (sym u.is) (inr (inl r))) in
      subst (λ (f : Trees IR). Replaces (kinds.Collapse false) true lp (slice_set (slice_set lp n.0 d) n.0 (SimpleProjection j cs)) ex ex n f e) (sym is)
      (at u.kids (subst (λ (f : Trees IR). StandsPlan lp ex n f e) is h) u.inputs away)
    where
      at : (kids : Trees IR) → StandsPlan lp ex n (more (rose n (SimpleProjection i cs) (more (rose i (SimpleProjection j ds) kids) no_roses)) no_roses) e → StandsOnce plan_shape lp (j ∷ []) kids → (Reaches kids n.0 → ⊥) → Replaces (kinds.Collapse false) true lp (slice_set (slice_set lp n.0 d) n.0 (SimpleProjection j cs)) ex ex n (more (rose n (SimpleProjection i cs) (more (rose i (SimpleProjection j ds) kids) no_roses)) no_roses) e
      at kids h low away =
          let whole : Trees IR = more (rose n (SimpleProjection i cs) (more (rose i (SimpleProjection j ds) kids) no_roses)) no_roses in
          put_at (kinds.Collapse false) true lp (slice_set lp n.0 d) ex n (SimpleProjection i cs) (SimpleProjection j cs) (more (rose i (SimpleProjection j ds) kids) no_roses) kids e h v
          (Keeps-set plan_shape lp n.0 d whole (inl refl))
          (StandsOnce-set plan_shape lp (j ∷ []) kids n.0 d low away)
          (λ k r. inr (inl r)) refl (numbers_below kids (last_exprs ex [] ((roots_in kids ++ []) ++ []) e h.exprs)) refl

  -- a cache on a cache becomes one
  pub cache_lower : (id hits j : ℕ) (k : Node) (more_hits : ℕ) (t : Trees IR) → StandsPlan lp ex n t e → IsValid (plan_at lp ex n) → slice_get lp n.0 ≡ Some (Cache i id hits) → slice_get lp i.0 ≡ Some (Cache k j more_hits) → Replaces (kinds.Collapse false) true lp (slice_set lp n.0 (Cache k j (hits_of hits more_hits))) ex ex n t e
  cache_lower id hits j k more_hits t h v entry lower =
      let o = opened plan_shape lp n (Cache i id hits) t h.nodes entry in
      let u = opened plan_shape lp i (Cache k j more_hits) o.kids o.inputs lower in
      let is : t ≡ more (rose n (Cache i id hits) (more (rose i (Cache k j more_hits) u.kids) no_roses)) no_roses = o.is ∙ ap (λ (f : Trees IR). more (rose n (Cache i id hits) f) no_roses) u.is in
      subst (λ (f : Trees IR). Replaces (kinds.Collapse false) true lp (slice_set lp n.0 (Cache k j (hits_of hits more_hits))) ex ex n f e) (sym is)
      (at u.kids (subst (λ (f : Trees IR). StandsPlan lp ex n f e) is h) u.inputs)
    where
      at : (kids : Trees IR) → StandsPlan lp ex n (more (rose n (Cache i id hits) (more (rose i (Cache k j more_hits) kids) no_roses)) no_roses) e → StandsOnce plan_shape lp (k ∷ []) kids → Replaces (kinds.Collapse false) true lp (slice_set lp n.0 (Cache k j (hits_of hits more_hits))) ex ex n (more (rose n (Cache i id hits) (more (rose i (Cache k j more_hits) kids) no_roses)) no_roses) e
      at kids h low =
          put_at (kinds.Collapse false) true lp lp ex n (Cache i id hits) (Cache k j (hits_of hits more_hits)) (more (rose i (Cache k j more_hits) kids) no_roses) kids e h v
          (Rewrites-refl plan_shape lp (n ∷ []) (more (rose n (Cache i id hits) (more (rose i (Cache k j more_hits) kids) no_roses)) no_roses) h.nodes).keeps
          low (λ m r. inr (inl r)) refl (numbers_below kids (last_exprs ex [] ((roots_in kids ++ []) ++ []) e h.exprs)) refl

-- A projection on a node that is none

needless : (cs : Columns) (ex : List AExpr) (q : IR) (us : Roses (Unit {0}) Op) → projected_input q ≡ None → joined_node (simple_projection cs) (more (rose tt (op_at ex q) us) no_roses) ≡ cond (same_columns cs (schema_by (op_at ex q) (schemas us))) (Some (rose tt (op_at ex q) us)) None
needless cs ex (SimpleProjection input columns) us e = cc
needless cs ex q us e = at (same_columns cs (schema_by (op_at ex q) (schemas us)))
  where
    at : (b : Bool) → or_answer (cond b (Some (rose tt (op_at ex q) us)) None) None ≡ cond b (Some (rose tt (op_at ex q) us)) None
    at true = refl
    at false = refl

-- the plan below is valid
below_valid : (op : Op) (p : Plan) → IsValid (rose tt op (more p no_roses)) → IsValid p
below_valid op (rose m o us) v = (v.1.0, v.1.1)

module _ (lp : List IR) (ex : List AExpr) (n i : Node) (cs : Columns) (q : IR) (t : Trees IR) (e : Trees AExpr) (h : StandsPlan lp ex n t e) (v : IsValid (plan_at lp ex n)) (entry : slice_get lp n.0 ≡ Some (SimpleProjection i cs)) (lower : slice_get lp i.0 ≡ Some q) (none : projected_input q ≡ None) where
  -- the input is a valid plan
  pub input_valid : IsPlan lp ex i × IsValid (plan_at lp ex i)
  input_valid = (
    (plan_down lp ex n (SimpleProjection i cs) (record { nodes = t; exprs = e; stands = h }) entry 0 i refl).1,
    below_valid (simple_projection cs) (plan_at lp ex i) (subst IsValid (over_one lp ex n i (SimpleProjection i cs) t h.nodes entry refl) v),
  )

  -- the answer is the input where it has the columns
  input_answer : answer_of (kinds.Collapse false) (plan_at lp ex n) ≡ cond (same_columns cs (schema (plan_at lp ex i))) (Some (plan_at lp ex i)) None
  input_answer =
      let plan = input_valid.0 in
      let below = tree_plan lp ex i q plan.nodes plan.stands.nodes lower in
      let is : plan_at lp ex i ≡ rose tt (op_at ex q) below.0 = plan_at-of lp ex i plan.nodes plan.stands.nodes ∙ below.1 in
      ap (answer_of (kinds.Collapse false)) (over_one lp ex n i (SimpleProjection i cs) t h.nodes entry refl)
      ∙ ap (λ (r : Plan). joined_node (simple_projection cs) (more r no_roses)) is
      ∙ needless cs ex q below.0 none
      ∙ ap (λ (r : Plan). cond (same_columns cs (schema r)) (Some r) None) (sym is)

  pub projection_goes : (d : IR) → same_columns cs (schema (plan_at lp ex i)) ≡ true → Replaces (kinds.Collapse false) true lp (slice_set (slice_set lp i.0 d) n.0 q) ex ex n t e
  projection_goes d same = input_up (kinds.Collapse false) true lp ex n i (SimpleProjection i cs) q d e t h v entry refl lower (input_answer ∙ ap (λ (b : Bool). cond b (Some (plan_at lp ex i)) None) same)

  pub projection_stays : same_columns cs (schema (plan_at lp ex i)) ≡ false → Leaves (kinds.Collapse false) true lp lp ex ex n t e
  projection_stays same = collapse_stays false lp ex n t e h (ap (answer_of (kinds.Collapse false)) (sym (plan_at-of lp ex n t h.nodes)) ∙ input_answer ∙ ap (λ (b : Bool). cond b (Some (plan_at lp ex i)) None) same)

-- Nodes that aren't joined with their inputs

alone : (ex : List AExpr) (p : IR) (ts : Roses (Unit {0}) Op) → ((i : Node) (cs : Columns) → p ≡ SimpleProjection i cs → ⊥) → ((i : Node) (id hits : ℕ) → p ≡ Cache i id hits → ⊥) → joined_node (op_at ex p) ts ≡ None
alone ex (SimpleProjection i cs) ts a b = absurd (a i cs refl)
alone ex (Cache i id hits) ts a b = absurd (b i id hits refl)
alone ex p no_roses a b = refl
alone ex p (more r no_roses) a b = refl
alone ex p (more r (more s rest)) a b = refl

selects_not : (op : Op) (ts : Roses (Unit {0}) Op) → shows (kinds.Collapse true) (rose tt op ts) ≡ false → selects_columns op ≡ false
selects_not op ts e = at (selects_columns op) e
  where
    at : (b : Bool) → (b || false) ≡ false → b ≡ false
    at true e = cc
    at false e = refl

pub other_stays : (lp : List IR) (ex : List AExpr) (n : Node) (p : IR) (t : Trees IR) (e : Trees AExpr) → StandsPlan lp ex n t e → slice_get lp n.0 ≡ Some p → shows (kinds.Collapse true) (plan_of ex t) ≡ false → ((i : Node) (cs : Columns) → p ≡ SimpleProjection i cs → ⊥) → ((i : Node) (id hits : ℕ) → p ≡ Cache i id hits → ⊥) → Leaves (kinds.Collapse false) true lp lp ex ex n t e
other_stays lp ex n p t e h entry s a b =
    let is = tree_plan lp ex n p t h.nodes entry in
    let none_here = selects_not (op_at ex p) is.0 (sym (ap (shows (kinds.Collapse true)) is.1) ∙ s) in
    collapse_stays false lp ex n t e h (ap (answer_of (kinds.Collapse false)) is.1 ∙ unselected (op_at ex p) is.0 none_here ∙ alone ex p is.0 a b)

-- a cache on a node that is none
uncached : (ex : List AExpr) (id hits : ℕ) (q : IR) (us : Roses (Unit {0}) Op) → caches_joined hits q ≡ None → joined_node (cache id hits) (more (rose tt (op_at ex q) us) no_roses) ≡ None
uncached ex id hits (Cache k j more_hits) us e = cc
uncached ex id hits q us e = refl

-- what a cache makes with its input
pub cache_answers : (lp : List IR) (ex : List AExpr) (n i : Node) (id hits : ℕ) (q : IR) (t : Trees IR) (e : Trees AExpr) (o : Option IR) → StandsPlan lp ex n t e → IsValid (plan_at lp ex n) → slice_get lp n.0 ≡ Some (Cache i id hits) → slice_get lp i.0 ≡ Some q → o ≡ caches_joined hits q → Answers (kinds.Collapse false) true lp lp ex ex n t e o
cache_answers lp ex n i id hits (Cache k j more_hits) t e o h v entry lower is = rw is (cache_lower lp ex n i e id hits j k more_hits t h v entry lower)
cache_answers lp ex n i id hits q t e o h v entry lower is = rw is (at refl)
  where
    at : caches_joined hits q ≡ None → Leaves (kinds.Collapse false) true lp lp ex ex n t e
    at none =
        let plan : IsPlan lp ex i = (plan_down lp ex n (Cache i id hits) (record { nodes = t; exprs = e; stands = h }) entry 0 i refl).1 in
        let below = tree_plan lp ex i q plan.nodes plan.stands.nodes lower in
        collapse_stays false lp ex n t e h
        (ap (answer_of (kinds.Collapse false)) (sym (plan_at-of lp ex n t h.nodes) ∙ over_one lp ex n i (Cache i id hits) t h.nodes entry refl)
        ∙ ap (λ (r : Plan). joined_node (cache id hits) (more r no_roses)) (plan_at-of lp ex i plan.nodes plan.stands.nodes ∙ below.1)
        ∙ uncached ex id hits q below.0 none)

-- the projection that is taken goes onto the input that is told
pub told_onto : (lp : List IR) (ex : List AExpr) (n i j : Node) (cs : Columns) (p q d : IR) (t : Trees IR) (e : Trees AExpr) → StandsPlan lp ex n t e → IsValid (plan_at lp ex n) → slice_get lp n.0 ≡ Some (SimpleProjection i cs) → slice_get lp n.0 ≡ Some p → slice_get lp i.0 ≡ Some q → Some j ≡ projected_input q → Replaces (kinds.Collapse false) true lp (slice_set (slice_set lp n.0 d) n.0 (projection_onto p j)) ex ex n t e
told_onto lp ex n i j cs p (SimpleProjection k ds) d t e h v entry again lower some =
    let kj : k ≡ j = cc in
    let is : projection_onto p j ≡ SimpleProjection j cs = (let x : p ≡ SimpleProjection i cs = cc in ap (λ (o : IR). projection_onto o j) x) in
    subst (λ (o : IR). Replaces (kinds.Collapse false) true lp (slice_set (slice_set lp n.0 d) n.0 o) ex ex n t e) (sym is)
    (onto_lower lp ex n i e j cs ds d t h v entry (subst (λ (m : Node). slice_get lp i.0 ≡ Some (SimpleProjection m ds)) kj lower))
told_onto lp ex n i j cs p q d t e h v entry again lower some = cc

-- the selection that is taken
pub selection_taken : (eager : Bool) (lp : List IR) (ex : List AExpr) (n : Node) (p q d : IR) (t : Trees IR) (e : Trees AExpr) → StandsPlan lp ex n t e → IsValid (plan_at lp ex n) → slice_get lp n.0 ≡ Some p → slice_get lp n.0 ≡ Some q → selects_columns (op_at ex p) ≡ true → Replaces (kinds.Collapse eager) true lp (slice_set (slice_set lp n.0 d) n.0 (as_projection_node q)) ex ex n t e
selection_taken eager lp ex n p q d t e h v entry taken s =
    let same : p ≡ q = cc in
    selection_goes eager lp ex n q d t e h v taken (subst (λ (o : IR). selects_columns (op_at ex o) ≡ true) same s)

-- where there is no selection, collapse shows none
pub shows_none : (lp : List IR) (ex : List AExpr) (n : Node) (p : IR) (t : Trees IR) (e : Trees AExpr) → StandsPlan lp ex n t e → slice_get lp n.0 ≡ Some p → selects_columns (op_at ex p) ≡ false → shows (kinds.Collapse true) (plan_of ex t) ≡ false
shows_none lp ex n p t e h entry s = ap (shows (kinds.Collapse true)) (tree_plan lp ex n p t h.nodes entry).1 ∙ ap (λ (b : Bool). b || false) s

-- the input that is taken comes in the place of a projection to its columns
pub projection_taken : (lp : List IR) (ex : List AExpr) (n i : Node) (cs : Columns) (g q d : IR) (t : Trees IR) (e : Trees AExpr) → StandsPlan lp ex n t e → IsValid (plan_at lp ex n) → slice_get lp n.0 ≡ Some (SimpleProjection i cs) → slice_get lp i.0 ≡ Some g → slice_get lp i.0 ≡ Some q → projected_input g ≡ None → same_columns cs (schema (plan_at lp ex i)) ≡ true → Replaces (kinds.Collapse false) true lp (slice_set (slice_set lp i.0 d) n.0 q) ex ex n t e
projection_taken lp ex n i cs g q d t e h v entry lower taken none same =
    let is : g ≡ q = cc in
    projection_goes lp ex n i cs q t e h v entry taken (subst (λ (o : IR). projected_input o ≡ None) is none) d same
