-- Nodes that may follow a valid plan.
use Rattle.std.proofs.Common.{◌≡◌, ◌∙◌, ◌++◌, true, false, List, [], ◌∷◌, length, None, Some, refl, sym, ap, subst, append-nil, arith, not, All, IfOk, map, Result, Ok, Err, slice_index_or}
use Rattle.std.proofs.lemmas.List.{get_or-map}
use Rattle.std.specs.List.{slice_get}
use Rattle.plan_core.specs.declared.arena.Node.{Node}
use Rattle.plan_core.specs.declared.data_type.DataType.{DataType}
use Rattle.plan_core.specs.Columns.{Columns, names_of, type_of}
use Rattle.plan_tree.specs.Rose.{Roses, rose, no_roses, more}
use Rattle.plan_tree.specs.Stands.{Trees, Reaches, Stands, StandsOnce}
use Rattle.plan_tree.proofs.Frames.{Stands-kept, slice_get-append, slice_get-append_last}
use Rattle.plan_tree.proofs.Numbers.{Reaches-within}
use Rattle.plan_tree.proofs.ReadLemmas.{trees_at-is}
use Rattle.plan_expr.specs.declared.aexpr.AExpr.{AExpr}
use Rattle.plan_expr.specs.Leaves.{Name}
use Rattle.plan_expr.specs.declared.expr_ir.ExprIR.{ExprIR}
use Rattle.plan_expr.specs.Operands.{IsExpr, expr_shape}
use Rattle.plan_ir.specs.declared.ir.IR.{IR}
use Rattle.plan_ir.specs.declared.ir.IR.TheVariants.{SimpleProjection}
use Rattle.plan_ir.specs.Parts.{exprs_of, inputs_of, is_invalid, plan_shape, IsPlan, roots_in, roots_of}
use Rattle.plan_ir.specs.Plans.{Op, bare, op_at, plans_at, plans_of, simple_projection}
use Rattle.plan_meaning.specs.PlanAt.{one_plan, plan_at}
use Rattle.plan_meaning.specs.Steps.{IsValid}
use Rattle.plan_meaning.specs.Checks.{is_column, is_empty, is_known}
use Rattle.plan_meaning.specs.Typing.{AllHold, checks, schema}
use Rattle.plan_meaning.proofs.CheckParts.{good_projection}
use Rattle.plan_meaning.specs.Functions.{all_differ}
use Rattle.plan_meaning.proofs.JoinLemmas.{distinct_differ}
use Rattle.plan_builder.specs.Picks.{first_item_fault, name_checks, Picks}
use Rattle.plan_builder.proofs.Faults.{names_distinct}
use Rattle.plan_frame.proofs.FrameLemmas.{length-map, some_type_is, weaker}
use Rattle.plan_meaning.proofs.NodeExprs.{all_stand}
use Rattle.plan_meaning.proofs.Validity.{one_stands}
use Rattle.plan_builder.specs.Builds.{IsBuilt, MayFollow, columns_at, own_expr}

-- the expressions of a node that may follow stand
pub next_stands : (lp : List IR) (ex : List AExpr) (p : IR) (es : List ExprIR) → MayFollow lp ex p → exprs_of p ≡ es → All (λ (e : ExprIR). IsExpr ex e.node) es
next_stands lp ex p es follows are = let n : Node = record { 0 = length lp } in all_stand (lp ++ p ∷ []) ex n p es (follows n refl).plan (slice_get-append_last plan_shape lp p) are

-- and so do the numbers of expressions that are named by themselves
pub own_stand : (ex : List AExpr) (ns : List Node) → All (λ (e : ExprIR). IsExpr ex e.node) (map (own_expr ex) ns) → All (IsExpr ex) ns
own_stand ex ns h k d lt =
    let same : length (map (own_expr ex) ns) ≡ length ns = length-map (own_expr ex) ns in
    let at : slice_index_or (map (own_expr ex) ns) k (own_expr ex d) ≡ own_expr ex (slice_index_or ns k d) = get_or-map (own_expr ex) ns k d (own_expr ex d) lt in
    subst (λ (e : ExprIR). IsExpr ex e.node) at (h k (own_expr ex d) (omega (arith, same, lt)))

-- what is built stays so under other words for it
pub built_same : (lp lp' : List IR) (ex ex' : List AExpr) (root root' : Node) → lp' ≡ lp → ex' ≡ ex → root' ≡ root → IsPlan lp ex root → IsValid (plan_at lp ex root) → IsBuilt lp' ex' root'
built_same lp lp' ex ex' root root' p q r plan valid = rw (p, q, r) (let b : IsBuilt lp ex root = record { plan = plan; valid = valid } in b)

-- what follows from a fact on an answer holds of it
pub if-ok : {A E : Type 0} (P Q : A → Type 0) (r : Result A E) → ((x : A) → P x → Q x) → IfOk r P → IfOk r Q
if-ok P Q (Ok x) f h = f x h
if-ok P Q (Err e) f h = tt

-- a projection to columns that are picked passes its checks
module _ (s : Columns) (names : List Name) (cs : Columns) (picks : Picks s names cs) where
  known : (c : Name × DataType) → type_of s c.0 ≡ Some c.1 → is_known s c.0 ≡ true
  known c e = rw e refl

  column : (c : Name × DataType) → type_of s c.0 ≡ Some c.1 → is_column s c ≡ true
  column c e = rw e (some_type_is c.1)

  not-none : (ds : Columns) → names_of ds ≡ names → (names ≡ [] → ⊥) → not (is_empty ds) ≡ true
  not-none [] e some = absurd (some (sym e))
  not-none (d ∷ ds) e some = refl

  pub passes : (names ≡ [] → ⊥) → first_item_fault (name_checks names s) ≡ None → AllHold (checks (simple_projection cs) (s ∷ []))
  passes some fine = good_projection cs s (record {
    some = not-none cs picks.named some;
    known = weaker (λ (c : Name × DataType). type_of s c.0 ≡ Some c.1) (λ (c : Name × DataType). is_known s c.0 ≡ true) cs known picks.typed;
    typed = weaker (λ (c : Name × DataType). type_of s c.0 ≡ Some c.1) (λ (c : Name × DataType). is_column s c ≡ true) cs column picks.typed;
    differ = ap all_differ picks.named ∙ distinct_differ names (names_distinct names s fine);
  })

-- a node over the root of a valid plan may follow it, where its expressions stand beside the plan's and its checks hold
module _ (lp : List IR) (ex : List AExpr) (root : Node) (b : IsBuilt lp ex root) (p : IR) (over : inputs_of p ≡ root ∷ []) (fit : is_invalid p ≡ false) (e : Trees AExpr) (exprs : StandsOnce expr_shape ex (roots_of p ++ roots_in b.plan.nodes) e) (good : AllHold (checks (op_at ex p) (columns_at lp ex root ∷ []))) where
  abbrev t : Trees IR
  t = b.plan.nodes

  module _ (n : Node) (last : n.0 ≡ length lp) where
    here : slice_get (lp ++ p ∷ []) n.0 ≡ Some p
    here = ap (slice_get (lp ++ p ∷ [])) last ∙ slice_get-append_last plan_shape lp p

    new : Reaches t n.0 → ⊥
    new r = let w = Reaches-within plan_shape lp (root ∷ []) t n.0 b.plan.stands.nodes.stands r in omega (arith, w, last)

    below : Stands plan_shape (lp ++ p ∷ []) (root ∷ []) t
    below = Stands-kept plan_shape lp (lp ++ p ∷ []) (root ∷ []) t b.plan.stands.nodes.stands (λ k r. slice_get-append plan_shape lp (p ∷ []) k (Reaches-within plan_shape lp (root ∷ []) t k b.plan.stands.nodes.stands r))

    nodes : StandsOnce plan_shape (lp ++ p ∷ []) (n ∷ []) (more (rose n p t) no_roses)
    nodes = record {
      stands = (refl, here, fit, subst (λ (ns : List Node). Stands plan_shape (lp ++ p ∷ []) ns t) (sym over) below, tt);
      once = (new, (λ r. r), (λ k x y. y), b.plan.stands.nodes.once, tt);
    }

    plan : IsPlan (lp ++ p ∷ []) ex n
    plan = record {
      nodes = more (rose n p t) no_roses;
      exprs = e;
      stands = record {
        nodes = nodes;
        exprs = subst (λ (l : List Node). StandsOnce expr_shape ex (roots_of p ++ l) e) (sym (append-nil (roots_in t))) exprs;
      };
    }

    is : plan_at (lp ++ p ∷ []) ex n ≡ rose tt (op_at ex p) (bare (plans_at lp ex (root ∷ [])))
    is =
        ap (λ (x : Trees IR). one_plan (bare (plans_of ex x))) (trees_at-is plan_shape (lp ++ p ∷ []) (n ∷ []) (more (rose n p t) no_roses) nodes)
        ∙ ap (λ (x : Trees IR). rose tt (op_at ex p) (bare (plans_of ex x))) (sym (trees_at-is plan_shape lp (root ∷ []) t b.plan.stands.nodes))

    valid : IsValid (plan_at (lp ++ p ∷ []) ex n)
    valid =
        let o = one_stands lp ex root b.plan in
        let at : plan_at lp ex root ≡ rose tt o.1 (bare o.2) = ap (λ (x : Roses Node Op). one_plan (bare x)) o.3 in
        let v : IsValid (rose tt o.1 (bare o.2)) = subst IsValid at b.valid in
        let under : bare (plans_at lp ex (root ∷ [])) ≡ more (rose tt o.1 (bare o.2)) no_roses = ap (λ (x : Roses Node Op). bare x) o.3 in
        let holds : AllHold (checks (op_at ex p) (schema (rose tt o.1 (bare o.2)) ∷ [])) = subst (λ (x : Columns). AllHold (checks (op_at ex p) (x ∷ []))) (ap schema at) good in
        subst IsValid (sym is) (subst (λ (x : Roses (Unit {0}) Op). IsValid (rose tt (op_at ex p) x)) (sym under) (holds, (v.0, v.1, tt)))

  pub over_follow : MayFollow lp ex p
  over_follow n last = record { plan = plan n last; valid = valid n last }

-- a node without inputs may follow any entries, where its expressions stand and its checks hold
module _ (lp : List IR) (ex : List AExpr) (p : IR) (alone : inputs_of p ≡ []) (fit : is_invalid p ≡ false) (e : Trees AExpr) (exprs : StandsOnce expr_shape ex (roots_of p) e) (good : AllHold (checks (op_at ex p) [])) where
  module _ (n : Node) (last : n.0 ≡ length lp) where
    source : StandsOnce plan_shape (lp ++ p ∷ []) (n ∷ []) (more (rose n p no_roses) no_roses)
    source = record {
      stands = (refl, ap (slice_get (lp ++ p ∷ [])) last ∙ slice_get-append_last plan_shape lp p, fit, subst (λ (ns : List Node). Stands plan_shape (lp ++ p ∷ []) ns no_roses) (sym alone) tt, tt);
      once = ((λ r. r), (λ r. r), (λ k x y. y), tt, tt);
    }

    source_at : plan_at (lp ++ p ∷ []) ex n ≡ rose tt (op_at ex p) no_roses
    source_at = ap (λ (x : Trees IR). one_plan (bare (plans_of ex x))) (trees_at-is plan_shape (lp ++ p ∷ []) (n ∷ []) (more (rose n p no_roses) no_roses) source)

  pub alone_follow : MayFollow lp ex p
  alone_follow n last = record {
    plan = record {
      nodes = more (rose n p no_roses) no_roses;
      exprs = e;
      stands = record {
        nodes = source n last;
        exprs = subst (λ (l : List Node). StandsOnce expr_shape ex l e) (sym (append-nil (roots_of p))) exprs;
      };
    };
    valid = subst IsValid (sym (source_at n last)) (good, tt);
  }

-- a projection to columns that are picked may follow a valid plan
pub picks_follow : (lp : List IR) (ex : List AExpr) (root : Node) → IsBuilt lp ex root → (names : List Name) (cs : Columns) → Picks (columns_at lp ex root) names cs → (names ≡ [] → ⊥) → first_item_fault (name_checks names (columns_at lp ex root)) ≡ None → MayFollow lp ex (SimpleProjection root cs)
picks_follow lp ex root b names cs picks some fine = over_follow lp ex root b (SimpleProjection root cs) refl refl b.plan.exprs b.plan.stands.exprs (passes (columns_at lp ex root) names cs picks some fine)
