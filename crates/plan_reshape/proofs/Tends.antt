-- Calls at the number of an expression.
use Rattle.std.proofs.Common.{◌≡◌, ℕ, ◌+◌, ◌<◌, ◌≤◌, ◌⊎◌, inl, inr, Bool, true, false, List, [], ◌∷◌, ◌++◌, length, map, take, append_assoc, append-nil, Option, Some, None, refl, sym, ap, ap₂, ◌∙◌, subst, arith}
use Rattle.std.specs.List.{slice_get, slice_set}
use Rattle.std.proofs.lemmas.Option.{slice_get_within}
use Rattle.std.proofs.lemmas.List.{map-append}
use Rattle.plan_core.specs.declared.arena.Node.{Node}
use Rattle.plan_tree.specs.Rose.{Roses, rose, no_roses, more, size}
use Rattle.plan_tree.specs.Stands.{Shape, Trees, Reaches, Rewrites, Stands, StandsOnce}
use Rattle.plan_tree.proofs.Frames.{Rewrites-refl, Rewrites-trans, join-left}
use Rattle.plan_tree.proofs.SplitLemmas.{StandsOnce-split}
use Rattle.plan_tree.proofs.TreeLemmas.{Stands-unique}
use Rattle.plan_expr.specs.declared.aexpr.AExpr.{AExpr}
use Rattle.plan_expr.specs.declared.expr_ir.ExprIR.{ExprIR}
use Rattle.plan_expr.specs.Operands.{expr_shape}
use Rattle.plan_ir.specs.declared.ir.IR.{IR}
use Rattle.plan_ir.specs.declared.ir.IR.TheVariants as nodes
use Rattle.plan_ir.specs.Parts.{IsPlan, StandsPlan, condition_of, list_of, listed_exprs_of, exprs_of, plan_shape, roots_in, roots_of}
use Rattle.plan_ir.specs.Plans.{Plan, bare, plans_of}
use Rattle.plan_meaning.specs.PlanAt.{plan_at}
use Rattle.plan_meaning.specs.Steps.{IsValid}
use Rattle.plan_pass_laws.specs.declared.kind.RuleKind.{RuleKind}
use Rattle.plan_pass_laws.specs.Patterns.{are_counted, is_counted}
use Rattle.plan_pass_laws.specs.Settling.{Done, Reworked, Reworks, both, idle, one_done}
use Rattle.plan_pass_laws.specs.Weights.{weight, weight_in}
use Rattle.plan_pass_laws.proofs.Reworked.{reworked_answer, reworks_refl, reworks_trans, reworks_weaker}
use Rattle.plan_rule.specs.Calls.{AnswersExpr, ListsExpr, plan_of}
use Rattle.plan_rule.proofs.Listed.{listed_inside, listed_roots, stands_at}
use Rattle.plan_reshape.specs.Walking.{Brought, Tended}
use Rattle.plan_reshape.proofs.Brings.{Plans, Stays, all_valid_at, both_idle, each_valid, in_one, more_counted, more_silent, one_of, out_one, plan_at_is, stays}
use Rattle.plan_reshape.proofs.Sizes.{bulk_same, weight_is}
use Rattle.plan_reshape.proofs.Visits.{counted_join}
use Rattle.plan_reshape.proofs.Within.{replaced_within}

listed_first : (p : IR) → (rest : List Node) × (roots_of p ≡ listed_roots p ++ rest)
listed_first (nodes.Join input_left input_right schema left_on right_on options) = (map (λ (e : ExprIR). e.node) (list_of (condition_of options)), map-append (λ (e : ExprIR). e.node) (left_on ++ right_on) (list_of (condition_of options)))
listed_first p = ([], sym (append-nil (roots_of p)))

pub roots_first : (lp : List IR) (n : Node) (p : IR) (t : Trees IR) → StandsOnce plan_shape lp (n ∷ []) t → slice_get lp n.0 ≡ Some p → (rest : List Node) × (roots_in t ≡ listed_roots p ++ rest)
roots_first lp n p no_roses h e = absurd h.stands
roots_first lp n p (more (rose m q kids) rest) h e =
    let same : q ≡ p = cc in
    let first = listed_first q in
    (first.0 ++ (roots_in kids ++ roots_in rest), ap (λ (l : List Node). l ++ (roots_in kids ++ roots_in rest)) first.1 ∙ append_assoc (listed_roots q) first.0 (roots_in kids ++ roots_in rest) ∙ ap (λ (x : IR). listed_roots x ++ (first.0 ++ (roots_in kids ++ roots_in rest))) same)

-- one listed expression became another, and the nodes stay
pub record ExprsBecome (lp : List IR) (ex grown : List AExpr) (n m : Node) (t : Trees IR) (e g h : Trees AExpr) : Type 0 where
  pub exprs : Trees AExpr
  pub under : Rewrites expr_shape ex grown (roots_in t) e exprs
  pub listed : ListsExpr lp grown n m
  pub sized : size exprs + size g ≡ size e + size h

pub become_exprs : (lp : List IR) (ex grown : List AExpr) (n m : Node) (t : Trees IR) (e g h : Trees AExpr) → StandsPlan lp ex n t e → ListsExpr lp ex n m → StandsOnce expr_shape ex (m ∷ []) g → Rewrites expr_shape ex grown (m ∷ []) g h → ExprsBecome lp ex grown n m t e g h
become_exprs lp ex grown n m t e g h plan l s x =
    let first = roots_first lp n l.entry t plan.nodes l.there in
    let sides = StandsOnce-split expr_shape ex (listed_roots l.entry) first.0 e (subst (λ (ns : List Node). StandsOnce expr_shape ex ns e) first.1 plan.exprs) in
    let same : l.trees ≡ sides.left = Stands-unique expr_shape ex (listed_roots l.entry) l.trees sides.left l.stand.stands sides.first.stands in
    let reached : Reaches e m.0 = subst (λ (f : Trees AExpr). Reaches f m.0) (sym sides.is) (join-left expr_shape sides.left sides.right m.0 (subst (λ (f : Trees AExpr). Reaches f m.0) same l.reached)) in
    let w = replaced_within expr_shape ex grown (roots_in t) e m g h plan.exprs reached s x in
    let v = replaced_within expr_shape ex grown (listed_roots l.entry) l.trees m g h l.stand l.reached s x in
    record {
      exprs = w.trees;
      under = w.rewrites;
      listed = record { entry = l.entry; there = l.there; trees = v.trees; stand = v.rewrites.stands; reached = v.reached };
      sized = w.sized;
    }

-- so the whole became another
pub tended_brought : (ks : List RuleKind) (lp : List IR) (ex grown : List AExpr) (n m : Node) (t : Trees IR) (e g : Trees AExpr) (d : Done) → StandsPlan lp ex n t e → ListsExpr lp ex n m → StandsOnce expr_shape ex (m ∷ []) g → Tended ks lp ex grown n m t g d → Brought ks lp lp ex grown (n ∷ []) t e d
tended_brought ks lp ex grown n m t e g d h l s x =
    let b = become_exprs lp ex grown n m t e g x.tree h l s x.places in
    record { become = record { nodes = t; exprs = b.exprs; places = Rewrites-refl plan_shape lp (n ∷ []) t h.nodes; under = b.under }; reworks = x.reworks }

-- and the tree at the number has not grown, which is what a walk down the operands falls by
pub tended_small : (ks : List RuleKind) (lp : List IR) (ex grown : List AExpr) (n m : Node) (t : Trees IR) (e g : Trees AExpr) (d : Done) → StandsPlan lp ex n t e → ListsExpr lp ex n m → StandsOnce expr_shape ex (m ∷ []) g → (x : Tended ks lp ex grown n m t g d) → size x.tree ≤ size g
tended_small ks lp ex grown n m t e g d h l s x =
    let b = become_exprs lp ex grown n m t e g x.tree h l s x.places in
    let now = weight_is grown t b.exprs b.under.stands in
    let was = weight_is ex t e h.exprs in
    let bulks = bulk_same ex grown t in
    let c = x.reworks.counted in
    let z = b.sized in
    omega (arith, now, was, bulks, c, z)

-- Step by step

pub tended_none : (ks : List RuleKind) (lp : List IR) (ex : List AExpr) (n m : Node) (t : Trees IR) (e g : Trees AExpr) → IsValid (plan_at lp ex n) → StandsPlan lp ex n t e → StandsOnce expr_shape ex (m ∷ []) g → Tended ks lp ex ex n m t g idle
tended_none ks lp ex n m t e g v h s = record { tree = g; places = Rewrites-refl expr_shape ex (m ∷ []) g s; reworks = reworks_refl ks (bare (plans_of ex t)) (all_valid_at lp ex n t h.nodes v) }

pub tended_then : (ks : List RuleKind) (lp : List IR) (ex now grown : List AExpr) (n m : Node) (t : Trees IR) (g : Trees AExpr) (d w : Done) (x : Tended ks lp ex now n m t g d) → Tended ks lp now grown n m t x.tree w → Tended ks lp ex grown n m t g (both d w)
tended_then ks lp ex now grown n m t g d w x y = record {
  tree = y.tree;
  places = Rewrites-trans expr_shape ex now grown (m ∷ []) g x.tree y.tree x.places y.places;
  reworks = reworks_trans ks (bare (plans_of grown t)) (bare (plans_of now t)) (bare (plans_of ex t)) d w x.reworks y.reworks;
}

pub tended_answer : (k : RuleKind) (own : Bool) (lp : List IR) (ex grown : List AExpr) (n m : Node) (t : Trees IR) (g : Trees AExpr) (q : AExpr) → StandsOnce plan_shape lp (n ∷ []) t → AnswersExpr k own lp ex grown n m g (Some q) → Tended (k ∷ []) lp ex (slice_set grown m.0 q) n m t g (one_done k)
tended_answer k own lp ex grown n m t g q h a =
    let now = plan_at_is lp (slice_set grown m.0 q) n t h in
    let was = plan_at_is lp ex n t h in
    let r : Reworked (k ∷ []) (plan_at lp (slice_set grown m.0 q) n) (plan_at lp ex n) (one_done k) = reworked_answer k (plan_at lp (slice_set grown m.0 q) n) (plan_at lp ex n) a.better.refines a.better.keeps a.better.lighter a.better.smaller in
    record {
      tree = a.trees;
      places = a.places;
      reworks = in_one (k ∷ []) lp lp ex (slice_set grown m.0 q) n t t (one_done k) h h (subst (λ (p : Plan). Reworked (k ∷ []) p (plan_of ex t) (one_done k)) now (subst (λ (p : Plan). Reworked (k ∷ []) (plan_at lp (slice_set grown m.0 q) n) p (one_done k)) was r));
    }

pub tended_end : (k : RuleKind) (own : Bool) (lp : List IR) (ex grown : List AExpr) (n m : Node) (t : Trees IR) (g : Trees AExpr) → IsValid (plan_at lp ex n) → StandsOnce plan_shape lp (n ∷ []) t → AnswersExpr k own lp ex grown n m g None → Tended (k ∷ []) lp ex grown n m t g idle
tended_end k own lp ex grown n m t g v h a =
    let same : bare (plans_of ex t) ≡ bare (plans_of grown t) =
    one_of lp ex n t h
    ∙ ap (λ (p : Plan). more p no_roses) (sym (plan_at_is lp ex n t h) ∙ sym a.same ∙ plan_at_is lp grown n t h)
    ∙ sym (one_of lp grown n t h) in
    record {
      tree = a.trees;
      places = a.places;
      reworks = subst (λ (l : Plans). Reworks (k ∷ []) l (bare (plans_of ex t)) idle) same (reworks_refl (k ∷ []) (bare (plans_of ex t)) (all_valid_at lp ex n t h v));
    }

-- What one rule has done at an expression so far

pub record TriedExpr (ks : List RuleKind) (lp : List IR) (ex now : List AExpr) (n m : Node) (d : Done) : Type 0 where
  pub done : (t : Trees IR) (e g : Trees AExpr) → StandsPlan lp ex n t e → StandsOnce expr_shape ex (m ∷ []) g → Tended ks lp ex now n m t g d

pub expr_first : (ks : List RuleKind) (lp : List IR) (ex : List AExpr) (n m : Node) → IsValid (plan_at lp ex n) → TriedExpr ks lp ex ex n m idle
expr_first ks lp ex n m v = record { done = λ t e g h s. tended_none ks lp ex n m t e g v h s }

-- the plan now, and what it still lists
pub record ExprStays (lp : List IR) (ex now : List AExpr) (n m : Node) (replaced : ℕ) : Type 0 where
  pub stays : Stays lp lp ex now n replaced
  pub listed : ListsExpr lp now n m
  pub inside : m.0 < length now

pub expr_inside : (now : List AExpr) (m : Node) (g : Trees AExpr) → StandsOnce expr_shape now (m ∷ []) g → m.0 < length now
expr_inside now m no_roses s = absurd s.stands
expr_inside now m (more (rose l p kids) rest) s = slice_get_within now m.0 p s.stands.1

pub expr_stays : (ks : List RuleKind) (lp : List IR) (ex now : List AExpr) (n m : Node) (d : Done) → IsPlan lp ex n → ListsExpr lp ex n m → TriedExpr ks lp ex now n m d → ExprStays lp ex now n m d.replaced
expr_stays ks lp ex now n m d plan l tried =
    let at = stands_at ex (listed_roots l.entry) l.trees m l.stand l.reached in
    let x = tried.done plan.nodes plan.exprs at.0 plan.stands at.1 in
    record {
      stays = stays ks lp lp ex now n plan.nodes plan.exprs d plan.stands (tended_brought ks lp ex now n m plan.nodes plan.exprs at.0 d plan.stands l at.1 x);
      listed = (become_exprs lp ex now n m plan.nodes plan.exprs at.0 x.tree plan.stands l at.1 x.places).listed;
      inside = expr_inside now m x.tree x.places.stands;
    }

pub step : (ks : List RuleKind) (lp : List IR) (ex now grown : List AExpr) (n m : Node) (d w : Done) → ListsExpr lp ex n m → TriedExpr ks lp ex now n m d → ((t : Trees IR) (e g : Trees AExpr) → StandsPlan lp now n t e → StandsOnce expr_shape now (m ∷ []) g → Tended ks lp now grown n m t g w) → TriedExpr ks lp ex grown n m (both d w)
step ks lp ex now grown n m d w l tried call = record {
  done = λ t e g h s.
      let x = tried.done t e g h s in
      let b = become_exprs lp ex now n m t e g x.tree h l s x.places in
      tended_then ks lp ex now grown n m t g d w x (call t b.exprs x.tree (record { nodes = h.nodes; exprs = b.under.stands }) x.places.stands);
}

pub expr_counted : (k : RuleKind) (own : Bool) (lp : List IR) (ex now grown : List AExpr) (n m : Node) (q : AExpr) (d : Done) → is_counted k ≡ true → ListsExpr lp ex n m → TriedExpr (k ∷ []) lp ex now n m d → ((g : Trees AExpr) → StandsOnce expr_shape now (m ∷ []) g → AnswersExpr k own lp now grown n m g (Some q)) → TriedExpr (k ∷ []) lp ex (slice_set grown m.0 q) n m (record { changed = true; replaced = d.replaced + 1 })
expr_counted k own lp ex now grown n m q d c l tried call = subst (λ (w : Done). TriedExpr (k ∷ []) lp ex (slice_set grown m.0 q) n m w) (more_counted d k c) (step (k ∷ []) lp ex now (slice_set grown m.0 q) n m d (one_done k) l tried (λ t e g h s. tended_answer k own lp now grown n m t g q h.nodes (call g s)))

pub expr_silent : (k : RuleKind) (own : Bool) (lp : List IR) (ex now grown : List AExpr) (n m : Node) (q : AExpr) (d : Done) → is_counted k ≡ false → ListsExpr lp ex n m → TriedExpr (k ∷ []) lp ex now n m d → ((g : Trees AExpr) → StandsOnce expr_shape now (m ∷ []) g → AnswersExpr k own lp now grown n m g (Some q)) → TriedExpr (k ∷ []) lp ex (slice_set grown m.0 q) n m (record { changed = true; replaced = d.replaced })
expr_silent k own lp ex now grown n m q d c l tried call = subst (λ (w : Done). TriedExpr (k ∷ []) lp ex (slice_set grown m.0 q) n m w) (more_silent d k c) (step (k ∷ []) lp ex now (slice_set grown m.0 q) n m d (one_done k) l tried (λ t e g h s. tended_answer k own lp now grown n m t g q h.nodes (call g s)))

pub expr_end : (k : RuleKind) (own : Bool) (lp : List IR) (ex now grown : List AExpr) (n m : Node) (d : Done) → IsPlan lp ex n → ListsExpr lp ex n m → TriedExpr (k ∷ []) lp ex now n m d → ((g : Trees AExpr) → StandsOnce expr_shape now (m ∷ []) g → AnswersExpr k own lp now grown n m g None) → TriedExpr (k ∷ []) lp ex grown n m d
expr_end k own lp ex now grown n m d plan l tried call =
    let v = (expr_stays (k ∷ []) lp ex now n m d plan l tried).stays.valid in
    subst (λ (w : Done). TriedExpr (k ∷ []) lp ex grown n m w) (both_idle d) (step (k ∷ []) lp ex now grown n m d idle l tried (λ t e g h s. tended_end k own lp now grown n m t g v h.nodes (call g s)))

pub expr_falls : (k : RuleKind) (own : Bool) (lp : List IR) (ex now grown : List AExpr) (n m : Node) (q : AExpr) (d : Done) → IsPlan lp ex n → ListsExpr lp ex n m → TriedExpr (k ∷ []) lp ex now n m d → ((g : Trees AExpr) → StandsOnce expr_shape now (m ∷ []) g → AnswersExpr k own lp now grown n m g (Some q)) → weight (plan_at lp (slice_set grown m.0 q) n) < weight (plan_at lp now n)
expr_falls k own lp ex now grown n m q d plan l tried call =
    let listed = (expr_stays (k ∷ []) lp ex now n m d plan l tried).listed in
    let at = stands_at now (listed_roots listed.entry) listed.trees m listed.stand listed.reached in
    (call at.0 at.1).better.lighter

pub expr_room : (k : RuleKind) (own : Bool) (lp : List IR) (ex now grown : List AExpr) (n m : Node) (q : AExpr) (d : Done) → IsPlan lp ex n → ListsExpr lp ex n m → TriedExpr (k ∷ []) lp ex now n m d → ((g : Trees AExpr) → StandsOnce expr_shape now (m ∷ []) g → AnswersExpr k own lp now grown n m g (Some q)) → d.replaced + 1 ≤ weight (plan_at lp ex n)
expr_room k own lp ex now grown n m q d plan l tried call =
    let f = expr_falls k own lp ex now grown n m q d plan l tried call in
    let s = (expr_stays (k ∷ []) lp ex now n m d plan l tried).stays.weighs in
    omega (arith, f, s)

-- Further rules after some

tended_weaker : (ks ls : List RuleKind) (lp : List IR) (ex grown : List AExpr) (n m : Node) (t : Trees IR) (g : Trees AExpr) (d : Done) → (are_counted ls ≡ true → are_counted ks ≡ true) → Tended ks lp ex grown n m t g d → Tended ls lp ex grown n m t g d
tended_weaker ks ls lp ex grown n m t g d sub x = record { tree = x.tree; places = x.places; reworks = reworks_weaker ks ls (bare (plans_of grown t)) (bare (plans_of ex t)) d sub x.reworks }

pub expr_then : (ks ls : List RuleKind) (lp : List IR) (ex now grown : List AExpr) (n m : Node) (d w : Done) → ListsExpr lp ex n m → TriedExpr ks lp ex now n m d → ((t : Trees IR) (e g : Trees AExpr) → StandsPlan lp now n t e → StandsOnce expr_shape now (m ∷ []) g → Tended ls lp now grown n m t g w) → TriedExpr (ks ++ ls) lp ex grown n m (both d w)
expr_then ks ls lp ex now grown n m d w l tried call =
    step (ks ++ ls) lp ex now grown n m d w l
    (record { done = λ t e g h s. tended_weaker ks (ks ++ ls) lp ex now n m t g d (λ c. (counted_join ks ls c).0) (tried.done t e g h s) })
    (λ t e g h s. tended_weaker ls (ks ++ ls) lp now grown n m t g w (λ c. (counted_join ks ls c).1) (call t e g h s))

pub expr_next : (ks : List RuleKind) (i : ℕ) (k : RuleKind) (lp : List IR) (ex now grown : List AExpr) (n m : Node) (d w : Done) → take (i + 1) ks ≡ take i ks ++ k ∷ [] → ListsExpr lp ex n m → TriedExpr (take i ks) lp ex now n m d → ((t : Trees IR) (e g : Trees AExpr) → StandsPlan lp now n t e → StandsOnce expr_shape now (m ∷ []) g → Tended (k ∷ []) lp now grown n m t g w) → TriedExpr (take (i + 1) ks) lp ex grown n m (both d w)
expr_next ks i k lp ex now grown n m d w next l tried call = rw next (expr_then (take i ks) (k ∷ []) lp ex now grown n m d w l tried call)
