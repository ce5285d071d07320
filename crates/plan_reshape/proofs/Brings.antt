-- How plans over two arenas become others, call after call.
use Rattle.std.proofs.Common.{◌≡◌, ℕ, ◌+◌, ◌<◌, ◌≤◌, ◌||◌, ◌⊎◌, inl, inr, Bool, true, false, cond, List, [], ◌∷◌, ◌++◌, length, Option, Some, None, refl, sym, ap, ap₂, ◌∙◌, subst, arith}
use Rattle.std.specs.List.{slice_get, slice_set}
use Rattle.std.proofs.lemmas.Bool.{or_parts, and_parts}
use Rattle.std.proofs.lemmas.Option.{slice_get_within}
use Rattle.plan_core.specs.declared.arena.Node.{Node}
use Rattle.plan_tree.specs.Rose.{Roses, rose, no_roses, more, join as beside}
use Rattle.plan_tree.specs.Stands.{Shape, Trees, Reaches, Rewrites, StandsOnce}
use Rattle.plan_tree.proofs.Frames.{Rewrites-refl, Rewrites-trans}
use Rattle.plan_tree.proofs.ReadLemmas.{trees_at-is}
use Rattle.plan_expr.specs.declared.aexpr.AExpr.{AExpr}
use Rattle.plan_expr.specs.Operands.{expr_shape}
use Rattle.plan_ir.specs.declared.ir.IR.{IR}
use Rattle.plan_ir.specs.Parts.{IsPlan, StandsPlan, plan_shape, roots_in}
use Rattle.plan_ir.specs.Plans.{Op, Plan, bare, plans_of}
use Rattle.plan_meaning.specs.PlanAt.{one_plan, plan_at}
use Rattle.plan_meaning.specs.Relating.{EachRefines}
use Rattle.plan_meaning.specs.Steps.{IsValid}
use Rattle.plan_meaning.specs.Typing.{AllValid}
use Rattle.plan_pass_laws.specs.declared.kind.RuleKind.{RuleKind}
use Rattle.plan_pass_laws.specs.Clearing.{AreCleared, Cleared}
use Rattle.plan_pass_laws.specs.Patterns.{are_counted, is_counted, shows, shows_one}
use Rattle.plan_pass_laws.specs.Settling.{Done, Reworked, Reworks, both, idle, one_done}
use Rattle.plan_pass_laws.specs.Weights.{weight, weight_in}
use Rattle.plan_pass_laws.proofs.Reworked.{reworked_answer, reworks_cleared, reworks_refl, reworks_trans, reworks_weaker}
use Rattle.plan_rule.specs.Calls.{Answers, Leaves, Replaces, plan_of}
use Rattle.plan_pass_laws.specs.Becoming.{AllBecome, Becomes}
use Rattle.plan_reshape.specs.Walking.{AtTop, Brought}

abbrev pub Plans : Type 0
Plans = Roses (Unit {0}) Op

-- trees of nodes stand at numbers, over trees of their expressions
pub record StandAll (lp : List IR) (ex : List AExpr) (ns : List Node) (f : Trees IR) (e : Trees AExpr) : Type 0 where
  pub nodes : StandsOnce plan_shape lp ns f
  pub exprs : StandsOnce expr_shape ex (roots_in f) e

-- trees were rewritten, and what they became again, at other numbers
pub rewrites_then : {P : Type 0} (S : Shape P) (a b c : List P) (ms ns : List Node) (f g h : Trees P) → Rewrites S a b ms f g → Rewrites S b c ns g h → Rewrites S a c ns f h
rewrites_then S a b c ms ns f g h x y = record {
  stands = y.stands;
  keeps = record {
    grows = omega (arith, x.keeps.grows, y.keeps.grows);
    same = λ k lt no. y.keeps.same k (omega (arith, x.keeps.grows)) (λ r. elim (x.within k r) as (λ _. ⊥) [ inl u ↦ no u | inr v ↦ absurd (omega arith) ]) ∙ x.keeps.same k lt no;
  };
  within = λ k r. elim (y.within k r) as (λ _. Reaches f k ⊎ (length a ≤ k)) [
    | inl u ↦ x.within k u
    | inr v ↦ inr (omega (arith, x.keeps.grows))
  ];
}

abbrev pub become_refl : (lp : List IR) (ex : List AExpr) (ns : List Node) (f : Trees IR) (e : Trees AExpr) → StandAll lp ex ns f e → AllBecome lp lp ex ex ns f e
become_refl lp ex ns f e h = record { nodes = f; exprs = e; places = Rewrites-refl plan_shape lp ns f h.nodes; under = Rewrites-refl expr_shape ex (roots_in f) e h.exprs }

abbrev pub become_then : (a b c : List IR) (x y z : List AExpr) (ns : List Node) (f : Trees IR) (e : Trees AExpr) (p : AllBecome a b x y ns f e) → AllBecome b c y z ns p.nodes p.exprs → AllBecome a c x z ns f e
become_then a b c x y z ns f e p q = record {
  nodes = q.nodes;
  exprs = q.exprs;
  places = Rewrites-trans plan_shape a b c ns f p.nodes q.nodes p.places q.places;
  under = rewrites_then expr_shape x y z (roots_in p.nodes) (roots_in q.nodes) e p.exprs q.exprs p.under q.under;
}

-- One plan

pub one_of : (lp : List IR) (ex : List AExpr) (n : Node) (t : Trees IR) → StandsOnce plan_shape lp (n ∷ []) t → bare (plans_of ex t) ≡ more (plan_of ex t) no_roses
one_of lp ex n no_roses h = absurd h.stands
one_of lp ex n (more (rose m p kids) no_roses) h = refl
one_of lp ex n (more (rose m p kids) (more (rose l q us) rest)) h = absurd h.stands.4

pub plan_at_is : (lp : List IR) (ex : List AExpr) (n : Node) (t : Trees IR) → StandsOnce plan_shape lp (n ∷ []) t → plan_at lp ex n ≡ plan_of ex t
plan_at_is lp ex n t h = ap (λ (f : Trees IR). one_plan (bare (plans_of ex f))) (trees_at-is plan_shape lp (n ∷ []) t h)

pub valid_one : (p : Plan) → IsValid p → AllValid (more p no_roses)
valid_one (rose n op ts) v = (v.0, v.1, tt)

pub cleared_one : (q p : Plan) → Cleared q p → AreCleared (more q no_roses) (more p no_roses)
cleared_one (rose m o us) (rose n op ts) c = (c.0, c.1, tt)

pub cleared_of : (qs ps : Plans) → AreCleared qs ps → Cleared (one_plan qs) (one_plan ps)
cleared_of no_roses no_roses c = (inl refl, tt)
cleared_of no_roses (more p ps) c = absurd c
cleared_of (more q qs) no_roses c = absurd c
cleared_of (more (rose m o us) qs) (more (rose n op ts) ps) c = (c.0, c.1)

pub each_valid : (qs ps : Plans) → EachRefines qs ps → AllValid qs
each_valid no_roses no_roses h = tt
each_valid (more (rose n op ts) qs) (more p ps) h = (h.0.valid.0, h.0.valid.1, each_valid qs ps h.1)
each_valid no_roses (more p ps) h = absurd h
each_valid (more q qs) no_roses h = absurd h

-- plans in a list of one
pub in_one : (ks : List RuleKind) (a b : List IR) (x y : List AExpr) (n : Node) (t u : Trees IR) (d : Done) → StandsOnce plan_shape a (n ∷ []) t → StandsOnce plan_shape b (n ∷ []) u → Reworked ks (plan_of y u) (plan_of x t) d → Reworks ks (bare (plans_of y u)) (bare (plans_of x t)) d
in_one ks a b x y n t u d h k r = subst (λ (l : Plans). Reworks ks l (bare (plans_of x t)) d) (sym (one_of b y n u k)) (subst (λ (l : Plans). Reworks ks (more (plan_of y u) no_roses) l d) (sym (one_of a x n t h)) r)

pub out_one : (ks : List RuleKind) (a b : List IR) (x y : List AExpr) (n : Node) (t u : Trees IR) (d : Done) → StandsOnce plan_shape a (n ∷ []) t → StandsOnce plan_shape b (n ∷ []) u → Reworks ks (bare (plans_of y u)) (bare (plans_of x t)) d → Reworked ks (plan_of y u) (plan_of x t) d
out_one ks a b x y n t u d h k r = subst (λ (l : Plans). Reworks ks l (more (plan_of x t) no_roses) d) (one_of b y n u k) (subst (λ (l : Plans). Reworks ks (bare (plans_of y u)) l d) (one_of a x n t h) r)

-- What was done

pub both_idle : (d : Done) → both d idle ≡ d
both_idle d = ap₂ (λ (c : Bool) (k : ℕ). let e : Done = record { changed = c; replaced = k } in e) (at d.changed) (omega arith)
  where
    at : (b : Bool) → (b || false) ≡ b
    at true = refl
    at false = refl

pub brought_refl : (ks : List RuleKind) (lp : List IR) (ex : List AExpr) (ns : List Node) (f : Trees IR) (e : Trees AExpr) → StandAll lp ex ns f e → AllValid (bare (plans_of ex f)) → Brought ks lp lp ex ex ns f e idle
brought_refl ks lp ex ns f e h v = record { become = become_refl lp ex ns f e h; reworks = reworks_refl ks (bare (plans_of ex f)) v }

abbrev pub brought_then : (ks : List RuleKind) (a b c : List IR) (x y z : List AExpr) (ns : List Node) (f : Trees IR) (e : Trees AExpr) (d w : Done) (p : Brought ks a b x y ns f e d) → Brought ks b c y z ns p.become.nodes p.become.exprs w → Brought ks a c x z ns f e (both d w)
brought_then ks a b c x y z ns f e d w p q = record {
  become = become_then a b c x y z ns f e p.become q.become;
  reworks = reworks_trans ks (bare (plans_of z q.become.nodes)) (bare (plans_of y p.become.nodes)) (bare (plans_of x f)) d w p.reworks q.reworks;
}

abbrev pub brought_weaker : (ks ls : List RuleKind) (a b : List IR) (x y : List AExpr) (ns : List Node) (f : Trees IR) (e : Trees AExpr) (d : Done) → (are_counted ls ≡ true → are_counted ks ≡ true) → Brought ks a b x y ns f e d → Brought ls a b x y ns f e d
brought_weaker ks ls a b x y ns f e d sub p = record { become = p.become; reworks = reworks_weaker ks ls (bare (plans_of y p.become.nodes)) (bare (plans_of x f)) d sub p.reworks }

abbrev brought_one : (ks : List RuleKind) (a b : List IR) (x y : List AExpr) (n : Node) (t : Trees IR) (e : Trees AExpr) (d : Done) → StandsPlan a x n t e → (p : Becomes a b x y n t e) → Reworked ks (plan_of y p.nodes) (plan_of x t) d → Brought ks a b x y (n ∷ []) t e d
brought_one ks a b x y n t e d h p r = record {
  become = record { nodes = p.nodes; exprs = p.exprs; places = p.places; under = p.under };
  reworks = in_one ks a b x y n t p.nodes d h.nodes p.places.stands r;
}

pub brought_answer : (k : RuleKind) (own : Bool) (a b : List IR) (x y : List AExpr) (n : Node) (t : Trees IR) (e : Trees AExpr) → StandsPlan a x n t e → Replaces k own a b x y n t e → Brought (k ∷ []) a b x y (n ∷ []) t e (one_done k)
brought_answer k own a b x y n t e h r = brought_one (k ∷ []) a b x y n t e (one_done k) h r.becomes (reworked_answer k (plan_of y r.becomes.nodes) (plan_of x t) r.better.refines r.better.keeps r.better.lighter r.better.smaller)

abbrev pub brought_left : (k : RuleKind) (own : Bool) (a b : List IR) (x y : List AExpr) (n : Node) (t : Trees IR) (e : Trees AExpr) → StandsPlan a x n t e → IsValid (plan_of x t) → Leaves k own a b x y n t e → Brought (k ∷ []) a b x y (n ∷ []) t e idle
brought_left k own a b x y n t e h v r = brought_one (k ∷ []) a b x y n t e idle h r.becomes (reworks_cleared (k ∷ []) (more (plan_of y r.becomes.nodes) no_roses) (more (plan_of x t) no_roses) (valid_one (plan_of x t) v) (cleared_one (plan_of y r.becomes.nodes) (plan_of x t) r.cleared))

-- The plan at a number after some work

pub record Stays (a b : List IR) (x y : List AExpr) (n : Node) (replaced : ℕ) : Type 0 where
  pub plan : IsPlan b y n
  pub valid : IsValid (plan_at b y n)
  pub weighs : replaced + weight (plan_at b y n) ≤ weight (plan_at a x n)
  pub inside : n.0 < length b

inside_of : (lp : List IR) (n : Node) (t : Trees IR) → StandsOnce plan_shape lp (n ∷ []) t → n.0 < length lp
inside_of lp n no_roses h = absurd h.stands
inside_of lp n (more (rose m p kids) rest) h = slice_get_within lp n.0 p h.stands.1

pub stays : (ks : List RuleKind) (a b : List IR) (x y : List AExpr) (n : Node) (t : Trees IR) (e : Trees AExpr) (d : Done) → StandsPlan a x n t e → Brought ks a b x y (n ∷ []) t e d → Stays a b x y n d.replaced
stays ks a b x y n t e d h p =
    let r = out_one ks a b x y n t p.become.nodes d h.nodes p.become.places.stands p.reworks in
    let now = plan_at_is b y n p.become.nodes p.become.places.stands in
    let was = plan_at_is a x n t h.nodes in
    let c : d.replaced + (weight (plan_of y p.become.nodes) + 0) ≤ weight (plan_of x t) + 0 = r.counted in
    let wn : weight (plan_at b y n) ≡ weight (plan_of y p.become.nodes) = ap weight now in
    let ww : weight (plan_at a x n) ≡ weight (plan_of x t) = ap weight was in
    record {
      plan = record { nodes = p.become.nodes; exprs = p.become.exprs; stands = record { nodes = p.become.places.stands; exprs = p.become.under.stands } };
      valid = subst IsValid (sym now) r.refine.0.valid;
      weighs = omega (arith, c, wn, ww);
      inside = inside_of b n p.become.nodes p.become.places.stands;
    }

-- What a rule has done at a node so far

pub record Tried (k : RuleKind) (a b : List IR) (x y : List AExpr) (n : Node) (d : Done) : Type 0 where
  pub done : (t : Trees IR) (e : Trees AExpr) → StandsPlan a x n t e → Brought (k ∷ []) a b x y (n ∷ []) t e d

pub valid_at : (a : List IR) (x : List AExpr) (n : Node) (t : Trees IR) → StandsOnce plan_shape a (n ∷ []) t → IsValid (plan_at a x n) → IsValid (plan_of x t)
valid_at a x n t h v = subst IsValid (plan_at_is a x n t h) v

pub all_valid_at : (a : List IR) (x : List AExpr) (n : Node) (t : Trees IR) → StandsOnce plan_shape a (n ∷ []) t → IsValid (plan_at a x n) → AllValid (bare (plans_of x t))
all_valid_at a x n t h v = subst AllValid (sym (one_of a x n t h)) (valid_one (plan_of x t) (valid_at a x n t h v))

pub tried_first : (k : RuleKind) (a : List IR) (x : List AExpr) (n : Node) → IsValid (plan_at a x n) → Tried k a a x x n idle
tried_first k a x n v = record { done = λ t e h. brought_refl (k ∷ []) a x (n ∷ []) t e (record { nodes = h.nodes; exprs = h.exprs }) (all_valid_at a x n t h.nodes v) }

pub tried_stays : (k : RuleKind) (a b : List IR) (x y : List AExpr) (n : Node) (d : Done) → IsPlan a x n → Tried k a b x y n d → Stays a b x y n d.replaced
tried_stays k a b x y n d plan tried = stays (k ∷ []) a b x y n plan.nodes plan.exprs d plan.stands (tried.done plan.nodes plan.exprs plan.stands)

pub tried_more : (k : RuleKind) (own : Bool) (a b c : List IR) (x y z : List AExpr) (n : Node) (p : IR) (d : Done) → Tried k a b x y n d → ((t : Trees IR) (e : Trees AExpr) → StandsPlan b y n t e → Answers k own b c y z n t e (Some p)) → Tried k a (slice_set c n.0 p) x z n (both d (one_done k))
tried_more k own a b c x y z n p d tried call = record {
  done = λ t e h.
      let g = tried.done t e h in
      let s : StandsPlan b y n g.become.nodes g.become.exprs = record { nodes = g.become.places.stands; exprs = g.become.under.stands } in
      brought_then (k ∷ []) a b (slice_set c n.0 p) x y z (n ∷ []) t e d (one_done k) g (brought_answer k own b (slice_set c n.0 p) y z n g.become.nodes g.become.exprs s (call g.become.nodes g.become.exprs s));
}

pub tried_falls : (k : RuleKind) (own : Bool) (a b c : List IR) (x y z : List AExpr) (n : Node) (p : IR) (d : Done) → IsPlan a x n → Tried k a b x y n d → ((t : Trees IR) (e : Trees AExpr) → StandsPlan b y n t e → Answers k own b c y z n t e (Some p)) → weight (plan_at (slice_set c n.0 p) z n) < weight (plan_at b y n)
tried_falls k own a b c x y z n p d plan tried call =
    let s = (tried_stays k a b x y n d plan tried).plan in
    let r = call s.nodes s.exprs s.stands in
    let now : weight (plan_at (slice_set c n.0 p) z n) ≡ weight (plan_of z r.becomes.nodes) = ap weight (plan_at_is (slice_set c n.0 p) z n r.becomes.nodes r.becomes.places.stands) in
    let was : weight (plan_at b y n) ≡ weight (plan_of y s.nodes) = ap weight (plan_at_is b y n s.nodes s.stands.nodes) in
    let l = r.better.lighter in
    omega (arith, now, was, l)

pub tried_end : (k : RuleKind) (own : Bool) (a b c : List IR) (x y z : List AExpr) (n : Node) (d : Done) → Tried k a b x y n d → ((t : Trees IR) (e : Trees AExpr) → StandsPlan b y n t e → Answers k own b c y z n t e None) → (t : Trees IR) (e : Trees AExpr) → StandsPlan a x n t e → AtTop (k ∷ []) a c x z n t e d
tried_end k own a b c x y z n d tried call t e h =
    let g = tried.done t e h in
    let s : StandsPlan b y n g.become.nodes g.become.exprs = record { nodes = g.become.places.stands; exprs = g.become.under.stands } in
    let r = call g.become.nodes g.become.exprs s in
    let v = (out_one (k ∷ []) a b x y n t g.become.nodes d h.nodes g.become.places.stands g.reworks).refine.0.valid in
    let left = brought_left k own b c y z n g.become.nodes g.become.exprs s v r in
    let all = brought_then (k ∷ []) a b c x y z (n ∷ []) t e d idle g left in
    record {
      brought = record { become = all.become; reworks = subst (λ (w : Done). Reworks (k ∷ []) (bare (plans_of z all.become.nodes)) (bare (plans_of x t)) w) (both_idle d) all.reworks };
      quiet = λ _. or_none (shows k (plan_of z r.becomes.nodes)) r.quiet;
    }
  where
    or_none : (b : Bool) → b ≡ false → (b || false) ≡ false
    or_none false e = refl
    or_none true e = cc

or_true : (b : Bool) → (b || true) ≡ true
or_true true = refl
or_true false = refl

pub more_counted : (d : Done) (k : RuleKind) → is_counted k ≡ true → both d (one_done k) ≡ (let e : Done = record { changed = true; replaced = d.replaced + 1 } in e)
more_counted d k e = ap₂ (λ (c : Bool) (r : ℕ). let w : Done = record { changed = c; replaced = r } in w) (or_true d.changed) (ap (λ (b : Bool). d.replaced + cond b 1 0) e)

pub more_silent : (d : Done) (k : RuleKind) → is_counted k ≡ false → both d (one_done k) ≡ (let e : Done = record { changed = true; replaced = d.replaced } in e)
more_silent d k e = ap₂ (λ (c : Bool) (r : ℕ). let w : Done = record { changed = c; replaced = r } in w) (or_true d.changed) (ap (λ (b : Bool). d.replaced + cond b 1 0) e ∙ omega arith)

pub tried_counted : (k : RuleKind) (own : Bool) (a b c : List IR) (x y z : List AExpr) (n : Node) (p : IR) (d : Done) → is_counted k ≡ true → Tried k a b x y n d → ((t : Trees IR) (e : Trees AExpr) → StandsPlan b y n t e → Answers k own b c y z n t e (Some p)) → Tried k a (slice_set c n.0 p) x z n (record { changed = true; replaced = d.replaced + 1 })
tried_counted k own a b c x y z n p d e tried call = subst (λ (w : Done). Tried k a (slice_set c n.0 p) x z n w) (more_counted d k e) (tried_more k own a b c x y z n p d tried call)

pub tried_silent : (k : RuleKind) (own : Bool) (a b c : List IR) (x y z : List AExpr) (n : Node) (p : IR) (d : Done) → is_counted k ≡ false → Tried k a b x y n d → ((t : Trees IR) (e : Trees AExpr) → StandsPlan b y n t e → Answers k own b c y z n t e (Some p)) → Tried k a (slice_set c n.0 p) x z n (record { changed = true; replaced = d.replaced })
tried_silent k own a b c x y z n p d e tried call = subst (λ (w : Done). Tried k a (slice_set c n.0 p) x z n w) (more_silent d k e) (tried_more k own a b c x y z n p d tried call)

-- one answer more, and the count still fits
pub tried_room : (k : RuleKind) (own : Bool) (a b c : List IR) (x y z : List AExpr) (n : Node) (p : IR) (d : Done) → IsPlan a x n → Tried k a b x y n d → ((t : Trees IR) (e : Trees AExpr) → StandsPlan b y n t e → Answers k own b c y z n t e (Some p)) → d.replaced + 1 ≤ weight (plan_at a x n)
tried_room k own a b c x y z n p d plan tried call =
    let l = tried_falls k own a b c x y z n p d plan tried call in
    let s = (tried_stays k a b x y n d plan tried).weighs in
    omega (arith, l, s)

pub plan_inside : (lp : List IR) (ex : List AExpr) (n : Node) → IsPlan lp ex n → n.0 < length lp
plan_inside lp ex n plan = inside_of lp n plan.nodes plan.stands.nodes
