-- Walks of one plan, one after another.
use Rattle.std.proofs.Common.{◌≡◌, ℕ, ◌+◌, ◌<◌, ◌≤◌, ◌||◌, Bool, true, false, not, List, [], ◌∷◌, refl, sym, ap, ◌∙◌, subst, arith}
use Rattle.plan_core.specs.declared.arena.Node.{Node}
use Rattle.plan_tree.specs.Stands.{Trees}
use Rattle.plan_expr.specs.declared.aexpr.AExpr.{AExpr}
use Rattle.plan_ir.specs.declared.ir.IR.{IR}
use Rattle.plan_ir.specs.Parts.{IsPlan, StandsPlan}
use Rattle.plan_ir.specs.Plans.{Plan, bare, plans_of}
use Rattle.plan_meaning.specs.PlanAt.{plan_at}
use Rattle.plan_meaning.specs.Steps.{IsValid}
use Rattle.plan_pass_laws.specs.declared.kind.RuleKind.{RuleKind}
use Rattle.plan_pass_laws.specs.Settling.{Done, Settles, both, idle}
use Rattle.plan_pass_laws.specs.Weights.{weight}
use Rattle.plan_pass_laws.proofs.Reworked.{settles}
use Rattle.plan_rule.specs.Calls.{plan_of}
use Rattle.plan_reshape.specs.Walking.{Brought, WalkedAt}
use Rattle.plan_pass_laws.specs.Becoming.{Becomes}
use Rattle.plan_reshape.proofs.Brings.{Stays, all_valid_at, brought_refl, brought_then, in_one, out_one, plan_at_is, stays}

-- the loop over them made another of the plan at a number
pub record SettlesAt (ks : List RuleKind) (lp new : List IR) (ex grown : List AExpr) (n : Node) (t : Trees IR) (e : Trees AExpr) (replaced : ℕ) : Type 0 where
  pub becomes : Becomes lp new ex grown n t e
  pub settles : Settles ks (plan_of ex t) (plan_of grown becomes.nodes) replaced

-- the walks so far
pub record Since (ks : List RuleKind) (a b : List IR) (x y : List AExpr) (n : Node) (d : Done) : Type 0 where
  pub done : (t : Trees IR) (e : Trees AExpr) → StandsPlan a x n t e → Brought ks a b x y (n ∷ []) t e d

pub since_first : (ks : List RuleKind) (a : List IR) (x : List AExpr) (n : Node) → IsValid (plan_at a x n) → Since ks a a x x n idle
since_first ks a x n v = record { done = λ t e h. brought_refl ks a x (n ∷ []) t e (record { nodes = h.nodes; exprs = h.exprs }) (all_valid_at a x n t h.nodes v) }

pub since_stays : (ks : List RuleKind) (a b : List IR) (x y : List AExpr) (n : Node) (d : Done) → IsPlan a x n → Since ks a b x y n d → Stays a b x y n d.replaced
since_stays ks a b x y n d plan s = stays ks a b x y n plan.nodes plan.exprs d plan.stands (s.done plan.nodes plan.exprs plan.stands)

abbrev pub brought_walked : (ks : List RuleKind) (a b : List IR) (x y : List AExpr) (n : Node) (t : Trees IR) (e : Trees AExpr) (d : Done) → StandsPlan a x n t e → WalkedAt ks a b x y n t e d → Brought ks a b x y (n ∷ []) t e d
brought_walked ks a b x y n t e d h w = record {
  become = record { nodes = w.becomes.nodes; exprs = w.becomes.exprs; places = w.becomes.places; under = w.becomes.under };
  reworks = in_one ks a b x y n t w.becomes.nodes d h.nodes w.becomes.places.stands w.walked.reworks;
}

pub since_next : (ks : List RuleKind) (a b c : List IR) (x y z : List AExpr) (n : Node) (d w : Done) → Since ks a b x y n d → ((t : Trees IR) (e : Trees AExpr) → StandsPlan b y n t e → WalkedAt ks b c y z n t e w) → Since ks a c x z n (both d w)
since_next ks a b c x y z n d w s call = record {
  done = λ t e h.
      let g = s.done t e h in
      let at : StandsPlan b y n g.become.nodes g.become.exprs = record { nodes = g.become.places.stands; exprs = g.become.under.stands } in
      brought_then ks a b c x y z (n ∷ []) t e d w g (brought_walked ks b c y z n g.become.nodes g.become.exprs w at (call g.become.nodes g.become.exprs at));
}

pub since_room : (ks : List RuleKind) (a b c : List IR) (x y z : List AExpr) (n : Node) (d w : Done) → IsPlan a x n → Since ks a b x y n d → ((t : Trees IR) (e : Trees AExpr) → StandsPlan b y n t e → WalkedAt ks b c y z n t e w) → d.replaced + w.replaced ≤ weight (plan_at a x n)
since_room ks a b c x y z n d w plan s call = let k = (since_stays ks a c x z n (both d w) plan (since_next ks a b c x y z n d w s call)).weighs in omega (arith, k)

pub since_falls : (ks : List RuleKind) (a b c : List IR) (x y z : List AExpr) (n : Node) (d w : Done) → IsPlan a x n → Since ks a b x y n d → ((t : Trees IR) (e : Trees AExpr) → StandsPlan b y n t e → WalkedAt ks b c y z n t e w) → w.changed ≡ true → weight (plan_at c z n) < weight (plan_at b y n)
since_falls ks a b c x y z n d w plan s call changed =
    let p = (since_stays ks a b x y n d plan s).plan in
    let r = call p.nodes p.exprs p.stands in
    let m = r.walked.reworks.moved changed in
    let now : weight (plan_at c z n) ≡ weight (plan_of z r.becomes.nodes) = ap weight (plan_at_is c z n r.becomes.nodes r.becomes.places.stands) in
    let was : weight (plan_at b y n) ≡ weight (plan_of y p.nodes) = ap weight (plan_at_is b y n p.nodes p.stands.nodes) in
    omega (arith, m, now, was)

pub since_end : (ks : List RuleKind) (a b c : List IR) (x y z : List AExpr) (n : Node) (d w : Done) → Since ks a b x y n d → ((t : Trees IR) (e : Trees AExpr) → StandsPlan b y n t e → WalkedAt ks b c y z n t e w) → w.changed ≡ false → (t : Trees IR) (e : Trees AExpr) → StandsPlan a x n t e → SettlesAt ks a c x z n t e (d.replaced + w.replaced)
since_end ks a b c x y z n d w s call still t e h =
    let g = s.done t e h in
    let at : StandsPlan b y n g.become.nodes g.become.exprs = record { nodes = g.become.places.stands; exprs = g.become.under.stands } in
    let r = call g.become.nodes g.become.exprs at in
    let all = brought_then ks a b c x y z (n ∷ []) t e d w g (brought_walked ks b c y z n g.become.nodes g.become.exprs w at r) in
    record {
      becomes = record { nodes = all.become.nodes; exprs = all.become.exprs; places = all.become.places; under = all.become.under };
      settles = settles ks (plan_of z r.becomes.nodes) (plan_of y g.become.nodes) (plan_of x t) d w (out_one ks a b x y n t g.become.nodes d h.nodes g.become.places.stands g.reworks) r.walked still;
    }

-- the same of the plan that stands at the number
pub since_settles : (ks : List RuleKind) (a b c : List IR) (x y z : List AExpr) (n : Node) (d w : Done) → IsPlan a x n → Since ks a b x y n d → ((t : Trees IR) (e : Trees AExpr) → StandsPlan b y n t e → WalkedAt ks b c y z n t e w) → w.changed ≡ false → Settles ks (plan_at a x n) (plan_at c z n) (d.replaced + w.replaced)
since_settles ks a b c x y z n d w plan s call unchanged =
    let r = since_end ks a b c x y z n d w s call unchanged plan.nodes plan.exprs plan.stands in
    let was = plan_at_is a x n plan.nodes plan.stands.nodes in
    let now = plan_at_is c z n r.becomes.nodes r.becomes.places.stands in
    subst (λ (q : Plan). Settles ks q (plan_at c z n) (d.replaced + w.replaced)) (sym was) (subst (λ (q : Plan). Settles ks (plan_of x plan.nodes) q (d.replaced + w.replaced)) (sym now) r.settles)

pub not_is_true : (b : Bool) → not b ≡ true → b ≡ false
not_is_true true h = cc
not_is_true false h = refl

pub not_is_false : (b : Bool) → not b ≡ false → b ≡ true
not_is_false true h = refl
not_is_false false h = cc
