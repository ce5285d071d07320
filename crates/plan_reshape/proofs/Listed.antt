-- The expressions that a node lists, walked one after another.
use Rattle.std.proofs.Common.{◌≡◌, ℕ, ◌+◌, ◌<◌, ◌≤◌, ◌||◌, false, List, [], ◌∷◌, ◌++◌, append_assoc, length, Some, refl, sym, ap, ◌∙◌, subst, arith}
use Rattle.std.specs.List.{slice_get}
use Rattle.std.proofs.lemmas.Bool.{or_parts}
use Rattle.plan_core.specs.declared.arena.Node.{Node}
use Rattle.plan_tree.specs.Stands.{Trees, Reaches, StandsOnce}
use Rattle.plan_tree.proofs.Frames.{join-left, join-right}
use Rattle.plan_tree.proofs.SplitLemmas.{StandsOnce-split}
use Rattle.plan_expr.specs.declared.aexpr.AExpr.{AExpr}
use Rattle.plan_expr.specs.Operands.{expr_shape}
use Rattle.plan_ir.specs.declared.ir.IR.{IR}
use Rattle.plan_ir.specs.Parts.{IsPlan, StandsPlan}
use Rattle.plan_ir.specs.Plans.{bare, plans_of}
use Rattle.plan_meaning.specs.PlanAt.{plan_at}
use Rattle.plan_pass_laws.specs.declared.kind.RuleKind.{RuleKind}
use Rattle.plan_pass_laws.specs.Settling.{Done, both}
use Rattle.plan_pass_laws.specs.Weights.{weight}
use Rattle.plan_pass_laws.proofs.ClearedPatterns.{one_cleared}
use Rattle.plan_rule.specs.Calls.{ListsExpr, plan_of}
use Rattle.plan_reshape.specs.Walking.{AtTop, Brought, Tended}
use Rattle.plan_reshape.proofs.Brings.{brought_then, cleared_of}
use Rattle.plan_rule.proofs.Listed.{listed_roots}
use Rattle.plan_reshape.proofs.InTurn.{next_of, one_longer}
use Rattle.plan_reshape.proofs.Operands.{root_reached, start_tree}
use Rattle.plan_reshape.proofs.Repeats.{Since, since_stays}
use Rattle.plan_reshape.proofs.Tends.{roots_first, tended_brought}

pub lists_root : (lp : List IR) (now : List AExpr) (n i : Node) (p : IR) (left rest : List Node) → IsPlan lp now n → slice_get lp n.0 ≡ Some p → (left ++ i ∷ []) ++ rest ≡ listed_roots p → ListsExpr lp now n i
lists_root lp now n i p left rest plan at eq =
    let first = roots_first lp n p plan.nodes plan.stands.nodes at in
    let s = StandsOnce-split expr_shape now (listed_roots p) first.0 plan.exprs (subst (λ (ns : List Node). StandsOnce expr_shape now ns plan.exprs) first.1 plan.stands.exprs) in
    let q = StandsOnce-split expr_shape now (left ++ i ∷ []) rest s.left (subst (λ (ns : List Node). StandsOnce expr_shape now ns s.left) (sym eq) s.first) in
    let r = StandsOnce-split expr_shape now left (i ∷ []) q.left q.first in
    let here : Reaches q.left i.0 = subst (λ (f : Trees AExpr). Reaches f i.0) (sym r.is) (join-right expr_shape r.left r.right i.0 (root_reached now i r.right r.second.stands)) in
    record { entry = p; there = at; trees = s.left; stand = s.first; reached = subst (λ (f : Trees AExpr). Reaches f i.0) (sym q.is) (join-left expr_shape q.left q.right i.0 here) }

-- the roots up to a place were walked
pub record Roots (p : IR) (i : ℕ) : Type 0 where
  pub gone : List Node
  pub rest : List Node
  pub split : gone ++ rest ≡ listed_roots p
  pub at : length gone ≡ i

pub roots_none : (p : IR) → Roots p 0
roots_none p = record { gone = []; rest = listed_roots p; split = refl; at = refl }

pub roots_next : (p : IR) (i : ℕ) (k : Node) → slice_get (listed_roots p) i ≡ Some k → Roots p i → Roots p (i + 1)
roots_next p i k get r =
    let next = next_of r.gone r.rest (listed_roots p) i k r.split r.at get in
    record { gone = r.gone ++ k ∷ []; rest = next.0; split = append_assoc r.gone (k ∷ []) next.0 ∙ ap (λ (ns : List Node). r.gone ++ ns) (sym next.1) ∙ r.split; at = one_longer r.gone k i r.at }

pub root_listed : (lp : List IR) (now : List AExpr) (n : Node) (p : IR) (i : ℕ) (k : Node) → IsPlan lp now n → slice_get lp n.0 ≡ Some p → slice_get (listed_roots p) i ≡ Some k → Roots p i → ListsExpr lp now n k
root_listed lp now n p i k plan at get r =
    let next = next_of r.gone r.rest (listed_roots p) i k r.split r.at get in
    lists_root lp now n k p r.gone next.0 plan at (append_assoc r.gone (k ∷ []) next.0 ∙ ap (λ (ns : List Node). r.gone ++ ns) (sym next.1) ∙ r.split)

pub since_tended : (ks : List RuleKind) (lp : List IR) (x y z : List AExpr) (n m : Node) (d w : Done) → Since ks lp lp x y n d → ListsExpr lp y n m → ((t : Trees IR) (e g : Trees AExpr) → StandsPlan lp y n t e → StandsOnce expr_shape y (m ∷ []) g → Tended ks lp y z n m t g w) → Since ks lp lp x z n (both d w)
since_tended ks lp x y z n m d w s l call = record {
  done = λ t e h.
      let g = s.done t e h in
      let at : StandsPlan lp y n g.become.nodes g.become.exprs = record { nodes = g.become.places.stands; exprs = g.become.under.stands } in
      let tree = start_tree lp y n m l in
      brought_then ks lp lp lp x y z (n ∷ []) t e d w g (tended_brought ks lp y z n m g.become.nodes g.become.exprs tree.0 w at l tree.1 (call g.become.nodes g.become.exprs tree.0 at tree.1));
}

-- the expressions of a node, after the rules were called at it
pub top_exprs : (ks : List RuleKind) (a b : List IR) (x y z : List AExpr) (n : Node) (t : Trees IR) (e : Trees AExpr) (d w : Done) → AtTop ks a b x y n t e d → ((g : Trees IR) (h : Trees AExpr) → StandsPlan b y n g h → Brought ks b b y z (n ∷ []) g h w) → AtTop ks a b x z n t e (both d w)
top_exprs ks a b x y z n t e d w p call =
    let q = call p.brought.become.nodes p.brought.become.exprs (record { nodes = p.brought.become.places.stands; exprs = p.brought.become.under.stands }) in
    record {
      brought = brought_then ks a b b x y z (n ∷ []) t e d w p.brought q;
      quiet = λ m.
          let s = or_parts d.changed w.changed m in
          one_cleared ks (plan_of z q.become.nodes) (plan_of y p.brought.become.nodes) (cleared_of (bare (plans_of z q.become.nodes)) (bare (plans_of y p.brought.become.nodes)) (q.reworks.still s.1)) (p.quiet s.0);
    }
