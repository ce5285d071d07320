-- An expression over its operands, which are walked in order.
use Rattle.std.proofs.Common.{◌≡◌, ℕ, ◌+◌, ◌<◌, ◌≤◌, ◌⊎◌, inl, inr, List, [], ◌∷◌, ◌++◌, length, map, append_assoc, Some, refl, sym, ap, ◌∙◌, subst, arith}
use Rattle.std.specs.List.{slice_get}
use Rattle.plan_core.specs.declared.arena.Node.{Node}
use Rattle.plan_tree.specs.Read.{tree_at}
use Rattle.plan_tree.specs.Rose.{Roses, rose, no_roses, more, size, join as beside}
use Rattle.plan_tree.specs.Stands.{Trees, Reaches, Rewrites, Stands, StandsOnce}
use Rattle.plan_tree.proofs.Frames.{Rewrites-refl, join-left, join-right}
use Rattle.plan_tree.proofs.Numbers.{Reaches-within}
use Rattle.plan_tree.proofs.ReadLemmas.{tree_at-is}
use Rattle.plan_tree.proofs.SplitLemmas.{StandsOnce-split}
use Rattle.plan_tree.proofs.TreeLemmas.{Stands-unique, opened}
use Rattle.plan_expr.specs.declared.aexpr.AExpr.{AExpr}
use Rattle.plan_expr.specs.declared.expr_ir.ExprIR.{ExprIR}
use Rattle.plan_expr.specs.Operands.{expr_shape, operands_of}
use Rattle.plan_ir.specs.declared.ir.IR.{IR}
use Rattle.plan_ir.specs.Parts.{IsPlan, StandsPlan, listed_exprs_of, plan_shape, roots_in}
use Rattle.plan_ir.specs.Plans.{bare, plans_of}
use Rattle.plan_meaning.specs.PlanAt.{plan_at}
use Rattle.plan_meaning.specs.Steps.{IsValid}
use Rattle.plan_pass_laws.specs.declared.kind.RuleKind.{RuleKind}
use Rattle.plan_pass_laws.specs.Settling.{Done, Reworks, both, idle}
use Rattle.plan_pass_laws.specs.Weights.{weight, weight_in}
use Rattle.plan_pass_laws.proofs.Reworked.{reworks_refl, reworks_trans}
use Rattle.plan_rule.specs.Calls.{ListsExpr, plan_of}
use Rattle.plan_rule.proofs.Listed.{listed_roots, stands_at}
use Rattle.plan_reshape.specs.Walking.{Tended}
use Rattle.plan_reshape.proofs.Brings.{Stays, all_valid_at, one_of, plan_at_is, stays}
use Rattle.plan_reshape.proofs.InTurn.{next_of, one_longer, rewrites_in_turn, stand_last}
use Rattle.plan_reshape.proofs.Tends.{become_exprs, tended_small, tended_then}
use Rattle.plan_tree.proofs.Replaced.{below, same_node}

size_join : (f g : Trees AExpr) → size (beside f g) ≡ size f + size g
size_join no_roses g = omega arith
size_join (more (rose n p kids) rest) g = let r = size_join rest g in omega (arith, r)

-- trees reach what the tree at one of their numbers reaches
reaches_through : (z : List AExpr) (ns : List Node) (f : Trees AExpr) (m : Node) (g : Trees AExpr) (k : ℕ) → StandsOnce expr_shape z ns f → Reaches f m.0 → StandsOnce expr_shape z (m ∷ []) g → Reaches g k → Reaches f k
reaches_through z ns no_roses m g k s r sg u = absurd r
reaches_through z [] (more (rose n p kids) rest) m g k s r sg u = absurd s.stands
reaches_through z (n' ∷ ns) (more (rose n p kids) rest) m g k s (inl e) sg u =
    let one : Stands expr_shape z (m ∷ []) (more (rose n p kids) no_roses) = (same_node expr_shape m n e, ap (λ (j : ℕ). slice_get z j) (e ∙ sym (ap (λ (x : Node). x.0) s.stands.0)) ∙ s.stands.1, s.stands.2, s.stands.3, tt) in
    alone (subst (λ (t : Trees AExpr). Reaches t k) (Stands-unique expr_shape z (m ∷ []) g (more (rose n p kids) no_roses) sg.stands one) u)
  where
    alone : Reaches (more (rose n p kids) no_roses) k → Reaches (more (rose n p kids) rest) k
    alone (inl q) = inl q
    alone (inr (inl q)) = inr (inl q)
    alone (inr (inr q)) = absurd q
reaches_through z (n' ∷ ns) (more (rose n p kids) rest) m g k s (inr (inl v)) sg u = inr (inl (reaches_through z (operands_of p) kids m g k (record { stands = s.stands.3; once = s.once.3 }) v sg u))
reaches_through z (n' ∷ ns) (more (rose n p kids) rest) m g k s (inr (inr v)) sg u = inr (inr (reaches_through z ns rest m g k (record { stands = s.stands.4; once = s.once.4 }) v sg u))

pub root_reached : (z : List AExpr) (i : Node) (f : Trees AExpr) → Stands expr_shape z (i ∷ []) f → Reaches f i.0
root_reached z i no_roses s = absurd s
root_reached z i (more (rose n p kids) rest) s = inl (ap (λ (x : Node). x.0) s.0)

-- the operands up to a place were walked
pub record Ops (ks : List RuleKind) (lp : List IR) (y z : List AExpr) (n : Node) (ops : List Node) (i : ℕ) (d : Done) : Type 0 where
  pub gone : List Node
  pub rest : List Node
  pub split : gone ++ rest ≡ ops
  pub at : length gone ≡ i
  pub walked : (g : Trees AExpr) → StandsOnce expr_shape y gone g → (h : Trees AExpr) × Rewrites expr_shape y z gone g h
  pub reworks : (t : Trees IR) (e : Trees AExpr) → StandsPlan lp y n t e → Reworks ks (bare (plans_of z t)) (bare (plans_of y t)) d

pub ops_first : (ks : List RuleKind) (lp : List IR) (y : List AExpr) (n : Node) (ops : List Node) → IsValid (plan_at lp y n) → Ops ks lp y y n ops 0 idle
ops_first ks lp y n ops v = record {
  gone = [];
  rest = ops;
  split = refl;
  at = refl;
  walked = λ g s. (g, Rewrites-refl expr_shape y [] g s);
  reworks = λ t e h. reworks_refl ks (bare (plans_of y t)) (all_valid_at lp y n t h.nodes v);
}

-- the tree at the number in the middle of this
record Mid (y z : List AExpr) (m : Node) (p : AExpr) (rest : List Node) (kids : Trees AExpr) : Type 0 where
  rests : Trees AExpr
  stands : StandsOnce expr_shape z rest rests
  small : size rests ≤ size kids
  now : Trees AExpr
  places : Rewrites expr_shape y z (m ∷ []) (more (rose m p kids) no_roses) (more (rose m p now) no_roses)
  reaches : (k : ℕ) → Reaches rests k → Reaches now k

middle : (ks : List RuleKind) (lp : List IR) (y z : List AExpr) (n m : Node) (p : AExpr) (i : ℕ) (d : Done) (kids : Trees AExpr) (o : Ops ks lp y z n (operands_of p) i d) → StandsOnce expr_shape y (m ∷ []) (more (rose m p kids) no_roses) → Mid y z m p o.rest kids
middle ks lp y z n m p i d kids o s =
    let below_it : StandsOnce expr_shape y (operands_of p) kids = record { stands = s.stands.3; once = s.once.3 } in
    let q = StandsOnce-split expr_shape y o.gone o.rest kids (subst (λ (ns : List Node). StandsOnce expr_shape y ns kids) (sym o.split) below_it) in
    let inside : (k : ℕ) → Reaches q.right k → k < length y = λ k r. Reaches-within expr_shape y o.rest q.right k q.second.stands r in
    let r = o.walked q.left q.first in
    let still = stand_last expr_shape y z z q.left q.right q.apart inside o.gone o.rest r.0 q.second r.1 in
    let pair = rewrites_in_turn expr_shape y z z q.left q.right q.apart inside o.gone o.rest r.0 q.right r.1 (Rewrites-refl expr_shape z o.rest q.right still) in
    let whole : Rewrites expr_shape y z (operands_of p) kids (beside r.0 q.right) = subst (λ (ns : List Node). Rewrites expr_shape y z ns kids (beside r.0 q.right)) o.split (subst (λ (f : Trees AExpr). Rewrites expr_shape y z (o.gone ++ o.rest) f (beside r.0 q.right)) (sym q.is) pair) in
    let sizes = ap size q.is ∙ size_join q.left q.right in
    record {
      rests = q.right;
      stands = still;
      small = omega (arith, sizes);
      now = beside r.0 q.right;
      places = below expr_shape y z m m [] p kids no_roses (beside r.0 q.right) s whole;
      reaches = λ k u. join-right expr_shape r.0 q.right k u;
    }

-- what the next call asks, and the tree at its number
pub record OpAsks (ks : List RuleKind) (lp : List IR) (y z : List AExpr) (n i : Node) (d : Done) (most : ℕ) : Type 0 where
  pub stays : Stays lp lp y z n d.replaced
  pub listed : ListsExpr lp z n i
  pub tree : Trees AExpr
  pub stand : StandsOnce expr_shape z (i ∷ []) tree
  pub small : size (tree_at expr_shape z i) < most

pub ops_asks : (ks : List RuleKind) (lp : List IR) (y z : List AExpr) (n m : Node) (p : AExpr) (i : ℕ) (k : Node) (d : Done) (kids : Trees AExpr) (t : Trees IR) (e : Trees AExpr) → slice_get (operands_of p) i ≡ Some k → Ops ks lp y z n (operands_of p) i d → StandsOnce expr_shape y (m ∷ []) (more (rose m p kids) no_roses) → StandsPlan lp y n t e → ListsExpr lp y n m → OpAsks ks lp y z n k d (size (more (rose m p kids) no_roses))
ops_asks ks lp y z n m p i k d kids t e get o s h l =
    let next = next_of o.gone o.rest (operands_of p) i k o.split o.at get in
    let mid = middle ks lp y z n m p i d kids o s in
    let b = become_exprs lp y z n m t e (more (rose m p kids) no_roses) (more (rose m p mid.now) no_roses) h l s mid.places in
    let q = StandsOnce-split expr_shape z (k ∷ []) next.0 mid.rests (subst (λ (ns : List Node). StandsOnce expr_shape z ns mid.rests) next.1 mid.stands) in
    let there : Reaches mid.rests k.0 = subst (λ (f : Trees AExpr). Reaches f k.0) (sym q.is) (join-left expr_shape q.left q.right k.0 (root_reached z k q.left q.first.stands)) in
    let sizes = ap size q.is ∙ size_join q.left q.right in
    let read = ap size (tree_at-is expr_shape z k q.left q.first) in
    let few = mid.small in
    record {
      stays = stays ks lp lp y z n t e d h (record { become = record { nodes = t; exprs = b.exprs; places = Rewrites-refl plan_shape lp (n ∷ []) t h.nodes; under = b.under }; reworks = o.reworks t e h });
      listed = record { entry = b.listed.entry; there = b.listed.there; trees = b.listed.trees; stand = b.listed.stand; reached = reaches_through z (listed_roots b.listed.entry) b.listed.trees m (more (rose m p mid.now) no_roses) k.0 b.listed.stand b.listed.reached mid.places.stands (inr (inl (mid.reaches k.0 there))) };
      tree = q.left;
      stand = q.first;
      small = omega (arith, sizes, read, few);
    }

pub ops_next : (ks : List RuleKind) (lp : List IR) (y z x : List AExpr) (n m : Node) (p : AExpr) (i : ℕ) (k : Node) (d w : Done) (kids : Trees AExpr) → slice_get (operands_of p) i ≡ Some k → Ops ks lp y z n (operands_of p) i d → StandsOnce expr_shape y (m ∷ []) (more (rose m p kids) no_roses) → IsPlan lp y n → ListsExpr lp y n m → ((t : Trees IR) (e g : Trees AExpr) → StandsPlan lp z n t e → StandsOnce expr_shape z (k ∷ []) g → Tended ks lp z x n k t g w) → Ops ks lp y x n (operands_of p) (i + 1) (both d w)
ops_next ks lp y z x n m p i k d w kids get o s plan l call =
    let next = next_of o.gone o.rest (operands_of p) i k o.split o.at get in
    let asks = ops_asks ks lp y z n m p i k d kids plan.nodes plan.exprs get o s plan.stands l in
    let now = asks.stays.plan in
    record {
      gone = o.gone ++ k ∷ [];
      rest = next.0;
      split = append_assoc o.gone (k ∷ []) next.0 ∙ ap (λ (ns : List Node). o.gone ++ ns) (sym next.1) ∙ o.split;
      at = one_longer o.gone k i o.at;
      walked = λ g sg.
          let q = StandsOnce-split expr_shape y o.gone (k ∷ []) g sg in
          let inside : (j : ℕ) → Reaches q.right j → j < length y = λ j r. Reaches-within expr_shape y (k ∷ []) q.right j q.second.stands r in
          let r = o.walked q.left q.first in
          let still = stand_last expr_shape y z z q.left q.right q.apart inside o.gone (k ∷ []) r.0 q.second r.1 in
          let c = call now.nodes now.exprs q.right now.stands still in
          (beside r.0 c.tree, subst (λ (f : Trees AExpr). Rewrites expr_shape y x (o.gone ++ k ∷ []) f (beside r.0 c.tree)) (sym q.is) (rewrites_in_turn expr_shape y z x q.left q.right q.apart inside o.gone (k ∷ []) r.0 c.tree r.1 c.places));
      reworks = λ t e h.
          let mid = middle ks lp y z n m p i d kids o s in
          let b = become_exprs lp y z n m t e (more (rose m p kids) no_roses) (more (rose m p mid.now) no_roses) h l s mid.places in
          let c = call t b.exprs asks.tree (record { nodes = h.nodes; exprs = b.under.stands }) asks.stand in
          reworks_trans ks (bare (plans_of x t)) (bare (plans_of z t)) (bare (plans_of y t)) d w (o.reworks t e h) c.reworks;
    }

-- the number and its entry, once the rules were called there
pub record AtExpr (ks : List RuleKind) (lp : List IR) (a y : List AExpr) (n m : Node) (p : AExpr) (t : Trees IR) (e g : Trees AExpr) (v : Done) : Type 0 where
  pub kids : Trees AExpr
  pub exprs : Trees AExpr
  pub tended : Tended ks lp a y n m t g v
  pub is : tended.tree ≡ more (rose m p kids) no_roses
  pub stand : StandsOnce expr_shape y (m ∷ []) (more (rose m p kids) no_roses)
  pub plan : StandsPlan lp y n t exprs
  pub listed : ListsExpr lp y n m
  pub small : size (more (rose m p kids) no_roses) ≤ size (tree_at expr_shape a m)
  pub stays : Stays lp lp a y n v.replaced

pub at_expr : (ks : List RuleKind) (lp : List IR) (a y : List AExpr) (n m : Node) (p : AExpr) (t : Trees IR) (e g : Trees AExpr) (v : Done) → StandsPlan lp a n t e → ListsExpr lp a n m → StandsOnce expr_shape a (m ∷ []) g → Tended ks lp a y n m t g v → slice_get y m.0 ≡ Some p → AtExpr ks lp a y n m p t e g v
at_expr ks lp a y n m p t e g v h l s x at =
    let o = opened expr_shape y m p x.tree x.places.stands at in
    let b = become_exprs lp a y n m t e g x.tree h l s x.places in
    let few = tended_small ks lp a y n m t e g v h l s x in
    let read = ap size (tree_at-is expr_shape a m g s) in
    let same = ap size o.is in
    record {
      kids = o.kids;
      exprs = b.exprs;
      tended = x;
      is = o.is;
      stand = subst (λ (f : Trees AExpr). StandsOnce expr_shape y (m ∷ []) f) o.is x.places.stands;
      plan = record { nodes = h.nodes; exprs = b.under.stands };
      listed = b.listed;
      small = omega (arith, few, read, same);
      stays = stays ks lp lp a y n t e v h (record { become = record { nodes = t; exprs = b.exprs; places = Rewrites-refl plan_shape lp (n ∷ []) t h.nodes; under = b.under }; reworks = x.reworks });
    }

pub ops_end : (ks : List RuleKind) (lp : List IR) (a y z : List AExpr) (n m : Node) (p : AExpr) (t : Trees IR) (e g : Trees AExpr) (i : ℕ) (v w : Done) → AtExpr ks lp a y n m p t e g v → Ops ks lp y z n (operands_of p) i w → Tended ks lp a z n m t g (both v w)
ops_end ks lp a y z n m p t e g i v w u o =
    let mid = middle ks lp y z n m p i w u.kids o u.stand in
    tended_then ks lp a y z n m t g v w u.tended (record {
      tree = more (rose m p mid.now) no_roses;
      places = subst (λ (f : Trees AExpr). Rewrites expr_shape y z (m ∷ []) f (more (rose m p mid.now) no_roses)) (sym u.is) mid.places;
      reworks = o.reworks t u.exprs u.plan;
    })

pub start_tree : (lp : List IR) (a : List AExpr) (n m : Node) → ListsExpr lp a n m → (g : Trees AExpr) × StandsOnce expr_shape a (m ∷ []) g
start_tree lp a n m l = stands_at a (listed_roots l.entry) l.trees m l.stand l.reached

pub ops_at : (ks : List RuleKind) (lp : List IR) (y z : List AExpr) (n : Node) (ns ms : List Node) (i : ℕ) (d : Done) → ns ≡ ms → Ops ks lp y z n ns i d → Ops ks lp y z n ms i d
ops_at ks lp y z n ns ms i d e o = subst (λ (l : List Node). Ops ks lp y z n l i d) e o

pub ops_fits : (ks ls : List RuleKind) (lp : List IR) (a y z : List AExpr) (n m : Node) (p : AExpr) (t : Trees IR) (e g : Trees AExpr) (i : ℕ) (v w : Done) → AtExpr ks lp a y n m p t e g v → Ops ls lp y z n (operands_of p) i w → v.replaced + w.replaced ≤ weight (plan_at lp a n)
ops_fits ks ls lp a y z n m p t e g i v w u o =
    let c = (o.reworks t u.exprs u.plan).counted in
    let one : weight_in (bare (plans_of y t)) ≡ weight (plan_of y t) + 0 = ap weight_in (one_of lp y n t u.plan.nodes) in
    let at : weight (plan_at lp y n) ≡ weight (plan_of y t) = ap weight (plan_at_is lp y n t u.plan.nodes) in
    let s = u.stays.weighs in
    omega (arith, c, one, at, s)

-- the same at a listed number, over the tree there
pub at_start : (ks : List RuleKind) (lp : List IR) (a y : List AExpr) (n m : Node) (p : AExpr) (v : Done) (plan : IsPlan lp a n) (l : ListsExpr lp a n m) → ((t : Trees IR) (e g : Trees AExpr) → StandsPlan lp a n t e → StandsOnce expr_shape a (m ∷ []) g → Tended ks lp a y n m t g v) → slice_get y m.0 ≡ Some p → AtExpr ks lp a y n m p plan.nodes plan.exprs (start_tree lp a n m l).0 v
at_start ks lp a y n m p v plan l call at =
    let g = start_tree lp a n m l in
    at_expr ks lp a y n m p plan.nodes plan.exprs g.0 v plan.stands l g.1 (call plan.nodes plan.exprs g.0 plan.stands g.1) at
