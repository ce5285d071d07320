-- What stands at the number of a plan node, at those of its inputs, and over those of its expressions.
use Rattle.std.proofs.Common.{◌≡◌, ℕ, zero, suc, ◌<◌, List, [], ◌∷◌, ◌++◌, map, refl, sym, ap, ap₂, ◌∙◌, Some, append-nil, append_assoc, subst}
use Rattle.std.specs.List.{flat_map, slice_get}
use Rattle.std.proofs.lemmas.Grind.{flat_map-append}
use Rattle.plan_core.specs.declared.arena.Node.{Node}
use Rattle.plan_tree.specs.Rose.{rose, no_roses, more, items}
use Rattle.plan_tree.specs.Stands.{Trees, StandsOnce}
use Rattle.plan_tree.specs.Read.{trees_at}
use Rattle.plan_tree.proofs.ReadLemmas.{trees_at-is}
use Rattle.plan_tree.proofs.SplitLemmas.{StandsOnce-split}
use Rattle.plan_tree.proofs.TreeLemmas.{height_at, height-falls, StandsOnce-nth, opened, nth}
use Rattle.plan_expr.specs.declared.aexpr.AExpr.{AExpr}
use Rattle.plan_ir.specs.declared.ir.IR.{IR}
use Rattle.plan_expr.specs.Operands.{expr_shape, IsExpr}
use Rattle.plan_ir.specs.Parts.{plan_shape, inputs_of, roots_of, roots_in, IsPlan}
use Rattle.plan_ir.specs.Plans.{op_at, plans_of, plans_at}

-- the expression numbers of one of some trees, among those of all
record Around (f : Trees IR) (j : ℕ) : Type 0 where
  before : List Node
  after : List Node
  is : roots_in f ≡ before ++ (roots_in (nth plan_shape f j) ++ after)

around : (f : Trees IR) (j : ℕ) → Around f j
around no_roses j = record { before = []; after = []; is = refl }
around (more (rose n p kids) rest) zero = record {
  before = [];
  after = roots_in rest;
  is = ap (λ (l : List Node). roots_of p ++ (l ++ roots_in rest)) (sym (append-nil (roots_in kids))) ∙ sym (append_assoc (roots_of p) (roots_in kids ++ []) (roots_in rest));
}
around (more (rose n p kids) rest) (suc j) =
    let r = around rest j in
    record {
      before = roots_of p ++ (roots_in kids ++ r.before);
      after = r.after;
      is =
          ap (λ (l : List Node). roots_of p ++ (roots_in kids ++ l)) r.is
          ∙ ap (λ (l : List Node). roots_of p ++ l) (sym (append_assoc (roots_in kids) r.before (roots_in (nth plan_shape rest j) ++ r.after)))
          ∙ sym (append_assoc (roots_of p) (roots_in kids ++ r.before) (roots_in (nth plan_shape rest j) ++ r.after));
    }

-- the trees over numbers in the middle of a list
middle : (ex : List AExpr) (before ns after : List Node) (e : Trees AExpr) → StandsOnce expr_shape ex (before ++ (ns ++ after)) e → (f : Trees AExpr) × StandsOnce expr_shape ex ns f
middle ex before ns after e h =
    let a = StandsOnce-split expr_shape ex before (ns ++ after) e h in
    let b = StandsOnce-split expr_shape ex ns after a.right a.second in
    (b.left, b.first)

module _ (lp : List IR) (ex : List AExpr) (n : Node) (p : IR) (h : IsPlan lp ex n) (entry : slice_get lp n.0 ≡ Some p) where
  -- trees stand over the expressions of a node
  pub plan_exprs : (e : Trees AExpr) × StandsOnce expr_shape ex (roots_of p) e
  plan_exprs =
      let o = opened plan_shape lp n p h.nodes h.stands.nodes entry in
      middle ex [] (roots_of p) (roots_in o.kids ++ []) h.exprs (rw o.is at h.stands.exprs)

  -- one of the expressions of a node stands
  pub plan_expr : (j : ℕ) (m : Node) → slice_get (roots_of p) j ≡ Some m → IsExpr ex m
  plan_expr j m k =
      let e = plan_exprs in
      (nth expr_shape e.0 j, StandsOnce-nth expr_shape ex (roots_of p) e.0 j m e.1 k)

  -- an input of a node is a plan, and stands below
  pub plan_down : (j : ℕ) (i : Node) → slice_get (inputs_of p) j ≡ Some i → (height_at plan_shape lp i < height_at plan_shape lp n) × IsPlan lp ex i
  plan_down j i k =
      let o = opened plan_shape lp n p h.nodes h.stands.nodes entry in
      let a = around o.kids j in
      let all : StandsOnce expr_shape ex (roots_of p ++ (roots_in o.kids ++ [])) h.exprs = rw o.is at h.stands.exprs in
      let below = StandsOnce-split expr_shape ex (roots_of p) (roots_in o.kids ++ []) h.exprs all in
      let whole = subst (λ (l : List Node). StandsOnce expr_shape ex l below.right) (append-nil (roots_in o.kids) ∙ a.is) below.second in
      let e = middle ex a.before (roots_in (nth plan_shape o.kids j)) a.after below.right whole in (
        height-falls plan_shape lp n i p h.nodes j h.stands.nodes entry k,
        record {
          nodes = nth plan_shape o.kids j;
          exprs = e.0;
          stands = record { nodes = StandsOnce-nth plan_shape lp (inputs_of p) o.kids j i o.inputs k; exprs = e.1 };
        },
      )

  -- a plan is its node over its inputs
  pub plan_open : plans_at lp ex (n ∷ []) ≡ more (rose n (op_at ex p) (plans_at lp ex (inputs_of p))) no_roses
  plan_open =
      let o = opened plan_shape lp n p h.nodes h.stands.nodes entry in
      let here : trees_at plan_shape lp (n ∷ []) ≡ more (rose n p o.kids) no_roses = trees_at-is plan_shape lp (n ∷ []) h.nodes h.stands.nodes ∙ o.is in
      let below : o.kids ≡ trees_at plan_shape lp (inputs_of p) = sym (trees_at-is plan_shape lp (inputs_of p) o.kids o.inputs) in
      ap (plans_of ex) (here ∙ ap (λ (t : Trees IR). more (rose n p t) no_roses) below)

-- the expressions of the nodes of trees, node by node
pub roots-items : (t : Trees IR) → flat_map roots_of (items t) ≡ roots_in t
roots-items no_roses = refl
roots-items (more (rose n p kids) rest) =
    ap (λ (l : List Node). roots_of p ++ l) (flat_map-append roots_of (items kids) (items rest) ∙ ap₂ (λ (x y : List Node). x ++ y) (roots-items kids) (roots-items rest))

-- one function after another
pub map_twice : {A B C : Type 0} (f : B → C) (g : A → B) (xs : List A) → map (λ x. f (g x)) xs ≡ map f (map g xs)
map_twice f g [] = refl
map_twice f g (x ∷ xs) = ap (λ l. f (g x) ∷ l) (map_twice f g xs)
