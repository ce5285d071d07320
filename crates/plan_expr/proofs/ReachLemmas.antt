-- What a number reaches: its expression, and what its operands reach.
use Rattle.std.proofs.Common.{◌≡◌, ℕ, zero, ◌+◌, ◌≤◌, List, [], ◌∷◌, ◌++◌, length, take, Some, refl, sym, ap, ap₂, ◌∙◌, arith, append-nil}
use Rattle.std.specs.List.{slice_get, flat_map, All, Any}
use Rattle.std.proofs.lemmas.List.{take_all}
use Rattle.std.proofs.lemmas.List.Elements.{All-append, All-same}
use Rattle.plan_core.specs.declared.arena.Node.{Node}
use Rattle.plan_tree.specs.Rose.{rose, no_roses, more, items}
use Rattle.plan_tree.specs.Stands.{Trees, StandsOnce}
use Rattle.plan_tree.proofs.ReadLemmas.{tree_at-is}
use Rattle.plan_tree.proofs.TreeLemmas.{opened}
use Rattle.plan_expr.specs.declared.aexpr.AExpr.{AExpr}
use Rattle.plan_expr.specs.Operands.{expr_shape, operands_of, IsExpr}
use Rattle.plan_expr.specs.Walks.{reached}
use Rattle.plan_expr.proofs.ExprLemmas.{first_stands, rest_stands}
use Rattle.plan_expr.proofs.ListLemmas.{flat_map-next, any_more, any_flat_map}

-- what trees hold is what their numbers reach
items-reached : (ex : List AExpr) (ns : List Node) (f : Trees AExpr) → StandsOnce expr_shape ex ns f → items f ≡ flat_map (reached ex) ns
items-reached ex [] no_roses h = refl
items-reached ex [] (more (rose m p kids) rest) h = absurd h.stands
items-reached ex (n ∷ ns) no_roses h = absurd h.stands
items-reached ex (n ∷ ns) (more (rose m p kids) rest) h =
    let t : Trees AExpr = more (rose m p kids) no_roses in
    let here : reached ex n ≡ p ∷ (items kids ++ []) = ap items (tree_at-is expr_shape ex n t (first_stands ex n m ns p kids rest h)) in
    ap₂ (λ (x y : List AExpr). x ++ y) (ap (λ (l : List AExpr). p ∷ l) (sym (append-nil (items kids))) ∙ sym here) (items-reached ex ns rest (rest_stands ex n m ns p kids rest h))

module _ (ex : List AExpr) (n : Node) (p : AExpr) (h : IsExpr ex n) (e : slice_get ex n.0 ≡ Some p) where
  -- the expression itself, and then what its operands reach
  reached-is : reached ex n ≡ p ∷ flat_map (reached ex) (operands_of p)
  reached-is =
      let o = opened expr_shape ex n p h.0 h.1 e in
      ap items (tree_at-is expr_shape ex n h.0 h.1 ∙ o.is)
      ∙ ap (λ (l : List AExpr). p ∷ l) (append-nil (items o.kids) ∙ items-reached ex (operands_of p) o.kids o.inputs)

  pub any_here : (P : AExpr → Type 0) → P p → Any P (reached ex n)
  any_here P a = rw reached-is (zero, p, omega arith, refl, a)

  pub any_below : (P : AExpr → Type 0) (m : Node) (i : ℕ) → slice_get (operands_of p) i ≡ Some m → Any P (reached ex m) → Any P (reached ex n)
  any_below P m i there a = rw reached-is (any_more P p (flat_map (reached ex) (operands_of p)) (any_flat_map P (reached ex) (operands_of p) i m there a))

  pub all_end : (P : AExpr → Type 0) (i : ℕ) → length (operands_of p) ≤ i → All P (p ∷ flat_map (reached ex) (take i (operands_of p))) → All P (reached ex n)
  all_end P i past a =
      let whole : reached ex n ≡ p ∷ flat_map (reached ex) (take i (operands_of p)) = reached-is ∙ ap (λ (ns : List Node). p ∷ flat_map (reached ex) ns) (sym (take_all i (operands_of p) past)) in
      All-same P _ _ whole a

-- what holds of an expression and of all that its first operands reach, one operand further
pub all_next : (ex : List AExpr) (P : AExpr → Type 0) (p : AExpr) (m : Node) (i : ℕ) → slice_get (operands_of p) i ≡ Some m → All P (p ∷ flat_map (reached ex) (take i (operands_of p))) → All P (reached ex m) → All P (p ∷ flat_map (reached ex) (take (i + 1) (operands_of p)))
all_next ex P p m i there a b =
    let further : p ∷ flat_map (reached ex) (take (i + 1) (operands_of p)) ≡ (p ∷ flat_map (reached ex) (take i (operands_of p))) ++ reached ex m = ap (λ (l : List AExpr). p ∷ l) (flat_map-next (reached ex) (operands_of p) i m there) in
    All-same P _ _ further (All-append P (p ∷ flat_map (reached ex) (take i (operands_of p))) (reached ex m) a b)
