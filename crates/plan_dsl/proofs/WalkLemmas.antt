-- What a walk gives.
use Rattle.std.proofs.Common.{◌≡◌, ℕ, zero, suc, ◌+◌, ◌<◌, ◌≤◌, List, [], ◌∷◌, ◌++◌, refl, ap, ap₂, sym, ◌∙◌, arith, append-nil, take, length, Some, Bor}
use Rattle.std.specs.List.{slice_get, flat_map, All, Any}
use Rattle.std.proofs.lemmas.List.Elements.{All-append, All-same}
use Rattle.std.proofs.lemmas.List.{take_all}
use denote.Param.Weighed.{most}
use Rattle.plan_dsl.specs.declared.expr.Expr.{Expr, size-Expr, size_is-Expr}
use Rattle.plan_dsl.specs.Walks.{levels_down, walk_by, preorder}
use Rattle.plan_dsl.specs.Parts.{children}
use Rattle.plan_dsl.specs.Appends.{AppendsAll}
use Rattle.plan_dsl.proofs.AppendLemmas.{appends_join}
use Rattle.plan_expr.proofs.ListLemmas.{flat_map-next, any_more, any_flat_map}
use Rattle.plan_dsl.proofs.SizeLemmas.{children_below}

-- an expression has a depth
pub size_above : (e : Expr) → 1 ≤ size-Expr e
size_above e = omega (arith, size_is-Expr e)

-- what two functions give of each expression up to a depth
same_each : (f g : Expr → List Expr) (k : ℕ) (es : List Expr) → most size-Expr es ≤ k → ((e : Expr) → size-Expr e ≤ k → f e ≡ g e) → flat_map f es ≡ flat_map g es
same_each f g k [] h same = refl
same_each f g k (e ∷ es) h same = ap₂ (λ (x y : List Expr). x ++ y) (same e (omega arith)) (same_each f g k es (omega arith) same)

module _ (below : Expr → List Expr) (falls : (e : Expr) → most size-Expr (below e) < size-Expr e) where
  -- more levels than there are give no more
  levels-enough : (k m : ℕ) (es : List Expr) → most size-Expr es ≤ k → most size-Expr es ≤ m → levels_down below k es ≡ levels_down below m es
  levels-enough zero zero es h l = refl
  levels-enough zero (suc m) [] h l = refl
  levels-enough zero (suc m) (e ∷ es) h l = absurd (omega (arith, size_above e))
  levels-enough (suc k) zero [] h l = refl
  levels-enough (suc k) zero (e ∷ es) h l = absurd (omega (arith, size_above e))
  levels-enough (suc k) (suc m) es h l =
      same_each (λ e. e ∷ levels_down below k (below e)) (λ e. e ∷ levels_down below m (below e)) (most size-Expr es) es (omega arith)
      (λ e small. ap (λ (xs : List Expr). e ∷ xs) (levels-enough k m (below e) (omega (arith, falls e)) (omega (arith, falls e))))

  -- levels as far as they go are walks
  levels-walks : (k : ℕ) (es : List Expr) → most size-Expr es ≤ k → levels_down below k es ≡ flat_map (walk_by below) es
  unfolding walk_by
  levels-walks zero [] h = refl
  levels-walks zero (e ∷ es) h = absurd (omega (arith, size_above e))
  levels-walks (suc k) es h =
      same_each (λ e. e ∷ levels_down below k (below e)) (walk_by below) (suc k) es h
      (λ e small. sym (append-nil (e ∷ levels_down below k (below e))) ∙ levels-enough (suc k) (size-Expr e) (e ∷ []) (omega arith) (omega arith))

  -- a walk gives the expression, and then what walks of those below it give
  pub walk-is : (e : Expr) → walk_by below e ≡ e ∷ flat_map (walk_by below) (below e)
  unfolding walk_by
  walk-is e =
      levels-enough (size-Expr e) (suc (size-Expr e)) (e ∷ []) (omega arith) (omega arith)
      ∙ append-nil (e ∷ levels_down below (size-Expr e) (below e))
      ∙ ap (λ (xs : List Expr). e ∷ xs) (levels-walks (size-Expr e) (below e) (omega (arith, falls e)))

-- an expression in walk order, and then its children with all below them
pub preorder-is : (e : Expr) → preorder e ≡ e ∷ flat_map preorder (children e)
preorder-is e = walk-is children children_below e

-- the same for references that are appended: the expression, and then a child's after those of its elder ones
pub preorder-next : (e c : Expr) (i : ℕ) (old mid new : List (Bor Expr)) → slice_get (children e) i ≡ Some c
    → AppendsAll (λ r. r.now) old mid (e ∷ flat_map preorder (take i (children e))) → AppendsAll (λ r. r.now) mid new (preorder c)
    → AppendsAll (λ r. r.now) old new (e ∷ flat_map preorder (take (i + 1) (children e)))
preorder-next e c i old mid new there a b =
    let more : e ∷ flat_map preorder (take (i + 1) (children e)) ≡ (e ∷ flat_map preorder (take i (children e))) ++ preorder c = ap (λ (xs : List Expr). e ∷ xs) (flat_map-next preorder (children e) i c there) in
    rw more (appends_join (λ r. r.now) old mid new (e ∷ flat_map preorder (take i (children e))) (preorder c) a b)

pub preorder-end : (e : Expr) (i : ℕ) (old new : List (Bor Expr)) → length (children e) ≤ i
    → AppendsAll (λ r. r.now) old new (e ∷ flat_map preorder (take i (children e))) → AppendsAll (λ r. r.now) old new (preorder e)
preorder-end e i old new past a =
    let whole : preorder e ≡ e ∷ flat_map preorder (take i (children e)) = preorder-is e ∙ ap (λ (cs : List Expr). e ∷ flat_map preorder cs) (sym (take_all i (children e) past)) in
    rw whole a

-- an expression that is found below a child
pub any_below : (P : Expr → Type 0) (e c : Expr) (i : ℕ) → slice_get (children e) i ≡ Some c → Any P (preorder c) → Any P (preorder e)
any_below P e c i there a = rw preorder-is (any_more P e (flat_map preorder (children e)) (any_flat_map P preorder (children e) i c there a))

-- the expression itself is found
pub any_here : (P : Expr → Type 0) (e : Expr) → P e → Any P (preorder e)
any_here P e p = rw preorder-is (zero, e, omega arith, refl, p)

-- what holds of an expression and of all below its children
pub all_next : (P : Expr → Type 0) (e c : Expr) (i : ℕ) → slice_get (children e) i ≡ Some c → All P (e ∷ flat_map preorder (take i (children e))) → All P (preorder c) → All P (e ∷ flat_map preorder (take (i + 1) (children e)))
all_next P e c i there a b =
    let more : e ∷ flat_map preorder (take (i + 1) (children e)) ≡ (e ∷ flat_map preorder (take i (children e))) ++ preorder c = ap (λ (xs : List Expr). e ∷ xs) (flat_map-next preorder (children e) i c there) in
    All-same P _ _ more (All-append P (e ∷ flat_map preorder (take i (children e))) (preorder c) a b)

pub all_end : (P : Expr → Type 0) (e : Expr) (i : ℕ) → length (children e) ≤ i → All P (e ∷ flat_map preorder (take i (children e))) → All P (preorder e)
all_end P e i past a =
    let whole : preorder e ≡ e ∷ flat_map preorder (take i (children e)) = preorder-is e ∙ ap (λ (cs : List Expr). e ∷ flat_map preorder cs) (sym (take_all i (children e) past)) in
    All-same P _ _ whole a
