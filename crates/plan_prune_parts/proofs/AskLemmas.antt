-- What a join asks of a side, one key and one name after another.
use Rattle.std.proofs.Common.{◌≡◌, ◌∙◌, ℕ, ◌+◌, true, false, cond, List, [], ◌∷◌, ◌++◌, take, Option, Some, refl, sym, ap, ap₂, append_assoc, append-nil}
use Rattle.std.specs.List.{flat_map, slice_get}
use Rattle.plan_core.specs.Columns.{Columns, names_of}
use Rattle.plan_core.specs.Names.{has, with_name, with_names}
use Rattle.plan_expr.specs.declared.aexpr.AExpr.{AExpr}
use Rattle.plan_expr.specs.declared.expr_ir.ExprIR.{ExprIR}
use Rattle.plan_expr.specs.Exprs.{all_named_at, expr_at, Named}
use Rattle.plan_expr.specs.Leaves.{Name, leaves}
use Rattle.plan_expr.proofs.ListLemmas.{flat_map-next}
use Rattle.plan_frame.specs.ExprLists.{all_leaves}
use Rattle.plan_join.specs.declared.origin.Side.{Side}
use Rattle.plan_meaning.specs.JoinAsked.{of_side, side_asked, side_names}
use Rattle.plan_pruned.proofs.ListSteps.{with_names-append}

-- keys

leaves-flat : (ex : List AExpr) (es : List ExprIR) → all_leaves (all_named_at ex es) ≡ flat_map (λ (e : ExprIR). leaves (expr_at ex e.node)) es
leaves-flat ex [] = refl
leaves-flat ex (e ∷ es) = ap (λ (l : List Name). leaves (expr_at ex e.node) ++ l) (leaves-flat ex es)

-- the names of one key more
pub keys-next : (ex : List AExpr) (es : List ExprIR) (i : ℕ) (e : ExprIR) → slice_get es i ≡ Some e → with_names (with_names [] (all_leaves (all_named_at ex (take i es)))) (leaves (expr_at ex e.node)) ≡ with_names [] (all_leaves (all_named_at ex (take (i + 1) es)))
keys-next ex es i e k =
    let own = λ (e : ExprIR). leaves (expr_at ex e.node) in
    sym (with_names-append [] (all_leaves (all_named_at ex (take i es))) (leaves (expr_at ex e.node)))
    ∙ ap (with_names []) (ap (λ (l : List Name). l ++ leaves (expr_at ex e.node)) (leaves-flat ex (take i es)) ∙ sym (flat_map-next own es i e k) ∙ sym (leaves-flat ex (take (i + 1) es)))

-- names

module _ (side : Side) (keys : List Named) (by : Name → Option (Side × Name)) (s : Columns) where
  -- what one name more asks
  pub names-next : (needed : List Name) (i : ℕ) (a : Name) → slice_get needed i ≡ Some a → with_names (side_asked side keys by s (take i needed)) (side_names side by s a) ≡ side_asked side keys by s (take (i + 1) needed)
  names-next needed i a k =
      sym (with_names-append [] (all_leaves keys ++ flat_map (side_names side by s) (take i needed)) (side_names side by s a))
      ∙ ap (with_names []) (append_assoc (all_leaves keys) (flat_map (side_names side by s) (take i needed)) (side_names side by s a) ∙ ap (λ (l : List Name). all_leaves keys ++ l) (sym (flat_map-next (side_names side by s) needed i a k)))

-- no names yet: what the keys read
pub none-asked : (side : Side) (keys : List Named) (by : Name → Option (Side × Name)) (s : Columns) → with_names [] (all_leaves keys) ≡ side_asked side keys by s []
none-asked side keys by s = ap (with_names []) (sym (append-nil (all_leaves keys)))

module _ (side : Side) (by : Name → Option (Side × Name)) (s : Columns) (names : List Name) (a : Name) where
  -- a name that a side has asks itself, and then the column that is put out under it
  pub asked-there : has (names_of s) a ≡ true → with_names (with_name names a) (of_side side (by a)) ≡ with_names names (side_names side by s a)
  asked-there h = rw h refl

  -- another asks that column alone
  pub asked-own : has (names_of s) a ≡ false → with_names names (of_side side (by a)) ≡ with_names names (side_names side by s a)
  asked-own h = rw h refl

-- sides are asked the same by the same columns
module _ (side : Side) (keys : List Named) (by own : Name → Option (Side × Name)) (s : Columns) where
  names-alike : (a : Name) → by a ≡ own a → side_names side by s a ≡ side_names side own s a
  names-alike a h = ap (λ (o : Option (Side × Name)). cond (has (names_of s) a) (a ∷ of_side side o) (of_side side o)) h

  each-alike : (needed : List Name) → ((a : Name) → by a ≡ own a) → flat_map (side_names side by s) needed ≡ flat_map (side_names side own s) needed
  each-alike [] h = refl
  each-alike (a ∷ needed) h = ap₂ (λ (x y : List Name). x ++ y) (names-alike a (h a)) (each-alike needed h)

  pub asked-alike : (needed : List Name) → ((a : Name) → by a ≡ own a) → side_asked side keys by s needed ≡ side_asked side keys own s needed
  asked-alike needed h = ap (λ (l : List Name). with_names [] (all_leaves keys ++ l)) (each-alike needed h)
