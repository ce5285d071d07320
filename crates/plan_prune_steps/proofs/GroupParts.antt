-- What a grouping stores and asks, and over what it stands.
use Rattle.std.proofs.Common.{◌≡◌, All, true, length, List, [], ◌∷◌, ◌++◌, refl, sym, ap, ◌∙◌, subst}
use Rattle.std.proofs.lemmas.List.Elements.{filter_map-append}
use Rattle.std.proofs.lemmas.List.Sums.{fold-append}
use Rattle.plan_core.specs.declared.arena.Node.{Node}
use Rattle.plan_core.specs.declared.data_type.DataType.{DataType}
use Rattle.plan_core.specs.Columns.{Columns, with_type, with_types}
use Rattle.plan_tree.proofs.SplitLemmas.{StandsOnce-split}
use Rattle.plan_expr.specs.declared.aexpr.AExpr.{AExpr}
use Rattle.plan_expr.specs.declared.expr_ir.ExprIR.{ExprIR}
use Rattle.plan_expr.specs.Operands.{expr_shape, IsExpr}
use Rattle.plan_expr.specs.Exprs.{Named}
use Rattle.plan_expr.specs.Leaves.{Name}
use Rattle.plan_expr.specs.Naming.{name_of}
use Rattle.plan_frame.specs.ExprLists.{all_leaves}
use Rattle.plan_core.specs.Names.{with_names}
use Rattle.plan_frame.proofs.GroupLemmas.{leaves-join}
use Rattle.plan_pruned.specs.Pruned.{typed_name, typed_names}
use Rattle.plan_pruned.proofs.ListSteps.{with_names-append}
use Rattle.plan_prune_parts.specs.Kept.{stacked_at, is_some_name, names_at, with_typed}
use Rattle.plan_prune_parts.specs.Places.{StandExprs}
use Rattle.plan_prune_parts.proofs.KeptLemmas.{numbers_append, numbers_of, each_stands, stacked_stand}

-- the columns of names, and then those of more
pub typed-append : (base : Columns) (xs ys : List Name) (s : Columns) → with_typed base (xs ++ ys) s ≡ with_typed (with_typed base xs s) ys s
typed-append base xs ys s =
    ap (with_types base) (filter_map-append (typed_name s) xs ys)
    ∙ fold-append (λ (done : Columns) (c : Name × DataType). with_type done c.0 c.1) base (typed_names s xs) (typed_names s ys)

names-append : (xs ys : List ExprIR) → names_at (xs ++ ys) ≡ names_at xs ++ names_at ys
names-append [] ys = refl
names-append (x ∷ xs) ys = ap (λ (l : List Name). name_of x.output_name ∷ l) (names-append xs ys)

-- the columns of keys, and then those of aggregates
pub grouped-typed : (keys aggs : List ExprIR) (s : Columns) → with_typed (with_typed [] (names_at keys) s) (names_at aggs) s ≡ with_typed [] (names_at (keys ++ aggs)) s
grouped-typed keys aggs s = sym (ap (λ (l : List Name). with_typed [] l s) (names-append keys aggs) ∙ typed-append [] (names_at keys) (names_at aggs) s)

-- the names that aggregates read, and then those that keys do
pub grouped-names : (done : List Name) (keys aggs : List Named) → with_names (with_names done (all_leaves aggs)) (all_leaves keys) ≡ with_names done (all_leaves (aggs ++ keys))
grouped-names done keys aggs = sym (ap (with_names done) (leaves-join aggs keys) ∙ with_names-append done (all_leaves aggs) (all_leaves keys))

-- names are asked where there are some
pub some_asked : (asked : List Name) → (length asked ≡ 0 → ⊥) → is_some_name asked ≡ true
some_asked [] h = absurd (h refl)
some_asked (a ∷ asked) h = refl

-- each of the keys stands, and each of the aggregates that are kept
module _ (ex : List AExpr) (keys aggs : List ExprIR) (h : StandExprs ex (numbers_of (keys ++ aggs))) where
  both : StandExprs ex (numbers_of keys ++ numbers_of aggs)
  both = subst (λ (l : List Node). StandExprs ex l) (numbers_append ex keys aggs) h

  pub keys_stand : All (λ (e : ExprIR). IsExpr ex e.node) keys
  keys_stand = let s = StandsOnce-split expr_shape ex (numbers_of keys) (numbers_of aggs) both.0 both.1 in each_stands ex keys (s.left, s.first)

  pub aggs_stand : (asked : List Name) (ks : List ExprIR) → ks ≡ stacked_at asked aggs → All (λ (e : ExprIR). IsExpr ex e.node) ks
  aggs_stand asked ks is = let s = StandsOnce-split expr_shape ex (numbers_of keys) (numbers_of aggs) both.0 both.1 in stacked_stand ex asked aggs ks is (s.right, s.second)
