-- Whether right keys may be dropped, one key after another.
use Rattle.std.proofs.Common.{◌≡◌, ◌∙◌, ◌&&◌, ℕ, ◌+◌, ◌<◌, ◌≤◌, length, Bool, true, false, not, List, [], ◌∷◌, take, get_or, Option, Some, None, is_some, refl, sym, ap, ap₂}
use Rattle.std.specs.List.{cons_option, list_all, slice_get}
use Rattle.std.specs.Option.{option_map_or}
use Rattle.std.proofs.lemmas.List.{take_all}
use Rattle.std.proofs.lemmas.List.Folds.{list_all_at, list_all_more}
use Rattle.plan_core.specs.Columns.{Columns, names_of}
use Rattle.plan_core.specs.Names.{has}
use Rattle.plan_options.specs.declared.join.JoinArgs.{JoinArgs}
use Rattle.plan_options.specs.Join.{suffix_of}
use Rattle.plan_expr.specs.declared.aexpr.AExpr.{AExpr}
use Rattle.plan_expr.specs.declared.expr_ir.ExprIR.{ExprIR}
use Rattle.plan_expr.specs.Exprs.{all_named_at, expr_at}
use Rattle.plan_expr.specs.Leaves.{Name}
use Rattle.plan_expr.specs.Operands.{IsExpr}
use Rattle.plan_expr.specs.Walks.{column_name}
use Rattle.plan_join.specs.Naming.{right_name}
use Rattle.plan_join.specs.Told.{column_keys, expr_column}
use Rattle.plan_pruned.specs.JoinPruned.{are_columns, keys_unasked}
use Rattle.plan_prune_parts.proofs.KeyLemmas.{column_here}

module _ (args : JoinArgs) (asked : List Name) (s : Columns) (ex : List AExpr) where
  -- a column whose name in the join isn't asked
  abbrev pub is_free : Name → Bool
  is_free b = not (has asked (right_name (suffix_of args) (names_of s) b))

  -- a key that is one
  abbrev pub is_free_key : ExprIR → Bool
  is_free_key e = option_map_or is_free (expr_column (expr_at ex e.node)) false

  pub free_keys : (keys : List ExprIR) → list_all is_free_key keys ≡ (are_columns (all_named_at ex keys) && keys_unasked args asked (column_keys (all_named_at ex keys)) s)
  free_keys [] = refl
  free_keys (e ∷ es) = at (expr_column (expr_at ex e.node)) (free_keys es)
    where
      swap : (a b c : Bool) → (a && (b && c)) ≡ (b && (a && c))
      swap true b c = refl
      swap false true c = refl
      swap false false c = refl

      at : (o : Option Name) → list_all is_free_key es ≡ (are_columns (all_named_at ex es) && keys_unasked args asked (column_keys (all_named_at ex es)) s) → (option_map_or is_free o false && list_all is_free_key es) ≡ ((is_some o && are_columns (all_named_at ex es)) && list_all is_free (cons_option o (column_keys (all_named_at ex es))))
      at None h = refl
      at (Some b) h = ap (λ (t : Bool). is_free b && t) h ∙ swap (is_free b) (are_columns (all_named_at ex es)) (keys_unasked args asked (column_keys (all_named_at ex es)) s)

  -- a key that is this column, or none
  pub free_at : (e : ExprIR) (p : AExpr) (o : Option Name) → IsExpr ex e.node → slice_get ex e.node.0 ≡ Some p → column_name p ≡ o → is_free_key e ≡ option_map_or is_free o false
  free_at e p o h there is = ap (λ (x : Option Name). option_map_or is_free x false) (column_here ex e.node p h there ∙ is)

  -- one key that isn't
  pub not_free : (keys : List ExprIR) (i : ℕ) (e : ExprIR) → i < length keys → e ≡ get_or keys i e → is_free_key e ≡ false → false ≡ (are_columns (all_named_at ex keys) && keys_unasked args asked (column_keys (all_named_at ex keys)) s)
  not_free keys i e h is bad = sym (list_all_at is_free_key keys i e h (ap is_free_key (sym is) ∙ bad)) ∙ free_keys keys

  -- one more key that is
  pub next_free : (keys : List ExprIR) (i : ℕ) (e : ExprIR) → i < length keys → e ≡ get_or keys i e → list_all is_free_key (take i keys) ≡ true → is_free_key e ≡ true → list_all is_free_key (take (i + 1) keys) ≡ true
  next_free keys i e h is before good = list_all_more is_free_key keys i e h ∙ ap₂ (λ (a b : Bool). a && b) before (ap is_free_key (sym is) ∙ good)

  -- all of them are
  pub all_free : (keys : List ExprIR) (i : ℕ) → length keys ≤ i → list_all is_free_key (take i keys) ≡ true → true ≡ (are_columns (all_named_at ex keys) && keys_unasked args asked (column_keys (all_named_at ex keys)) s)
  all_free keys i h all = sym (ap (list_all is_free_key) (sym (take_all i keys h)) ∙ all) ∙ free_keys keys
