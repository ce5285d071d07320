-- The expression whose name stands in a place, and what it awaits.
use Rattle.std.proofs.Common.{◌≡◌, ◌∙◌, ℕ, Bool, true, false, cond, All, List, [], ◌∷◌, Option, Some, None, option_and_then, option_map, refl, sym, ap, ap₂, subst}
use Rattle.std.specs.List.{filter as only_where, slice_get}
use Rattle.std.specs.Str.{bytes_eq}
use Rattle.std.proofs.lemmas.List.Elements.{All-head, All-tail}
use Rattle.plan_core.specs.declared.arena.Node.{Node}
use Rattle.plan_expr.specs.declared.aexpr.AExpr.{AExpr}
use Rattle.plan_expr.specs.declared.expr_ir.ExprIR.{ExprIR}
use Rattle.plan_expr.specs.Exprs.{all_named_at, expr_at, named_at}
use Rattle.plan_expr.specs.Leaves.{Name, leaves}
use Rattle.plan_expr.specs.Operands.{IsExpr}
use Rattle.plan_frame.specs.ExprLists.{out_names}
use Rattle.plan_collapse_laws.specs.Meeting.{named_in}
use Rattle.plan_cluster.specs.ExprNames.{expr_name, expr_named, expr_names}
use Rattle.plan_cluster.specs.Found.{awaited_by, found_at, is_awaited}
use Rattle.plan_cluster.proofs.NameLemmas.{named-read, names-read}

-- what all expressions satisfy, one that is found does
pub found-all : (P : ExprIR → Type 0) (es : List ExprIR) (b : Name) (e : ExprIR) → All P es → expr_named es b ≡ Some e → P e
found-all P [] b e h q = cc
found-all P (d ∷ es) b e h q = at (bytes_eq b (expr_name d)) q (λ r. found-all P es b e (All-tail P d es h) r)
  where
    at : (t : Bool) → cond t (Some d) (expr_named es b) ≡ Some e → (expr_named es b ≡ Some e → P e) → P e
    at true r rest = let s : d ≡ e = cc in subst P s (All-head P d es h)
    at false r rest = rest r

abbrev node_of : ExprIR → Node
node_of e = e.node

module _ (ex : List AExpr) (es : List ExprIR) where
  stands : (o : Option Name) (n : Node) → All (λ (e : ExprIR). IsExpr ex e.node) es → option_map node_of (option_and_then (expr_named es) o) ≡ Some n → IsExpr ex n
  stands None n h q = cc
  stands (Some b) n h q = at (expr_named es b) refl q
    where
      at : (o : Option ExprIR) → expr_named es b ≡ o → option_map node_of o ≡ Some n → IsExpr ex n
      at None k r = cc
      at (Some e) k r = let s : e.node ≡ n = cc in subst (IsExpr ex) s (found-all (λ (d : ExprIR). IsExpr ex d.node) es b e h k)

  pub found-stands : (found : List Name) (i : ℕ) (n : Node) → All (λ (e : ExprIR). IsExpr ex e.node) es → option_map node_of (option_and_then (expr_named es) (slice_get found i)) ≡ Some n → IsExpr ex n
  found-stands found i n h q = stands (slice_get found i) n h q

  awaits : (names lower : List Name) (o : Option Name) (n : Node) → names ≡ out_names (all_named_at ex es) → option_map node_of (option_and_then (expr_named es) o) ≡ Some n → only_where (is_awaited names lower) (leaves (expr_at ex n)) ≡ awaited_by (out_names (all_named_at ex es)) lower (option_and_then (named_in (all_named_at ex es)) o)
  awaits names lower None n s q = cc
  awaits names lower (Some b) n s q = at (expr_named es b) q (named-read ex es b)
    where
      at : (o : Option ExprIR) → option_map node_of o ≡ Some n → named_in (all_named_at ex es) b ≡ option_map (named_at ex) o → only_where (is_awaited names lower) (leaves (expr_at ex n)) ≡ awaited_by (out_names (all_named_at ex es)) lower (named_in (all_named_at ex es) b)
      at None r k = cc
      at (Some e) r k =
          let same : n ≡ e.node = cc in
          ap₂ (λ (ns : List Name) (m : Node). only_where (is_awaited ns lower) (leaves (expr_at ex m))) s same
          ∙ sym (ap (awaited_by (out_names (all_named_at ex es)) lower) k)

  pub awaits-at : (names lower found : List Name) (i : ℕ) (n : Node) → names ≡ expr_names es → option_map node_of (option_and_then (expr_named es) (slice_get found i)) ≡ Some n → only_where (is_awaited names lower) (leaves (expr_at ex n)) ≡ awaited_by (out_names (all_named_at ex es)) lower (found_at (all_named_at ex es) found i)
  awaits-at names lower found i n s q = awaits names lower (slice_get found i) n (s ∙ sym (names-read ex es)) q

  none : (lower : List Name) (o : Option Name) → option_map node_of (option_and_then (expr_named es) o) ≡ None → [] ≡ awaited_by (out_names (all_named_at ex es)) lower (option_and_then (named_in (all_named_at ex es)) o)
  none lower None q = refl
  none lower (Some b) q = at (expr_named es b) q (named-read ex es b)
    where
      at : (o : Option ExprIR) → option_map node_of o ≡ None → named_in (all_named_at ex es) b ≡ option_map (named_at ex) o → [] ≡ awaited_by (out_names (all_named_at ex es)) lower (named_in (all_named_at ex es) b)
      at None r k = sym (ap (awaited_by (out_names (all_named_at ex es)) lower) k)
      at (Some e) r k = cc

  pub awaits-none : (lower found : List Name) (i : ℕ) → option_map node_of (option_and_then (expr_named es) (slice_get found i)) ≡ None → [] ≡ awaited_by (out_names (all_named_at ex es)) lower (found_at (all_named_at ex es) found i)
  awaits-none lower found i q = none lower (slice_get found i) q
