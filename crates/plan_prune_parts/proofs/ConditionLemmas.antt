-- A condition under the names that its columns have now: itself where these are its own, and else a copy.
use Rattle.std.proofs.Common.{◌≡◌, ◌∙◌, Bool, true, false, not, List, [], ◌∷◌, map, refl, sym, ap, append-nil}
use Rattle.std.specs.Str.{bytes_eq}
use Rattle.std.specs.Cmp.Lexicographic.{pointwise}
use Rattle.std.proofs.lemmas.Slice.Eq.{bytes_eq-Decides, slice_eq-Decides}
use Rattle.plan_core.specs.declared.arena.Node.{Node}
use Rattle.plan_core.specs.Names.{has}
use Rattle.plan_tree.specs.Read.{tree_at}
use Rattle.plan_tree.specs.Rose.{rose, no_roses, more}
use Rattle.plan_tree.specs.Stands.{Trees, StandsOnce}
use Rattle.plan_tree.proofs.ReadLemmas.{tree_at-is}
use Rattle.plan_expr.specs.declared.aexpr.AExpr.{AExpr}
use Rattle.plan_expr.specs.Exprs.{bare_exprs, Expr, expr_at, one_expr}
use Rattle.plan_expr.specs.Leaves.{Name, leaves, leaves_all}
use Rattle.plan_expr.specs.Operands.{expr_shape, IsExpr}
use Rattle.plan_meaning.specs.Functions.{renamed}
use Rattle.plan_pruned.specs.JoinPruned.{renamed_expr}
use Rattle.plan_pruned.specs.Renamed.{IsRenamed, renamed_exprs}
use Rattle.plan_prune_parts.proofs.RenameLemmas.{Alike, exprs-alike, mapped-own, own-exprs, renamed-mapped}

-- one tree stands at a number
alone : (ex : List AExpr) (n : Node) → IsExpr ex n → bare_exprs (tree_at expr_shape ex n) ≡ more (expr_at ex n) no_roses
alone ex n h = of h.0 h.1
  where
    of : (t : Trees AExpr) → StandsOnce expr_shape ex (n ∷ []) t → bare_exprs (tree_at expr_shape ex n) ≡ more (expr_at ex n) no_roses
    of no_roses s = absurd s.stands
    of (more (rose m p kids) (more (rose k q below) rest)) s = absurd s.stands.4
    of (more (rose m p kids) no_roses) s =
        let is : tree_at expr_shape ex n ≡ more (rose m p kids) no_roses = tree_at-is expr_shape ex n (more (rose m p kids) no_roses) s in
        rw is refl

renamed_one : (now : Name → Name) (e : Expr) → one_expr (renamed_exprs now (more e no_roses)) ≡ renamed_expr now e
renamed_one now (rose n op es) = refl

module _ (now : Name → Name) (ex : List AExpr) (n : Node) (h : IsExpr ex n) (names : List Name) (read : names ≡ leaves (expr_at ex n)) where
  -- names that are alike on what it reads are alike on what the tree reads
  tree_alike : (f : Name → Name) → Alike f now names → Alike f now (leaves_all (bare_exprs (tree_at expr_shape ex n)))
  tree_alike f alike a i =
      alike a (ap (λ (l : List Name). has l a) (read ∙ sym (append-nil (leaves (expr_at ex n))) ∙ ap leaves_all (sym (alone ex n h))) ∙ i)

  -- a copy under the names
  pub copy-renamed : (new : List AExpr) (copy : Node) → IsRenamed (renamed names (map now names)) ex new n copy → expr_at new copy ≡ renamed_expr now (expr_at ex n)
  copy-renamed new copy r =
      ap (λ (t : Trees AExpr). one_expr (bare_exprs t)) (tree_at-is expr_shape new copy r.trees r.stands)
      ∙ ap one_expr (r.same ∙ exprs-alike (renamed names (map now names)) now (bare_exprs (tree_at expr_shape ex n)) (tree_alike (renamed names (map now names)) (renamed-mapped now names)) ∙ ap (renamed_exprs now) (alone ex n h))
      ∙ renamed_one now (expr_at ex n)

  -- itself, where its columns are called as they were
  pub own-renamed : names ≡ map now names → expr_at ex n ≡ renamed_expr now (expr_at ex n)
  own-renamed own =
      ap one_expr (sym (own-exprs (bare_exprs (tree_at expr_shape ex n))) ∙ exprs-alike (λ a. a) now (bare_exprs (tree_at expr_shape ex n)) (tree_alike (λ a. a) (mapped-own now names own)) ∙ ap (renamed_exprs now) (alone ex n h))
      ∙ renamed_one now (expr_at ex n)

-- lists of names that don't differ
pub same_lists : (xs ys : List Name) → false ≡ not (pointwise bytes_eq xs ys) → xs ≡ ys
same_lists xs ys h = (slice_eq-Decides bytes_eq-Decides xs ys (pointwise bytes_eq xs ys) refl).0 (of (pointwise bytes_eq xs ys) h)
  where
    of : (t : Bool) → false ≡ not t → t ≡ true
    of true e = refl
    of false e = cc
