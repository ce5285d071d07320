-- A copy of an expression over a cross join, under the names of its own side.
use Rattle.std.proofs.Common.{◌≡◌, ◌∙◌, Bool, true, false, cond, List, [], ◌∷◌, ◌||◌, map, Option, Some, unwrap_or, refl, sym, ap, ap₂, append-nil}
use Rattle.std.specs.Option.{option_map_or}
use Rattle.std.specs.Str.{bytes_eq}
use Rattle.std.proofs.lemmas.Slice.Eq.{bytes_eq-Decides}
use Rattle.plan_core.specs.declared.arena.Node.{Node}
use Rattle.plan_core.specs.Names.{has}
use Rattle.plan_tree.specs.Read.{tree_at}
use Rattle.plan_tree.specs.Rose.{Roses, rose, no_roses, more}
use Rattle.plan_tree.specs.Stands.{Trees, StandsOnce}
use Rattle.plan_tree.proofs.ReadLemmas.{tree_at-is, tree_at-stands}
use Rattle.plan_expr.specs.declared.aexpr.AExpr.{AExpr}
use Rattle.plan_expr.specs.Exprs.{ExprOp, Expr, column, literal, alias, binary, ternary, aggregate, call, window, len, bare_exprs, expr_at, one_expr}
use Rattle.plan_expr.specs.Leaves.{Name, own_leaves, leaves, leaves_all}
use Rattle.plan_expr.specs.Operands.{IsExpr, expr_shape}
use Rattle.plan_frame.proofs.NameSets.{has_first, has_front, has_back}
use Rattle.plan_join.specs.declared.origin.Side.{Side}
use Rattle.plan_meaning.specs.Functions.{new_name, renamed}
use Rattle.plan_pruned.specs.JoinPruned.{renamed_expr}
use Rattle.plan_pruned.specs.Renamed.{IsRenamed, renamed_exprs, renamed_op}
use Rattle.plan_prune_parts.specs.declared.origins.Origins.{Origins}
use Rattle.plan_collapse_laws.specs.CrossKeys.{Crossed, own_expr, own_name}
use Rattle.plan_collapse.specs.KeysAt.{AreOrigins, own_in}

module _ (f g : Name → Name) where
  -- two ways to name are alike on these names
  abbrev Alike : List Name → Type 0
  Alike l = (a : Name) → has l a ≡ true → f a ≡ g a

  op-alike : (op : ExprOp) → Alike (own_leaves op) → renamed_op f op ≡ renamed_op g op
  op-alike (column a) h = ap column (h a (has_first a []))
  op-alike (literal value) h = refl
  op-alike (alias name) h = refl
  op-alike (binary op) h = refl
  op-alike ternary h = refl
  op-alike (aggregate op) h = refl
  op-alike (call function options) h = refl
  op-alike window h = refl
  op-alike len h = refl

  exprs-alike : (es : Roses (Unit {0}) ExprOp) → Alike (leaves_all es) → renamed_exprs f es ≡ renamed_exprs g es
  exprs-alike no_roses h = refl
  exprs-alike (more (rose n op us) es) h =
      let here : Alike (leaves (rose n op us)) = λ a i. h a (has_front (leaves (rose n op us)) (leaves_all es) a i) in
      ap₂ more
      (ap₂ (λ (o : ExprOp) (vs : Roses (Unit {0}) ExprOp). rose n o vs) (op-alike op (λ a i. here a (has_front (own_leaves op) (leaves_all us) a i))) (exprs-alike us (λ a i. here a (has_back (own_leaves op) (leaves_all us) a i))))
      (exprs-alike es (λ a i. h a (has_back (leaves (rose n op us)) (leaves_all es) a i)))

-- a name beside what it becomes
new-mapped : (now : Name → Name) (names : List Name) (a : Name) → has names a ≡ true → new_name names (map now names) a ≡ Some (now a)
new-mapped now [] a h = cc
new-mapped now (b ∷ names) a h = at (bytes_eq a b) refl h (new-mapped now names a)
  where
    at : (t : Bool) → bytes_eq a b ≡ t → (t || has names a) ≡ true → (has names a ≡ true → new_name names (map now names) a ≡ Some (now a)) → cond t (Some (now b)) (new_name names (map now names) a) ≡ Some (now a)
    at true e i rest = ap (λ (x : Name). Some (now x)) (sym ((bytes_eq-Decides a b).0 e))
    at false e i rest = rest i

module _ (j : Crossed) (o : Origins) (h : AreOrigins j o) (ex grown : List AExpr) (n copy : Node) (s : IsExpr ex n) where
  -- by the origins it is the name of its own side
  own-by : (a : Name) → own_in o a ≡ own_name j a
  own-by a = ap (λ (x : Option (Side × Name)). option_map_or (λ (y : Side × Name). y.1) x a) (h a)

  -- one tree stands at the number
  one_tree : (t : Trees AExpr) → StandsOnce expr_shape ex (n ∷ []) t → bare_exprs t ≡ more (one_expr (bare_exprs t)) no_roses
  one_tree no_roses s = absurd s.stands
  one_tree (more (rose m p kids) (more (rose k q below) rest)) s = absurd s.stands.4
  one_tree (more (rose m p kids) no_roses) s = refl

  renamed_one : (now : Name → Name) (e : Expr) → one_expr (renamed_exprs now (more e no_roses)) ≡ renamed_expr now e
  renamed_one now (rose m op es) = refl

  pub own-copied : (names owns : List Name) → names ≡ leaves (expr_at ex n) → owns ≡ map (own_in o) names → IsRenamed (renamed names owns) ex grown n copy → expr_at grown copy ≡ own_expr j (expr_at ex n)
  own-copied names owns read own r =
      let alone : bare_exprs (tree_at expr_shape ex n) ≡ more (expr_at ex n) no_roses = one_tree (tree_at expr_shape ex n) (tree_at-stands expr_shape ex n s.0 s.1) in
      let all : leaves_all (bare_exprs (tree_at expr_shape ex n)) ≡ names = ap leaves_all alone ∙ append-nil (leaves (expr_at ex n)) ∙ sym read in
      let alike : Alike (renamed names owns) (own_name j) (leaves_all (bare_exprs (tree_at expr_shape ex n))) =
      λ a i. ap (λ (os : List Name). renamed names os a) own ∙ ap (λ (x : Option Name). unwrap_or x a) (new-mapped (own_in o) names a (ap (λ (l : List Name). has l a) (sym all) ∙ i)) ∙ own-by a in
      ap (λ (t : Trees AExpr). one_expr (bare_exprs t)) (tree_at-is expr_shape grown copy r.trees r.stands)
      ∙ ap one_expr (r.same ∙ exprs-alike (renamed names owns) (own_name j) (bare_exprs (tree_at expr_shape ex n)) alike ∙ ap (renamed_exprs (own_name j)) alone)
      ∙ renamed_one (own_name j) (expr_at ex n)
