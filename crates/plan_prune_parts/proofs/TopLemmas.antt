-- Columns of a selection, in an arena that grows.
use Rattle.std.proofs.Common.{◌≡◌, ◌∙◌, ℕ, suc, ◌+◌, ◌≤◌, inl, inr, arith, length-append, length, List, [], ◌∷◌, ◌++◌, map, take, Some, refl, sym, ap, ap₂, append_assoc, subst}
use Rattle.std.specs.List.{slice_get}
use Rattle.std.proofs.lemmas.Option.{slice_get_within}
use Rattle.plan_core.specs.declared.arena.Node.{Node}
use Rattle.plan_tree.specs.Rose.{rose, no_roses, more}
use Rattle.plan_tree.specs.Stands.{Trees, Reaches, StandsOnce}
use Rattle.plan_tree.proofs.Frames.{slice_get-append, slice_get-append_last}
use Rattle.plan_expr.specs.declared.aexpr.AExpr.{AExpr}
use Rattle.plan_expr.specs.declared.aexpr.AExpr.TheVariants as exprs
use Rattle.plan_expr.specs.declared.expr_ir.ExprIR.{ExprIR}
use Rattle.plan_expr.specs.declared.expr_ir.OutputName.{OutputName}
use Rattle.plan_expr.specs.Exprs.{all_named_at, Expr, Named}
use Rattle.plan_expr.specs.Leaves.{Name}
use Rattle.plan_expr.specs.Operands.{expr_shape, IsExpr}
use Rattle.plan_expr.proofs.ExprLemmas.{expr_open}
use Rattle.plan_expr.proofs.ListLemmas.{take-next}
use Rattle.plan_pruned.specs.JoinPruned.{renaming}
use Rattle.plan_pruned.specs.Renamed.{IsLonger}
use Rattle.plan_prune_parts.specs.Left.{StandFor}

module _ (now : Name → Name) where
  -- expressions are the columns that these names are now, under the names: entries one after another, of which the first has at least this number
  abbrev pub ColumnsAt : ℕ → List AExpr → List ExprIR → List Name → Type 0
  ColumnsAt k ex [] [] = Unit {0}
  ColumnsAt k ex [] (a ∷ names) = ⊥
  ColumnsAt k ex (e ∷ es) [] = ⊥
  ColumnsAt k ex (e ∷ es) (a ∷ names) = (k ≤ e.node.0) × (slice_get ex e.node.0 ≡ Some (exprs.Column (now a))) × (e.output_name ≡ (renaming now a).name) × ColumnsAt (suc e.node.0) ex es names

  -- one more, a new entry
  columns-more : (k : ℕ) (ex : List AExpr) (es : List ExprIR) (names : List Name) (e : ExprIR) (a : Name) → ColumnsAt k ex es names → k ≤ length ex → e.node.0 ≡ length ex → e.output_name ≡ (renaming now a).name → ColumnsAt k (ex ++ exprs.Column (now a) ∷ []) (es ++ e ∷ []) (names ++ a ∷ [])
  columns-more k ex [] [] e a h low last n = (omega (arith, low, last), ap (slice_get (ex ++ exprs.Column (now a) ∷ [])) last ∙ slice_get-append_last expr_shape ex (exprs.Column (now a)), n, tt)
  columns-more k ex [] (b ∷ names) e a h low last n = absurd h
  columns-more k ex (d ∷ es) [] e a h low last n = absurd h
  columns-more k ex (d ∷ es) (b ∷ names) e a h low last n =
      let within = slice_get_within ex d.node.0 (exprs.Column (now b)) h.1 in
      (h.0, slice_get-append expr_shape ex (exprs.Column (now a) ∷ []) d.node.0 within ∙ h.1, h.2, columns-more (suc d.node.0) ex es names e a h.3 (omega (arith, within)) last n)

  column_stands : (ex : List AExpr) (n : Node) (b : Name) → slice_get ex n.0 ≡ Some (exprs.Column b) → IsExpr ex n
  column_stands ex n b e = (
    more (rose n (exprs.Column b) no_roses) no_roses,
    record {
      stands = (refl, e, refl, tt, tt);
      once = ((λ r. r), (λ r. r), (λ k u v. v), tt, tt);
    },
  )

  -- so they read
  pub columns-named : (k : ℕ) (ex : List AExpr) (es : List ExprIR) (names : List Name) → ColumnsAt k ex es names → all_named_at ex es ≡ map (renaming now) names
  columns-named k ex [] [] h = refl
  columns-named k ex [] (a ∷ names) h = absurd h
  columns-named k ex (e ∷ es) [] h = absurd h
  columns-named k ex (e ∷ es) (a ∷ names) h =
      ap₂ (λ (x : Named) (xs : List Named). x ∷ xs)
      (ap₂ (λ (o : OutputName) (x : Expr). record { name = o; expr = x }) h.2 (expr_open ex e.node (exprs.Column (now a)) (column_stands ex e.node (now a) h.1) h.1))
      (columns-named (suc e.node.0) ex es names h.3)

  -- so they stand
  abbrev column_trees : List ExprIR → List Name → Trees AExpr
  column_trees [] names = no_roses
  column_trees (e ∷ es) [] = no_roses
  column_trees (e ∷ es) (a ∷ names) = more (rose e.node (exprs.Column (now a)) no_roses) (column_trees es names)

  columns_from : (k : ℕ) (ex : List AExpr) (es : List ExprIR) (names : List Name) → ColumnsAt k ex es names → (i : ℕ) → Reaches (column_trees es names) i → k ≤ i
  columns_from k ex [] names h i r = absurd r
  columns_from k ex (e ∷ es) [] h i r = absurd h
  columns_from k ex (e ∷ es) (a ∷ names) h i r =
      elim r as (λ _. k ≤ i) [
        | inl u ↦ omega (arith, u, h.0)
        | inr v ↦ elim v as (λ _. k ≤ i) [ inl u ↦ absurd u | inr w ↦ (let later = columns_from (suc e.node.0) ex es names h.3 i w in omega (arith, later, h.0)) ]
      ]

  columns_stand : (k : ℕ) (ex : List AExpr) (es : List ExprIR) (names : List Name) → ColumnsAt k ex es names → StandsOnce expr_shape ex (map (λ (e : ExprIR). e.node) es) (column_trees es names)
  columns_stand k ex [] names h = record { stands = tt; once = tt }
  columns_stand k ex (e ∷ es) [] h = absurd h
  columns_stand k ex (e ∷ es) (a ∷ names) h =
      let rest = columns_stand (suc e.node.0) ex es names h.3 in
      record {
        stands = (refl, h.1, refl, tt, rest.stands);
        once = ((λ r. r), (λ r. let later = columns_from (suc e.node.0) ex es names h.3 e.node.0 r in absurd (omega (arith, later))), (λ i u v. u), tt, rest.once);
      }

  -- they stand over new entries alone
  pub columns_new : (old ex : List AExpr) (es : List ExprIR) (names : List Name) → ColumnsAt (length old) ex es names → StandFor old ex (map (λ (e : ExprIR). e.node) es) []
  columns_new old ex es names h f s = (column_trees es names, columns_stand (length old) ex es names h, λ i r. inr (columns_from (length old) ex es names h i r))

  -- one name more
  pub columns-next : (k : ℕ) (ex new : List AExpr) (es all : List ExprIR) (asked : List Name) (i : ℕ) (a : Name) (e : ExprIR) → ColumnsAt k ex es (take i asked) → k ≤ length ex → slice_get asked i ≡ Some a → new ≡ ex ++ exprs.Column (now a) ∷ [] → all ≡ es ++ e ∷ [] → e.node.0 ≡ length ex → e.output_name ≡ (renaming now a).name → ColumnsAt k new all (take (i + 1) asked)
  columns-next k ex new es all asked i a e h low here is pushed last called =
      subst (λ (l : List AExpr). ColumnsAt k l all (take (i + 1) asked)) (sym is)
      (subst (λ (l : List ExprIR). ColumnsAt k (ex ++ exprs.Column (now a) ∷ []) l (take (i + 1) asked)) (sym pushed)
      (subst (λ (l : List Name). ColumnsAt k (ex ++ exprs.Column (now a) ∷ []) (es ++ e ∷ []) l) (sym (take-next asked i a here))
      (columns-more k ex es (take i asked) e a h low last called)))

-- an arena that grew is as long
pub longer-length : (old new : List AExpr) → IsLonger old new → length old ≤ length new
longer-length old new l = let e : length new ≡ length old + length l.0 = ap length l.1 ∙ length-append old l.0 in omega (arith, e)

-- an arena that grew has grown
pub longer-next : (old ex new : List AExpr) (x : AExpr) → IsLonger old ex → new ≡ ex ++ x ∷ [] → IsLonger old new
longer-next old ex new x h e = (h.0 ++ x ∷ [], e ∙ ap (λ (l : List AExpr). l ++ x ∷ []) h.1 ∙ append_assoc old h.0 (x ∷ []))
