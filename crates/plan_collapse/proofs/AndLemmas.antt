-- Expressions that are joined by And one after another.
use Rattle.std.proofs.Common.{◌≡◌, ◌∙◌, ◌++◌, ◌+◌, ◌<◌, ℕ, List, [], ◌∷◌, Some, drop, fold, get_or, length, map, refl, sym, ap, ap₂, subst, inl, inr, ⊎_elim, arith}
use Rattle.std.specs.List.{slice_get}
use Rattle.std.proofs.lemmas.List.{drop_more}
use Rattle.plan_core.specs.declared.arena.Node.{Node}
use Rattle.plan_tree.proofs.Frames.{slice_get-append_last}
use Rattle.plan_tree.proofs.Roots.{StandsOnce-topped}
use Rattle.plan_expr.specs.declared.aexpr.AExpr.{AExpr}
use Rattle.plan_expr.specs.declared.aexpr.AExpr.TheVariants.{BinaryExpr}
use Rattle.plan_expr.specs.declared.operator.Operator.TheVariants.{And}
use Rattle.plan_expr.specs.Exprs.{Expr, expr_at}
use Rattle.plan_expr.specs.Operands.{IsExpr, expr_shape}
use Rattle.plan_expr.proofs.ExprLemmas.{expr_open}
use Rattle.plan_pruned.specs.Renamed.{IsLonger}
use Rattle.plan_prune_parts.specs.Left.{StandFor}
use Rattle.plan_prune_parts.specs.Places.{StandExprs, TakePlace}
use Rattle.plan_prune_parts.proofs.LongerLemmas.{first_exprs, last_exprs, longer_same, longer_trans}
use Rattle.plan_prune_parts.proofs.PlaceLemmas.{place_alone, place_before, place_same, place_trans}
use Rattle.plan_collapse_laws.specs.TakenKeys.{and_expr}
use Rattle.plan_collapse.proofs.LongerExprs.{one-longer}
use Rattle.plan_collapse.proofs.Places.{one_stands, place_for}

-- an And at a new number
module _ (ex : List AExpr) (l r n : Node) (at_end : n.0 ≡ length ex) where
  abbrev added : AExpr
  added = BinaryExpr l And r

  longer : IsLonger ex (ex ++ added ∷ [])
  longer = (added ∷ [], refl)

  and-place : TakePlace ex (ex ++ added ∷ []) (n ∷ []) (l ∷ r ∷ [])
  and-place = place_for ex (ex ++ added ∷ []) (n ∷ []) (l ∷ r ∷ []) longer for
    where
      for : StandFor ex (ex ++ added ∷ []) (n ∷ []) (l ∷ r ∷ [])
      for f s =
          let t = StandsOnce-topped expr_shape ex added n (l ∷ r ∷ []) [] f at_end refl refl s in
          (t.0, t.1, λ k q. ⊎_elim (λ e. inr (omega (arith, e))) (λ x. inl x) (t.2 k q))

  and-is : StandExprs ex (l ∷ r ∷ []) → expr_at (ex ++ added ∷ []) n ≡ and_expr (expr_at ex l) (expr_at ex r)
  and-is h =
      let entry : slice_get (ex ++ added ∷ []) n.0 ≡ Some added = ap (slice_get (ex ++ added ∷ [])) at_end ∙ slice_get-append_last expr_shape ex added in
      let stands : IsExpr (ex ++ added ∷ []) n = place_alone ex (ex ++ added ∷ []) (n ∷ []) (l ∷ r ∷ []) and-place h in
      expr_open (ex ++ added ∷ []) n added stands entry
      ∙ ap₂ and_expr (one-longer ex (ex ++ added ∷ []) l longer (first_exprs ex (l ∷ []) (r ∷ []) h)) (one-longer ex (ex ++ added ∷ []) r longer (last_exprs ex (l ∷ []) (r ∷ []) h))

-- what was made so far, with the expressions that are left, is what all make
pub record Joining (ex grown : List AExpr) (first : Node) (others : List Node) (made : Node) (i : ℕ) : Type 0 where
  pub longer : IsLonger ex grown
  pub place : TakePlace ex grown (made ∷ drop i others) (first ∷ others)
  pub expr : fold and_expr (expr_at grown made) (map (expr_at ex) (drop i others)) ≡ fold and_expr (expr_at ex first) (map (expr_at ex) others)

pub joining-init : (ex : List AExpr) (first : Node) (others : List Node) → Joining ex ex first others first 0
joining-init ex first others = record { longer = longer_same ex; place = place_same ex (first ∷ others); expr = refl }

pub joining-next : (ex grown more : List AExpr) (first : Node) (others : List Node) (made : Node) (i : ℕ) (d n : Node) → i < length others → StandExprs ex (first ∷ others) → Joining ex grown first others made i → n.0 ≡ length grown → more ≡ grown ++ BinaryExpr made And (get_or others i d) ∷ [] → Joining ex more first others n (i + 1)
joining-next ex grown more first others made i d n lt h j at_end is =
    let m : Node = get_or others i d in
    let left : List Node = drop (i + 1) others in
    let end : List AExpr = grown ++ BinaryExpr made And m ∷ [] in
    let step : drop i others ≡ m ∷ left = drop_more others i d lt in
    let place : TakePlace ex grown (made ∷ m ∷ left) (first ∷ others) = subst (λ (ns : List Node). TakePlace ex grown (made ∷ ns) (first ∷ others)) step j.place in
    let both : StandExprs grown (made ∷ m ∷ []) = first_exprs grown (made ∷ m ∷ []) left (place_alone ex grown (made ∷ m ∷ left) (first ∷ others) place h) in
    let own : IsExpr ex m = one_stands ex others i d lt (last_exprs ex (first ∷ []) others h) in
    let made_now : expr_at end n ≡ and_expr (expr_at grown made) (expr_at ex m) = and-is grown made m n at_end both ∙ ap (and_expr (expr_at grown made)) (one-longer ex grown m j.longer own) in
    let now : Joining ex end first others n (i + 1) = record {
      longer = longer_trans ex grown end j.longer (longer grown made m n at_end);
      place = place_trans ex grown end (n ∷ left) (made ∷ m ∷ left) (first ∷ others) (place_before grown end left (n ∷ []) (made ∷ m ∷ []) (and-place grown made m n at_end)) place;
      expr = ap (λ (e : Expr). fold and_expr e (map (expr_at ex) left)) made_now ∙ ap (λ (ns : List Node). fold and_expr (expr_at grown made) (map (expr_at ex) ns)) (sym step) ∙ j.expr;
    } in
    subst (λ (xs : List AExpr). Joining ex xs first others n (i + 1)) (sym is) now

pub joining-end : (ex grown : List AExpr) (first : Node) (others : List Node) (made : Node) (i : ℕ) → drop i others ≡ [] → Joining ex grown first others made i → (expr_at grown made ≡ fold and_expr (expr_at ex first) (map (expr_at ex) others)) × TakePlace ex grown (made ∷ []) (first ∷ others)
joining-end ex grown first others made i none j = (
  ap (λ (ns : List Node). fold and_expr (expr_at grown made) (map (expr_at ex) ns)) (sym none) ∙ j.expr,
  subst (λ (ns : List Node). TakePlace ex grown (made ∷ ns) (first ∷ others)) none j.place,
)
