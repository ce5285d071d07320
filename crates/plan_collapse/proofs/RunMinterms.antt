-- The minterms of predicates, one after another.
use Rattle.std.proofs.Common.{◌≡◌, ◌∙◌, ◌++◌, ◌+◌, ◌<◌, ℕ, List, [], ◌∷◌, drop, get_or, length, map, refl, sym, ap, subst, append-nil, append_assoc}
use Rattle.std.specs.List.{flat_map}
use Rattle.std.proofs.lemmas.List.{drop_more, map-append}
use Rattle.plan_core.specs.declared.arena.Node.{Node}
use Rattle.plan_expr.specs.declared.aexpr.AExpr.{AExpr}
use Rattle.plan_expr.specs.Exprs.{Expr, expr_at}
use Rattle.plan_meaning.specs.Minterms.{minterms}
use Rattle.plan_prune_parts.specs.Places.{TakePlace}
use Rattle.plan_prune_parts.proofs.PlaceLemmas.{place_before, place_behind, place_same, place_trans}
use Rattle.plan_collapse.specs.KeysAt.{AddsMinterms}

module _ (ex : List AExpr) (run : List Node) where
  -- the minterms so far, with the predicates that are left
  pub record Running (all left : List Node) : Type 0 where
    pub exprs : map (expr_at ex) all ++ flat_map minterms (map (expr_at ex) left) ≡ flat_map minterms (map (expr_at ex) run)
    pub place : TakePlace ex ex (all ++ left) run

  pub running-init : Running [] run
  running-init = record { exprs = refl; place = place_same ex run }

  pub running-next : (all more : List Node) (i : ℕ) (d : Node) → i < length run → AddsMinterms ex (get_or run i d) all more → Running all (drop i run) → Running more (drop (i + 1) run)
  running-next all more i d lt a r =
      let n : Node = get_or run i d in
      let left : List Node = drop (i + 1) run in
      let others : List Expr = flat_map minterms (map (expr_at ex) left) in
      let step : drop i run ≡ n ∷ left = drop_more run i d lt in
      record {
        exprs =
            ap (λ (ns : List Node). map (expr_at ex) ns ++ others) a.is
            ∙ ap (λ (es : List Expr). es ++ others) (map-append (expr_at ex) all a.added)
            ∙ append_assoc (map (expr_at ex) all) (map (expr_at ex) a.added) others
            ∙ ap (λ (es : List Expr). map (expr_at ex) all ++ (es ++ others)) a.exprs
            ∙ ap (λ (ns : List Node). map (expr_at ex) all ++ flat_map minterms (map (expr_at ex) ns)) (sym step)
            ∙ r.exprs;
        place = subst (λ (ns : List Node). TakePlace ex ex ns run) (sym (append_assoc all a.added left) ∙ ap (λ (ns : List Node). ns ++ left) (sym a.is))
            (place_trans ex ex ex (all ++ (a.added ++ left)) (all ++ (n ∷ left)) run
            (place_behind ex ex all (a.added ++ left) (n ∷ left) (place_before ex ex left a.added (n ∷ []) a.place))
            (subst (λ (ns : List Node). TakePlace ex ex (all ++ ns) run) step r.place));
      }

  pub running-end : (all left : List Node) → left ≡ [] → Running all left → (map (expr_at ex) all ≡ flat_map minterms (map (expr_at ex) run)) × TakePlace ex ex all run
  running-end all left none r = (
    sym (append-nil (map (expr_at ex) all)) ∙ ap (λ (ns : List Node). map (expr_at ex) all ++ flat_map minterms (map (expr_at ex) ns)) (sym none) ∙ r.exprs,
    subst (λ (ns : List Node). TakePlace ex ex ns run) (ap (λ (ns : List Node). all ++ ns) none ∙ append-nil all) r.place,
  )
