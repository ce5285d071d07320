-- Expressions in an arena that grew read as they did, and copies that are added one by one.
use Rattle.std.proofs.Common.{◌≡◌, ◌∙◌, ◌++◌, ◌+◌, ◌<◌, ℕ, List, [], ◌∷◌, drop, get_or, length, map, take, sym, ap, ap₂, subst, inr, append_assoc}
use Rattle.std.proofs.lemmas.List.{drop_more, get_or-map, length-map, map-append, take_more}
use Rattle.plan_core.specs.declared.arena.Node.{Node}
use Rattle.plan_expr.specs.declared.aexpr.AExpr.{AExpr}
use Rattle.plan_expr.specs.Exprs.{Expr, expr_at}
use Rattle.plan_expr.specs.Operands.{IsExpr}
use Rattle.plan_expr.proofs.ExprLemmas.{exprs_at-is}
use Rattle.plan_meaning.specs.MintermTrees.{listed}
use Rattle.plan_pruned.specs.Renamed.{IsLonger, IsRenamed}
use Rattle.plan_prune_parts.specs.Places.{StandExprs, TakePlace}
use Rattle.plan_prune_parts.proofs.LongerLemmas.{first_exprs, last_exprs, longer_trans, trees_longer}
use Rattle.plan_prune_parts.proofs.PlaceLemmas.{place_alone, place_before, place_behind, place_trans}
use Rattle.plan_collapse_laws.specs.CrossKeys.{Crossed, own_expr}
use Rattle.plan_collapse.specs.declared.keys.KeyNodes.{KeyNodes}
use Rattle.plan_collapse.specs.KeysAt.{right_nodes}
use Rattle.plan_collapse.proofs.MintermLists.{listed-map}
use Rattle.plan_collapse.proofs.Places.{one_stands, place_for}

-- the expressions at numbers are those that were there
pub map-longer : (ex grown : List AExpr) (ns : List Node) → IsLonger ex grown → StandExprs ex ns → map (expr_at grown) ns ≡ map (expr_at ex) ns
map-longer ex grown ns longer h =
    listed-map grown ns
    ∙ ap listed (exprs_at-is grown ns h.0 (trees_longer ex grown longer ns h.0 h.1) ∙ sym (exprs_at-is ex ns h.0 h.1))
    ∙ sym (listed-map ex ns)

pub one-longer : (ex grown : List AExpr) (n : Node) → IsLonger ex grown → IsExpr ex n → expr_at grown n ≡ expr_at ex n
one-longer ex grown n longer h = of (map-longer ex grown (n ∷ []) longer h)
  where
    of : map (expr_at grown) (n ∷ []) ≡ map (expr_at ex) (n ∷ []) → expr_at grown n ≡ expr_at ex n
    of e = cc

-- a copy stands in the place of what it was made of
pub copy-place : (now : _) (ex grown : List AExpr) (n copy : Node) → IsLonger ex grown → IsRenamed now ex grown n copy → TakePlace ex grown (copy ∷ []) (n ∷ [])
copy-place now ex grown n copy longer r = place_for ex grown (copy ∷ []) (n ∷ []) longer (λ f s. (r.trees, r.stands, λ k q. inr (r.fresh k q)))

-- the copies of the first keys, with the keys that are left
pub record Copying (ex grown : List AExpr) (keys : List KeyNodes) (copies : List Node) (i : ℕ) : Type 0 where
  pub longer : IsLonger ex grown
  pub place : TakePlace ex grown (copies ++ right_nodes (drop i keys)) (right_nodes keys)

-- what they are
abbrev pub Copied : Crossed → (ex grown : List AExpr) → List KeyNodes → List Node → ℕ → Type 0
Copied j ex grown keys copies i = map (expr_at grown) copies ≡ map (λ (k : KeyNodes). own_expr j (expr_at ex k.right)) (take i keys)

module _ (ex grown : List AExpr) (keys : List KeyNodes) (copies : List Node) (i : ℕ) (d : KeyNodes) (lt : i < length keys) (h : StandExprs ex (right_nodes keys)) (c : Copying ex grown keys copies i) where
  abbrev key : KeyNodes
  key = get_or keys i d

  abbrev left : List Node
  left = right_nodes (drop (i + 1) keys)

  now : StandExprs grown (copies ++ (key.right ∷ left))
  now = subst (λ (ns : List KeyNodes). StandExprs grown (copies ++ right_nodes ns)) (drop_more keys i d lt) (place_alone ex grown (copies ++ right_nodes (drop i keys)) (right_nodes keys) c.place h)

  copies_stand : StandExprs grown copies
  copies_stand = first_exprs grown copies (key.right ∷ left) now

  pub key-stands : IsExpr grown key.right
  key-stands = first_exprs grown (key.right ∷ []) left (last_exprs grown copies (key.right ∷ left) now)

  stood : IsExpr ex key.right
  stood = subst (IsExpr ex) (get_or-map (λ (k : KeyNodes). k.right) keys i d (record { 0 = 0 }) lt)
      (one_stands ex (right_nodes keys) i (record { 0 = 0 }) (rw (length-map keys (λ (k : KeyNodes). k.right)) lt) h)

  module _ (more_grown : List AExpr) (copy : Node) (more_copies : List Node) (longer : IsLonger grown more_grown) (place : TakePlace grown more_grown (copy ∷ []) (key.right ∷ [])) (is : more_copies ≡ copies ++ copy ∷ []) where
    pub copying-next : Copying ex more_grown keys more_copies (i + 1)
    copying-next = record {
      longer = longer_trans ex grown more_grown c.longer longer;
      place = subst (λ (ns : List Node). TakePlace ex more_grown ns (right_nodes keys)) (sym (append_assoc copies (copy ∷ []) left) ∙ ap (λ (ns : List Node). ns ++ left) (sym is))
          (place_trans ex grown more_grown (copies ++ (copy ∷ left)) (copies ++ (key.right ∷ left)) (right_nodes keys)
          (place_behind grown more_grown copies (copy ∷ left) (key.right ∷ left) (place_before grown more_grown left (copy ∷ []) (key.right ∷ []) place))
          (subst (λ (ns : List KeyNodes). TakePlace ex grown (copies ++ right_nodes ns) (right_nodes keys)) (drop_more keys i d lt) c.place));
    }

    pub copied-next : (j : Crossed) → expr_at more_grown copy ≡ own_expr j (expr_at grown key.right) → Copied j ex grown keys copies i → Copied j ex more_grown keys more_copies (i + 1)
    copied-next j made before =
        let f : KeyNodes → Expr = λ k. own_expr j (expr_at ex k.right) in
        ap (map (expr_at more_grown)) is
        ∙ map-append (expr_at more_grown) copies (copy ∷ [])
        ∙ ap₂ (λ (es : List Expr) (e : Expr). es ++ e ∷ []) (map-longer grown more_grown copies longer copies_stand ∙ before) (made ∙ ap (own_expr j) (one-longer ex grown key.right c.longer stood))
        ∙ sym (ap (map f) (take_more keys i d lt) ∙ map-append f (take i keys) (key ∷ []))
