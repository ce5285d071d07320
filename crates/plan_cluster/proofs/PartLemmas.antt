-- The parts of upper expressions are those that stay, that take a place, and that move down.
use Rattle.std.proofs.Common.{◌≡◌, ◌∙◌, Bool, true, false, not, ◌&&◌, ◌||◌, cond, List, [], ◌∷◌, ◌++◌, refl, sym, ap, ap₂, subst, inl, inr, append-nil}
use Rattle.std.specs.List.{filter as only_where}
use Rattle.std.specs.List.Sorted.{IsPermutation}
use Rattle.std.proofs.lemmas.List.{append_assoc}
use Rattle.std.proofs.lemmas.List.Sorted.{IsPermutation-cons, IsPermutation-middle, IsPermutation-refl, IsPermutation-sym, IsPermutation-trans}
use Rattle.plan_core.specs.Names.{has}
use Rattle.plan_expr.specs.declared.aexpr.AExpr.{AExpr}
use Rattle.plan_expr.specs.declared.expr_ir.ExprIR.{ExprIR}
use Rattle.plan_expr.specs.Exprs.{Named, all_named_at, named_at}
use Rattle.plan_expr.specs.Leaves.{Name}
use Rattle.plan_meaning.specs.Checks.{is_empty}
use Rattle.plan_collapse_laws.specs.Meeting.{from_behind, moves_down, takes_place}
use Rattle.plan_collapse_laws.specs.Staying.{IsOne, out, stays}
use Rattle.plan_cluster.specs.ExprNames.{expr_name}
use Rattle.plan_cluster.specs.Parts.{AreParts, no_parts, parts_more, parts_with}
use Rattle.plan_cluster.specs.declared.parts.Parts.{Parts}

-- those that pass a test, read at their numbers
read-where : (ex : List AExpr) (p : Named → Bool) (es : List ExprIR) → all_named_at ex (only_where (λ (e : ExprIR). p (named_at ex e)) es) ≡ only_where p (all_named_at ex es)
read-where ex p [] = refl
read-where ex p (e ∷ es) = at (p (named_at ex e)) (read-where ex p es)
  where
    at : (t : Bool) → all_named_at ex (only_where (λ (d : ExprIR). p (named_at ex d)) es) ≡ only_where p (all_named_at ex es) → all_named_at ex (cond t (e ∷ only_where (λ (d : ExprIR). p (named_at ex d)) es) (only_where (λ (d : ExprIR). p (named_at ex d)) es)) ≡ cond t (named_at ex e ∷ only_where p (all_named_at ex es)) (only_where p (all_named_at ex es))
    at true h = ap (λ (l : List Named). named_at ex e ∷ l) h
    at false h = h

-- tests that say the same of each expression
where-alike : (p q : Named → Bool) (es : List Named) → ((e : Named) → IsOne e es → p e ≡ q e) → only_where p es ≡ only_where q es
where-alike p q [] h = refl
where-alike p q (e ∷ es) h =
    ap₂ (λ (t : Bool) (l : List Named). cond t (e ∷ l) l) (h e (inl refl)) (where-alike p q es (λ d i. h d (inr i)))

behind-alike : (s t take took : Named → Bool) (seen : Bool) (es : List Named) → ((e : Named) → IsOne e es → s e ≡ t e) → ((e : Named) → IsOne e es → take e ≡ took e) → from_behind s take seen es ≡ from_behind t took seen es
behind-alike s t take took seen [] h k = refl
behind-alike s t take took seen (e ∷ es) h k =
    ap₂ (λ (x y : Bool). cond (s e) x ((seen && not (take e)) || y)) (behind-alike s t take took true es (λ d i. h d (inr i)) (λ d i. k d (inr i))) (behind-alike s t take took seen es (λ d i. h d (inr i)) (λ d i. k d (inr i)))
    ∙ ap₂ (λ (x y : Bool). cond x (from_behind t took true es) ((seen && not y) || from_behind t took seen es)) (h e (inl refl)) (k e (inl refl))

module _ (found lower : List Name) where
  abbrev stay : ExprIR → Bool
  stay e = has found (expr_name e)

  abbrev take : ExprIR → Bool
  take e = not (has found (expr_name e)) && has lower (expr_name e)

  abbrev move : ExprIR → Bool
  move e = not (has found (expr_name e)) && not (has lower (expr_name e))

  abbrev stay_of : Named → Bool
  stay_of e = has found (out e)

  some-last : {X : Type 0} (xs : List X) (x : X) → not (is_empty (xs ++ x ∷ [])) ≡ true
  some-last [] x = refl
  some-last (y ∷ xs) x = refl

  or_assoc : (a b c : Bool) → ((a || b) || c) ≡ (a || (b || c))
  or_assoc true b c = refl
  or_assoc false b c = refl

  push-where : {X : Type 0} (xs : List X) (x : X) (ys : List X) → (xs ++ x ∷ []) ++ ys ≡ xs ++ x ∷ ys
  push-where xs x ys = append_assoc xs (x ∷ []) ys

  -- what was there goes first, and then those of each part
  record GrownBy (p q : Parts) (s t m : List ExprIR) (b : Bool) : Type 0 where
    stays : q.stays ≡ p.stays ++ s
    takes : q.takes ≡ p.takes ++ t
    moves : q.moves ≡ p.moves ++ m
    behind : q.from_behind ≡ (p.from_behind || b)

  or-none : (b : Bool) → b ≡ (b || false)
  or-none true = refl
  or-none false = refl

  and-none : (b : Bool) → (b && false) ≡ false
  and-none true = refl
  and-none false = refl

  and-all : (b : Bool) → (b && true) ≡ b
  and-all true = refl
  and-all false = refl

  one-part : (p q : Parts) (e : ExprIR) (s t m : List ExprIR) (b : Bool → Bool) (x y : Bool) → GrownBy (parts_with x y p e) q s t m (b (not (is_empty (parts_with x y p e).stays)))
      → GrownBy p q (cond x (e ∷ s) s) (cond (not x && y) (e ∷ t) t) (cond (not x && not y) (e ∷ m) m) (cond x (b true) ((not (is_empty p.stays) && not (not x && y)) || b (not (is_empty p.stays))))
  one-part p q e s t m b true y h = record {
    stays = h.stays ∙ push-where p.stays e s;
    takes = h.takes;
    moves = h.moves;
    behind = h.behind ∙ ap (λ (c : Bool). p.from_behind || b c) (some-last p.stays e);
  }
  one-part p q e s t m b false true h = record {
    stays = h.stays;
    takes = h.takes ∙ push-where p.takes e t;
    moves = h.moves;
    behind = h.behind ∙ ap (λ (c : Bool). p.from_behind || (c || b (not (is_empty p.stays)))) (sym (and-none (not (is_empty p.stays))));
  }
  one-part p q e s t m b false false h = record {
    stays = h.stays;
    takes = h.takes;
    moves = h.moves ∙ push-where p.moves e m;
    behind = h.behind ∙ or_assoc p.from_behind (not (is_empty p.stays)) (b (not (is_empty p.stays))) ∙ ap (λ (c : Bool). p.from_behind || (c || b (not (is_empty p.stays)))) (sym (and-all (not (is_empty p.stays))));
  }

  more-parts : (ex : List AExpr) (p : Parts) (es : List ExprIR) → GrownBy p (parts_more found lower p es) (only_where stay es) (only_where take es) (only_where move es) (from_behind stay_of (takes_place lower stay_of) (not (is_empty p.stays)) (all_named_at ex es))
  more-parts ex p [] = record { stays = sym (append-nil p.stays); takes = sym (append-nil p.takes); moves = sym (append-nil p.moves); behind = or-none p.from_behind }
  more-parts ex p (e ∷ es) =
      let r = parts_with (has found (expr_name e)) (has lower (expr_name e)) p e in
      one-part p (parts_more found lower r es) e (only_where stay es) (only_where take es) (only_where move es) (λ (seen : Bool). from_behind stay_of (takes_place lower stay_of) seen (all_named_at ex es)) (has found (expr_name e)) (has lower (expr_name e)) (more-parts ex r es)

  -- each expression is of one part
  all-parts : (es : List ExprIR) → IsPermutation es (only_where stay es ++ (only_where take es ++ only_where move es))
  all-parts [] = IsPermutation-refl []
  all-parts (e ∷ es) = at (has found (expr_name e)) (has lower (expr_name e)) (all-parts es)
    where
      s : List ExprIR
      s = only_where stay es

      t : List ExprIR
      t = only_where take es

      m : List ExprIR
      m = only_where move es

      at : (x y : Bool) → IsPermutation es (s ++ (t ++ m)) → IsPermutation (e ∷ es) (cond x (e ∷ s) s ++ (cond (not x && y) (e ∷ t) t ++ cond (not x && not y) (e ∷ m) m))
      at true y h = IsPermutation-cons e es (s ++ (t ++ m)) h
      at false true h = IsPermutation-trans (e ∷ es) (e ∷ (s ++ (t ++ m))) (s ++ e ∷ (t ++ m)) (IsPermutation-cons e es (s ++ (t ++ m)) h) (IsPermutation-sym (s ++ e ∷ (t ++ m)) (e ∷ (s ++ (t ++ m))) (IsPermutation-middle s e (t ++ m)))
      at false false h =
          subst (IsPermutation (e ∷ es)) (append_assoc s t (e ∷ m))
          (IsPermutation-trans (e ∷ es) (e ∷ ((s ++ t) ++ m)) ((s ++ t) ++ e ∷ m)
          (IsPermutation-cons e es ((s ++ t) ++ m) (subst (IsPermutation es) (sym (append_assoc s t m)) h))
          (IsPermutation-sym ((s ++ t) ++ e ∷ m) (e ∷ ((s ++ t) ++ m)) (IsPermutation-middle (s ++ t) e m)))

  pub parts-are : (ex : List AExpr) (us : List ExprIR) → ((e : Named) → IsOne e (all_named_at ex us) → has found (out e) ≡ stays (all_named_at ex us) lower e) → AreParts ex us lower (parts_more found lower no_parts us)
  parts-are ex us h =
      let es = all_named_at ex us in
      let g = more-parts ex no_parts us in
      record {
        above = ap (all_named_at ex) g.stays ∙ read-where ex stay_of us ∙ where-alike stay_of (stays es lower) es h;
        placed = ap (all_named_at ex) g.takes ∙ read-where ex (takes_place lower stay_of) us ∙ where-alike (takes_place lower stay_of) (takes_place lower (stays es lower)) es (λ e i. ap (λ (b : Bool). not b && has lower (out e)) (h e i));
        moved = ap (all_named_at ex) g.moves ∙ read-where ex (moves_down lower stay_of) us ∙ where-alike (moves_down lower stay_of) (moves_down lower (stays es lower)) es (λ e i. ap (λ (b : Bool). not b && not (has lower (out e))) (h e i));
        behind = g.behind ∙ behind-alike stay_of (stays es lower) (takes_place lower stay_of) (takes_place lower (stays es lower)) false es h (λ e i. ap (λ (b : Bool). not b && has lower (out e)) (h e i));
        all = subst (IsPermutation us) (ap₂ (λ (a b : List ExprIR). a ++ b) (sym g.stays) (ap₂ (λ (a b : List ExprIR). a ++ b) (sym g.takes) (sym g.moves))) (all-parts us);
      }
