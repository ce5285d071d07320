-- The checks on pairs of keys, made one after another.
use Rattle.std.proofs.Common.{◌≡◌, ◌∙◌, ◌&&◌, ℕ, suc, ◌+◌, ◌<◌, ◌≤◌, Bool, true, false, cond, List, [], ◌∷◌, length, drop, get_or, option_map, Option, None, Some, refl, sym, ap, ap₂, arith, add-one, add-zero}
use Rattle.std.specs.List.{slice_get}
use Rattle.std.proofs.lemmas.List.{length-map}
use Rattle.std.proofs.lemmas.Option.{slice_get-map}
use Rattle.plan_core.specs.declared.arena.Node.{Node}
use Rattle.plan_core.specs.declared.error.PolarsError.{PolarsError}
use Rattle.plan_core.specs.declared.error.PolarsError.TheVariants.{SchemaMismatch}
use Rattle.plan_core.specs.Columns.{Columns}
use Rattle.plan_options.specs.declared.join.JoinType.{JoinType}
use Rattle.plan_expr.specs.declared.aexpr.AExpr.{AExpr}
use Rattle.plan_expr.specs.declared.expr_ir.ExprIR.{ExprIR}
use Rattle.plan_expr.specs.Exprs.{all_named_at, named_at, Named}
use Rattle.plan_frame.specs.Exprs.{expr_type}
use Rattle.plan_meaning.specs.JoinChecks.{are_one_type, is_key_type, pair_checks}
use Rattle.plan_meaning.specs.Typing.{at, first_fault}
use Rattle.plan_schema.proofs.CheckLemmas.{drop-at, drop-end}
use Rattle.plan_check_parts.proofs.MadeLemmas.{item_here}

-- a key in its place, with its expression
pub key_here : (ex : List AExpr) (es : List ExprIR) (i : ℕ) (e : ExprIR) → i < length es → e ≡ get_or es i e → slice_get (all_named_at ex es) i ≡ Some (named_at ex e)
key_here ex es i e lt is = slice_get-map (named_at ex) es i ∙ ap (option_map (named_at ex)) (item_here es i e lt is)

-- no key is behind the last one
pub keys_behind : (ex : List AExpr) (es : List ExprIR) (i : ℕ) → length es ≤ i → length (all_named_at ex es) ≤ i
keys_behind ex es i h = let long = length-map es (named_at ex) in omega (arith, long, h)

-- whether a right key has a type that may stand in the join, that of the left key beside it
abbrev pub are_typed : JoinType → (left right : Columns) → Named → Named → Bool
are_typed how s t l r = is_key_type how (expr_type r.expr t) && are_one_type (expr_type l.expr s) (expr_type r.expr t)

module _ (n : Node) (how : JoinType) (k : ℕ) (s t : Columns) (ls rs : List Named) where
  -- the checks from a pair on say what all of them say
  pub record PairsLeft (i : ℕ) : Type 0 where
    pub same : first_fault n (pair_checks how (k + i) s t (drop i ls) (drop i rs)) ≡ first_fault n (pair_checks how k s t ls rs)

  pub pairs-all : PairsLeft 0
  pairs-all = record { same = rw add-zero refl }

  opened : (i : ℕ) (l r : Named) → slice_get ls i ≡ Some l → slice_get rs i ≡ Some r → first_fault n (pair_checks how (k + i) s t (drop i ls) (drop i rs)) ≡ cond (are_typed how s t l r) (first_fault n (pair_checks how (suc (k + i)) s t (drop (suc i) ls) (drop (suc i) rs))) (Some (SchemaMismatch (at n (k + i))))
  opened i l r e f = ap₂ (λ (xs ys : List Named). first_fault n (pair_checks how (k + i) s t xs ys)) (drop-at ls i l e) (drop-at rs i r f)

  pub pairs-next : (i : ℕ) (l r : Named) → PairsLeft i → slice_get ls i ≡ Some l → slice_get rs i ≡ Some r → are_typed how s t l r ≡ true → PairsLeft (i + 1)
  pairs-next i l r left e f good =
      let here : suc (k + i) ≡ k + (i + 1) = omega arith in
      let step : first_fault n (pair_checks how (k + i) s t (drop i ls) (drop i rs)) ≡ first_fault n (pair_checks how (suc (k + i)) s t (drop (suc i) ls) (drop (suc i) rs)) = opened i l r e f ∙ ap (λ (b : Bool). cond b (first_fault n (pair_checks how (suc (k + i)) s t (drop (suc i) ls) (drop (suc i) rs))) (Some (SchemaMismatch (at n (k + i))))) good in
      let now : first_fault n (pair_checks how (suc (k + i)) s t (drop (suc i) ls) (drop (suc i) rs)) ≡ first_fault n (pair_checks how (k + (i + 1)) s t (drop (i + 1) ls) (drop (i + 1) rs)) = rw (here, add-one i) refl in
      record { same = sym now ∙ sym step ∙ left.same }

  pub pairs-bad : (i : ℕ) (l r : Named) → PairsLeft i → slice_get ls i ≡ Some l → slice_get rs i ≡ Some r → are_typed how s t l r ≡ false → first_fault n (pair_checks how k s t ls rs) ≡ Some (SchemaMismatch (at n (k + i)))
  pairs-bad i l r left e f bad =
      sym left.same ∙ opened i l r e f ∙ ap (λ (b : Bool). cond b (first_fault n (pair_checks how (suc (k + i)) s t (drop (suc i) ls) (drop (suc i) rs))) (Some (SchemaMismatch (at n (k + i))))) bad

  -- no pairs are left behind the last left key
  none_left : (j : ℕ) (xs ys : List Named) → xs ≡ [] → ◌≡◌ {A = Option PolarsError} None (first_fault n (pair_checks how j s t xs ys))
  none_left j xs ys e = sym (ap (λ (l : List Named). first_fault n (pair_checks how j s t l ys)) e)

  none_right : (j : ℕ) (xs ys : List Named) → ys ≡ [] → first_fault n (pair_checks how j s t xs ys) ≡ None
  none_right j xs ys e = ap (λ (l : List Named). first_fault n (pair_checks how j s t xs l)) e ∙ of xs
    where
      of : (xs : List Named) → first_fault n (pair_checks how j s t xs []) ≡ None
      of [] = refl
      of (x ∷ xs) = refl

  pub pairs-alone : (i : ℕ) → PairsLeft i → length ls ≤ i → PairsLeft (i + 1)
  pairs-alone i left behind =
      let here = none_left (k + i) (drop i ls) (drop i rs) (drop-end ls i behind) in
      let next = none_left (k + (i + 1)) (drop (i + 1) ls) (drop (i + 1) rs) (drop-end ls (i + 1) (omega arith)) in
      record { same = sym next ∙ here ∙ left.same }

  pub pairs-end : (i : ℕ) → PairsLeft i → length rs ≤ i → first_fault n (pair_checks how k s t ls rs) ≡ None
  pairs-end i left h = sym left.same ∙ none_right (k + i) (drop i ls) (drop i rs) (drop-end rs i h)
