-- The names found by a list that grows while it is walked are those of the least set that has to stay.
use Rattle.std.proofs.Common.{◌≡◌, ◌∙◌, ◌<◌, ◌≤◌, ℕ, zero, suc, Bool, true, false, not, ◌&&◌, cond, List, [], ◌∷◌, ◌++◌, length, Option, Some, None, option_and_then, is_some, refl, sym, ap, ap₂, ◌⊎◌, inl, inr, ⊎_elim, arith}
use Rattle.std.specs.List.{AllByRecursion, filter as only_where, slice_get}
use Rattle.std.specs.Str.{bytes_eq}
use Rattle.std.specs.Cmp.Lexicographic.{nat_list_eq_equiv}
use Rattle.std.proofs.lemmas.Bool.{and_parts, both_ways}
use Rattle.std.proofs.lemmas.List.{length_push}
use Rattle.std.proofs.lemmas.Map.Made.{length-le_from_is_member}
use Rattle.plan_core.specs.Names.{AreDistinct, has, with_name, with_names}
use Rattle.plan_expr.specs.Exprs.{Named}
use Rattle.plan_expr.specs.Leaves.{Name, leaves}
use Rattle.plan_frame.specs.ExprLists.{all_leaves, out_names}
use Rattle.plan_frame.proofs.NameSets.{adds_names, distinct_cons, distinct_names, distinct_none, from_names, has-once, has_cons, has_first, has_later, keeps_names}
use Rattle.plan_collapse_laws.specs.Meeting.{named_in}
use Rattle.plan_collapse_laws.specs.Staying.{HoldsStaying, IsOne, Stays, awaited, out, reading, reads_one, remaking, stays}
use Rattle.plan_collapse_laws.proofs.NamedExprs.{named_is, some-named}
use Rattle.plan_collapse_laws.proofs.PairColumns.{named_one}
use Rattle.plan_collapse_laws.proofs.Staying.{holds-staying, least, named_passing, one_all, only-staying, passing_named}
use Rattle.plan_cluster.specs.Found.{awaited_by, found_after, found_at, found_first, found_next, is_awaited, remade_and_read}

-- names that pass

has-passing : (p : Name → Bool) (ns : List Name) (a : Name) → has (only_where p ns) a ≡ true → (has ns a ≡ true) × (p a ≡ true)
has-passing p [] a i = cc
has-passing p (x ∷ ns) a i = at (p x) refl i (has-passing p ns a)
  where
    at : (t : Bool) → p x ≡ t → has (cond t (x ∷ only_where p ns) (only_where p ns)) a ≡ true → (has (only_where p ns) a ≡ true → (has ns a ≡ true) × (p a ≡ true)) → (has (x ∷ ns) a ≡ true) × (p a ≡ true)
    at true q j rest = ⊎_elim (λ s. (ap (λ (y : Name). has (y ∷ ns) a) (sym s) ∙ has_first a ns, ap p s ∙ q)) (λ k. let r = rest k in (has_later x ns a r.0, r.1)) (has_cons x (only_where p ns) a j)
    at false q j rest = let r = rest j in (has_later x ns a r.0, r.1)

passing-has : (p : Name → Bool) (ns : List Name) (a : Name) → p a ≡ true → has ns a ≡ true → has (only_where p ns) a ≡ true
passing-has p [] a k i = i
passing-has p (x ∷ ns) a k i = at (p x) refl (has_cons x ns a i) (passing-has p ns a k)
  where
    at : (t : Bool) → p x ≡ t → (a ≡ x) ⊎ (has ns a ≡ true) → (has ns a ≡ true → has (only_where p ns) a ≡ true) → has (cond t (x ∷ only_where p ns) (only_where p ns)) a ≡ true
    at true q (inl s) rest = ap (λ (y : Name). has (y ∷ only_where p ns) a) (sym s) ∙ has_first a (only_where p ns)
    at true q (inr j) rest = has_later x (only_where p ns) a (rest j)
    at false q (inl s) rest = absurd (both_ways (p x) q (ap p (sym s) ∙ k))
    at false q (inr j) rest = rest j

-- names in places

at-has : (ns : List Name) (j : ℕ) (a : Name) → slice_get ns j ≡ Some a → has ns a ≡ true
at-has [] j a e = cc
at-has (x ∷ ns) zero a e = let q : x ≡ a = cc in ap (λ (y : Name). has (y ∷ ns) a) q ∙ has_first a ns
at-has (x ∷ ns) (suc j) a e = has_later x ns a (at-has ns j a e)

has-at : (ns : List Name) (a : Name) → has ns a ≡ true → (j : ℕ) × (j < length ns) × (slice_get ns j ≡ Some a)
has-at [] a i = cc
has-at (x ∷ ns) a i = ⊎_elim (λ s. (zero, omega arith, ap (λ (y : Name). Some y) (sym s))) (λ k. let r = has-at ns a k in (suc r.0, let h = r.1 in omega (arith, h), r.2)) (has_cons x ns a i)

front-same : (xs : List Name) (y : Name) (j : ℕ) → j < length xs → slice_get (xs ++ y ∷ []) j ≡ slice_get xs j
front-same [] y j h = absurd (omega arith)
front-same (x ∷ xs) y zero h = refl
front-same (x ∷ xs) y (suc j) h = front-same xs y j (omega arith)

one-same : (xs : List Name) (m : Name) (j : ℕ) → j < length xs → (j < length (with_name xs m)) × (slice_get (with_name xs m) j ≡ slice_get xs j)
one-same xs m j h = at (has xs m)
  where
    at : (t : Bool) → (j < length (cond t xs (xs ++ m ∷ []))) × (slice_get (cond t xs (xs ++ m ∷ [])) j ≡ slice_get xs j)
    at true = (h, refl)
    at false = (let l = length_push xs m in omega (arith, h, l), front-same xs m j h)

grown-same : (xs more : List Name) (j : ℕ) → j < length xs → slice_get (with_names xs more) j ≡ slice_get xs j
grown-same xs [] j h = refl
grown-same xs (m ∷ more) j h = let r = one-same xs m j h in grown-same (with_name xs m) more j r.0 ∙ r.1

past-none : (xs : List Name) (j : ℕ) → length xs ≤ j → slice_get xs j ≡ None
past-none [] j h = refl
past-none (x ∷ xs) zero h = absurd (omega arith)
past-none (x ∷ xs) (suc j) h = past-none xs j (omega arith)

one_named : (es : List Named) (d : Named) → IsOne d es → has (out_names es) (out d) ≡ true
one_named [] d i = absurd i
one_named (x ∷ es) d (inl q) = ap (λ (w : Named). has (out w ∷ out_names es) (out d)) (sym q) ∙ has_first (out d) (out_names es)
one_named (x ∷ es) d (inr i) = has_later (out x) (out_names es) (out d) (one_named es d i)

-- of distinct names each is of one expression
same_one : (es : List Named) (d e : Named) → AreDistinct (out_names es) → IsOne d es → IsOne e es → out d ≡ out e → d ≡ e
same_one [] d e once i j s = absurd i
same_one (x ∷ es) d e once i j s = at i j (λ k l. same_one es d e p.1 k l s)
  where
    p : (has (out_names es) (out x) ≡ false) × AreDistinct (out_names es)
    p = distinct_cons (out x) (out_names es) once

    at : (d ≡ x) ⊎ IsOne d es → (e ≡ x) ⊎ IsOne e es → (IsOne d es → IsOne e es → d ≡ e) → d ≡ e
    at (inl q) (inl r) rest = q ∙ sym r
    at (inl q) (inr k) rest = absurd (both_ways (has (out_names es) (out x)) p.0 (ap (has (out_names es)) (sym (ap out q) ∙ s) ∙ one_named es e k))
    at (inr k) (inl r) rest = absurd (both_ways (has (out_names es) (out x)) p.0 (ap (has (out_names es)) (sym (ap out r) ∙ sym s) ∙ one_named es d k))
    at (inr k) (inr l) rest = rest k l

-- of distinct names each finds its expression
named-own : (es : List Named) (d : Named) → AreDistinct (out_names es) → IsOne d es → has (out_names es) (out d) ≡ true → named_in es (out d) ≡ Some d
named-own es d once i k = at (named_in es (out d)) refl (some-named es (out d) ∙ k)
  where
    at : (o : Option Named) → named_in es (out d) ≡ o → is_some o ≡ true → o ≡ Some d
    at None q s = cc
    at (Some x) q s = ap (λ (y : Named). Some y) (same_one es x d once (named_one es (out d) x q) i (named_is es (out d) x q))

either_true : (a b : Bool) → (a ≡ true → b ≡ true) → (b ≡ true → a ≡ true) → a ≡ b
either_true true b f g = sym (f refl)
either_true false true f g = g refl
either_true false false f g = refl

not_true : (b : Bool) → not b ≡ true → b ≡ false
not_true true q = cc
not_true false q = refl

-- numbers

nat_cases : (a b : ℕ) → (a ≤ b) ⊎ (b < a)
nat_cases zero b = inl (omega arith)
nat_cases (suc a) zero = inr (omega arith)
nat_cases (suc a) (suc b) = ⊎_elim (λ q. inl (omega (arith, q))) (λ q. inr (omega (arith, q))) (nat_cases a b)

last_or : (a b : ℕ) → a < suc b → (a < b) ⊎ (a ≡ b)
last_or zero zero q = inr refl
last_or zero (suc b) q = inl (omega arith)
last_or (suc a) zero q = absurd (omega arith)
last_or (suc a) (suc b) q = ⊎_elim (λ r. inl (omega (arith, r))) (λ r. inr (ap suc r)) (last_or a b (omega (arith, q)))

module _ (es : List Named) (lower : List Name) (once : AreDistinct (out_names es)) where
  abbrev IsSound : List Name → Type 0
  IsSound f = (e : Named) → IsOne e es → has f (out e) ≡ true → Stays es lower e

  abbrev AreAmong : List Name → Type 0
  AreAmong f = (a : Name) → has f a ≡ true → has (out_names es) a ≡ true

  abbrev readers : List Name
  readers = out_names (only_where (reads_one lower) es)

  abbrev remakers : List Name
  remakers = only_where (remade_and_read lower (with_names [] (all_leaves es))) (out_names es)

  sound_readers : (e : Named) → IsOne e es → has readers (out e) ≡ true → Stays es lower e
  sound_readers e i k =
      let x = named_passing (reads_one lower) es (out e) k in
      let s : x.0 ≡ e = same_one es x.0 e once x.1 i (sym x.3) in
      reading e i (ap (reads_one lower) (sym s) ∙ x.2)

  sound_remakers : (e : Named) → IsOne e es → has remakers (out e) ≡ true → Stays es lower e
  sound_remakers e i k =
      let x = has-passing (remade_and_read lower (with_names [] (all_leaves es))) (out_names es) (out e) k in
      let p = and_parts (has lower (out e)) (has (with_names [] (all_leaves es)) (out e)) x.1 in
      remaking e i p.0 (sym (has-once (all_leaves es) (out e)) ∙ p.1)

  sound_first : IsSound (found_first es lower)
  sound_first e i k = ⊎_elim
      (λ j. ⊎_elim (λ n. absurd (both_ways false refl n)) (λ m. sound_readers e i m) (from_names [] readers (out e) j))
      (λ j. sound_remakers e i j)
      (from_names (with_names [] readers) remakers (out e) k)

  among_first : AreAmong (found_first es lower)
  among_first a k = ⊎_elim
      (λ j. ⊎_elim (λ n. absurd (both_ways false refl n)) (λ m. let x = named_passing (reads_one lower) es a m in ap (has (out_names es)) x.3 ∙ one_named es x.0 x.1) (from_names [] readers a j))
      (λ j. (has-passing (remade_and_read lower (with_names [] (all_leaves es))) (out_names es) a j).0)
      (from_names (with_names [] readers) remakers a k)

  distinct_first : AreDistinct (found_first es lower)
  distinct_first = distinct_names (with_names [] readers) remakers (distinct_names [] readers distinct_none)

  -- what the expression of a name in a place awaits
  sound_next : (f : List Name) (i : ℕ) → IsSound f → IsSound (found_next es lower f i)
  sound_next f i h e one k = ⊎_elim (λ j. h e one j) (λ j. at (slice_get f i) refl j) (from_names f (awaited_by (out_names es) lower (found_at es f i)) (out e) k)
    where
      by : (b : Name) → slice_get f i ≡ Some b → (o : Option Named) → named_in es b ≡ o → has (awaited_by (out_names es) lower o) (out e) ≡ true → Stays es lower e
      by b at_b None q j = absurd (both_ways false refl j)
      by b at_b (Some d) q j =
          let r = has-passing (is_awaited (out_names es) lower) (leaves d.expr) (out e) j in
          let p = and_parts (has (out_names es) (out e)) (not (has lower (out e))) r.1 in
          awaited d e (h d (named_one es b d q) (ap (has f) (named_is es b d q) ∙ at-has f i b at_b)) one (not_true (has lower (out e)) p.1) r.0

      at : (o : Option Name) → slice_get f i ≡ o → has (awaited_by (out_names es) lower (option_and_then (named_in es) o)) (out e) ≡ true → Stays es lower e
      at None q j = absurd (both_ways false refl j)
      at (Some b) q j = by b q (named_in es b) refl j

  among_next : (f : List Name) (i : ℕ) → AreAmong f → AreAmong (found_next es lower f i)
  among_next f i h a k = ⊎_elim (λ j. h a j) (λ j. at (found_at es f i) j) (from_names f (awaited_by (out_names es) lower (found_at es f i)) a k)
    where
      at : (o : Option Named) → has (awaited_by (out_names es) lower o) a ≡ true → has (out_names es) a ≡ true
      at None j = absurd (both_ways false refl j)
      at (Some d) j = let r = has-passing (is_awaited (out_names es) lower) (leaves d.expr) a j in (and_parts (has (out_names es) a) (not (has lower a)) r.1).0

  module _ (start : List Name) where
    sound_after : (n : ℕ) → IsSound start → IsSound (found_after es lower start n)
    sound_after zero h = h
    sound_after (suc n) h = sound_next (found_after es lower start n) n (sound_after n h)

    among_after : (n : ℕ) → AreAmong start → AreAmong (found_after es lower start n)
    among_after zero h = h
    among_after (suc n) h = among_next (found_after es lower start n) n (among_after n h)

    distinct_after : (n : ℕ) → AreDistinct start → AreDistinct (found_after es lower start n)
    distinct_after zero h = h
    distinct_after (suc n) h = distinct_names (found_after es lower start n) (awaited_by (out_names es) lower (found_at es (found_after es lower start n) n)) (distinct_after n h)

    kept_after : (n : ℕ) (a : Name) → has start a ≡ true → has (found_after es lower start n) a ≡ true
    kept_after zero a h = h
    kept_after (suc n) a h = keeps_names (found_after es lower start n) (awaited_by (out_names es) lower (found_at es (found_after es lower start n) n)) a (kept_after n a h)

    -- what the expressions of the names in the first places await is found
    abbrev AreClosed : ℕ → Type 0
    AreClosed n = (j : ℕ) → j < n → (d e : Named) → IsOne d es → slice_get (found_after es lower start n) j ≡ Some (out d) → IsOne e es → has lower (out e) ≡ false → has (leaves d.expr) (out e) ≡ true → has (found_after es lower start n) (out e) ≡ true

    closed_here : (n : ℕ) (d e : Named) → IsOne d es → slice_get (found_after es lower start n) n ≡ Some (out d) → IsOne e es → has lower (out e) ≡ false → has (leaves d.expr) (out e) ≡ true → has (found_after es lower start (suc n)) (out e) ≡ true
    closed_here n d e one at_d other low k =
        let f = found_after es lower start n in
        let found : found_at es f n ≡ Some d = ap (option_and_then (named_in es)) at_d ∙ named-own es d once one (one_named es d one) in
        let passes : is_awaited (out_names es) lower (out e) ≡ true = ap₂ (λ (x y : Bool). x && not y) (one_named es e other) low in
        ap (λ (o : Option Named). has (with_names f (awaited_by (out_names es) lower o)) (out e)) found
        ∙ adds_names f (only_where (is_awaited (out_names es) lower) (leaves d.expr)) (out e) (passing-has (is_awaited (out_names es) lower) (leaves d.expr) (out e) passes k)

    closed_after : (n : ℕ) → AreClosed n
    closed_after zero j h d e one at_d other low k = absurd (omega arith)
    closed_after (suc n) j h d e one at_d other low k = at (nat_cases (length f) n) (λ l at_f. closed_after n j l d e one at_f other low k)
      where
        f : List Name
        f = found_after es lower start n

        more : List Name
        more = awaited_by (out_names es) lower (found_at es f n)

        still : length f ≤ n → found_after es lower start (suc n) ≡ f
        still q = ap (λ (o : Option Name). with_names f (awaited_by (out_names es) lower (option_and_then (named_in es) o))) (past-none f n q)

        at : (length f ≤ n) ⊎ (n < length f) → (j < n → slice_get f j ≡ Some (out d) → has f (out e) ≡ true) → has (found_after es lower start (suc n)) (out e) ≡ true
        at (inl q) rest =
            let at_f : slice_get f j ≡ Some (out d) = ap (λ (l : List Name). slice_get l j) (sym (still q)) ∙ at_d in
            ⊎_elim (λ l. keeps_names f more (out e) (rest l at_f)) (λ s. absurd (let none : slice_get f j ≡ None = past-none f j (omega (arith, q, s)) in cc)) (last_or j n h)
        at (inr q) rest =
            let at_f : slice_get f j ≡ Some (out d) = sym (grown-same f more j (omega (arith, q, h))) ∙ at_d in
            ⊎_elim (λ l. keeps_names f more (out e) (rest l at_f)) (λ s. closed_here n d e one (ap (slice_get f) (sym s) ∙ at_f) other low k) (last_or j n h)

    -- once all names found could have been looked at, all that await them are found
    module _ (among : AreAmong start) (distinct : AreDistinct start) where
      abbrev last_found : List Name
      last_found = found_after es lower start (length (out_names es))

      few_found : length last_found ≤ length (out_names es)
      few_found = length-le_from_is_member {eq = bytes_eq} nat_list_eq_equiv last_found (out_names es) (distinct_after (length (out_names es)) distinct) (among_after (length (out_names es)) among)

      closed_found : (d e : Named) → IsOne d es → has last_found (out d) ≡ true → IsOne e es → has lower (out e) ≡ false → has (leaves d.expr) (out e) ≡ true → has last_found (out e) ≡ true
      closed_found d e one there other low k =
          let x = has-at last_found (out d) there in
          closed_after (length (out_names es)) x.0 (let l = few_found in let m = x.1 in omega (arith, l, m)) d e one x.2 other low k

  -- the names that are found are of a set that holds what has to stay
  abbrev all_found : List Name
  all_found = found_after es lower (found_first es lower) (length (out_names es))

  holds_found : HoldsStaying es lower (λ (e : Named). has all_found (out e))
  holds_found = record {
    reading = one_all (λ (e : Named). reads_one lower e ≡ true → has all_found (out e) ≡ true) es (λ e i k. kept_after (found_first es lower) (length (out_names es)) (out e)
        (keeps_names (with_names [] readers) remakers (out e) (adds_names [] readers (out e) (passing_named (reads_one lower) es e i k))));
    remaking = one_all (λ (e : Named). has lower (out e) ≡ true → has (all_leaves es) (out e) ≡ true → has all_found (out e) ≡ true) es (λ e i k l. kept_after (found_first es lower) (length (out_names es)) (out e)
        (adds_names (with_names [] readers) remakers (out e)
        (passing-has (remade_and_read lower (with_names [] (all_leaves es))) (out_names es) (out e) (ap₂ (λ (x y : Bool). x && y) k (has-once (all_leaves es) (out e) ∙ l)) (one_named es e i))));
    awaited = one_all (λ (d : Named). has all_found (out d) ≡ true → AllByRecursion (λ (e : Named). has lower (out e) ≡ false → has (leaves d.expr) (out e) ≡ true → has all_found (out e) ≡ true) es) es
        (λ d one there. one_all (λ (e : Named). has lower (out e) ≡ false → has (leaves d.expr) (out e) ≡ true → has all_found (out e) ≡ true) es
        (λ e other low k. closed_found (found_first es lower) among_first distinct_first d e one there other low k));
  }

  -- and of the least one
  pub found-stay : (e : Named) → IsOne e es → has all_found (out e) ≡ stays es lower e
  found-stay e i = either_true (has all_found (out e)) (stays es lower e)
      (λ k. least es lower (stays es lower) (holds-staying es lower) e (sound_after (found_first es lower) (length (out_names es)) sound_first e i k))
      (λ k. least es lower (λ (d : Named). has all_found (out d)) holds_found e (only-staying es lower once (length es) e i k))
