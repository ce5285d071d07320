-- All minterms hold of a pair exactly where the keys of those that are taken match and the rest holds; the tests of a cross join under its run and of the collapsed join are the same.
use Rattle.std.proofs.Common.{◌≡◌, ◌∙◌, ◌≤◌, ℕ, zero, suc, Bool, true, false, ◌&&◌, List, [], ◌∷◌, map, length, fold, Option, Some, None, is_some, refl, sym, ap, ap₂, arith}
use Rattle.std.specs.List.{AllByRecursion, cons_option, list_all}
use Rattle.std.proofs.lemmas.List.Folds.{list_all-append}
use Rattle.plan_options.specs.declared.join.IEJoinOptions.{IEJoinOptions}
use Rattle.plan_options.specs.declared.join.InequalityOperator.{InequalityOperator}
use Rattle.plan_options.specs.declared.join.InequalityOperator.TheVariants as inequality
use Rattle.plan_expr.specs.declared.operator.Operator.{Operator}
use Rattle.plan_expr.specs.declared.operator.Operator.TheVariants.{Lt, LtEq, Gt, GtEq}
use Rattle.plan_expr.specs.Exprs.{Expr, Named}
use Rattle.plan_join.specs.Told.{operators}
use Rattle.plan_frame.specs.Values.{is_true}
use Rattle.plan_frame.specs.Frames.{Frame}
use Rattle.plan_frame.specs.Meaning.{operated, val, value_at}
use Rattle.plan_frame.specs.Orders.{key_cells}
use Rattle.plan_join.specs.Matching.{keys_match, keys_meet, operator_of}
use Rattle.plan_meaning.specs.JoinChecks.{is_elementwise}
use Rattle.plan_meaning.specs.Minterms.{holds_at, minterms}
use Rattle.plan_meaning.proofs.Minterms.{true-minterms}
use Rattle.plan_meaning.specs.CellRows.{IsEven}
use Rattle.plan_collapse_laws.specs.CrossKeys.{KeyPair, all_minterms, inequality_of, equal_at, meets_at}
use Rattle.plan_collapse_laws.specs.TakenKeys.{and_all, and_expr, operators_of, taken, untaken, left_keys, right_keys, some_expr}
use Rattle.plan_collapse_laws.proofs.Predicates.{both_hold}

-- those that are taken, and the rest

module _ (keys : Expr → Option KeyPair) where
  pub taken_all : (P : KeyPair → Type 0) (n : ℕ) (es : List Expr) → AllByRecursion (λ (e : Expr). (k : KeyPair) → keys e ≡ Some k → P k) es → AllByRecursion P (taken n keys es)
  taken_all P zero es h = tt
  taken_all P (suc n) [] h = tt
  taken_all P (suc n) (e ∷ es) h = at (keys e) refl (taken_all P (suc n) es h.1) (taken_all P n es h.1)
    where
      at : (o : Option KeyPair) → keys e ≡ o → AllByRecursion P (taken (suc n) keys es) → AllByRecursion P (taken n keys es) → AllByRecursion P (elim o as (λ _. List KeyPair) [ None ↦ taken (suc n) keys es | Some k ↦ k ∷ taken n keys es ])
      at None q all fewer = all
      at (Some k) q all fewer = (h.0 k q, fewer)

  pub untaken_all : (P : Expr → Type 0) (n : ℕ) (es : List Expr) → AllByRecursion P es → AllByRecursion P (untaken n keys es)
  untaken_all P zero es h = h
  untaken_all P (suc n) [] h = tt
  untaken_all P (suc n) (e ∷ es) h = at (keys e) (untaken_all P (suc n) es h.1) (untaken_all P n es h.1)
    where
      at : (o : Option KeyPair) → AllByRecursion P (untaken (suc n) keys es) → AllByRecursion P (untaken n keys es) → AllByRecursion P (elim o as (λ _. List Expr) [ None ↦ e ∷ untaken (suc n) keys es | Some k ↦ untaken n keys es ])
      at None all fewer = (h.0, all)
      at (Some k) all fewer = fewer

  pub taken_few : (n : ℕ) (es : List Expr) → length (taken n keys es) ≤ n
  taken_few zero es = omega arith
  taken_few (suc n) [] = omega arith
  taken_few (suc n) (e ∷ es) = at (keys e) (taken_few (suc n) es) (taken_few n es)
    where
      at : (o : Option KeyPair) → length (taken (suc n) keys es) ≤ suc n → length (taken n keys es) ≤ n → length (elim o as (λ _. List KeyPair) [ None ↦ taken (suc n) keys es | Some k ↦ k ∷ taken n keys es ]) ≤ suc n
      at None a b = a
      at (Some k) a b = omega (arith, b)

  -- all hold where those that are taken do by their keys, and the rest does
  pub split_holds : (test : Expr → Bool) (own : KeyPair → Bool) (n : ℕ) (es : List Expr) → AllByRecursion (λ (e : Expr). (k : KeyPair) → keys e ≡ Some k → test e ≡ own k) es → list_all test es ≡ (list_all own (taken n keys es) && list_all test (untaken n keys es))
  split_holds test own zero es h = refl
  split_holds test own (suc n) [] h = refl
  split_holds test own (suc n) (e ∷ es) h = at (keys e) refl (split_holds test own (suc n) es h.1) (split_holds test own n es h.1)
    where
      inside : (a b c : Bool) → (a && (b && c)) ≡ (b && (a && c))
      inside true true c = refl
      inside true false c = refl
      inside false true c = refl
      inside false false c = refl

      joined : (a b c : Bool) → (a && (b && c)) ≡ ((a && b) && c)
      joined true b c = refl
      joined false b c = refl

      at : (o : Option KeyPair) → keys e ≡ o → list_all test es ≡ (list_all own (taken (suc n) keys es) && list_all test (untaken (suc n) keys es)) → list_all test es ≡ (list_all own (taken n keys es) && list_all test (untaken n keys es))
          → (test e && list_all test es) ≡ (list_all own (elim o as (λ _. List KeyPair) [ None ↦ taken (suc n) keys es | Some k ↦ k ∷ taken n keys es ]) && list_all test (elim o as (λ _. List Expr) [ None ↦ e ∷ untaken (suc n) keys es | Some k ↦ untaken n keys es ]))
      at None q all fewer = ap (λ (b : Bool). test e && b) all ∙ inside (test e) (list_all own (taken (suc n) keys es)) (list_all test (untaken (suc n) keys es))
      at (Some k) q all fewer = ap₂ (λ (a b : Bool). a && b) (h.0 k q) fewer ∙ joined (own k) (list_all own (taken n keys es)) (list_all test (untaken n keys es))

-- the tests of joins on keys

pub match_keys : (f g : Frame) (i j : ℕ) (ks : List KeyPair) → keys_match false (key_cells (left_keys ks) f) (key_cells (right_keys ks) g) i j ≡ list_all (λ (k : KeyPair). equal_at k f g i j) ks
match_keys f g i j [] = refl
match_keys f g i j (k ∷ ks) = ap (λ (b : Bool). equal_at k f g i j && b) (match_keys f g i j ks)

-- operators are those of keys, one for one
abbrev pub AreOf : List InequalityOperator → List KeyPair → Type 0
AreOf [] [] = Unit {0}
AreOf (o ∷ os) (k ∷ ks) = (operator_of o ≡ k.op) × AreOf os ks
AreOf _ _ = ⊥

pub meet_keys : (f g : Frame) (i j : ℕ) (os : List InequalityOperator) (ks : List KeyPair) → AreOf os ks → keys_meet os (key_cells (left_keys ks) f) (key_cells (right_keys ks) g) i j ≡ list_all (λ (k : KeyPair). meets_at k f g i j) ks
meet_keys f g i j [] [] h = refl
meet_keys f g i j (o ∷ os) (k ∷ ks) h = ap₂ (λ (op : Operator) (b : Bool). is_true (operated op (value_at (val k.left_key f) i) (value_at (val k.right_key g) j)) && b) h.0 (meet_keys f g i j os ks h.1)
meet_keys f g i j [] (k ∷ ks) h = absurd h
meet_keys f g i j (o ∷ os) [] h = absurd h

pub as_many : (os : List InequalityOperator) (ks : List KeyPair) → AreOf os ks → length os ≡ length ks
as_many [] [] h = refl
as_many (o ∷ os) (k ∷ ks) h = ap (λ (n : ℕ). suc n) (as_many os ks h.1)
as_many [] (k ∷ ks) h = absurd h
as_many (o ∷ os) [] h = absurd h

inequality_is : (op : Operator) → is_some (inequality_of op) ≡ true → (o : InequalityOperator) × (inequality_of op ≡ Some o) × (operator_of o ≡ op)
inequality_is Lt e = (inequality.Lt, refl, refl)
inequality_is LtEq e = (inequality.LtEq, refl, refl)
inequality_is Gt e = (inequality.Gt, refl, refl)
inequality_is GtEq e = (inequality.GtEq, refl, refl)
inequality_is op e = cc

-- one or two pairs of keys with inequalities are told with these
pub told_operators : (k : KeyPair) (ks : List KeyPair) → AllByRecursion (λ (x : KeyPair). is_some (inequality_of x.op) ≡ true) (k ∷ ks) → length (k ∷ ks) ≤ 2 → (o : IEJoinOptions) × (operators_of (k ∷ ks) ≡ Some o) × AreOf (operators o) (k ∷ ks)
told_operators k [] h le =
    let a = inequality_is k.op h.0 in (
      record { operator1 = a.0; operator2 = None },
      ap (λ (o : Option InequalityOperator). elim (cons_option o []) as (λ _. Option IEJoinOptions) [ [] ↦ None | x ∷ xs ↦ Some (record { operator1 = x; operator2 = elim xs as (λ _. Option InequalityOperator) [ [] ↦ None | y ∷ ys ↦ Some y ] }) ]) a.1,
      (a.2, tt),
    )
told_operators k (k2 ∷ []) h le =
    let a = inequality_is k.op h.0 in
    let b = inequality_is k2.op h.1.0 in (
      record { operator1 = a.0; operator2 = Some b.0 },
      ap₂ (λ (o p : Option InequalityOperator). elim (cons_option o (cons_option p [])) as (λ _. Option IEJoinOptions) [ [] ↦ None | x ∷ xs ↦ Some (record { operator1 = x; operator2 = elim xs as (λ _. Option InequalityOperator) [ [] ↦ None | y ∷ ys ↦ Some y ] }) ]) a.1 b.1,
      (a.2, (b.2, tt)),
    )
told_operators k (k2 ∷ k3 ∷ ks) h le = absurd (omega (arith, le))

-- And of expressions

module _ (f : Frame) (even : IsEven f) (i : ℕ) where
  of_minterms : (e : Expr) → is_elementwise e ≡ true → holds_at f i e ≡ list_all (holds_at f i) (minterms e)
  of_minterms e w = true-minterms f even i e w

  two : (a b : Expr) → is_elementwise a ≡ true → is_elementwise b ≡ true → holds_at f i (and_expr a b) ≡ (holds_at f i a && holds_at f i b)
  two a b wa wb =
      of_minterms (and_expr a b) (both_hold (is_elementwise a) (is_elementwise b && true) wa (both_hold (is_elementwise b) true wb refl))
      ∙ list_all-append (holds_at f i) (minterms a) (minterms b)
      ∙ sym (ap₂ (λ (x y : Bool). x && y) (of_minterms a wa) (of_minterms b wb))

  folded : (e : Expr) (es : List Expr) → is_elementwise e ≡ true → AllByRecursion (λ (x : Expr). is_elementwise x ≡ true) es → holds_at f i (fold and_expr e es) ≡ (holds_at f i e && list_all (holds_at f i) es)
  folded e [] w h = last (holds_at f i e)
    where
      last : (b : Bool) → b ≡ (b && true)
      last true = refl
      last false = refl
  folded e (d ∷ es) w h =
      folded (and_expr e d) es (both_hold (is_elementwise e) (is_elementwise d && true) w (both_hold (is_elementwise d) true h.0 refl)) h.1
      ∙ ap (λ (b : Bool). b && list_all (holds_at f i) es) (two e d w h.0)
      ∙ joined (holds_at f i e) (holds_at f i d) (list_all (holds_at f i) es)
    where
      joined : (a b c : Bool) → ((a && b) && c) ≡ (a && (b && c))
      joined true b c = refl
      joined false b c = refl

  -- And holds where all do
  pub and_holds : (es : List Expr) → AllByRecursion (λ (x : Expr). is_elementwise x ≡ true) es → list_all (holds_at f i) (some_expr (and_all es)) ≡ list_all (holds_at f i) es
  and_holds [] h = refl
  and_holds (e ∷ es) h = last (holds_at f i (fold and_expr e es)) ∙ folded e es h.0 h.1
    where
      last : (b : Bool) → (b && true) ≡ b
      last true = refl
      last false = refl

  -- and a run where all its minterms do
  pub run_holds : (run : List Named) → AllByRecursion (λ (e : Named). is_elementwise e.expr ≡ true) run → list_all (holds_at f i) (map (λ (e : Named). e.expr) run) ≡ list_all (holds_at f i) (all_minterms run)
  run_holds [] h = refl
  run_holds (e ∷ run) h =
      ap₂ (λ (x y : Bool). x && y) (of_minterms e.expr h.0) (run_holds run h.1)
      ∙ sym (list_all-append (holds_at f i) (minterms e.expr) (all_minterms run))
