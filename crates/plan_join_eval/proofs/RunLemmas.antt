-- Values beyond a bound that is out of reach are so too.
use Rattle.std.proofs.Common.{◌≡◌, ◌∙◌, ◌++◌, ◌+◌, ◌<◌, ◌≤◌, ◌⊎◌, inl, inr, ℕ, zero, suc, Bool, true, false, true≢false, cond, List, [], ◌∷◌, All, get_or, length, length-append, refl, sym, ap, ap₂, subst, arith, append-nil}
use Rattle.std.specs.Cmp.{IsTotalOrder}
use Rattle.std.specs.Cmp.Lexicographic.{slice_cmp}
use Rattle.std.specs.Ordering.{int_cmp, is_ge, is_gt, is_le, is_lt, nat_cmp, ordering_reverse}
use Rattle.std.specs.declared.cmp.Ordering.{Ordering}
use Rattle.std.specs.declared.cmp.Ordering.TheVariants.{Less, Equal, Greater}
use Rattle.std.proofs.Math.Seq.{get_or-append_seam}
use Rattle.std.proofs.lemmas.Bool.{and_parts, cases_lt}
use Rattle.std.proofs.lemmas.List.{get_or_append_left}
use Rattle.std.proofs.lemmas.Cmp.{back_total, int_cmp_total, nat_list_cmp_total}
use Rattle.std.specs.Prelude.{ℤ}
use Rattle.plan_expr.specs.declared.aexpr.AExpr.{AExpr}
use Rattle.plan_frame.specs.Frames.{Frame}
use Rattle.plan_join.specs.declared.options.JoinTypeOptionsIR.{JoinTypeOptionsIR}
use Rattle.plan_join.specs.declared.options.JoinTypeOptionsIR.TheVariants.{IEJoin}
use Rattle.plan_options.specs.declared.join.JoinArgs.{JoinArgs}
use Rattle.plan_value.specs.declared.exprs.Values.{Values}
use Rattle.plan_value.specs.Cells.{cell_of, cells_of}
use Rattle.plan_join_eval.specs.Compared.{kind_test, sided}
use Rattle.plan_join.specs.Told.{operator_if, operators}
use Rattle.plan_join.specs.Matching.{keys_meet, operator_of}
use Rattle.plan_options.specs.declared.join.IEJoinOptions.{IEJoinOptions}
use Rattle.plan_options.specs.declared.join.InequalityOperator.{InequalityOperator}
use Rattle.plan_options.specs.declared.join.InequalityOperator.TheVariants as inequality
use Rattle.plan_frame.specs.Meaning.{Cell, compared, operated, value_at}
use Rattle.plan_frame.specs.Values.{Value, null, whole, text, truth, listed, is_true}
use Rattle.plan_join.specs.Pairs.{passing}
use Rattle.plan_value.specs.Shown.{value_of}
use Rattle.plan_join_eval.specs.declared.runs.Run.{Run}
use Rattle.plan_join_eval.specs.Runs.{are_comparable, is_met, is_up, is_within, AreRuns, IsNext, IsPassed, IsRunAt}
use Rattle.plan_join_eval.proofs.CompareLemmas.{passing-next}

module _ {K : Type 0} (R : K → K → Ordering) (total : IsTotalOrder R) where
  -- what is up to another, which is up to a third, is up to that
  less_less : (a n b : K) → R a n ≡ Less → R n b ≡ Less → R a b ≡ Less
  less_less a n b = total.trans a n b

  same_first : (a n b : K) → R a n ≡ Equal → R a b ≡ R n b
  same_first a n b = total.congr a n b

  same_second : (a n b : K) → R n b ≡ Equal → R a b ≡ R a n
  same_second a n b e = total.antisymm a b ∙ ap ordering_reverse (sym (total.congr n b a e)) ∙ sym (total.antisymm a n)

  up_less : (a n b : K) → is_le (R n b) ≡ true → is_lt (R a b) ≡ false → is_lt (R a n) ≡ false
  up_less a n b le far = at (R a n) (R n b) refl refl le
    where
      at : (z x : Ordering) → R a n ≡ z → R n b ≡ x → is_le x ≡ true → is_lt z ≡ false
      at Less Less e f g = absurd (true≢false (sym (ap is_lt (less_less a n b e f)) ∙ far))
      at Less Equal e f g = absurd (true≢false (sym (ap is_lt (same_second a n b f ∙ e)) ∙ far))
      at Less Greater e f g = absurd (true≢false (sym g))
      at Equal x e f g = refl
      at Greater x e f g = refl

  up_most : (a n b : K) → is_le (R n b) ≡ true → is_le (R a b) ≡ false → is_le (R a n) ≡ false
  up_most a n b le far = at (R a n) (R n b) refl refl le
    where
      at : (z x : Ordering) → R a n ≡ z → R n b ≡ x → is_le x ≡ true → is_le z ≡ false
      at Less Less e f g = absurd (true≢false (sym (ap is_le (less_less a n b e f)) ∙ far))
      at Less Equal e f g = absurd (true≢false (sym (ap is_le (same_second a n b f ∙ e)) ∙ far))
      at Less Greater e f g = absurd (true≢false (sym g))
      at Equal x e f g = absurd (true≢false (sym g ∙ ap is_le (sym f) ∙ ap is_le (sym (same_first a n b e)) ∙ far))
      at Greater x e f g = refl

  turned_lt : (x y : K) → is_gt (R x y) ≡ is_lt (R y x)
  turned_lt x y = ap is_gt (total.antisymm x y) ∙ at (R y x)
    where
      at : (o : Ordering) → is_gt (ordering_reverse o) ≡ is_lt o
      at Less = refl
      at Equal = refl
      at Greater = refl

  turned_le : (x y : K) → is_ge (R x y) ≡ is_le (R y x)
  turned_le x y = ap is_ge (total.antisymm x y) ∙ at (R y x)
    where
      at : (o : Ordering) → is_ge (ordering_reverse o) ≡ is_le o
      at Less = refl
      at Equal = refl
      at Greater = refl

module _ {K : Type 0} (R : K → K → Ordering) (total : IsTotalOrder R) where
  down_less : (a n b : K) → is_ge (R n b) ≡ true → is_gt (R a b) ≡ false → is_gt (R a n) ≡ false
  down_less a n b ge far = turned_lt R total a n ∙ up_less (λ x y. R y x) (back_total total) a n b (sym (turned_le R total n b) ∙ ge) (sym (turned_lt R total a b) ∙ far)

  down_most : (a n b : K) → is_ge (R n b) ≡ true → is_ge (R a b) ≡ false → is_ge (R a n) ≡ false
  down_most a n b ge far = turned_le R total a n ∙ up_most (λ x y. R y x) (back_total total) a n b (sym (turned_le R total n b) ∙ ge) (sym (turned_le R total a b) ∙ far)

abbrev test_of : InequalityOperator → Ordering → Bool
test_of inequality.Lt o = is_lt o
test_of inequality.LtEq o = is_le o
test_of inequality.Gt o = is_gt o
test_of inequality.GtEq o = is_ge o

abbrev met_by : {K : Type 0} → (K → K → Ordering) → InequalityOperator → (by_right : Bool) → K → K → Bool
met_by R o true a x = test_of o (R x a)
met_by R o false a x = test_of o (R a x)

abbrev within_by : {K : Type 0} → (K → K → Ordering) → (up : Bool) → K → K → Bool
within_by R true n b = is_le (R n b)
within_by R false n b = is_ge (R n b)

reach : {K : Type 0} (R : K → K → Ordering) → IsTotalOrder R → (o : InequalityOperator) (by_right : Bool) (a b n : K) → met_by R o by_right a b ≡ false → within_by R (is_up o by_right) n b ≡ true → met_by R o by_right a n ≡ false
reach R t inequality.Lt false a b n far w = up_less R t a n b w far
reach R t inequality.LtEq false a b n far w = up_most R t a n b w far
reach R t inequality.Gt false a b n far w = down_less R t a n b w far
reach R t inequality.GtEq false a b n far w = down_most R t a n b w far
reach R t inequality.Lt true a b n far w = sym (turned_lt R t a n) ∙ down_less R t a n b w (turned_lt R t a b ∙ far)
reach R t inequality.LtEq true a b n far w = sym (turned_le R t a n) ∙ down_most R t a n b w (turned_le R t a b ∙ far)
reach R t inequality.Gt true a b n far w = turned_lt R t n a ∙ up_less R t a n b w (sym (turned_lt R t b a) ∙ far)
reach R t inequality.GtEq true a b n far w = turned_le R t n a ∙ up_most R t a n b w (sym (turned_le R t b a) ∙ far)

-- null meets nothing

compared_null : (test : Ordering → Bool) (x : Value) → is_true (compared test x null) ≡ false
compared_null test null = refl
compared_null test (whole n) = refl
compared_null test (text s) = refl
compared_null test (truth b) = refl
compared_null test (listed vs) = refl

met_null : (o : InequalityOperator) (by_right : Bool) (v : Value) → is_met o by_right v null ≡ false
met_null inequality.Lt false v = compared_null is_lt v
met_null inequality.LtEq false v = compared_null is_le v
met_null inequality.Gt false v = compared_null is_gt v
met_null inequality.GtEq false v = compared_null is_ge v
met_null inequality.Lt true v = refl
met_null inequality.LtEq true v = refl
met_null inequality.Gt true v = refl
met_null inequality.GtEq true v = refl

null_meets : (o : InequalityOperator) (by_right : Bool) (v : Value) → is_met o by_right null v ≡ false
null_meets inequality.Lt true v = compared_null is_lt v
null_meets inequality.LtEq true v = compared_null is_le v
null_meets inequality.Gt true v = compared_null is_gt v
null_meets inequality.GtEq true v = compared_null is_ge v
null_meets inequality.Lt false v = refl
null_meets inequality.LtEq false v = refl
null_meets inequality.Gt false v = refl
null_meets inequality.GtEq false v = refl

met_whole : (o : InequalityOperator) (by_right : Bool) (a n : ℤ) → is_met o by_right (whole a) (whole n) ≡ met_by int_cmp o by_right a n
met_whole inequality.Lt true a n = refl
met_whole inequality.LtEq true a n = refl
met_whole inequality.Gt true a n = refl
met_whole inequality.GtEq true a n = refl
met_whole inequality.Lt false a n = refl
met_whole inequality.LtEq false a n = refl
met_whole inequality.Gt false a n = refl
met_whole inequality.GtEq false a n = refl

met_text : (o : InequalityOperator) (by_right : Bool) (a n : List ℕ) → is_met o by_right (text a) (text n) ≡ met_by (slice_cmp nat_cmp) o by_right a n
met_text inequality.Lt true a n = refl
met_text inequality.LtEq true a n = refl
met_text inequality.Gt true a n = refl
met_text inequality.GtEq true a n = refl
met_text inequality.Lt false a n = refl
met_text inequality.LtEq false a n = refl
met_text inequality.Gt false a n = refl
met_text inequality.GtEq false a n = refl

within_whole : (up : Bool) (b n : ℤ) → is_within up (whole b) (whole n) ≡ within_by int_cmp up n b
within_whole true b n = refl
within_whole false b n = refl

within_text : (up : Bool) (b n : List ℕ) → is_within up (text b) (text n) ≡ within_by (slice_cmp nat_cmp) up n b
within_text true b n = refl
within_text false b n = refl

-- a value that is within a bound out of reach is out of reach
pub out-of-reach : (o : InequalityOperator) (by_right : Bool) (own b v : Value) → are_comparable own b ≡ true → is_met o by_right own b ≡ false → is_within (is_up o by_right) b v ≡ true → is_met o by_right own v ≡ false
out-of-reach o by_right null b v k far w = null_meets o by_right v
out-of-reach o by_right (whole a) b null k far w = met_null o by_right (whole a)
out-of-reach o by_right (text a) b null k far w = met_null o by_right (text a)
out-of-reach o by_right (whole a) (whole b) (whole n) k far w = met_whole o by_right a n ∙ reach int_cmp int_cmp_total o by_right a b n (sym (met_whole o by_right a b) ∙ far) (sym (within_whole (is_up o by_right) b n) ∙ w)
out-of-reach o by_right (text a) (text b) (text n) k far w = met_text o by_right a n ∙ reach (slice_cmp nat_cmp) nat_list_cmp_total o by_right a b n (sym (met_text o by_right a b) ∙ far) (sym (within_text (is_up o by_right) b n) ∙ w)
out-of-reach o by_right (whole a) (whole b) (text n) k far w = absurd (true≢false (sym w))
out-of-reach o by_right (whole a) (whole b) (truth n) k far w = absurd (true≢false (sym w))
out-of-reach o by_right (whole a) (whole b) (listed n) k far w = absurd (true≢false (sym w))
out-of-reach o by_right (text a) (text b) (whole n) k far w = absurd (true≢false (sym w))
out-of-reach o by_right (text a) (text b) (truth n) k far w = absurd (true≢false (sym w))
out-of-reach o by_right (text a) (text b) (listed n) k far w = absurd (true≢false (sym w))
out-of-reach o by_right (whole a) null v k far w = absurd (true≢false (sym k))
out-of-reach o by_right (whole a) (text b) v k far w = absurd (true≢false (sym k))
out-of-reach o by_right (whole a) (truth b) v k far w = absurd (true≢false (sym k))
out-of-reach o by_right (whole a) (listed b) v k far w = absurd (true≢false (sym k))
out-of-reach o by_right (text a) null v k far w = absurd (true≢false (sym k))
out-of-reach o by_right (text a) (whole b) v k far w = absurd (true≢false (sym k))
out-of-reach o by_right (text a) (truth b) v k far w = absurd (true≢false (sym k))
out-of-reach o by_right (text a) (listed b) v k far w = absurd (true≢false (sym k))
out-of-reach o by_right (truth a) b v k far w = absurd (true≢false (sym k))
out-of-reach o by_right (listed a) b v k far w = absurd (true≢false (sym k))

-- places that are passed over
pub passing-over : (p : ℕ → Bool) (n m : ℕ) → ((i : ℕ) → n ≤ i → i < n + m → p i ≡ false) → passing p (n + m) ≡ passing p n
passing-over p n zero h = let q : n + 0 ≡ n = omega arith in ap (passing p) q
passing-over p n (suc m) h =
    let q : n + suc m ≡ (n + m) + 1 = omega arith in
    ap (passing p) q ∙ passing-next p (n + m) false (h (n + m) (omega arith) (omega arith)) ∙ append-nil (passing p (n + m)) ∙ passing-over p n m (λ i from below. h i from (omega (arith, below)))

-- the runs from one row more on
pub runs-next : (up : Bool) (c : Cell) (h n : ℕ) (runs new : List (List Run)) (own : List Run) → AreRuns up c h n runs → new ≡ runs ++ own ∷ [] → All (IsRunAt up c n h) own → AreRuns up c h (n + 1) new
runs-next up c h n runs new own are more is = record {
  long = let l = ap {B = ℕ} length more in let m = length-append runs (own ∷ []) in omega (arith, l, m, are.long);
  each = λ i lt. subst (λ (l : List (List Run)). All (IsRunAt up c i h) (get_or l i [])) (sym more) (at i lt (cases_lt i n));
}
  where
    at : (i : ℕ) → i < n + 1 → (i < n) ⊎ (n ≤ i) → All (IsRunAt up c i h) (get_or (runs ++ own ∷ []) i [])
    at i lt (inl below) = subst (All (IsRunAt up c i h)) (sym (get_or_append_left runs (own ∷ []) [] i (omega (arith, below, are.long)))) (are.each i below)
    at i lt (inr from) =
        let q : i ≡ length runs = omega (arith, lt, from, are.long) in
        let r : n ≡ i = omega (arith, lt, from) in
        subst (All (IsRunAt up c i h)) (sym (ap (λ (m : ℕ). get_or (runs ++ own ∷ []) m []) q ∙ get_or-append_seam runs own [] [])) (subst (λ (m : ℕ). All (IsRunAt up c m h) own) r is)

-- where the first row is met nothing is passed over
pub none-passed : (o : InequalityOperator) (by_right : Bool) (own : Value) (c : Cell) (first h : ℕ) → first < h → IsPassed o by_right own c first h 0
none-passed o by_right own c first h lt = record { ends = omega (arith, lt); none = λ i from below. absurd (omega (arith, from, below)) }

-- else it is
pub one-passed : (o : InequalityOperator) (by_right : Bool) (own : Value) (c : Cell) (first h : ℕ) → first < h → is_met o by_right own (value_at c first) ≡ false → IsPassed o by_right own c first h 1
one-passed o by_right own c first h lt far = record {
  ends = omega (arith, lt);
  none = λ i from below. let q : i ≡ first = omega (arith, from, below) in ap (λ (k : ℕ). is_met o by_right own (value_at c k)) q ∙ far;
}

-- and a run whose bound is out of reach
pub run-passed : (o : InequalityOperator) (by_right : Bool) (own : Value) (c : Cell) (first h : ℕ) (r : Run) → IsRunAt (is_up o by_right) c first h r → ((v : Value) → is_within (is_up o by_right) (value_of r.bound) v ≡ true → is_met o by_right own v ≡ false) → IsPassed o by_right own c first h r.count
run-passed o by_right own c first h r is far = record { ends = is.ends; none = λ i from below. far (value_at c i) (is.within i from below) }

-- rows that are passed over match none
pub passed-next : (test : ℕ → Bool) (o : InequalityOperator) (by_right : Bool) (own : Value) (c : Cell) (other others count : ℕ) (rows : List ℕ) → rows ≡ passing test other → 0 < count → IsPassed o by_right own c other others count → ((j : ℕ) → test j ≡ true → is_met o by_right own (value_at c j) ≡ true) → IsNext test other others (other + count) rows
passed-next test o by_right own c other others count rows before more is needs = record {
  later = omega (arith, more);
  within = is.ends;
  found = before ∙ sym (passing-over test other count (λ i from below. fails (test i) i refl (is.none i from below)));
}
  where
    fails : (b : Bool) (i : ℕ) → test i ≡ b → is_met o by_right own (value_at c i) ≡ false → test i ≡ false
    fails false i e far = e
    fails true i e far = absurd (true≢false (sym (needs i e) ∙ far))

-- a row more is looked at
pub looked-next : (test : ℕ → Bool) (other others : ℕ) (b : Bool) (rows new : List ℕ) → rows ≡ passing test other → other < others → test other ≡ b → new ≡ rows ++ cond b (other ∷ []) [] → IsNext test other others (other + 1) new
looked-next test other others b rows new before lt is more = record {
  later = omega arith;
  within = omega (arith, lt);
  found = more ∙ ap (λ (l : List ℕ). l ++ cond b (other ∷ []) []) before ∙ sym (passing-next test other b is);
}

-- rows whose first keys do not meet the first inequality do not match
pub first-needed : (o : IEJoinOptions) (c d : Cell) (cs ds : List Cell) (i j : ℕ) → keys_meet (operators o) (c ∷ cs) (d ∷ ds) i j ≡ true → is_true (operated (operator_of o.operator1) (value_at c i) (value_at d j)) ≡ true
first-needed o c d cs ds i j e = (and_parts (is_true (operated (operator_of o.operator1) (value_at c i) (value_at d j))) (keys_meet (operator_if o.operator2) cs ds i j) e).0

-- the first of some values
pub first-of : (vs : List Values) (v : Values) → 1 ≤ length vs → v ≡ get_or vs 0 v → (rest : List Cell) × (cells_of vs ≡ cell_of v ∷ rest)
first-of [] v le is = absurd (omega (arith, le))
first-of (x ∷ vs) v le is = (cells_of vs, ap (λ (y : Values). cell_of y ∷ cells_of vs) (sym is))

-- rows of two sides match only where their first keys meet the first inequality
module _ (ex : List AExpr) (args : JoinArgs) (o : IEJoinOptions) (f g : Frame) where
  needed : (by_right : Bool) (c d : Cell) (cs ds : List Cell) (i j : ℕ) → sided by_right (kind_test ex args (IEJoin o) (c ∷ cs) (d ∷ ds) f g) i j ≡ true → is_met o.operator1 by_right (value_at (cond by_right d c) i) (value_at (cond by_right c d) j) ≡ true
  needed true c d cs ds i j e = first-needed o c d cs ds j i e
  needed false c d cs ds i j e = first-needed o c d cs ds i j e

  pub sided-needed : (told : JoinTypeOptionsIR) (by_right : Bool) (cs ds : List Cell) (c d : Cell) (xs ys : List Cell) → told ≡ IEJoin o → cs ≡ c ∷ xs → ds ≡ d ∷ ys → (i j : ℕ) → sided by_right (kind_test ex args told cs ds f g) i j ≡ true → is_met o.operator1 by_right (value_at (cond by_right d c) i) (value_at (cond by_right c d) j) ≡ true
  sided-needed told by_right cs ds c d xs ys t x y i j e =
      needed by_right c d xs ys i j
      (sym (ap (λ (q : JoinTypeOptionsIR). sided by_right (kind_test ex args q cs ds f g) i j) t ∙ ap₂ (λ (u v : List Cell). sided by_right (kind_test ex args (IEJoin o) u v f g) i j) x y) ∙ e)
