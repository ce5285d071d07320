-- Aggregates that make the same of values in any order.
use Rattle.std.proofs.Common.{◌≡◌, ℕ, ℤ, pos, ◌+ℤ◌, ◌⊎◌, inl, inr, ◌||◌, Bool, true, false, not, cond, List, [], ◌∷◌, ◌++◌, fold, is_some, refl, sym, ap, ap₂, ◌∙◌, subst}
use Rattle.std.specs.Int.{w64, int_wrap}
use Rattle.std.proofs.Math.IntN.{+ℤ_assoc, +ℤ_comm}
use Rattle.std.specs.List.{AllByRecursion, list_any}
use Rattle.std.specs.Cmp.{IsStrictWeakOrder, IsTotalOrder, bool_cmp_total}
use Rattle.std.specs.Cmp.Lexicographic.{slice_cmp}
use Rattle.std.proofs.lemmas.Cmp.{alike_right, int_cmp_total, nat_list_cmp_total}
use Rattle.std.proofs.lemmas.List.Sorted.{ranks_by}
use Rattle.std.proofs.lemmas.Map.Lookups.{exact_bytes, exact_signed}
use Rattle.plan_core.specs.declared.data_type.DataType.{DataType}
use Rattle.plan_core.specs.declared.data_type.DataType.TheVariants as types
use Rattle.plan_expr.specs.declared.agg.Aggregate.{Aggregate}
use Rattle.plan_expr.specs.declared.agg.Aggregate.TheVariants as kinds
use Rattle.plan_expr.specs.Types.{aggregate_type, plain_only}
use Rattle.plan_order_laws.specs.Orderless.{ignores_order}
use Rattle.std.specs.Ordering.{bool_cmp, int_cmp, is_gt, is_lt, nat_cmp, ordering_reverse}
use Rattle.std.specs.declared.cmp.Ordering.{Ordering}
use Rattle.std.specs.declared.cmp.Ordering.TheVariants.{Less, Equal, Greater}
use Rattle.plan_frame.specs.Values.{AllOf, IsOf, Value, whole, text, truth, is_null, same_value, value_cmp}
use Rattle.plan_frame.specs.Aggregates.{aggregated, counted, distinct, greater, lesser, number, present, taken, total, with_value}
use Rattle.plan_frame.proofs.SameValues.{value_decides}
use Rattle.plan_order_laws.specs.Shuffles.{Shuffled, nothing, under, exchange, step}
use Rattle.plan_order_laws.proofs.Shuffles.{as_long, exchanged_last, itself, shuffled_any, shuffled_each, shuffled_filter, shuffled_last}

-- Sums

swap_sums : (a b c : ℤ) → a +ℤ (b +ℤ c) ≡ b +ℤ (a +ℤ c)
swap_sums a b c = sym (+ℤ_assoc a b c) ∙ ap (λ (x : ℤ). x +ℤ c) (+ℤ_comm a b) ∙ +ℤ_assoc b a c

pub shuffled_total : (vs ws : List Value) → Shuffled vs ws → total vs ≡ total ws
shuffled_total _ _ nothing = refl
shuffled_total _ _ (under v s) = ap (λ (n : ℤ). number v +ℤ n) (shuffled_total _ _ s)
shuffled_total _ _ (exchange v w zs) = swap_sums (number v) (number w) (total zs)
shuffled_total _ _ (step s t) = shuffled_total _ _ s ∙ shuffled_total _ _ t

-- How many values there are

pub shuffled_counted : (vs ws : List Value) → Shuffled vs ws → counted vs ≡ counted ws
shuffled_counted vs ws s = ap (λ (n : ℕ). whole (int_wrap w64 (pos n))) (as_long vs ws s)

-- How many are distinct

abbrev with_if : Bool → List Value → Value → List Value
with_if b seen v = cond b seen (seen ++ v ∷ [])

any_last : (p : Value → Bool) (vs : List Value) (w : Value) → list_any p (vs ++ w ∷ []) ≡ (list_any p vs || (p w || false))
any_last p [] w = refl
any_last p (v ∷ vs) w = at (p v) (any_last p vs w)
  where
    at : (b : Bool) → list_any p (vs ++ w ∷ []) ≡ (list_any p vs || (p w || false)) → (b || list_any p (vs ++ w ∷ [])) ≡ ((b || list_any p vs) || (p w || false))
    at true e = refl
    at false e = e

or_false : (b : Bool) → (b || false) ≡ b
or_false true = refl
or_false false = refl

-- one value more, to lists with the same values
with_shuffled : (seen met : List Value) (v : Value) → Shuffled seen met → Shuffled (with_value seen v) (with_value met v)
with_shuffled seen met v s = subst (λ (b : Bool). Shuffled (with_value seen v) (with_if b met v)) (shuffled_any (same_value v) seen met s) (at (list_any (same_value v) seen))
  where
    at : (b : Bool) → Shuffled (with_if b seen v) (with_if b met v)
    at true = s
    at false = shuffled_last v seen met s

same_flips : (v w : Value) → same_value v w ≡ false → same_value w v ≡ false
same_flips v w e = at (same_value w v) refl
  where
    no : true ≡ false → ⊥
    no e = cc

    at : (b : Bool) → same_value w v ≡ b → b ≡ false
    at false f = refl
    at true f = absurd (no (sym ((value_decides v w).1 (sym ((value_decides w v).0 f))) ∙ e))

both_orders : (seen : List Value) (v w : Value) → Shuffled (with_value (with_value seen v) w) (with_value (with_value seen w) v)
both_orders seen v w = at (same_value v w) refl
  where
    apart : same_value v w ≡ false → (x y : Value) → same_value x y ≡ false → (b : Bool) → list_any (same_value x) (with_if b seen y) ≡ list_any (same_value x) seen
    apart e x y f true = refl
    apart e x y f false = any_last (same_value x) seen y ∙ ap (λ (c : Bool). list_any (same_value x) seen || (c || false)) f ∙ or_false (list_any (same_value x) seen)

    cases : (a b : Bool) → Shuffled (with_if b (with_if a seen v) w) (with_if a (with_if b seen w) v)
    cases true true = itself seen
    cases true false = itself (seen ++ w ∷ [])
    cases false true = itself (seen ++ v ∷ [])
    cases false false = exchanged_last v w seen

    at : (b : Bool) → same_value v w ≡ b → Shuffled (with_value (with_value seen v) w) (with_value (with_value seen w) v)
    at true e = subst (λ (x : Value). Shuffled (with_value (with_value seen v) x) (with_value (with_value seen x) v)) ((value_decides v w).0 e) (itself (with_value (with_value seen v) v))
    at false e =
        let a = list_any (same_value v) seen in
        let b = list_any (same_value w) seen in
        subst (λ (x : Bool). Shuffled (with_if x (with_if a seen v) w) (with_if (list_any (same_value v) (with_if b seen w)) (with_if b seen w) v)) (sym (apart e w v (same_flips v w e) a))
        (subst (λ (x : Bool). Shuffled (with_if b (with_if a seen v) w) (with_if x (with_if b seen w) v)) (sym (apart e v w e b)) (cases a b))

fold_same : (vs : List Value) (seen met : List Value) → Shuffled seen met → Shuffled (fold with_value seen vs) (fold with_value met vs)
fold_same [] seen met s = s
fold_same (v ∷ vs) seen met s = fold_same vs (with_value seen v) (with_value met v) (with_shuffled seen met v s)

fold_distinct : (vs ws : List Value) → Shuffled vs ws → (seen met : List Value) → Shuffled seen met → Shuffled (fold with_value seen vs) (fold with_value met ws)
fold_distinct _ _ nothing seen met s = s
fold_distinct _ _ (under v t) seen met s = fold_distinct _ _ t (with_value seen v) (with_value met v) (with_shuffled seen met v s)
fold_distinct _ _ (exchange v w zs) seen met s = fold_same zs (with_value (with_value seen v) w) (with_value (with_value met w) v) (step (both_orders seen v w) (with_shuffled (with_value seen w) (with_value met w) v (with_shuffled seen met w s)))
fold_distinct _ _ (step t u) seen met s = step (fold_distinct _ _ t seen seen (itself seen)) (fold_distinct _ _ u seen met s)

pub shuffled_distinct : (vs ws : List Value) → Shuffled vs ws → Shuffled (distinct vs) (distinct ws)
shuffled_distinct vs ws s = fold_distinct vs ws s [] [] nothing

-- The least and the greatest

module _ (P : Value → Type 0) (le : Value → Value → Type 0) (better : Value → Value → Value)
    (one_of : (v w : Value) → (better v w ≡ v) ⊎ (better v w ≡ w))
    (first : (v w : Value) → P v → P w → le (better v w) v) (second : (v w : Value) → P v → P w → le (better v w) w)
    (trans : (u v w : Value) → P u → P v → P w → le u v → le v w → le u w) (alike : (v w : Value) → P v → P w → le v w → le w v → v ≡ w) where
  stays : (v w : Value) → P v → P w → P (better v w)
  stays v w p q = elim (one_of v w) as (λ _. P (better v w)) [ inl e ↦ subst P (sym e) p | inr e ↦ subst P (sym e) q ]

  below_one : (u v w : Value) → le u v → le u w → le u (better v w)
  below_one u v w a b = elim (one_of v w) as (λ _. le u (better v w)) [ inl e ↦ subst (le u) (sym e) a | inr e ↦ subst (le u) (sym e) b ]

  either_way : (v w : Value) → P v → P w → better v w ≡ better w v
  either_way v w p q =
      alike (better v w) (better w v) (stays v w p q) (stays w v q p)
      (below_one (better v w) w v (second v w p q) (first v w p q))
      (below_one (better w v) v w (second w v q p) (first w v q p))

  half : (u v w : Value) → P u → P v → P w → le (better (better u v) w) (better (better u w) v)
  half u v w p q r =
      let uv = better u v in
      let z = better uv w in
      let pz = stays uv w (stays u v p q) r in
      let a = first uv w (stays u v p q) r in
      below_one z (better u w) v
      (below_one z u w (trans z uv u pz (stays u v p q) p a (first u v p q)) (second uv w (stays u v p q) r))
      (trans z uv v pz (stays u v p q) q a (second u v p q))

  third : (u v w : Value) → P u → P v → P w → better (better u v) w ≡ better (better u w) v
  third u v w p q r = alike _ _ (stays (better u v) w (stays u v p q) r) (stays (better u w) v (stays u w p r) q) (half u v w p q r) (half u w v p r q)

  fold_better : (vs ws : List Value) → Shuffled vs ws → (v : Value) → P v → AllByRecursion P vs → fold better v vs ≡ fold better v ws
  fold_better _ _ nothing v p h = refl
  fold_better _ _ (under w s) v p h = fold_better _ _ s (better v w) (stays v w p h.0) h.1
  fold_better _ _ (exchange x y zs) v p h = ap (λ (u : Value). fold better u zs) (third v x y p h.0 h.1.0)
  fold_better _ _ (step s t) v p h = fold_better _ _ s v p h ∙ fold_better _ _ t v p (shuffled_each P _ _ s h)

  pub shuffled_taken : (vs ws : List Value) → Shuffled vs ws → AllByRecursion P vs → taken better vs ≡ taken better ws
  shuffled_taken _ _ nothing h = refl
  shuffled_taken _ _ (under v s) h = fold_better _ _ s v h.0 h.1
  shuffled_taken _ _ (exchange x y zs) h = ap (λ (u : Value). fold better u zs) (either_way x y h.0 h.1.0)
  shuffled_taken _ _ (step s t) h = shuffled_taken _ _ s h ∙ shuffled_taken _ _ t (shuffled_each P _ _ s h)

-- The values of a plain type, in the order of what they are made of
module _ {K : Type 0} (R : K → K → Ordering) (o : IsTotalOrder R) (exact : (a b : K) → R a b ≡ Equal → a ≡ b) (of : K → Value) (test : Value → Value → Bool) (tells : (a b : K) → test (of a) (of b) ≡ is_lt (R a b)) where
  abbrev Is : Value → Type 0
  Is v = (a : K) × (v ≡ of a)

  abbrev better : Value → Value → Value
  better v w = cond (test w v) w v

  abbrev le : Value → Value → Type 0
  le v w = test w v ≡ false

  order : IsStrictWeakOrder (λ (x y : K). is_lt (R x y))
  order = ranks_by o (λ (x : K). x)

  as_keys : (v w : Value) (p : Is v) (q : Is w) → test v w ≡ is_lt (R p.0 q.0)
  as_keys v w p q = ap₂ test p.1 q.1 ∙ tells p.0 q.0

  either : (v w : Value) → (better v w ≡ v) ⊎ (better v w ≡ w)
  either v w = at (test w v)
    where
      at : (b : Bool) → (cond b w v ≡ v) ⊎ (cond b w v ≡ w)
      at true = inr refl
      at false = inl refl

  apart : (v : Value) → Is v → test v v ≡ false
  apart v p = as_keys v v p p ∙ at (R p.0 p.0) refl
    where
      at : (x : Ordering) → R p.0 p.0 ≡ x → is_lt (R p.0 p.0) ≡ false
      at Less e = order.one_way p.0 p.0 (ap is_lt e)
      at Equal e = ap is_lt e
      at Greater e = ap is_lt e

  one_way : (v w : Value) → Is v → Is w → test w v ≡ true → test v w ≡ false
  one_way v w p q e = as_keys v w p q ∙ order.one_way q.0 p.0 (sym (as_keys w v q p) ∙ e)

  below_first : (v w : Value) → Is v → Is w → le (better v w) v
  below_first v w p q = at (test w v) refl
    where
      at : (b : Bool) → test w v ≡ b → test v (cond b w v) ≡ false
      at true e = one_way v w p q e
      at false e = apart v p

  below_second : (v w : Value) → Is v → Is w → le (better v w) w
  below_second v w p q = at (test w v) refl
    where
      at : (b : Bool) → test w v ≡ b → test w (cond b w v) ≡ false
      at true e = apart w q
      at false e = e

  chain : (u v w : Value) → Is u → Is v → Is w → le u v → le v w → le u w
  chain u v w p q r a b = as_keys w u r p ∙ order.chain r.0 q.0 p.0 (sym (as_keys w v r q) ∙ b) (sym (as_keys v u q p) ∙ a)

  equal : (v w : Value) → Is v → Is w → le v w → le w v → v ≡ w
  equal v w p q a b = p.1 ∙ ap of (at (R p.0 q.0) refl) ∙ sym q.1
    where
      at : (x : Ordering) → R p.0 q.0 ≡ x → p.0 ≡ q.0
      at Less e = absurd (no (sym (ap is_lt e) ∙ sym (as_keys v w p q) ∙ b))
        where
          no : true ≡ false → ⊥
          no e = cc
      at Equal e = exact p.0 q.0 e
      at Greater e = absurd (no (sym (ap is_lt (o.antisymm q.0 p.0 ∙ ap ordering_reverse e)) ∙ sym (as_keys w v q p) ∙ a))
        where
          no : true ≡ false → ⊥
          no e = cc

  pub taken_same : (vs ws : List Value) → Shuffled vs ws → AllByRecursion Is vs → taken better vs ≡ taken better ws
  taken_same vs ws s h = shuffled_taken Is le better either below_first below_second chain equal vs ws s h

turned : {K : Type 0} (R : K → K → Ordering) → IsTotalOrder R → IsTotalOrder (λ a b. R b a)
turned R o = record {
  antisymm = λ a b. o.antisymm b a;
  trans = λ a b c e f. o.trans c b a f e;
  congr = λ a b c e. sym (alike_right o b a c e);
}

present_of : {K : Type 0} (t : DataType) (of : K → Value) → ((v : Value) → is_null v ≡ false → IsOf t v → (a : K) × (v ≡ of a)) → (vs : List Value) → AllOf t vs → AllByRecursion (λ v. (a : K) × (v ≡ of a)) (present vs)
present_of t of by [] h = tt
present_of {K} t of by (v ∷ vs) h = at (is_null v) refl (present_of t of by vs h.1)
  where
    at : (b : Bool) → is_null v ≡ b → AllByRecursion (λ v. (a : K) × (v ≡ of a)) (present vs) → AllByRecursion (λ v. (a : K) × (v ≡ of a)) (cond (not b) (v ∷ present vs) (present vs))
    at true e k = k
    at false e k = (by v e h.0, k)

whole_of : (v : Value) → is_null v ≡ false → IsOf types.Int64 v → (a : ℤ) × (v ≡ whole a)
whole_of (whole a) e h = (a, refl)
whole_of v e h = absurd (first_of (search h, cc))

text_of : (v : Value) → is_null v ≡ false → IsOf types.String v → (a : List ℕ) × (v ≡ text a)
text_of (text a) e h = (a, refl)
text_of v e h = absurd (first_of (search h, cc))

truth_of : (v : Value) → is_null v ≡ false → IsOf types.Boolean v → (a : Bool) × (v ≡ truth a)
truth_of (truth a) e h = (a, refl)
truth_of v e h = absurd (first_of (search h, cc))

exact_truth : (a b : Bool) → bool_cmp a b ≡ Equal → a ≡ b
exact_truth true true e = refl
exact_truth false false e = refl
exact_truth true false e = cc
exact_truth false true e = cc

greater_is : {K : Type 0} (R : K → K → Ordering) (o : IsTotalOrder R) (a b : K) → is_gt (R a b) ≡ is_lt (R b a)
greater_is R o a b = ap is_gt (o.antisymm a b) ∙ at (R b a)
  where
    at : (x : Ordering) → is_gt (ordering_reverse x) ≡ is_lt x
    at Less = refl
    at Equal = refl
    at Greater = refl

least_same : (t : DataType) → is_some (plain_only t) ≡ true → (vs ws : List Value) → Shuffled vs ws → AllOf t vs → taken lesser (present vs) ≡ taken lesser (present ws)
least_same types.Int64 e vs ws s h = taken_same int_cmp int_cmp_total exact_signed whole (λ v w. is_lt (value_cmp v w)) (λ a b. refl) (present vs) (present ws) (shuffled_filter _ vs ws s) (present_of types.Int64 whole whole_of vs h)
least_same types.String e vs ws s h = taken_same (slice_cmp nat_cmp) nat_list_cmp_total exact_bytes text (λ v w. is_lt (value_cmp v w)) (λ a b. refl) (present vs) (present ws) (shuffled_filter _ vs ws s) (present_of types.String text text_of vs h)
least_same types.Boolean e vs ws s h = taken_same bool_cmp bool_cmp_total exact_truth truth (λ v w. is_lt (value_cmp v w)) (λ a b. refl) (present vs) (present ws) (shuffled_filter _ vs ws s) (present_of types.Boolean truth truth_of vs h)
least_same (types.List t) e vs ws s h = cc

greatest_same : (t : DataType) → is_some (plain_only t) ≡ true → (vs ws : List Value) → Shuffled vs ws → AllOf t vs → taken greater (present vs) ≡ taken greater (present ws)
greatest_same types.Int64 e vs ws s h = taken_same (λ a b. int_cmp b a) (turned int_cmp int_cmp_total) (λ a b e. sym (exact_signed b a e)) whole (λ v w. is_gt (value_cmp v w)) (λ a b. greater_is int_cmp int_cmp_total a b) (present vs) (present ws) (shuffled_filter _ vs ws s) (present_of types.Int64 whole whole_of vs h)
greatest_same types.String e vs ws s h = taken_same (λ a b. slice_cmp nat_cmp b a) (turned (slice_cmp nat_cmp) nat_list_cmp_total) (λ a b e. sym (exact_bytes b a e)) text (λ v w. is_gt (value_cmp v w)) (λ a b. greater_is (slice_cmp nat_cmp) nat_list_cmp_total a b) (present vs) (present ws) (shuffled_filter _ vs ws s) (present_of types.String text text_of vs h)
greatest_same types.Boolean e vs ws s h = taken_same (λ a b. bool_cmp b a) (turned bool_cmp bool_cmp_total) (λ a b e. sym (exact_truth b a e)) truth (λ v w. is_gt (value_cmp v w)) (λ a b. greater_is bool_cmp bool_cmp_total a b) (present vs) (present ws) (shuffled_filter _ vs ws s) (present_of types.Boolean truth truth_of vs h)
greatest_same (types.List t) e vs ws s h = cc

-- an aggregate that ignores the order makes the same of values of its type in any order
pub aggregated_same : (op : Aggregate) (t : DataType) → ignores_order op ≡ true → is_some (aggregate_type op t) ≡ true → (vs ws : List Value) → Shuffled vs ws → AllOf t vs → aggregated op vs ≡ aggregated op ws
aggregated_same kinds.Min t i e vs ws s h = least_same t e vs ws s h
aggregated_same kinds.Max t i e vs ws s h = greatest_same t e vs ws s h
aggregated_same kinds.Sum t i e vs ws s h = ap (λ (n : ℤ). whole (int_wrap w64 n)) (shuffled_total vs ws s)
aggregated_same (kinds.Count true) t i e vs ws s h = shuffled_counted vs ws s
aggregated_same (kinds.Count false) t i e vs ws s h = shuffled_counted (present vs) (present ws) (shuffled_filter _ vs ws s)
aggregated_same kinds.NUnique t i e vs ws s h = shuffled_counted (distinct vs) (distinct ws) (shuffled_distinct vs ws s)
aggregated_same kinds.First t i e vs ws s h = cc
aggregated_same kinds.Last t i e vs ws s h = cc
aggregated_same kinds.Implode t i e vs ws s h = cc
