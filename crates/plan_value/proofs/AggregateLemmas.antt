-- What aggregates make of one value more.
use Rattle.std.proofs.Common.{◌≡◌, ◌++◌, ◌+◌, ◌<◌, length, get_or, take, fold, ℕ, ℤ, pos, ◌+ℤ◌, Bool, true, false, not, ◌||◌, cond, List, [], ◌∷◌, refl, ap, sym, ◌∙◌, arith, add-one, if◌then◌else◌}
use Rattle.std.specs.List.{list_any}
use Rattle.std.specs.Int.{w64, int_wrap, cast_signed, cast_unsigned}
use Rattle.std.specs.Int.RustNames.{FitsSigned}
use Rattle.std.proofs.lemmas.Int.{int_wrap_fits, SFits-int_wrap, wrapping_add_onto, int_wrap-add_left}
use Rattle.std.proofs.Math.IntN.{+ℤ_assoc, +ℤ_idl, +ℤ_idr}
use Rattle.std.proofs.Math.Seq.{take-suc}
use Rattle.std.proofs.lemmas.List.{map-append}
use Rattle.std.proofs.lemmas.List.Sums.{fold-append}
use Rattle.indexmap.specs.IndexSet.{insert_key}
use Rattle.plan_table.specs.declared.value.AnyValue.{AnyValue}
use Rattle.plan_table.specs.contracts.value.AnyValuePartialEq.TheImpl as any_value
use Rattle.plan_frame.specs.Aggregates.{present, number, total, taken, greater, lesser, with_value, distinct, running_sums, sum_at}
use Rattle.plan_frame.specs.Values.{Value, null, whole, text, truth, listed, is_null, same_value}
use Rattle.plan_value.specs.Shown.{value_of, values_of}
use Rattle.plan_value.proofs.SameLemmas.{values_same}
use Prim.Native.Nat.{◌^◌, ◌%◌}
use mir.Val.{bits}

-- the values up to the next place
pub values-next : (vs : List AnyValue) (i : ℕ) (v : AnyValue) → i < length vs → v ≡ get_or vs i v → values_of (take (i + 1) vs) ≡ values_of (take i vs) ++ value_of v ∷ []
values-next vs i v lt is =
    ap (λ (n : ℕ). values_of (take n vs)) (add-one i)
    ∙ ap values_of (take-suc vs i v lt)
    ∙ map-append value_of (take i vs) (get_or vs i v ∷ [])
    ∙ ap (λ (w : AnyValue). values_of (take i vs) ++ value_of w ∷ []) (sym is)

-- the sum with one value more
pub total-more : (vs : List Value) (v : Value) → total (vs ++ v ∷ []) ≡ total vs +ℤ number v
total-more [] v = +ℤ_idr (number v) ∙ sym (+ℤ_idl (number v))
total-more (w ∷ vs) v = ap (λ (z : ℤ). number w +ℤ z) (total-more vs v) ∙ sym (+ℤ_assoc (number w) (total vs) (number v))

-- the running sums with one value more
pub sums-more : (n : ℤ) (vs : List Value) (v : Value) → running_sums n (vs ++ v ∷ []) ≡ running_sums n vs ++ sum_at v (n +ℤ (total vs +ℤ number v)) ∷ []
sums-more n [] v = ap (λ (z : ℤ). sum_at v (n +ℤ z) ∷ []) (sym (+ℤ_idl (number v)))
sums-more n (w ∷ vs) v =
    let q : (n +ℤ number w) +ℤ (total vs +ℤ number v) ≡ n +ℤ ((number w +ℤ total vs) +ℤ number v) =
    +ℤ_assoc n (number w) (total vs +ℤ number v) ∙ ap (λ (z : ℤ). n +ℤ z) (sym (+ℤ_assoc (number w) (total vs) (number v))) in
    ap (λ (xs : List Value). sum_at w (n +ℤ number w) ∷ xs) (sums-more (n +ℤ number w) vs v)
    ∙ ap (λ (z : ℤ). sum_at w (n +ℤ number w) ∷ (running_sums (n +ℤ number w) vs ++ sum_at v z ∷ [])) q

-- a sum that is wrapped, at a value
wrapped-at : (v : Value) (n : ℤ) → sum_at v (int_wrap w64 n) ≡ sum_at v n
wrapped-at null n = refl
wrapped-at (whole m) n = ap whole (int_wrap_fits w64 (int_wrap w64 n) (SFits-int_wrap w64 n))
wrapped-at (text s) n = ap whole (int_wrap_fits w64 (int_wrap w64 n) (SFits-int_wrap w64 n))
wrapped-at (truth b) n = ap whole (int_wrap_fits w64 (int_wrap w64 n) (SFits-int_wrap w64 n))
wrapped-at (listed xs) n = ap whole (int_wrap_fits w64 (int_wrap w64 n) (SFits-int_wrap w64 n))

-- the sum up to the next place
total-next : (vs : List AnyValue) (i : ℕ) (v : AnyValue) → i < length vs → v ≡ get_or vs i v → total (values_of (take (i + 1) vs)) ≡ total (values_of (take i vs)) +ℤ number (value_of v)
total-next vs i v lt is = ap total (values-next vs i v lt is) ∙ total-more (values_of (take i vs)) (value_of v)

-- the sum that a loop reckons, by its bits, up to the next place
pub sum-next : (vs : List AnyValue) (i m : ℕ) (v : AnyValue) (n : ℤ) → m < 2 ^ bits w64 → FitsSigned w64 n → i < length vs → v ≡ get_or vs i v → n ≡ number (value_of v) → cast_signed w64 m ≡ int_wrap w64 (total (values_of (take i vs))) → cast_signed w64 ((m + cast_unsigned w64 n) % 2 ^ bits w64) ≡ int_wrap w64 (total (values_of (take (i + 1) vs)))
sum-next vs i m v n small fits lt is e before =
    let t = total (values_of (take i vs)) in
    wrapping_add_onto w64 m n small fits
    ∙ ap (λ (z : ℤ). int_wrap w64 (z +ℤ n)) before
    ∙ int_wrap-add_left w64 t n
    ∙ ap (λ (z : ℤ). int_wrap w64 (t +ℤ z)) e
    ∙ ap (int_wrap w64) (sym (total-next vs i v lt is))

-- the running sums up to the next place
pub sums-next : (vs : List AnyValue) (i : ℕ) (v : AnyValue) (sums : List Value) (s : Value) (n : ℤ) → i < length vs → v ≡ get_or vs i v → sums ≡ running_sums (pos 0) (values_of (take i vs)) → s ≡ sum_at (value_of v) n → n ≡ int_wrap w64 (total (values_of (take (i + 1) vs))) → sums ++ s ∷ [] ≡ running_sums (pos 0) (values_of (take (i + 1) vs))
sums-next vs i v sums s n lt is before here e =
    let xs = values_of (take i vs) in
    let w = value_of v in
    let last : s ≡ sum_at w (pos 0 +ℤ (total xs +ℤ number w)) =
    here
    ∙ ap (sum_at w) e
    ∙ wrapped-at w (total (values_of (take (i + 1) vs)))
    ∙ ap (sum_at w) (total-next vs i v lt is ∙ sym (+ℤ_idl (total xs +ℤ number w))) in
    ap (λ (ys : List Value). ys ++ s ∷ []) before
    ∙ ap (λ (x : Value). running_sums (pos 0) xs ++ x ∷ []) last
    ∙ sym (ap (running_sums (pos 0)) (values-next vs i v lt is) ∙ sums-more (pos 0) xs w)

-- a number of values, wrapped
pub count-wrapped : (n : ℕ) → n < 2 ^ bits w64 → cast_signed w64 n ≡ int_wrap w64 (pos n)
unfolding int_wrap
count-wrapped n lt = let e : n ≡ n % 2 ^ bits w64 = omega arith in ap (cast_signed w64) e

-- the values that aren't null with one value more
present-cond : (b : Bool) (w : Value) (xs ys : List Value) → cond b (w ∷ (xs ++ ys)) (xs ++ ys) ≡ cond b (w ∷ xs) xs ++ ys
present-cond true w xs ys = refl
present-cond false w xs ys = refl

pub present-more : (vs : List Value) (v : Value) → present (vs ++ v ∷ []) ≡ present vs ++ present (v ∷ [])
present-more [] v = refl
present-more (w ∷ vs) v = ap (λ (xs : List Value). cond (not (is_null w)) (w ∷ xs) xs) (present-more vs v) ∙ present-cond (not (is_null w)) w (present vs) (present (v ∷ []))

-- whether a value is among those that are seen
has-seen : (ks : List AnyValue) (v : AnyValue) → list_any (any_value.ghosts.eq v) ks ≡ list_any (same_value (value_of v)) (values_of ks)
has-seen [] v = refl
has-seen (k ∷ ks) v = ap (λ (b : Bool). b || list_any (any_value.ghosts.eq v) ks) (values_same v k) ∙ ap (λ (b : Bool). same_value (value_of v) (value_of k) || b) (has-seen ks v)

grown : (b : Bool) (ks : List AnyValue) (k : AnyValue) → values_of (if b then ks else ks ++ k ∷ []) ≡ (if b then values_of ks else values_of ks ++ value_of k ∷ [])
grown true ks k = refl
grown false ks k = map-append value_of ks (k ∷ [])

-- the values that are seen with one value more
pub with-seen : (ks : List AnyValue) (k : AnyValue) → values_of (insert_key any_value.ghosts.eq ks k) ≡ with_value (values_of ks) (value_of k)
with-seen ks k = grown (list_any (any_value.ghosts.eq k) ks) ks k ∙ ap (λ (b : Bool). if b then values_of ks else values_of ks ++ value_of k ∷ []) (has-seen ks k)

pub distinct-more : (vs : List Value) (v : Value) → distinct (vs ++ v ∷ []) ≡ with_value (distinct vs) v
distinct-more vs v = fold-append with_value [] vs (v ∷ [])

-- one of two values, or the one that isn't null
abbrev pub step : (Value → Value → Value) → Value → Value → Value
step better x y = if is_null x then y else (if is_null y then x else better x y)

-- a choice between two values that gives no null where neither is null
pub record Keeps (better : Value → Value → Value) : Type 0 where
  pub keeps : (x y : Value) → is_null x ≡ false → is_null y ≡ false → is_null (better x y) ≡ false

kept-one : (b : Bool) (x y : Value) → is_null x ≡ false → is_null y ≡ false → is_null (if b then y else x) ≡ false
kept-one true x y p q = q
kept-one false x y p q = p

pub keeps-by : (greatest : Bool) → Keeps (if greatest then greater else lesser)
keeps-by true = record { keeps = λ x y p q. kept-one _ x y p q }
keeps-by false = record { keeps = λ x y p q. kept-one _ x y p q }

from-value : (better : Value → Value → Value) → Keeps better → (x : Value) (vs : List Value) → is_null x ≡ false → fold (step better) x vs ≡ fold better x (present vs)
from-value better k x [] p = refl
from-value better k x (null ∷ vs) p = rw p (from-value better k x vs p)
from-value better k x (whole n ∷ vs) p = rw p (from-value better k (better x (whole n)) vs (k.keeps x (whole n) p refl))
from-value better k x (text s ∷ vs) p = rw p (from-value better k (better x (text s)) vs (k.keeps x (text s) p refl))
from-value better k x (truth b ∷ vs) p = rw p (from-value better k (better x (truth b)) vs (k.keeps x (truth b) p refl))
from-value better k x (listed xs ∷ vs) p = rw p (from-value better k (better x (listed xs)) vs (k.keeps x (listed xs) p refl))

-- one after another, the best value is the one that is taken of those that aren't null
pub best-taken : (better : Value → Value → Value) → Keeps better → (vs : List Value) → fold (step better) null vs ≡ taken better (present vs)
best-taken better k [] = refl
best-taken better k (null ∷ vs) = best-taken better k vs
best-taken better k (whole n ∷ vs) = from-value better k (whole n) vs refl
best-taken better k (text s ∷ vs) = from-value better k (text s) vs refl
best-taken better k (truth b ∷ vs) = from-value better k (truth b) vs refl
best-taken better k (listed xs ∷ vs) = from-value better k (listed xs) vs refl

-- the distinct values up to the next place
pub distinct-next : (vs : List AnyValue) (i : ℕ) (v w : AnyValue) (seen : List Value) → i < length vs → v ≡ get_or vs i v → w ≡ v → seen ≡ distinct (values_of (take i vs)) → with_value seen (value_of w) ≡ distinct (values_of (take (i + 1) vs))
distinct-next vs i v w seen lt is same before =
    ap (λ (xs : List Value). with_value xs (value_of w)) before
    ∙ ap (λ (x : AnyValue). with_value (distinct (values_of (take i vs))) (value_of x)) same
    ∙ sym (ap distinct (values-next vs i v lt is) ∙ distinct-more (values_of (take i vs)) (value_of v))
