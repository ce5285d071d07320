-- Values written one for one.
use Rattle.std.proofs.Common.{◌≡◌, ℕ, ◌+◌, ◌<◌, ◌≤◌, List, [], ◌∷◌, ◌++◌, length, map, take, get_or, Some, None, Result, Ok, Vec, inl, inr, refl, sym, ap, ◌∙◌, arith, length-append}
use Rattle.std.specs.Prelude.{IfOk, slice_get}
use Rattle.std.specs.declared.alloc.Global.{Global}
use Rattle.std.specs.declared.alloc.AllocError.{AllocError}
use Rattle.std.proofs.lemmas.List.{take_all, take_more, map-append}
use Rattle.std.proofs.lemmas.Option.{slice_get_cases, slice_get_within, get_or_from_slice_get}
use Rattle.serde_json.specs.Data.{Data, array}
use Rattle.serde_json.specs.View.{view, items_of}
use Rattle.serde_json.specs.declared.value.Value.{Value, Array}
use Rattle.serde_json.proofs.Views.{view-Array}
use Rattle.plan_text_values.specs.Lists.{Pairs, WritesEach}
use Rattle.plan_text_pieces.specs.Values.{list_data}

module _ {T : Type 0} (calls : T → Result Value AllocError → Type 0) where
  push : (xs : List T) (vs : List Value) (x : T) (v : Value) → Pairs calls xs vs → calls x (Ok v) → Pairs calls (xs ++ x ∷ []) (vs ++ v ∷ [])
  push [] [] x v before now = (now, tt)
  push [] (w ∷ vs) x v before now = absurd before
  push (y ∷ xs) [] x v before now = absurd before
  push (y ∷ xs) (w ∷ vs) x v before now = (before.0, push xs vs x v before.1 now)

  -- one more value is written
  pub goes_on : (xs : List T) (i : ℕ) (x : T) (vs : List Value) (v : Value) → i < length xs → x ≡ get_or xs i x → Pairs calls (take i xs) vs → calls x (Ok v) → Pairs calls (take (i + 1) xs) (vs ++ v ∷ [])
  goes_on xs i x vs v lt here before now =
      let more : take (i + 1) xs ≡ take i xs ++ x ∷ [] = take_more xs i x lt ∙ ap (λ (w : T). take i xs ++ w ∷ []) (sym here) in
      rw more (push (take i xs) vs x v before now)

  module _ (f : T → Data) (each_call : (x : T) (r : Result Value AllocError) → calls x r → IfOk r (λ v. view v ≡ f x)) where
    all_written : (xs : List T) (vs : List Value) → Pairs calls xs vs → map view vs ≡ map f xs
    all_written [] [] p = refl
    all_written [] (v ∷ vs) p = absurd p
    all_written (x ∷ xs) [] p = absurd p
    all_written (x ∷ xs) (v ∷ vs) p =
        let first : view v ≡ f x = each_call x (Ok v) p.0 in
        rw (first, all_written xs vs p.1) refl

-- an array whose values are those of the list
pub array_is : {A : Type 0} (f : A → Data) (xs : List A) (v : Vec Value Global) → map view v.items ≡ map f xs → view (Array v) ≡ list_data f xs
unfolding list_data
array_is f xs v all = view-Array v ∙ ap (λ (ds : List Data). array (items_of ds)) all

-- the array of what was written
pub each_is_written : {T : Type 0} {calls : T → Result Value AllocError → Type 0} {v : Vec Value Global} {xs : List T} (f : T → Data)
    → WritesEach calls (Ok v) xs → ((x : T) (r : Result Value AllocError) → calls x r → IfOk r (λ w. view w ≡ f x)) → view (Array v) ≡ list_data f xs
each_is_written {calls = calls} {v = v} {xs = xs} f given each_call = array_is f xs v (all_written calls f each_call xs v.items given.answers)

past_end : {A : Type 0} (xs : List A) (n : ℕ) → slice_get xs n ≡ None → length xs ≤ n
past_end xs n none =
    elim (slice_get_cases xs n).1 [
      | inl found ↦ absurd (cc (none, found.2))
      | inr past ↦ past.0
    ]

module _ {A : Type 0} (f : A → Data) (xs : List A) (vs : List Value) (n : ℕ) (at : n ≡ length vs) (before : map view vs ≡ map f (take (length vs) xs)) where
  -- the value after those that are written is written too
  pub more_written : (ws : List Value) (v : Value) (x : A) → slice_get xs n ≡ Some x → view v ≡ f x → ws ≡ vs ++ v ∷ [] → map view ws ≡ map f (take (length ws) xs)
  more_written ws v x here is grown =
      let same : get_or xs n x ≡ x = get_or_from_slice_get xs n x x here in
      let more : take (n + 1) xs ≡ take n xs ++ x ∷ [] = take_more xs n x (slice_get_within xs n x here) ∙ ap (λ (w : A). take n xs ++ w ∷ []) same in
      let longer : length ws ≡ n + 1 = omega (arith, ap length grown, length-append vs (v ∷ []), at) in
      rw (longer, more, grown, map-append view vs (v ∷ []), map-append f (take n xs) (x ∷ []), is, before, at) refl

  -- no value comes after those that are written
  pub whole_written : slice_get xs n ≡ None → map view vs ≡ map f xs
  whole_written none =
      let all : take (length vs) xs ≡ xs = take_all (length vs) xs (omega (arith, past_end xs n none, at)) in
      before ∙ ap (map f) all
