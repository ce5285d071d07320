-- What the calls at the entries of an array answered.
use Rattle.std.proofs.Common.{◌≡◌, ℕ, ◌+◌, ◌<◌, List, [], ◌∷◌, ◌++◌, length, map, take, drop, get_or, Option, Some, None, Result, Ok, Err, refl, sym, ap, ◌∙◌, take-append-drop}
use Rattle.std.proofs.lemmas.List.{map-append, take_more, drop_more}
use Rattle.serde_json.specs.Data.{Data}
use Rattle.serde_json.specs.View.{view}
use Rattle.serde_json.specs.declared.value.Value.{Value}
use Rattle.plan_doc_parts.specs.declared.fault.Fault.{Fault}
use Rattle.plan_doc_parts.specs.declared.fault.Fault.TheVariants.{Form, Memory}
use Rattle.plan_doc_parts.specs.Each.{Pairs, Answers, ReadsEach}
use Rattle.plan_doc_parts.specs.Gives.{Gives}
use Rattle.plan_doc_parts.specs.Parts.{each}
use Rattle.plan_doc_parts.proofs.EntryLemmas.{cut}

module _ {T : Type 0} (calls : Value → Result T Fault → Type 0) where
  push : (vs : List Value) (xs : List T) (v : Value) (x : T) → Pairs calls vs xs → calls v (Ok x) → Pairs calls (vs ++ v ∷ []) (xs ++ x ∷ [])
  push [] [] v x before now = (now, tt)
  push [] (y ∷ xs) v x before now = absurd before
  push (w ∷ vs) [] v x before now = absurd before
  push (w ∷ vs) (y ∷ xs) v x before now = (before.0, push vs xs v x before.1 now)

  -- one entry more
  pub goes_on : (vs : List Value) (i : ℕ) (v : Value) (xs : List T) (x : T) → i < length vs → v ≡ get_or vs i v → Pairs calls (take i vs) xs → calls v (Ok x) → Pairs calls (take (i + 1) vs) (xs ++ x ∷ [])
  goes_on vs i v xs x lt here before now =
      let more : take (i + 1) vs ≡ take i vs ++ v ∷ [] = take_more vs i v lt ∙ ap (λ (w : Value). take i vs ++ w ∷ []) (sym here) in
      rw more (push (take i vs) xs v x before now)

  -- an entry that is refused
  pub stops : (vs : List Value) (i : ℕ) (v : Value) (e : Fault) → i < length vs → v ≡ get_or vs i v → calls v (Err e) → ReadsEach calls (Err e) vs
  stops vs i v Memory lt here says = record { answers = tt }
  stops vs i v Form lt here says =
      let rest = drop (i + 1) vs in
      record {
        answers = record {
          before = take i vs;
          entry = v;
          after = rest;
          split = sym (take-append-drop i vs) ∙ ap (λ (l : List Value). take i vs ++ l) (drop_more vs i v lt ∙ ap (λ (w : Value). w ∷ rest) (sym here));
          refused = says;
        };
      }

  -- what each call gives is what the entry stands for, so all of them are what the entries stand for
  module _ (f : Data → Option T) (each_call : (v : Value) (r : Result T Fault) → calls v r → Gives r (f (view v))) where
    all_read : (vs : List Value) (xs : List T) → Pairs calls vs xs → each f (map view vs) ≡ Some xs
    all_read [] [] p = refl
    all_read [] (x ∷ xs) p = absurd p
    all_read (v ∷ vs) [] p = absurd p
    all_read (v ∷ vs) (x ∷ xs) p =
        let first : f (view v) ≡ Some x = each_call v (Ok x) p.0 in
        rw (first, all_read vs xs p.1) refl

    read_each : (r : Result (List T) Fault) (vs : List Value) → Answers calls r vs → Gives r (each f (map view vs))
    read_each (Ok xs) vs p = all_read vs xs p
    read_each (Err Memory) vs p = tt
    read_each (Err Form) vs p =
        let none : f (view p.entry) ≡ None = each_call p.entry (Err Form) p.refused in
        ap (λ (l : List Value). each f (map view l)) p.split ∙ rw (map-append view p.before (p.entry ∷ p.after)) (cut f (map view p.before) (map view p.after) (view p.entry) none)

-- the array that a reader of entries went over
pub each_is_read : {T : Type 0} {calls : Value → Result T Fault → Type 0} {r : Result (List T) Fault} {vs : List Value} (f : Data → Option T)
    → ReadsEach calls r vs → ((v : Value) (r : Result T Fault) → calls v r → Gives r (f (view v))) → Gives r (each f (map view vs))
each_is_read {calls = calls} {r = r} {vs = vs} f given each_call = read_each calls f each_call r vs given.answers
