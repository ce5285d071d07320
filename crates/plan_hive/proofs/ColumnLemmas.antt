-- Hive columns: their types and order.
use Rattle.std.proofs.Common.{◌≡◌, ◌+◌, ◌++◌, ℕ, zero, suc, Bool, true, false, cond, not, ◌&&◌, ◌||◌, if◌then◌else◌, List, [], ◌∷◌, take, drop, map, Option, None, Some, is_some, Bor, refl, sym, ap, ap₂, ◌∙◌, add-one}
use Rattle.std.specs.Option.{option_copied}
use Rattle.std.specs.Str.{bytes_eq}
use Rattle.std.specs.List.{filter, filter_map, cons_option, list_all, list_any, slice_get}
use Rattle.std.proofs.lemmas.List.{append-nil}
use Rattle.std.proofs.lemmas.List.Elements.{filter_map-append}
use Rattle.std.proofs.lemmas.List.Folds.{list_all-append, list_any-append}
use Rattle.std.proofs.Math.Bool.{and-true, or-true}
use Rattle.plan_core.specs.Columns.{Columns, names_of, type_of, with_type, with_types}
use Rattle.plan_core.specs.Names.{has}
use Rattle.plan_core.specs.declared.data_type.DataType.{DataType}
use Rattle.plan_core.specs.declared.data_type.DataType.TheVariants as types
use Rattle.plan_scan.proofs.StatLemmas.{drop-at}
use Rattle.plan_hive.specs.Parts.{Text, HivePart}
use Rattle.plan_hive.specs.Values.{hive_type, number_of, truth_of, type_from}

pub take-more : {X : Type 0} (xs : List X) (i : ℕ) (x : X) → slice_get xs i ≡ Some x → take (suc i) xs ≡ take i xs ++ x ∷ []
take-more [] i x h = cc
take-more (y ∷ ys) zero x h = let same : y ≡ x = cc in ap (λ z. z ∷ []) same
take-more (y ∷ ys) (suc i) x h = ap (λ zs. y ∷ zs) (take-more ys i x h)

-- marks tell whether there are texts, whether each is a truth value, and whether each is a number
pub record Told (ts : List Text) (any truths numbers : Bool) : Type 0 where
  pub any-is : any ≡ list_any (λ (t : Text). true) ts
  pub truths-are : truths ≡ list_all (λ (t : Text). is_some (truth_of t)) ts
  pub numbers-are : numbers ≡ list_all (λ (t : Text). is_some (number_of t)) ts

-- names with their types
abbrev pub typed : Option Columns → Columns → List (List HivePart) → List Text → Columns
typed schema reader all names = map (λ (name : Text). (name, hive_type schema reader all name)) names

-- the names of columns that are among names
abbrev pub kept : List Text → Columns → List Text
kept firsts cs = filter (has firsts) (names_of cs)

-- the names that are not those of columns
abbrev pub others : Columns → List Text → List Text
others reader names = filter (λ name. not (has (names_of reader) name)) names

-- one more text
pub told-more : (f : List HivePart → Option Text) (all : List (List HivePart)) (i : ℕ) (parts : List HivePart) (t : Text) (any truths numbers : Bool) → slice_get all i ≡ Some parts → f parts ≡ Some t → Told (filter_map f (take i all)) any truths numbers → Told (filter_map f (take (i + 1) all)) true (truths && is_some (truth_of t)) (numbers && is_some (number_of t))
told-more f all i parts t any truths numbers is here h =
    let more : filter_map f (take (i + 1) all) ≡ filter_map f (take i all) ++ t ∷ [] =
    ap (λ (n : ℕ). filter_map f (take n all)) (add-one i) ∙ ap (filter_map f) (take-more all i parts is) ∙ filter_map-append f (take i all) (parts ∷ []) ∙ ap (λ (o : Option Text). filter_map f (take i all) ++ cons_option o []) here in
    rw more record {
      any-is = sym (or-true (list_any (λ (t : Text). true) (filter_map f (take i all)))) ∙ sym (list_any-append (λ (t : Text). true) (filter_map f (take i all)) (t ∷ []));
      truths-are = ap (λ (b : Bool). b && is_some (truth_of t)) h.truths-are ∙ ap (λ (b : Bool). list_all (λ (t : Text). is_some (truth_of t)) (filter_map f (take i all)) && b) (sym (and-true (is_some (truth_of t)))) ∙ sym (list_all-append (λ (t : Text). is_some (truth_of t)) (filter_map f (take i all)) (t ∷ []));
      numbers-are = ap (λ (b : Bool). b && is_some (number_of t)) h.numbers-are ∙ ap (λ (b : Bool). list_all (λ (t : Text). is_some (number_of t)) (filter_map f (take i all)) && b) (sym (and-true (is_some (number_of t)))) ∙ sym (list_all-append (λ (t : Text). is_some (number_of t)) (filter_map f (take i all)) (t ∷ []));
    }

-- none
pub told-same : (f : List HivePart → Option Text) (all : List (List HivePart)) (i : ℕ) (parts : List HivePart) (any truths numbers : Bool) → slice_get all i ≡ Some parts → f parts ≡ None → Told (filter_map f (take i all)) any truths numbers → Told (filter_map f (take (i + 1) all)) any truths numbers
told-same f all i parts any truths numbers is here h =
    let more : filter_map f (take (i + 1) all) ≡ filter_map f (take i all) =
    ap (λ (n : ℕ). filter_map f (take n all)) (add-one i) ∙ ap (filter_map f) (take-more all i parts is) ∙ filter_map-append f (take i all) (parts ∷ []) ∙ ap (λ (o : Option Text). filter_map f (take i all) ++ cons_option o []) here ∙ append-nil (filter_map f (take i all)) in
    rw more h

-- the type that the marks tell
pub type-told : (ts : List Text) (any truths numbers : Bool) → Told ts any truths numbers → (if not any then types.String else if truths then types.Boolean else if numbers then types.Int64 else types.String) ≡ type_from ts
type-told [] any truths numbers h = rw h.any-is refl
type-told (t ∷ ts) any truths numbers h = rw (h.any-is, h.truths-are, h.numbers-are) refl

has-typed : (cs : Columns) (a : Text) → is_some (type_of cs a) ≡ has (names_of cs) a
has-typed [] a = refl
has-typed (c ∷ cs) a = go (bytes_eq a c.0) (has-typed cs a)
  where
    go : (b : Bool) → is_some (type_of cs a) ≡ has (names_of cs) a → is_some (if b then Some c.1 else type_of cs a) ≡ (b || has (names_of cs) a)
    go true h = refl
    go false h = h

-- a look-up finds no type exactly where the name is none of the columns'
pub typed-there : (cs : Columns) (a : Text) (o : Option (Bor DataType)) (t : Bool) → option_copied o ≡ type_of cs a → is_some o ≡ not t → has (names_of cs) a ≡ not t
typed-there cs a None t is e = sym (has-typed cs a) ∙ ap (λ (x : Option DataType). is_some x) (sym is) ∙ e
typed-there cs a (Some d) t is e = sym (has-typed cs a) ∙ ap (λ (x : Option DataType). is_some x) (sym is) ∙ e

module _ (schema : Option Columns) (reader : Columns) (all : List (List HivePart)) where
  -- a column of the reader that the first path has, and one that it lacks
  pub reader-kept : (firsts : List Text) (left rest done whole new : Columns) (name n : Text) (d dtype : DataType) → left ≡ (name, d) ∷ rest → has firsts name ≡ true → n ≡ name → dtype ≡ hive_type schema reader all name → new ≡ with_type done n dtype → with_types done (typed schema reader all (kept firsts left ++ others reader firsts)) ≡ whole → with_types new (typed schema reader all (kept firsts rest ++ others reader firsts)) ≡ whole
  reader-kept firsts left rest done whole new name n d dtype is h p q after inv =
      ap (λ (x : Columns). with_types x (typed schema reader all (kept firsts rest ++ others reader firsts))) (after ∙ ap₂ (λ (a : Text) (t : DataType). with_type done a t) p q)
      ∙ ap (λ (t : Bool). with_types done (typed schema reader all (cond t (name ∷ kept firsts rest) (kept firsts rest) ++ others reader firsts))) (sym h)
      ∙ ap (λ (cs : Columns). with_types done (typed schema reader all (kept firsts cs ++ others reader firsts))) (sym is)
      ∙ inv

  pub reader-passed : (firsts : List Text) (left rest done whole : Columns) (name : Text) (d : DataType) → left ≡ (name, d) ∷ rest → has firsts name ≡ false → with_types done (typed schema reader all (kept firsts left ++ others reader firsts)) ≡ whole → with_types done (typed schema reader all (kept firsts rest ++ others reader firsts)) ≡ whole
  reader-passed firsts left rest done whole name d is h inv =
      ap (λ (t : Bool). with_types done (typed schema reader all (cond t (name ∷ kept firsts rest) (kept firsts rest) ++ others reader firsts))) (sym h)
      ∙ ap (λ (cs : Columns). with_types done (typed schema reader all (kept firsts cs ++ others reader firsts))) (sym is)
      ∙ inv

  -- a name that the reader lacks, and one that it has
  pub other-kept : (names : List Text) (i : ℕ) (done whole new : Columns) (name n : Text) (dtype : DataType) → slice_get names i ≡ Some name → has (names_of reader) name ≡ false → n ≡ name → dtype ≡ hive_type schema reader all name → new ≡ with_type done n dtype → with_types done (typed schema reader all (others reader (drop i names))) ≡ whole → with_types new (typed schema reader all (others reader (drop (i + 1) names))) ≡ whole
  other-kept names i done whole new name n dtype is h p q after inv =
      ap₂ (λ (x : Columns) (k : ℕ). with_types x (typed schema reader all (others reader (drop k names)))) (after ∙ ap₂ (λ (a : Text) (t : DataType). with_type done a t) p q) (add-one i)
      ∙ ap (λ (t : Bool). with_types done (typed schema reader all (cond (not t) (name ∷ others reader (drop (suc i) names)) (others reader (drop (suc i) names))))) (sym h)
      ∙ ap (λ (ns : List Text). with_types done (typed schema reader all (others reader ns))) (sym (drop-at names i name is))
      ∙ inv

  pub other-passed : (names : List Text) (i : ℕ) (done whole : Columns) (name : Text) → slice_get names i ≡ Some name → has (names_of reader) name ≡ true → with_types done (typed schema reader all (others reader (drop i names))) ≡ whole → with_types done (typed schema reader all (others reader (drop (i + 1) names))) ≡ whole
  other-passed names i done whole name is h inv =
      ap (λ (k : ℕ). with_types done (typed schema reader all (others reader (drop k names)))) (add-one i)
      ∙ ap (λ (t : Bool). with_types done (typed schema reader all (cond (not t) (name ∷ others reader (drop (suc i) names)) (others reader (drop (suc i) names))))) (sym h)
      ∙ ap (λ (ns : List Text). with_types done (typed schema reader all (others reader ns))) (sym (drop-at names i name is))
      ∙ inv
