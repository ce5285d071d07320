-- Readers that go over an array.
use Rattle.std.proofs.Common.{◌≡◌, List, [], ◌∷◌, ◌++◌, length, map, Option, Some, None, String, refl, ap}
use Rattle.std.specs.declared.alloc.Global.{Global}
use Rattle.serde_json.specs.Data.{Data}
use Rattle.serde_json.specs.Find.{as_array, as_object}
use Rattle.serde_json.proofs.Views.{members_len-members_view}
use Rattle.serde_json.specs.View.{view, items_view, items_of, members_view}
use Rattle.serde_json.specs.declared.value.Value.{Value}
use Rattle.plan_doc_parts.specs.Parts.{◌>>=◌, items_list, entries_of, each}
use Rattle.plan_doc_parts.specs.Members.{count_of}

items_list-items_of : (ds : List Data) → items_list (items_of ds) ≡ ds
items_list-items_of [] = refl
items_list-items_of (d ∷ ds) = ap (λ l. d ∷ l) (items_list-items_of ds)

-- the entries of an array in memory
pub entries_are : (vs : List Value) (d : Data) → Some (items_view vs) ≡ as_array d → entries_of d ≡ Some (map view vs)
unfolding entries_of
entries_are vs d e = rw (← e, items_list-items_of (map view vs)) refl

-- what is no array has no entries
pub no_entries : (d : Data) → None ≡ as_array d → entries_of d ≡ None
unfolding entries_of
no_entries d e = rw (← e) refl

-- the number of members of an object in memory
pub count_is : (es : List (String Global × Value)) (d : Data) → Some (members_view es) ≡ as_object d → count_of d ≡ Some (length es)
count_is es d e = rw (← e, members_len-members_view es) refl

-- what is no object has no members
pub no_count : (d : Data) → None ≡ as_object d → count_of d ≡ None
no_count d e = rw (← e) refl

-- the value of a step that gave one
pub bind_some : {A B : Type 0} (o : Option A) (f : A → Option B) (y : B) → (o >>= f) ≡ Some y → (x : A) × (o ≡ Some x) × (f x ≡ Some y)
bind_some (Some x) f y e = (x, refl, e)
bind_some None f y e = absurd cc

-- what is given twice is one
pub some_is : {A : Type 0} (x y : A) → ◌≡◌ {A = Option A} (Some x) (Some y) → x ≡ y
some_is x y e = cc

module _ {A : Type 0} (f : Data → Option A) where
  -- one array after another
  pub joined : (ds es : List Data) (xs ys : List A) → each f ds ≡ Some xs → each f es ≡ Some ys → each f (ds ++ es) ≡ Some (xs ++ ys)
  joined [] es xs ys p q = let none : [] ≡ xs = some_is _ _ p in rw (← none) q
  joined (d ∷ ds) es xs ys p q =
      let a = bind_some (f d) (λ x. each f ds >>= λ zs. Some (x ∷ zs)) xs p in
      let b = bind_some (each f ds) (λ zs. Some (a.0 ∷ zs)) xs a.2 in
      let is : a.0 ∷ b.0 ≡ xs = some_is _ _ b.2 in
      rw (a.1, joined ds es b.0 ys b.1 q) (ap (λ (l : List A). Some (l ++ ys)) is)

  -- entries that stand for nothing, behind others
  pub late : (ds es : List Data) → each f es ≡ None → each f (ds ++ es) ≡ None
  late [] es p = p
  late (d ∷ ds) es p = first (f d) (late ds es p)
    where
      first : (o : Option A) → each f (ds ++ es) ≡ None → (o >>= λ x. each f (ds ++ es) >>= λ xs. Some (x ∷ xs)) ≡ None
      first None q = refl
      first (Some x) q = rw q

  -- an entry that stands for nothing
  pub cut : (ds es : List Data) (d : Data) → f d ≡ None → each f (ds ++ d ∷ es) ≡ None
  cut ds es d p = late ds (d ∷ es) (rw p)
