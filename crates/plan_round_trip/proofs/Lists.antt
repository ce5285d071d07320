-- Lists, and values that may be null, are read again of what is written for them.
use Rattle.std.proofs.Common.{◌≡◌, true, List, [], ◌∷◌, map, Option, Some, None, option_map, refl, ap, subst}
use Rattle.std.specs.List.{AllByRecursion}
use Rattle.serde_json.specs.Data.{Data, null, boolean, number, string, array, object, Items, no_items, item}
use Rattle.serde_json.specs.View.{items_of}
use Rattle.plan_doc_parts.specs.Parts.{◌>>=◌, each, items_list, entries_of, nullable, pair, triple, two_of, three_of}
use Rattle.plan_doc_parts.proofs.EntryLemmas.{bind_some, some_is}
use Rattle.plan_text_pieces.specs.Values.{list_data, nullable_data}
use Rattle.plan_round_trip.specs.Canonical.{is_canonical, are_canonical}
use Rattle.plan_round_trip.proofs.Gives.{gives2}
use Rattle.plan_round_trip.proofs.Steps.{Again, Back, both_left, both_right}

-- the numbers of a value are canonical
abbrev pub IsCanonical : Data → Type 0
IsCanonical d = is_canonical d ≡ true

items_again : (ds : List Data) → items_list (items_of ds) ≡ ds
items_again [] = refl
items_again (d ∷ ds) = ap (λ (l : List Data). d ∷ l) (items_again ds)

-- the entries of a list that is written
pub entries_again : {A : Type 0} (writes : A → Data) (xs : List A) → entries_of (list_data writes xs) ≡ Some (map writes xs)
unfolding entries_of list_data
entries_again writes xs = ap (λ (l : List Data). Some l) (items_again (map writes xs))

items_canonical : (ds : Items) → are_canonical ds ≡ true → AllByRecursion IsCanonical (items_list ds)
items_canonical no_items c = tt
items_canonical (item d ds) c = (both_left (is_canonical d) (are_canonical ds) c, items_canonical ds (both_right (is_canonical d) (are_canonical ds) c))

-- so are those of the entries of an array
pub entries_canonical : (d : Data) (ds : List Data) → IsCanonical d → entries_of d ≡ Some ds → AllByRecursion IsCanonical ds
unfolding entries_of
entries_canonical (array es) ds c e = subst (AllByRecursion IsCanonical) (some_is (items_list es) ds e) (items_canonical es c)
entries_canonical null ds c e = absurd cc
entries_canonical (boolean b) ds c e = absurd cc
entries_canonical (number n) ds c e = absurd cc
entries_canonical (string s) ds c e = absurd cc
entries_canonical (object ms) ds c e = absurd cc

pair_canonical : (ds : List Data) (p : Data × Data) → AllByRecursion IsCanonical ds → pair ds ≡ Some p → IsCanonical p.0 × IsCanonical p.1
pair_canonical [] p c e = absurd cc
pair_canonical (a ∷ []) p c e = absurd cc
pair_canonical (a ∷ b ∷ []) p c e = subst (λ (q : Data × Data). IsCanonical q.0 × IsCanonical q.1) (some_is (a, b) p e) (c.0, c.1.0)
pair_canonical (a ∷ b ∷ d ∷ ds) p c e = absurd cc

-- and of both of two
pub two_canonical : (d : Data) (p : Data × Data) → IsCanonical d → two_of d ≡ Some p → IsCanonical p.0 × IsCanonical p.1
unfolding two_of
two_canonical d p c e =
    let ds = bind_some (entries_of d) (λ ds. pair ds) p e in
    pair_canonical ds.0 p (entries_canonical d ds.0 c ds.1) ds.2

triple_canonical : (ds : List Data) (t : Data × Data × Data) → AllByRecursion IsCanonical ds → triple ds ≡ Some t → IsCanonical t.2
triple_canonical [] t c e = absurd cc
triple_canonical (a ∷ []) t c e = absurd cc
triple_canonical (a ∷ b ∷ []) t c e = absurd cc
triple_canonical (a ∷ b ∷ d ∷ []) t c e = subst (λ (q : Data × Data × Data). IsCanonical q.2) (some_is (a, b, d) t e) c.1.1.0
triple_canonical (a ∷ b ∷ d ∷ f ∷ ds) t c e = absurd cc

-- and of the last of three
pub three_canonical : (d : Data) (t : Data × Data × Data) → IsCanonical d → three_of d ≡ Some t → IsCanonical t.2
unfolding three_of
three_canonical d t c e =
    let ds = bind_some (entries_of d) (λ ds. triple ds) t e in
    triple_canonical ds.0 t (entries_canonical d ds.0 c ds.1) ds.2

pub each_again : {A : Type 0} {reads : Data → Option A} {writes : A → Data} (b : Back reads writes) (ds : List Data) (xs : List A) → AllByRecursion IsCanonical ds → each reads ds ≡ Some xs → AllByRecursion (Again reads writes) xs
each_again {reads = reads} {writes = writes} b [] xs c e = subst (AllByRecursion (Again reads writes)) (some_is [] xs e) tt
each_again {reads = reads} {writes = writes} b (d ∷ ds) xs c e =
    gives2 (reads d) (λ x. each reads ds) (λ x ys. x ∷ ys) xs e (AllByRecursion (Again reads writes)) (λ x ys ex eys. (b.again d x c.0 ex, each_again b ds ys c.1 eys))

module _ {A : Type 0} (reads : Data → Option A) (writes : A → Data) where
  -- each is read again
  pub each_read : (xs : List A) → AllByRecursion (Again reads writes) xs → each reads (map writes xs) ≡ Some xs
  each_read [] a = refl
  each_read (x ∷ xs) a =
      let first : reads (writes x) ≡ Some x = a.0 in
      rw (first, each_read xs a.1) refl

  pub each_parts : (xs : List A) → each reads (map writes xs) ≡ Some xs → AllByRecursion (Again reads writes) xs
  each_parts [] e = tt
  each_parts (x ∷ xs) e =
      let a = bind_some (reads (writes x)) (λ y. each reads (map writes xs) >>= λ ys. Some (y ∷ ys)) (x ∷ xs) e in
      let b = bind_some (each reads (map writes xs)) (λ ys. Some (a.0 ∷ ys)) (x ∷ xs) a.2 in
      let both : a.0 ∷ b.0 ≡ x ∷ xs = some_is (a.0 ∷ b.0) (x ∷ xs) b.2 in
      let first : a.0 ≡ x = cc in
      let rest : b.0 ≡ xs = cc in
      (subst (λ (y : A). reads (writes x) ≡ Some y) first a.1, each_parts xs (subst (λ (ys : List A). each reads (map writes xs) ≡ Some ys) rest b.1))

  -- a list whose entries are read again
  pub list_read : (xs : List A) → AllByRecursion (Again reads writes) xs → (entries_of (list_data writes xs) >>= λ ds. each reads ds) ≡ Some xs
  list_read xs a = rw (entries_again writes xs) (each_read xs a)

  -- the entries of a list that is read again
  pub list_parts : (xs : List A) → (entries_of (list_data writes xs) >>= λ ds. each reads ds) ≡ Some xs → AllByRecursion (Again reads writes) xs
  list_parts xs e = each_parts xs (rw (entries_again writes xs) at e)

  -- what each entry is, where all are read again
  pub all_again : ((x : A) → Again reads writes x) → (xs : List A) → AllByRecursion (Again reads writes) xs
  all_again one [] = tt
  all_again one (x ∷ xs) = (one x, all_again one xs)

  -- a value that is no null
  pub nullable_some : (d : Data) (x : A) → reads null ≡ None → reads d ≡ Some x → nullable reads d ≡ Some (Some x)
  nullable_some null x refused e = absurd cc
  nullable_some (boolean b) x refused e = rw e
  nullable_some (number n) x refused e = rw e
  nullable_some (string s) x refused e = rw e
  nullable_some (array ds) x refused e = rw e
  nullable_some (object ms) x refused e = rw e

  inner : (o : Option A) (x : A) → option_map (λ (y : A). Some y) o ≡ Some (Some x) → o ≡ Some x
  inner None x e = absurd cc
  inner (Some y) x e = cc

  -- what a value that is no null is
  pub nullable_inner : (d : Data) (x : A) → nullable reads d ≡ Some (Some x) → reads d ≡ Some x
  nullable_inner null x e = absurd cc
  nullable_inner (boolean b) x e = inner (reads (boolean b)) x e
  nullable_inner (number n) x e = inner (reads (number n)) x e
  nullable_inner (string s) x e = inner (reads (string s)) x e
  nullable_inner (array ds) x e = inner (reads (array ds)) x e
  nullable_inner (object ms) x e = inner (reads (object ms)) x e

  -- null, or a value that is read again
  pub nullable_read : (x : A) → reads null ≡ None → Again reads writes x → Again (nullable reads) (nullable_data writes) (Some x)
  nullable_read x refused e = nullable_some (writes x) x refused e

-- what each entry of an array is
pub list_all : {A : Type 0} {reads : Data → Option A} {writes : A → Data} (b : Back reads writes) (d : Data) (xs : List A) → IsCanonical d → (entries_of d >>= λ ds. each reads ds) ≡ Some xs → AllByRecursion (Again reads writes) xs
list_all {reads = reads} b d xs c e =
    let ds = bind_some (entries_of d) (λ ds. each reads ds) xs e in
    each_again b ds.0 xs (entries_canonical d ds.0 c ds.1) ds.2

-- an array
pub list_again : {A : Type 0} {reads : Data → Option A} {writes : A → Data} (b : Back reads writes) (d : Data) (xs : List A) → IsCanonical d → (entries_of d >>= λ ds. each reads ds) ≡ Some xs → (entries_of (list_data writes xs) >>= λ ds. each reads ds) ≡ Some xs
list_again {reads = reads} {writes = writes} b d xs c e = list_read reads writes xs (list_all b d xs c e)

nullable_again : {A : Type 0} {reads : Data → Option A} {writes : A → Data} (b : Back reads writes) → reads null ≡ None → (d : Data) (o : Option A) → IsCanonical d → nullable reads d ≡ Some o → Again (nullable reads) (nullable_data writes) o
nullable_again b refused d None c e = refl
nullable_again {reads = reads} {writes = writes} b refused d (Some x) c e = nullable_read reads writes x refused (b.again d x c (nullable_inner reads writes d x e))

-- a value that may be null, where null is not read otherwise
pub nullable_back : {A : Type 0} {reads : Data → Option A} {writes : A → Data} (b : Back reads writes) → reads null ≡ None → Back (nullable reads) (nullable_data writes)
nullable_back b refused = record { again = λ d o c e. nullable_again b refused d o c e }
