-- Names that pass a test, and columns by their names.
use Rattle.std.proofs.Common.{◌≡◌, Bool, true, false, cond, List, [], ◌∷◌, Option, Some, None, is_some, unwrap_or, refl, sym, ap, ap₂, ◌∙◌, subst, inl, inr, ◌⊎◌, ⊎_elim}
use Rattle.std.specs.List.{AllByRecursion, IsDistinct, filter as only_where}
use Rattle.std.specs.Str.{bytes_eq}
use Rattle.std.proofs.lemmas.Bool.{both_ways}
use Rattle.plan_core.specs.declared.data_type.DataType.{DataType}
use Rattle.plan_core.specs.declared.data_type.DataType.TheVariants.{Int64}
use Rattle.plan_core.specs.Columns.{Columns, HasDistinctNames, names_of, same_columns, type_of}
use Rattle.plan_core.specs.Names.{has, AreDistinct}
use Rattle.plan_core.proofs.ColumnLemmas.{flip_false}
use Rattle.plan_core.proofs.SameLemmas.{same_columns-Decides}
use Rattle.plan_expr.specs.Leaves.{Name}
use Rattle.plan_frame.specs.Reshaped.{columns_at, type_or}
use Rattle.plan_frame.proofs.NameSets.{named, same_named, has_cons, has_first, has_later}
use Rattle.plan_scan.specs.Stats.{named_among}

-- each name of a list that passes
pub name_passes : (P : Name → Type 0) (names : List Name) → AllByRecursion P names → (a : Name) → has names a ≡ true → P a
name_passes P [] h a i = cc
name_passes P (b ∷ names) h a i = ⊎_elim (λ (e : a ≡ b). subst P (sym e) h.0) (λ (e : has names a ≡ true). name_passes P names h.1 a e) (has_cons b names a i)

-- a name that passes a test is among those that do
pub has_where : (test : Name → Bool) (names : List Name) (b : Name) → test b ≡ true → has names b ≡ true → has (only_where test names) b ≡ true
has_where test [] b q i = cc
has_where test (a ∷ names) b q i = at (test a) refl (λ j. has_where test names b q j) (has_cons a names b i)
  where
    at : (t : Bool) → test a ≡ t → (has names b ≡ true → has (only_where test names) b ≡ true) → (b ≡ a) ⊎ (has names b ≡ true) → has (cond t (a ∷ only_where test names) (only_where test names)) b ≡ true
    at true e r (inl p) = subst (λ (x : Name). has (a ∷ only_where test names) x ≡ true) (sym p) (has_first a (only_where test names))
    at true e r (inr j) = has_later a (only_where test names) b (r j)
    at false e r (inl p) = absurd (both_ways (test a) e (ap test (sym p) ∙ q))
    at false e r (inr j) = r j

-- and a name among those passes it
pub where_has : (test : Name → Bool) (names : List Name) (b : Name) → has (only_where test names) b ≡ true → (has names b ≡ true) × (test b ≡ true)
where_has test [] b i = cc
where_has test (a ∷ names) b i = at (test a) refl (λ j. where_has test names b j) i
  where
    at : (t : Bool) → test a ≡ t → (has (only_where test names) b ≡ true → (has names b ≡ true) × (test b ≡ true)) → has (cond t (a ∷ only_where test names) (only_where test names)) b ≡ true → (has (a ∷ names) b ≡ true) × (test b ≡ true)
    at true e r i = ⊎_elim
        (λ (p : b ≡ a). (subst (λ (x : Name). has (a ∷ names) x ≡ true) (sym p) (has_first a names), ap test p ∙ e))
        (λ (j : has (only_where test names) b ≡ true). (has_later a names b (r j).0, (r j).1))
        (has_cons a (only_where test names) b i)
    at false e r i = (has_later a names b (r i).0, (r i).1)

-- what holds of each name holds of those that pass a test
all_where : (P : Name → Type 0) (test : Name → Bool) (names : List Name) → AllByRecursion P names → AllByRecursion P (only_where test names)
all_where P test [] h = tt
all_where P test (a ∷ names) h = at (test a) (all_where P test names h.1)
  where
    at : (t : Bool) → AllByRecursion P (only_where test names) → AllByRecursion P (cond t (a ∷ only_where test names) (only_where test names))
    at true r = (h.0, r)
    at false r = r

pub distinct_where : (test : Name → Bool) (names : List Name) → AreDistinct names → AreDistinct (only_where test names)
unfolding IsDistinct
distinct_where test [] d = tt
distinct_where test (a ∷ names) d = at (test a) (distinct_where test names d.1)
  where
    at : (t : Bool) → AreDistinct (only_where test names) → AreDistinct (cond t (a ∷ only_where test names) (only_where test names))
    at true r = (all_where (λ (y : Name). bytes_eq a y ≡ false) test names d.0, r)
    at false r = r

-- the names of columns that pass a test are the names that do
pub names-where : (p : Name → Bool) (cs : Columns) → names_of (only_where (λ (c : Name × DataType). p c.0) cs) ≡ only_where p (names_of cs)
names-where p [] = refl
names-where p (c ∷ cs) = at (p c.0) (names-where p cs)
  where
    at : (t : Bool) → names_of (only_where (λ (x : Name × DataType). p x.0) cs) ≡ only_where p (names_of cs) → names_of (cond t (c ∷ only_where (λ (x : Name × DataType). p x.0) cs) (only_where (λ (x : Name × DataType). p x.0) cs)) ≡ cond t (c.0 ∷ only_where p (names_of cs)) (only_where p (names_of cs))
    at true r = ap (λ (l : List Name). c.0 ∷ l) r
    at false r = r

-- an asked name has its type among the asked columns
pub type_of-among : (wanted : List Name) (cs : Columns) (b : Name) → has wanted b ≡ true → type_of (named_among wanted cs) b ≡ type_of cs b
type_of-among wanted [] b q = refl
type_of-among wanted (c ∷ cs) b q = at (has wanted c.0) (bytes_eq b c.0) refl refl (type_of-among wanted cs b q)
  where
    at : (t u : Bool) → has wanted c.0 ≡ t → bytes_eq b c.0 ≡ u → type_of (named_among wanted cs) b ≡ type_of cs b → type_of (cond t (c ∷ named_among wanted cs) (named_among wanted cs)) b ≡ cond u (Some c.1) (type_of cs b)
    at true u e f r = ap₂ (λ (x : Bool) (y : Option DataType). cond x (Some c.1) y) f r
    at false false e f r = r
    at false true e f r = absurd (both_ways (has wanted b) (ap (has wanted) (named b c.0 f) ∙ e) q)

-- columns that are compared and found the same are
pub same_is : (cs ds : Columns) → same_columns cs ds ≡ true → cs ≡ ds
same_is cs ds e = (same_columns-Decides cs ds true (sym e)).0 refl

pub is_same : (cs ds : Columns) → cs ≡ ds → same_columns cs ds ≡ true
is_same cs ds e = (same_columns-Decides cs ds (same_columns cs ds) refl).1 e

-- of distinct names each has its own type

other : (d : Name × DataType) (s left : Columns) → AllByRecursion (λ (a : Name). bytes_eq d.0 a ≡ false) (names_of left) → AllByRecursion (λ (c : Name × DataType). type_of s c.0 ≡ Some c.1) left → AllByRecursion (λ (c : Name × DataType). type_of (d ∷ s) c.0 ≡ Some c.1) left
other d s [] apart own = tt
other d s (c ∷ left) apart own = (ap (λ (b : Bool). cond b (Some d.1) (type_of s c.0)) (flip_false d.0 c.0 apart.0) ∙ own.0, other d s left apart.1 own.1)

pub own-types : (s : Columns) → HasDistinctNames s → AllByRecursion (λ (c : Name × DataType). type_of s c.0 ≡ Some c.1) s
unfolding IsDistinct
own-types [] once = tt
own-types (c ∷ s) once = (ap (λ (b : Bool). cond b (Some c.1) (type_of s c.0)) (same_named c.0), other c s s once.0 (own-types s once.1))

-- the columns of names

pub some_or : (o : Option DataType) → is_some o ≡ true → o ≡ Some (unwrap_or o Int64)
some_or None e = cc
some_or (Some t) e = refl

pub names-columns_at : (s : Columns) (names : List Name) → names_of (columns_at s names) ≡ names
names-columns_at s [] = refl
names-columns_at s (a ∷ names) = ap (λ (x : List Name). a ∷ x) (names-columns_at s names)

type_at : (s : Columns) (a b : Name) (names : List Name) (t : Bool) → bytes_eq b a ≡ t → (has names b ≡ true → type_of (columns_at s names) b ≡ Some (type_or s b)) → has (a ∷ names) b ≡ true → cond t (Some (type_or s a)) (type_of (columns_at s names) b) ≡ Some (type_or s b)
type_at s a b names true e r i = ap (λ (x : Name). Some (type_or s x)) (sym (named b a e))
type_at s a b names false e r i = r (⊎_elim (λ q. others q) (λ q. q) (has_cons a names b i))
  where
    others : b ≡ a → has names b ≡ true
    others q = let x : bytes_eq b a ≡ true = ap (bytes_eq b) (sym q) ∙ same_named b in cc

pub type_of-columns_at : (s : Columns) (names : List Name) (b : Name) → has names b ≡ true → type_of (columns_at s names) b ≡ Some (type_or s b)
type_of-columns_at s [] b i = cc
type_of-columns_at s (a ∷ names) b i = type_at s a b names (bytes_eq b a) refl (type_of-columns_at s names b) i
