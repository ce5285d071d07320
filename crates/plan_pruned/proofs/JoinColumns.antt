-- Which columns a join puts out, and what stands in its columns and in its frame under their names.
use Rattle.std.proofs.Common.{◌≡◌, ℕ, Bool, true, false, ◌||◌, cond, List, [], ◌∷◌, ◌++◌, map, length, Some, refl, sym, ap, ap₂, ◌∙◌, subst, ⊎_elim}
use Rattle.std.specs.List.{AllByRecursion, filter as only_where, find}
use Rattle.std.specs.Str.{bytes_eq}
use Rattle.std.proofs.lemmas.Bool.{both_ways, false_from_ne_true}
use Rattle.std.proofs.lemmas.List.{map-append}
use Rattle.plan_core.specs.declared.data_type.DataType.{DataType}
use Rattle.plan_core.specs.Columns.{Columns, HasDistinctNames, names_of, type_of}
use Rattle.plan_core.specs.Names.{has, AreDistinct}
use Rattle.plan_options.specs.declared.join.JoinArgs.{JoinArgs}
use Rattle.plan_options.specs.Join.{suffix_of}
use Rattle.plan_expr.specs.Leaves.{Name}
use Rattle.plan_frame.specs.Frames.{Column, Frame, HasSchema, column, column_names, found}
use Rattle.plan_frame.specs.Values.{Value}
use Rattle.plan_frame.proofs.NameSets.{named, same_named, has_cons, has_first, has_front, has_back, has_later, distinct_cons}
use Rattle.plan_join.specs.declared.origin.Side.{Side}
use Rattle.plan_join.specs.declared.origin.Side.TheVariants as sides
use Rattle.plan_join.specs.Naming.{called, is_called, join_columns, left_rest, origin, right_name, right_rest, side_columns, sources}
use Rattle.plan_join.specs.Origins.{puts_out_left, puts_out_right}
use Rattle.plan_join.specs.Joined.{joined, side_value}
use Rattle.plan_join.specs.Sides.{filler, left_out, right_out}
use Rattle.plan_join.proofs.JoinedLemmas.{under, parts, left_columns, left_values, right_columns, right_values}
use Rattle.plan_join.proofs.NameLemmas.{columns-named, left-names, left-where, right-names, right-where}
use Rattle.plan_join.specs.declared.pairs.RowPair.{RowPair}
use Rattle.plan_pruned.proofs.JoinNames.{distinct_apart, distinct_back, distinct_front, has_map, names-with_right}

-- searches

passes : {X : Type 0} (test : X → Bool) (xs : List X) (x : X) → find test xs ≡ Some x → test x ≡ true
passes test [] x e = cc
passes test (y ∷ xs) x e = at (test y) refl (λ r. passes test xs x r) e
  where
    at : (b : Bool) → test y ≡ b → (find test xs ≡ Some x → test x ≡ true) → cond b (Some y) (find test xs) ≡ Some x → test x ≡ true
    at true q later e = (let same : y ≡ x = cc in ap test (sym same) ∙ q)
    at false q later e = later e

holds : {X : Type 0} (P : X → Type 0) (test : X → Bool) (xs : List X) (x : X) → AllByRecursion P xs → find test xs ≡ Some x → P x
holds P test [] x h e = cc
holds P test (y ∷ xs) x h e = at (test y) (λ r. holds P test xs x h.1 r) e
  where
    at : (b : Bool) → (find test xs ≡ Some x → P x) → cond b (Some y) (find test xs) ≡ Some x → P x
    at true later q = (let same : y ≡ x = cc in subst P same h.0)
    at false later q = later q

exists : {X : Type 0} (call : X → Name) (xs : List X) (a : Name) → has (map call xs) a ≡ true → (x : X) × (find (λ (y : X). bytes_eq a (call y)) xs ≡ Some x)
exists call [] a i = cc
exists call (y ∷ xs) a i = at (bytes_eq a (call y)) i (λ j. exists call xs a j)
  where
    at : (b : Bool) → (b || has (map call xs) a) ≡ true → (has (map call xs) a ≡ true → (x : _) × (find (λ z. bytes_eq a (call z)) xs ≡ Some x)) → (x : _) × (cond b (Some y) (find (λ z. bytes_eq a (call z)) xs) ≡ Some x)
    at true i later = (y, refl)
    at false i later = later i

all_both : {X : Type 0} (P : X → Type 0) (xs ys : List X) → AllByRecursion P xs → AllByRecursion P ys → AllByRecursion P (xs ++ ys)
all_both P [] ys h k = k
all_both P (x ∷ xs) ys h k = (h.0, all_both P xs ys h.1 k)

-- look-ups in two lists of columns

type_of-front : (xs ys : Columns) (b : Name) → has (names_of xs) b ≡ true → type_of (xs ++ ys) b ≡ type_of xs b
type_of-front [] ys b i = cc
type_of-front (x ∷ xs) ys b i = at (bytes_eq b x.0) i (λ j. type_of-front xs ys b j)
  where
    at : (t : Bool) → (t || has (names_of xs) b) ≡ true → (has (names_of xs) b ≡ true → type_of (xs ++ ys) b ≡ type_of xs b) → cond t (Some x.1) (type_of (xs ++ ys) b) ≡ cond t (Some x.1) (type_of xs b)
    at true i r = refl
    at false i r = r i

type_of-back : (xs ys : Columns) (b : Name) → has (names_of xs) b ≡ false → type_of (xs ++ ys) b ≡ type_of ys b
type_of-back [] ys b i = refl
type_of-back (x ∷ xs) ys b i = at (bytes_eq b x.0) i (λ j. type_of-back xs ys b j)
  where
    at : (t : Bool) → (t || has (names_of xs) b) ≡ false → (has (names_of xs) b ≡ false → type_of (xs ++ ys) b ≡ type_of ys b) → cond t (Some x.1) (type_of (xs ++ ys) b) ≡ type_of ys b
    at true i r = cc
    at false i r = r i

found-front : (xs ys : List Column) (b : Name) → has (column_names xs) b ≡ true → found (xs ++ ys) b ≡ found xs b
found-front [] ys b i = cc
found-front (x ∷ xs) ys b i = at (bytes_eq b x.name) i (λ j. found-front xs ys b j)
  where
    at : (t : Bool) → (t || has (column_names xs) b) ≡ true → (has (column_names xs) b ≡ true → found (xs ++ ys) b ≡ found xs b) → cond t (Some x.values) (found (xs ++ ys) b) ≡ cond t (Some x.values) (found xs b)
    at true i r = refl
    at false i r = r i

found-back : (xs ys : List Column) (b : Name) → has (column_names xs) b ≡ false → found (xs ++ ys) b ≡ found ys b
found-back [] ys b i = refl
found-back (x ∷ xs) ys b i = at (bytes_eq b x.name) i (λ j. found-back xs ys b j)
  where
    at : (t : Bool) → (t || has (column_names xs) b) ≡ false → (has (column_names xs) b ≡ false → found (xs ++ ys) b ≡ found ys b) → cond t (Some x.values) (found (xs ++ ys) b) ≡ found ys b
    at true i r = cc
    at false i r = r i

-- a column that passes by its name is found among those that pass
pub type_of-where : (test : Name → Bool) (s : Columns) (b : Name) → test b ≡ true → type_of (only_where (λ (c : Name × DataType). test c.0) s) b ≡ type_of s b
type_of-where test [] b q = refl
type_of-where test (c ∷ s) b q = at (test c.0) (bytes_eq b c.0) refl refl (type_of-where test s b q)
  where
    at : (t u : Bool) → test c.0 ≡ t → bytes_eq b c.0 ≡ u → type_of (only_where (λ (c : Name × DataType). test c.0) s) b ≡ type_of s b → type_of (cond t (c ∷ only_where (λ (c : Name × DataType). test c.0) s) (only_where (λ (c : Name × DataType). test c.0) s)) b ≡ cond u (Some c.1) (type_of s b)
    at true u e k r = ap (λ (x : Bool). cond x (Some c.1) (type_of (only_where (λ (c : Name × DataType). test c.0) s) b)) k ∙ ap (cond u (Some c.1)) r
    at false true e k r = absurd (both_ways (test c.0) e (ap test (sym (named b c.0 k)) ∙ q))
    at false false e k r = r

-- under names that a function gives, which are distinct

apart_from : (f : Name → Name) (x : Name) (xs : List Name) (b : Name) → AreDistinct (map f (x ∷ xs)) → has xs b ≡ true → bytes_eq (f b) (f x) ≡ false
apart_from f x xs b d i = false_from_ne_true (bytes_eq (f b) (f x)) (λ e. both_ways (has (map f xs) (f x)) (distinct_cons (f x) (map f xs) d).0 (subst (λ (z : Name). has (map f xs) z ≡ true) (named (f b) (f x) e) (has_map f xs b i)))

type_of-called : (f : Name → Name) (cs : Columns) (b : Name) → AreDistinct (map f (names_of cs)) → has (names_of cs) b ≡ true → type_of (map (λ (c : Name × DataType). (f c.0, c.1)) cs) (f b) ≡ type_of cs b
type_of-called f [] b d i = cc
type_of-called f (c ∷ cs) b d i = at (bytes_eq b c.0) refl i
    (λ j. ap (λ (x : Bool). cond x (Some c.1) (type_of (map (λ (c : Name × DataType). (f c.0, c.1)) cs) (f b))) (apart_from f c.0 (names_of cs) b d j) ∙ type_of-called f cs b (distinct_cons (f c.0) (map f (names_of cs)) d).1 j)
  where
    at : (t : Bool) → bytes_eq b c.0 ≡ t → (t || has (names_of cs) b) ≡ true → (has (names_of cs) b ≡ true → cond (bytes_eq (f b) (f c.0)) (Some c.1) (type_of (map (λ (c : Name × DataType). (f c.0, c.1)) cs) (f b)) ≡ type_of cs b) → cond (bytes_eq (f b) (f c.0)) (Some c.1) (type_of (map (λ (c : Name × DataType). (f c.0, c.1)) cs) (f b)) ≡ cond t (Some c.1) (type_of cs b)
    at true e i r = ap (λ (x : Bool). cond x (Some c.1) (type_of (map (λ (c : Name × DataType). (f c.0, c.1)) cs) (f b))) (subst (λ (x : Name). bytes_eq (f b) (f x) ≡ true) (named b c.0 e) (same_named (f b)))
    at false e i r = r i

found-called : (h : ℕ) (f : Name → Name) (w : Name → List Value) (xs : List Name) (b : Name) → AreDistinct (map f xs) → has xs b ≡ true → found (map (under h f w) xs) (f b) ≡ Some (w b)
found-called h f w [] b d i = cc
found-called h f w (x ∷ xs) b d i = at (bytes_eq b x) refl i
    (λ j. ap (λ (y : Bool). cond y (Some (w x)) (found (map (under h f w) xs) (f b))) (apart_from f x xs b d j) ∙ found-called h f w xs b (distinct_cons (f x) (map f xs) d).1 j)
  where
    at : (t : Bool) → bytes_eq b x ≡ t → (t || has xs b) ≡ true → (has xs b ≡ true → cond (bytes_eq (f b) (f x)) (Some (w x)) (found (map (under h f w) xs) (f b)) ≡ Some (w b)) → cond (bytes_eq (f b) (f x)) (Some (w x)) (found (map (under h f w) xs) (f b)) ≡ Some (w b)
    at true e i r =
        let same = named b x e in
        ap (λ (y : Bool). cond y (Some (w x)) (found (map (under h f w) xs) (f b))) (subst (λ (z : Name). bytes_eq (f b) (f z) ≡ true) same (same_named (f b))) ∙ ap (λ (z : Name). Some (w z)) (sym same)
    at false e i r = r i

names-under : (h : ℕ) (f : Name → Name) (w : Name → List Value) (xs : List Name) → column_names (map (under h f w) xs) ≡ map f xs
names-under h f w [] = refl
names-under h f w (x ∷ xs) = ap (λ (l : List Name). f x ∷ l) (names-under h f w xs)

map-same : (xs : List Name) → map (λ (a : Name). a) xs ≡ xs
map-same [] = refl
map-same (x ∷ xs) = ap (λ (l : List Name). x ∷ l) (map-same xs)

-- the columns that a join puts out

module _ (args : JoinArgs) (lk rk : List Name) (s t : Columns) where
  -- a column of a side is put out
  abbrev pub IsOut : Side × Name → Type 0
  IsOut (sides.Left, b) = has (names_of (left_rest args lk s)) b ≡ true
  IsOut (sides.Right, b) = has (names_of (right_rest args rk t)) b ≡ true

  -- the name under which it is
  abbrev pub name_out : Side × Name → Name
  name_out x = called (suffix_of args) (names_of (left_rest args lk s)) x.0 x.1

  own_out : (side : Side) (cs ds : Columns) → ((b : Name) → has (names_of cs) b ≡ true → IsOut (side, b)) → ((b : Name) → has (names_of ds) b ≡ true → has (names_of cs) b ≡ true) → AllByRecursion IsOut (map (λ (c : Name × DataType). (side, c.0)) ds)
  own_out side cs [] out sub = tt
  own_out side cs (c ∷ ds) out sub = (out c.0 (sub c.0 (has_first c.0 (names_of ds))), own_out side cs ds out (λ b i. sub b (has_later c.0 (names_of ds) b i)))

  all_out : AllByRecursion IsOut (sources args lk rk s t)
  all_out = all_both IsOut (map (λ (c : Name × DataType). (sides.Left, c.0)) (left_rest args lk s)) (map (λ (c : Name × DataType). (sides.Right, c.0)) (right_rest args rk t))
      (own_out sides.Left (left_rest args lk s) (left_rest args lk s) (λ b i. i) (λ b i. i))
      (own_out sides.Right (right_rest args rk t) (right_rest args rk t) (λ b i. i) (λ b i. i))

  -- the column that a join puts out under a name
  pub origin_out : (a : Name) (x : Side × Name) → origin args lk rk s t a ≡ Some x → IsOut x
  origin_out a x e = holds IsOut (is_called (suffix_of args) (names_of (left_rest args lk s)) a) (sources args lk rk s t) x all_out e

  pub origin_called : (a : Name) (x : Side × Name) → origin args lk rk s t a ≡ Some x → name_out x ≡ a
  origin_called a x e = sym (named a (name_out x) (passes (is_called (suffix_of args) (names_of (left_rest args lk s)) a) (sources args lk rk s t) x e))

  lefts-called : (ds : Columns) → map name_out (map (λ (c : Name × DataType). (sides.Left, c.0)) ds) ≡ names_of ds
  lefts-called [] = refl
  lefts-called (c ∷ ds) = ap (λ (l : List Name). c.0 ∷ l) (lefts-called ds)

  abbrev right_call : Name → Name
  right_call = right_name (suffix_of args) (names_of (left_rest args lk s))

  rights-called : (ds : Columns) → map name_out (map (λ (c : Name × DataType). (sides.Right, c.0)) ds) ≡ map right_call (names_of ds)
  rights-called [] = refl
  rights-called (c ∷ ds) = ap (λ (l : List Name). right_call c.0 ∷ l) (rights-called ds)

  -- its names are those of what it puts out
  pub names-joined : names_of (join_columns args lk rk s t) ≡ names_of (left_rest args lk s) ++ map right_call (names_of (right_rest args rk t))
  names-joined = names-with_right (suffix_of args) (left_rest args lk s) (right_rest args rk t)

  names-out : map name_out (sources args lk rk s t) ≡ names_of (join_columns args lk rk s t)
  names-out =
      map-append name_out (map (λ (c : Name × DataType). (sides.Left, c.0)) (left_rest args lk s)) (map (λ (c : Name × DataType). (sides.Right, c.0)) (right_rest args rk t))
      ∙ ap₂ (λ (x y : List Name). x ++ y) (lefts-called (left_rest args lk s)) (rights-called (right_rest args rk t))
      ∙ sym names-joined

  -- under each of its names a join puts out a column
  pub origin_some : (a : Name) → has (names_of (join_columns args lk rk s t)) a ≡ true → (x : Side × Name) × (origin args lk rk s t a ≡ Some x)
  origin_some a i = exists name_out (sources args lk rk s t) a (ap (λ (l : List Name). has l a) names-out ∙ i)

  -- each column that it puts out has a name in it
  pub out_named : (x : Side × Name) → IsOut x → has (names_of (join_columns args lk rk s t)) (name_out x) ≡ true
  out_named (sides.Left, b) i = ap (λ (l : List Name). has l b) names-joined ∙ has_front (names_of (left_rest args lk s)) (map right_call (names_of (right_rest args rk t))) b i
  out_named (sides.Right, b) i = ap (λ (l : List Name). has l (right_call b)) names-joined ∙ has_back (names_of (left_rest args lk s)) (map right_call (names_of (right_rest args rk t))) (right_call b) (has_map right_call (names_of (right_rest args rk t)) b i)

  module _ (once : HasDistinctNames (join_columns args lk rk s t)) where
    apart : AreDistinct (names_of (left_rest args lk s) ++ map right_call (names_of (right_rest args rk t)))
    apart = subst AreDistinct names-joined once

    left_once : AreDistinct (names_of (left_rest args lk s))
    left_once = distinct_front (names_of (left_rest args lk s)) (map right_call (names_of (right_rest args rk t))) apart

    right_once : AreDistinct (map right_call (names_of (right_rest args rk t)))
    right_once = distinct_back (names_of (left_rest args lk s)) (map right_call (names_of (right_rest args rk t))) apart

    not_left : (b : Name) → has (names_of (right_rest args rk t)) b ≡ true → has (names_of (left_rest args lk s)) (right_call b) ≡ false
    not_left b i = false_from_ne_true (has (names_of (left_rest args lk s)) (right_call b)) (λ j.
        both_ways (has (map right_call (names_of (right_rest args rk t))) (right_call b)) (distinct_apart (names_of (left_rest args lk s)) (map right_call (names_of (right_rest args rk t))) apart (right_call b) j) (has_map right_call (names_of (right_rest args rk t)) b i))

    where_passes : (test : Name → Bool) (u : Columns) (b : Name) → has (names_of (only_where (λ (c : Name × DataType). test c.0) u)) b ≡ true → test b ≡ true
    where_passes test [] b i = cc
    where_passes test (c ∷ u) b i = at (test c.0) refl i (λ j. where_passes test u b j)
      where
        at : (k : Bool) → test c.0 ≡ k → has (names_of (cond k (c ∷ only_where (λ (c : Name × DataType). test c.0) u) (only_where (λ (c : Name × DataType). test c.0) u))) b ≡ true → (has (names_of (only_where (λ (c : Name × DataType). test c.0) u)) b ≡ true → test b ≡ true) → test b ≡ true
        at true e i r = ⊎_elim (λ (p : b ≡ c.0). ap test p ∙ e) r (has_cons c.0 (names_of (only_where (λ (c : Name × DataType). test c.0) u)) b i)
        at false e i r = r i

    -- a column that is put out has its own type
    pub out_type : (x : Side × Name) → IsOut x → type_of (join_columns args lk rk s t) (name_out x) ≡ type_of (side_columns s t x.0) x.1
    out_type (sides.Left, b) i =
        let rest = map (λ (c : Name × DataType). (right_call c.0, c.1)) (right_rest args rk t) in
        type_of-front (left_rest args lk s) rest b i
        ∙ ap (λ (u : Columns). type_of u b) (left-where args lk s)
        ∙ type_of-where (puts_out_left args lk) s b (where_passes (puts_out_left args lk) s b (ap (λ (u : Columns). has (names_of u) b) (sym (left-where args lk s)) ∙ i))
    out_type (sides.Right, b) i =
        let rest = map (λ (c : Name × DataType). (right_call c.0, c.1)) (right_rest args rk t) in
        type_of-back (left_rest args lk s) rest (right_call b) (not_left b i)
        ∙ type_of-called right_call (right_rest args rk t) b right_once i
        ∙ ap (λ (u : Columns). type_of u b) (right-where args rk t)
        ∙ type_of-where (puts_out_right args rk) t b (where_passes (puts_out_right args rk) t b (ap (λ (u : Columns). has (names_of u) b) (sym (right-where args rk t)) ∙ i))

    -- and its values along the pairs
    pub out_values : (ps : List RowPair) (f g : Frame) → HasSchema f s → HasSchema g t → (x : Side × Name) → IsOut x → column (joined args lk rk ps f g) (name_out x) ≡ Some (map (side_value (filler args lk rk) f g x) ps)
    out_values ps f g hf hg (sides.Left, b) i =
        let lefts = left_columns args lk rk ps f g s t in
        let rights = right_columns args lk rk ps f g s t in
        let names = left-names args lk s in
        let j : has (left_out args lk (names_of s)) b ≡ true = ap (λ (l : List Name). has l b) names ∙ i in
        ap (λ (cs : List Column). found cs b) (parts args lk rk ps f g s t (columns-named f.height f.columns s hf) (columns-named g.height g.columns t hg))
        ∙ found-front lefts rights b (ap (λ (l : List Name). has l b) (names-under (length ps) (λ a. a) (left_values args lk rk ps f g s t) (left_out args lk (names_of s)) ∙ map-same (left_out args lk (names_of s))) ∙ j)
        ∙ found-called (length ps) (λ a. a) (left_values args lk rk ps f g s t) (left_out args lk (names_of s)) b (subst AreDistinct (sym (map-same (left_out args lk (names_of s)) ∙ names)) left_once) j
    out_values ps f g hf hg (sides.Right, b) i =
        let lefts = left_columns args lk rk ps f g s t in
        let rights = right_columns args lk rk ps f g s t in
        let names = right-names args rk t in
        let j : has (right_out args rk (names_of t)) b ≡ true = ap (λ (l : List Name). has l b) names ∙ i in
        ap (λ (cs : List Column). found cs (right_call b)) (parts args lk rk ps f g s t (columns-named f.height f.columns s hf) (columns-named g.height g.columns t hg))
        ∙ found-back lefts rights (right_call b) (ap (λ (l : List Name). has l (right_call b)) (names-under (length ps) (λ a. a) (left_values args lk rk ps f g s t) (left_out args lk (names_of s)) ∙ map-same (left_out args lk (names_of s)) ∙ left-names args lk s) ∙ not_left b i)
        ∙ found-called (length ps) right_call (right_values args lk rk ps f g s t) (right_out args rk (names_of t)) b (subst (λ (l : List Name). AreDistinct (map right_call l)) (sym names) right_once) j
