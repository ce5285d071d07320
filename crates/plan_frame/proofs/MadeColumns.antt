-- What stands at a name in columns that expressions make beside others.
use Rattle.std.proofs.Common.{◌≡◌, ℕ, ◌||◌, Bool, true, false, cond, List, [], ◌∷◌, ◌++◌, map, Option, Some, refl, sym, ap, ◌∙◌, is_some}
use Rattle.std.specs.Prelude.{fold}
use Rattle.std.specs.List.{AllByRecursion}
use Rattle.std.specs.Str.{bytes_eq}
use Rattle.std.proofs.lemmas.Bool.{both_ways, or_parts, cond-true, cond-false}
use Rattle.plan_core.specs.declared.data_type.DataType.{DataType}
use Rattle.plan_core.specs.Columns.{Columns, names_of, type_of, with_type, with_types}
use Rattle.plan_core.specs.Names.{has, AreDistinct}
use Rattle.plan_expr.specs.Exprs.{Named}
use Rattle.plan_expr.specs.Leaves.{Name}
use Rattle.plan_expr.specs.Naming.{name_of}
use Rattle.plan_frame.specs.ExprLists.{out_names}
use Rattle.plan_frame.specs.Made.{made_column, made_schema}
use Rattle.plan_frame.specs.Frames.{Frame, Column, HaveTypes, found, with_column, with_columns}
use Rattle.plan_frame.specs.Meaning.{val, filled}
use Rattle.plan_frame.proofs.NameSets.{named, same_named, distinct_cons}

-- one column put over others

put_here : {X : Type 0} (u v : Bool) (o p r : X) → u ≡ v → cond u o r ≡ cond v o (cond u p r)
put_here true true o p r e = refl
put_here false false o p r e = refl
put_here true false o p r e = cc
put_here false true o p r e = cc

put_later : {X : Type 0} (u v : Bool) (o p r : X) → (u ≡ true → v ≡ true → ⊥) → cond u p (cond v o r) ≡ cond v o (cond u p r)
put_later true true o p r h = absurd (h refl refl)
put_later true false o p r h = refl
put_later false true o p r h = refl
put_later false false o p r h = refl

-- a name that is two names
two_names : (a b c : Name) → bytes_eq a c ≡ false → bytes_eq b c ≡ true → bytes_eq b a ≡ true → ⊥
two_names a b c n q p = both_ways (bytes_eq a c) n (ap (λ (x : Name). bytes_eq x c) (sym (named b a p)) ∙ q)

-- the type of a name where one has this type
pub type_of-with_type : (s : Columns) (a : Name) (t : DataType) (b : Name) → type_of (with_type s a t) b ≡ cond (bytes_eq b a) (Some t) (type_of s b)
type_of-with_type [] a t b = refl
type_of-with_type (c ∷ s) a t b = at (bytes_eq a c.0) refl (type_of-with_type s a t b)
  where
    at : (u : Bool) → bytes_eq a c.0 ≡ u → type_of (with_type s a t) b ≡ cond (bytes_eq b a) (Some t) (type_of s b) → type_of (cond u ((c.0, t) ∷ s) (c ∷ with_type s a t)) b ≡ cond (bytes_eq b a) (Some t) (cond (bytes_eq b c.0) (Some c.1) (type_of s b))
    at true e r = put_here (bytes_eq b c.0) (bytes_eq b a) (Some t) (Some c.1) (type_of s b) (ap (bytes_eq b) (sym (named a c.0 e)))
    at false e r = ap (cond (bytes_eq b c.0) (Some c.1)) r ∙ put_later (bytes_eq b c.0) (bytes_eq b a) (Some t) (Some c.1) (type_of s b) (λ q p. two_names a b c.0 e q p)

-- the values of a name where one column stands in its place
pub found-with_column : (cs : List Column) (c : Column) (b : Name) → found (with_column cs c) b ≡ cond (bytes_eq b c.name) (Some c.values) (found cs b)
found-with_column [] c b = refl
found-with_column (d ∷ cs) c b = at (bytes_eq c.name d.name) refl (found-with_column cs c b)
  where
    at : (u : Bool) → bytes_eq c.name d.name ≡ u → found (with_column cs c) b ≡ cond (bytes_eq b c.name) (Some c.values) (found cs b) → found (cond u (c ∷ cs) (d ∷ with_column cs c)) b ≡ cond (bytes_eq b c.name) (Some c.values) (cond (bytes_eq b d.name) (Some d.values) (found cs b))
    at true e r = ap (λ (x : Bool). cond x (Some c.values) (found cs b)) (ap (bytes_eq b) (named c.name d.name e)) ∙ put_here (bytes_eq b d.name) (bytes_eq b c.name) (Some c.values) (Some d.values) (found cs b) (ap (bytes_eq b) (sym (named c.name d.name e)))
    at false e r = ap (cond (bytes_eq b d.name) (Some d.values)) r ∙ put_later (bytes_eq b d.name) (bytes_eq b c.name) (Some c.values) (Some d.values) (found cs b) (λ q p. two_names c.name b d.name e q p)

-- columns have a name exactly where their types do
some_alike : (c : Column) (cs : List Column) (s : Name × DataType) (ss : Columns) (b : Name) (t : Bool) → is_some (found cs b) ≡ is_some (type_of ss b) → is_some (cond t (Some c.values) (found cs b)) ≡ is_some (cond t (Some s.1) (type_of ss b))
some_alike c cs s ss b true r = refl
some_alike c cs s ss b false r = r

pub some-found : (h : ℕ) (cs : List Column) (s : Columns) (b : Name) → HaveTypes h cs s → is_some (found cs b) ≡ is_some (type_of s b)
some-found h [] [] b k = refl
some-found h (c ∷ cs) (s ∷ ss) b k =
    some_alike c cs s ss b (bytes_eq b c.name) (some-found h cs ss b k.3) ∙ ap (λ (x : Name). is_some (cond (bytes_eq b x) (Some s.1) (type_of ss b))) k.0
some-found h [] (s ∷ ss) b k = absurd k
some-found h (c ∷ cs) [] b k = absurd k

-- look-ups in what is put in order over something
module _ {T C V : Type 0} (put : T → C → T) (get : T → Name → Option V) (make : Named → C) (same : (t u : T) (c : C) (b : Name) → get t b ≡ get u b → get (put t c) b ≡ get (put u c) b) (miss : (t : T) (e : Named) (b : Name) → bytes_eq b (name_of e.name) ≡ false → get (put t (make e)) b ≡ get t b) where
  pub all_same : (t u : T) (cs : List C) (b : Name) → get t b ≡ get u b → get (fold put t cs) b ≡ get (fold put u cs) b
  all_same t u [] b e = e
  all_same t u (c ∷ cs) b e = all_same (put t c) (put u c) cs b (same t u c b e)

  pub all_miss : (t : T) (es : List Named) (b : Name) → has (out_names es) b ≡ false → get (fold put t (map make es)) b ≡ get t b
  all_miss t [] b n = refl
  all_miss t (e ∷ es) b n =
      let p = or_parts (bytes_eq b (name_of e.name)) (has (out_names es) b) n in
      all_miss (put t (make e)) es b p.1 ∙ miss t e b p.0

  pub all_join : (t : T) (xs ys : List Named) → fold put t (map make (xs ++ ys)) ≡ fold put (fold put t (map make xs)) (map make ys)
  all_join t [] ys = refl
  all_join t (x ∷ xs) ys = all_join (put t (make x)) xs ys

-- types

abbrev pub put_type : Columns → Name × DataType → Columns
put_type done c = with_type done c.0 c.1

pub type_same : (t u : Columns) (c : Name × DataType) (b : Name) → type_of t b ≡ type_of u b → type_of (put_type t c) b ≡ type_of (put_type u c) b
type_same t u c b e = type_of-with_type t c.0 c.1 b ∙ ap (cond (bytes_eq b c.0) (Some c.1)) e ∙ sym (type_of-with_type u c.0 c.1 b)

pub type_miss : (s : Columns) (t : Columns) (e : Named) (b : Name) → bytes_eq b (name_of e.name) ≡ false → type_of (put_type t (made_column s e)) b ≡ type_of t b
type_miss s t e b n = type_of-with_type t (name_of e.name) (made_column s e).1 b ∙ cond-false (bytes_eq b (name_of e.name)) (Some (made_column s e).1) (type_of t b) n

module _ (s : Columns) where
  -- over columns that have one type at a name, the name has one type
  pub types_over : (t u : Columns) (cs : Columns) (b : Name) → type_of t b ≡ type_of u b → type_of (with_types t cs) b ≡ type_of (with_types u cs) b
  types_over t u cs b e = all_same put_type type_of (made_column s) type_same (type_miss s) t u cs b e

  -- a name that no expression has keeps its type
  pub types_old : (t : Columns) (es : List Named) (b : Name) → has (out_names es) b ≡ false → type_of (made_schema t es s) b ≡ type_of t b
  types_old t es b n = all_miss put_type type_of (made_column s) type_same (type_miss s) t es b n

  -- each output name has the type of its expression
  pub types_made : (t : Columns) (es : List Named) → AreDistinct (out_names es) → AllByRecursion (λ (e : Named). type_of (made_schema t es s) (name_of e.name) ≡ Some (made_column s e).1) es
  types_made t [] d = tt
  types_made t (e ∷ es) d =
      let p = distinct_cons (name_of e.name) (out_names es) d in
      let n = name_of e.name in
      let c = made_column s e in (
        types_old (with_type t n c.1) es n p.0 ∙ type_of-with_type t n c.1 n ∙ cond-true (bytes_eq n n) (Some c.1) (type_of t n) (same_named n),
        types_made (with_type t n c.1) es p.1,
      )

-- values

pub column_same : (t u : List Column) (c : Column) (b : Name) → found t b ≡ found u b → found (with_column t c) b ≡ found (with_column u c) b
column_same t u c b e = found-with_column t c b ∙ ap (cond (bytes_eq b c.name) (Some c.values)) e ∙ sym (found-with_column u c b)

abbrev pub made_values : ℕ → Frame → Named → Column
made_values h g e = record { name = name_of e.name; values = filled h (val e.expr g) }

pub column_miss : (h : ℕ) (g : Frame) (t : List Column) (e : Named) (b : Name) → bytes_eq b (name_of e.name) ≡ false → found (with_column t (made_values h g e)) b ≡ found t b
column_miss h g t e b n = found-with_column t (made_values h g e) b ∙ cond-false (bytes_eq b (name_of e.name)) (Some (filled h (val e.expr g))) (found t b) n

module _ (h : ℕ) (g : Frame) where
  pub columns_over : (t u : List Column) (cs : List Column) (b : Name) → found t b ≡ found u b → found (with_columns t cs) b ≡ found (with_columns u cs) b
  columns_over t u cs b e = all_same with_column found (made_values h g) column_same (column_miss h g) t u cs b e

-- which names there are

some_put : (u : Bool) (t : DataType) (o : Option DataType) → is_some (cond u (Some t) o) ≡ (u || is_some o)
some_put true t o = refl
some_put false t o = refl

in_turn : (x y z : Bool) → ((y || x) || z) ≡ (x || (y || z))
in_turn true true z = refl
in_turn true false z = refl
in_turn false true z = refl
in_turn false false z = refl

or_none : (x : Bool) → x ≡ (x || false)
or_none true = refl
or_none false = refl

-- the names are those of the columns and of the expressions
pub some-made : (s base : Columns) (es : List Named) (b : Name) → is_some (type_of (made_schema base es s) b) ≡ (is_some (type_of base b) || has (out_names es) b)
some-made s base [] b = or_none (is_some (type_of base b))
some-made s base (e ∷ es) b =
    let n = name_of e.name in
    let t = (made_column s e).1 in
    some-made s (with_type base n t) es b
    ∙ ap (λ (o : Option DataType). is_some o || has (out_names es) b) (type_of-with_type base n t b)
    ∙ ap (λ (x : Bool). x || has (out_names es) b) (some_put (bytes_eq b n) t (type_of base b))
    ∙ in_turn (is_some (type_of base b)) (bytes_eq b n) (has (out_names es) b)

-- columns whose names are new go last, in their order

pub last_type : (s : Columns) (a : Name) (t : DataType) → has (names_of s) a ≡ false → with_type s a t ≡ s ++ (a, t) ∷ []
last_type [] a t n = refl
last_type (c ∷ s) a t n =
    let p = or_parts (bytes_eq a c.0) (has (names_of s) a) n in
    cond-false (bytes_eq a c.0) ((c.0, t) ∷ s) (c ∷ with_type s a t) p.0 ∙ ap (λ (x : Columns). c ∷ x) (last_type s a t p.1)

pub names-push : (s : Columns) (c : Name × DataType) → names_of (s ++ c ∷ []) ≡ names_of s ++ c.0 ∷ []
names-push [] c = refl
names-push (d ∷ s) c = ap (λ (x : List Name). d.0 ∷ x) (names-push s c)

pub names-made : (s : Columns) (es : List Named) → names_of (map (made_column s) es) ≡ out_names es
names-made s [] = refl
names-made s (e ∷ es) = ap (λ (x : List Name). name_of e.name ∷ x) (names-made s es)
