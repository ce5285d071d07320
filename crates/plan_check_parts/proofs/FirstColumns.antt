-- The columns of a join, taken one by one, of each name the first.
use Rattle.std.proofs.Common.{◌≡◌, ◌∙◌, Bor, Bool, true, false, cond, not, [], ◌∷◌, ◌++◌, map, Option, None, Some, is_some, refl, sym, ap, subst, append_assoc, append-nil}
use Rattle.std.specs.Option.{option_copied}
use Rattle.std.specs.Str.{bytes_eq}
use Rattle.std.proofs.lemmas.Slice.Eq.{bytes_eq-Decides}
use Rattle.plan_core.specs.declared.data_type.DataType.{DataType}
use Rattle.plan_core.specs.Columns.{Columns, HasDistinctNames, names_of, type_of, with_type}
use Rattle.plan_expr.specs.Leaves.{Name}
use Rattle.plan_join.proofs.ColumnLemmas.{named-next, named-twice, with_type-absent, Named}
use Rattle.plan_meaning.specs.Functions.{all_differ}
use Rattle.plan_meaning.proofs.JoinLemmas.{differ_distinct, distinct_differ}

-- names that come twice do not differ

pub twice_differ : (cs : Columns) → (HasDistinctNames cs → ⊥) → all_differ (names_of cs) ≡ false
twice_differ cs h = at (all_differ (names_of cs)) refl
  where
    at : (b : Bool) → all_differ (names_of cs) ≡ b → all_differ (names_of cs) ≡ false
    at true e = absurd (h (differ_distinct (names_of cs) e))
    at false e = e

-- the first column of a name

type_front : (cs ds : Columns) (a : Name) → is_some (type_of cs a) ≡ true → type_of (cs ++ ds) a ≡ type_of cs a
type_front [] ds a h = cc
type_front (c ∷ cs) ds a h = at (bytes_eq a c.0) refl (type_front cs ds a)
  where
    at : (b : Bool) → bytes_eq a c.0 ≡ b → (is_some (type_of cs a) ≡ true → type_of (cs ++ ds) a ≡ type_of cs a) → cond b (Some c.1) (type_of (cs ++ ds) a) ≡ cond b (Some c.1) (type_of cs a)
    at true e rest = refl
    at false e rest = rest (rw e at h)

type_past : (cs ds : Columns) (x : Name) (d : DataType) (a : Name) → bytes_eq a x ≡ false → type_of (cs ++ (x, d) ∷ ds) a ≡ type_of (cs ++ ds) a
type_past [] ds x d a h = rw h refl
type_past (c ∷ cs) ds x d a h = ap (λ (o : Option DataType). cond (bytes_eq a c.0) (Some c.1) o) (type_past cs ds x d a h)

-- a column of a name that is there is never the first
type_again : (cs ds : Columns) (x : Name) (d : DataType) (a : Name) → is_some (type_of cs x) ≡ true → type_of (cs ++ ds) a ≡ type_of (cs ++ (x, d) ∷ ds) a
type_again cs ds x d a h = at (bytes_eq a x) refl
  where
    at : (b : Bool) → bytes_eq a x ≡ b → type_of (cs ++ ds) a ≡ type_of (cs ++ (x, d) ∷ ds) a
    at true e =
        let same : a ≡ x = (bytes_eq-Decides a x).0 e in
        let there : is_some (type_of cs a) ≡ true = ap (λ (y : Name). is_some (type_of cs y)) same ∙ h in
        type_front cs ds a there ∙ sym (type_front cs ((x, d) ∷ ds) a there)
    at false e = sym (type_past cs ds x d a e)

-- columns behind others under other names, of each name the first: what is there with what is left has the types of all, and it is all unless a name came twice
pub record FirstTo (now : Name → Name) (made : Columns) (differ : Bool) (left all : Columns) : Type 0 where
  pub types : (a : Name) → type_of (made ++ map (λ (c : Name × DataType). (now c.0, c.1)) left) a ≡ type_of all a
  pub whole : differ ≡ true → Named now made left all
  pub twice : differ ≡ false → HasDistinctNames all → ⊥

pub first-next : (now : Name → Name) (made all : Columns) (differ : Bool) (a : Name) (d : DataType) (left : Columns) → FirstTo now made differ ((a, d) ∷ left) all → is_some (type_of made (now a)) ≡ false → FirstTo now (with_type made (now a) d) differ left all
first-next now made all differ a d left h absent =
    let new : with_type made (now a) d ≡ made ++ (now a, d) ∷ [] = with_type-absent made (now a) d absent in
    record {
      types = λ b. ap (λ (cs : Columns). type_of cs b) (ap (λ (cs : Columns). cs ++ map (λ (c : Name × DataType). (now c.0, c.1)) left) new ∙ append_assoc made ((now a, d) ∷ []) (map (λ (c : Name × DataType). (now c.0, c.1)) left)) ∙ h.types b;
      whole = λ e. named-next now made all a d left (h.whole e) absent;
      twice = h.twice;
    }

pub first-again : (now : Name → Name) (made all : Columns) (differ : Bool) (a : Name) (d : DataType) (left : Columns) → FirstTo now made differ ((a, d) ∷ left) all → is_some (type_of made (now a)) ≡ true → FirstTo now made false left all
first-again now made all differ a d left h there = record {
  types = λ b. type_again made (map (λ (c : Name × DataType). (now c.0, c.1)) left) (now a) d b there ∙ h.types b;
  whole = λ e. cc;
  twice = λ e distinct. of differ refl distinct;
}
  where
    of : (b : Bool) → differ ≡ b → HasDistinctNames all → ⊥
    of true e distinct = named-twice now made all a d left (h.whole e) there distinct
    of false e distinct = h.twice e distinct

pub first-start : (now : Name → Name) (made left all : Columns) → Named now made left all → FirstTo now made true left all
first-start now made left all h = record {
  types = λ a. ap (λ (cs : Columns). type_of cs a) h.all-is;
  whole = λ e. h;
  twice = λ e. cc;
}

-- at the end

pub first-types : (now : Name → Name) (made all : Columns) (differ : Bool) → FirstTo now made differ [] all → (a : Name) → type_of made a ≡ type_of all a
first-types now made all differ h a = ap (λ (cs : Columns). type_of cs a) (sym (append-nil made)) ∙ h.types a

pub first-whole : (now : Name → Name) (made all : Columns) (differ : Bool) → FirstTo now made differ [] all → differ ≡ true → made ≡ all
first-whole now made all differ h e = sym (append-nil made) ∙ (h.whole e).all-is

pub first-differ : (now : Name → Name) (made all : Columns) (differ : Bool) → FirstTo now made differ [] all → differ ≡ all_differ (names_of all)
first-differ now made all differ h = of differ refl
  where
    of : (b : Bool) → differ ≡ b → differ ≡ all_differ (names_of all)
    of true e = e ∙ sym (distinct_differ (names_of all) (subst HasDistinctNames (first-whole now made all differ h e) (h.whole e).distinct))
    of false e = e ∙ sym (twice_differ all (h.twice e))

-- a look-up finds nothing exactly where no column has the name
pub looked_up : (cs : Columns) (a : Name) (o : Option (Bor DataType)) (r b : Bool) → option_copied o ≡ type_of cs a → is_some o ≡ not r → r ≡ b → is_some (type_of cs a) ≡ not b
looked_up cs a o r b is none e = ap (λ (x : Option DataType). is_some x) (sym is) ∙ copied o ∙ none ∙ ap not e
  where
    copied : (o : Option (Bor DataType)) → is_some (option_copied o) ≡ is_some o
    copied None = refl
    copied (Some d) = refl
