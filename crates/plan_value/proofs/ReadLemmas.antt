-- Columns of some names among those of a table.
use Rattle.std.proofs.Common.{◌≡◌, ◌++◌, ◌⊎◌, ⊎_elim, inl, inr, Bool, true, false, true≢false, cond, List, [], ◌∷◌, ℕ, Option, None, Some, option_map, refl, ap, sym, ◌∙◌}
use Rattle.std.specs.Str.{bytes_eq}
use Rattle.plan_core.specs.Names.{has}
use Rattle.plan_expr.specs.Leaves.{Name}
use Rattle.plan_frame.specs.Frames.{Column, found, picked, picked_columns, with_column}
use Rattle.plan_frame.specs.Values.{Value}
use Rattle.plan_frame.proofs.FrameLemmas.{found-picked}
use Rattle.plan_frame.proofs.MadeColumns.{found-with_column}
use Rattle.plan_frame.proofs.NameSets.{has_cons, has_either, named, same_named}
use Rattle.plan_table.specs.declared.column.Column.{Column as Typed}
use Rattle.plan_table.specs.Tables.{column_of}
use Rattle.plan_value.specs.Shown.{columns_shown, values_of}
use Rattle.plan_value.proofs.ShownLemmas.{found-shown}

-- columns have the values that each of some names has, and no other values
pub record Reads (values : Name → Option (List Value)) (cs : List Column) (names : List Name) : Type 0 where
  pub there : (a : Name) → has names a ≡ true → found cs a ≡ values a
  pub only : (a : Name) → (found cs a ≡ None) ⊎ (found cs a ≡ values a)

-- no columns have the values of no names
pub reads-none : (values : Name → Option (List Value)) → Reads values [] []
reads-none values = record { there = λ a h. absurd (true≢false (sym h)); only = λ a. inl refl }

last : (names : List Name) (n a : Name) → has (names ++ n ∷ []) a ≡ true → (has names a ≡ true) ⊎ (a ≡ n)
last names n a h = ⊎_elim (λ p. inl p) (λ p. ⊎_elim (λ q. inr q) (λ q. absurd (true≢false (sym q))) (has_cons n [] a p)) (has_either names (n ∷ []) a h)

-- a name more, whose column is put
pub reads-column : (values : Name → Option (List Value)) (cs : List Column) (names : List Name) (n : Name) (c : Column) → n ≡ c.name → values n ≡ Some c.values → Reads values cs names → Reads values (with_column cs c) (names ++ n ∷ [])
reads-column values cs names n c is own h = record {
  there = λ a p. there a p (bytes_eq a c.name) refl;
  only = λ a. only a (bytes_eq a c.name) refl;
}
  where
    put : (a : Name) (b : Bool) → bytes_eq a c.name ≡ b → found (with_column cs c) a ≡ cond b (Some c.values) (found cs a)
    put a b e = found-with_column cs c a ∙ ap (λ (x : Bool). cond x (Some c.values) (found cs a)) e

    same : (a : Name) → bytes_eq a c.name ≡ true → found (with_column cs c) a ≡ values a
    same a e = put a true e ∙ sym own ∙ ap values (is ∙ sym (named a c.name e))

    there : (a : Name) → has (names ++ n ∷ []) a ≡ true → (b : Bool) → bytes_eq a c.name ≡ b → found (with_column cs c) a ≡ values a
    there a p true e = same a e
    there a p false e =
        put a false e
        ∙ ⊎_elim (λ q. h.there a q)
        (λ q. absurd (true≢false (sym (same_named a) ∙ ap (bytes_eq a) (q ∙ is) ∙ e)))
        (last names n a p)

    only : (a : Name) (b : Bool) → bytes_eq a c.name ≡ b → (found (with_column cs c) a ≡ None) ⊎ (found (with_column cs c) a ≡ values a)
    only a true e = inr (same a e)
    only a false e = ⊎_elim (λ q. inl (put a false e ∙ q)) (λ q. inr (put a false e ∙ q)) (h.only a)

-- a name more, which has no values
pub reads-absent : (values : Name → Option (List Value)) (cs : List Column) (names : List Name) (n : Name) → values n ≡ None → Reads values cs names → Reads values cs (names ++ n ∷ [])
reads-absent values cs names n none h = record { there = λ a p. ⊎_elim (λ q. h.there a q) (λ q. at a q) (last names n a p); only = h.only }
  where
    at : (a : Name) → a ≡ n → found cs a ≡ values a
    at a q = ⊎_elim (λ p. p ∙ sym (ap values q ∙ none)) (λ p. p) (h.only a)

cond-some : (b : Bool) (c d : Typed) (o : Option Typed) (a : Name) → bytes_eq a c.name ≡ b → cond b (Some c) o ≡ Some d → (o ≡ Some d → bytes_eq a d.name ≡ true) → bytes_eq a d.name ≡ true
cond-some true c d o a e h rest = let q : c ≡ d = cc in ap (λ (x : Typed). bytes_eq a x.name) (sym q) ∙ e
cond-some false c d o a e h rest = rest h

-- the column of a name has that name
pub column_of-name : (cs : List Typed) (a : Name) (c : Typed) → column_of cs a ≡ Some c → bytes_eq a c.name ≡ true
column_of-name [] a c h = cc
column_of-name (d ∷ cs) a c h = cond-some (bytes_eq a d.name) d c (column_of cs a) a refl h (column_of-name cs a c)

module _ (rows : List ℕ) (cs : List Typed) (a : Name) where
  -- the values of a name in some rows
  pub picked-values : (o : Option Typed) → column_of cs a ≡ o → found (picked_columns rows (columns_shown cs)) a ≡ option_map (picked rows) (option_map (λ (c : Typed). values_of c.values) o)
  picked-values o h = found-picked rows (columns_shown cs) a ∙ ap (option_map (picked rows)) (found-shown cs a ∙ ap (option_map (λ (c : Typed). values_of c.values)) h)
