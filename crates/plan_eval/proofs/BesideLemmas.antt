-- Columns that are appended where none is called like them.
use Rattle.std.proofs.Common.{◌≡◌, ◌∙◌, ◌++◌, ◌||◌, Bool, true, false, cond, List, [], ◌∷◌, Some, is_some, refl, sym, ap, ap₂}
use Rattle.std.specs.Str.{bytes_eq}
use Rattle.std.proofs.lemmas.Bool.{cond-true, cond-false, or_parts}
use Rattle.std.proofs.lemmas.List.{map-append}
use Rattle.plan_core.specs.Columns.{names_of}
use Rattle.plan_core.specs.Names.{has}
use Rattle.plan_core.specs.declared.data_type.DataType.{DataType}
use Rattle.plan_expr.specs.Leaves.{Name}
use Rattle.plan_frame.specs.Frames.{Column, column_names, with_new_column}
use Rattle.plan_frame.specs.Beside.{with_new}
use Rattle.plan_table.specs.declared.column.Column.{Column as Typed}
use Rattle.plan_table.specs.Tables.{column_of, types_of, with_column}
use Rattle.plan_value.specs.Shown.{column_shown, columns_shown}

-- a column is found where its name is one of theirs

some-shown : (cs : List Typed) (a : Name) → is_some (column_of cs a) ≡ has (column_names (columns_shown cs)) a
some-shown [] a = refl
some-shown (c ∷ cs) a = at (bytes_eq a c.name) (some-shown cs a)
  where
    at : (b : Bool) → is_some (column_of cs a) ≡ has (column_names (columns_shown cs)) a → is_some (cond b (Some c) (column_of cs a)) ≡ (b || has (column_names (columns_shown cs)) a)
    at true r = refl
    at false r = r

some-typed : (cs : List Typed) (a : Name) → is_some (column_of cs a) ≡ has (names_of (types_of cs)) a
some-typed [] a = refl
some-typed (c ∷ cs) a = at (bytes_eq a c.name) (some-typed cs a)
  where
    at : (b : Bool) → is_some (column_of cs a) ≡ has (names_of (types_of cs)) a → is_some (cond b (Some c) (column_of cs a)) ≡ (b || has (names_of (types_of cs)) a)
    at true r = refl
    at false r = r

-- a column that is called like none goes last
put-last : (cs : List Typed) (c : Typed) → has (names_of (types_of cs)) c.name ≡ false → with_column cs c ≡ cs ++ c ∷ []
put-last [] c n = refl
put-last (d ∷ cs) c n =
    let p = or_parts (bytes_eq c.name d.name) (has (names_of (types_of cs)) c.name) n in
    cond-false (bytes_eq c.name d.name) (c ∷ cs) (d ∷ with_column cs c) p.0 ∙ ap (λ (l : List Typed). d ∷ l) (put-last cs c p.1)

module _ (cs : List Typed) (x : Column) (t : DataType) where
  -- with a column of that name
  pub kept-shown : is_some (column_of cs x.name) ≡ true → columns_shown cs ≡ with_new_column (columns_shown cs) x
  kept-shown e = sym (cond-true (has (column_names (columns_shown cs)) x.name) (columns_shown cs) (columns_shown cs ++ x ∷ []) (sym (some-shown cs x.name) ∙ e))

  pub kept-types : is_some (column_of cs x.name) ≡ true → types_of cs ≡ with_new (types_of cs) (x.name, t)
  kept-types e = sym (cond-true (has (names_of (types_of cs)) x.name) (types_of cs) (types_of cs ++ (x.name, t) ∷ []) (sym (some-typed cs x.name) ∙ e))

  -- and without
  module _ (c : Typed) (is : column_shown c ≡ x) (typed : c.dtype ≡ t) (new : is_some (column_of cs x.name) ≡ false) where
    named : c.name ≡ x.name
    named = ap (λ (y : Column). y.name) is

    last : with_column cs c ≡ cs ++ c ∷ []
    last = put-last cs c (ap (has (names_of (types_of cs))) named ∙ sym (some-typed cs x.name) ∙ new)

    pub new-shown : columns_shown (with_column cs c) ≡ with_new_column (columns_shown cs) x
    new-shown =
        ap columns_shown last ∙ map-append column_shown cs (c ∷ []) ∙ ap (λ (y : Column). columns_shown cs ++ y ∷ []) is
        ∙ sym (cond-false (has (column_names (columns_shown cs)) x.name) (columns_shown cs) (columns_shown cs ++ x ∷ []) (sym (some-shown cs x.name) ∙ new))

    pub new-types : types_of (with_column cs c) ≡ with_new (types_of cs) (x.name, t)
    new-types =
        ap types_of last ∙ map-append (λ (d : Typed). (d.name, d.dtype)) cs (c ∷ [])
        ∙ ap₂ (λ (a : Name) (u : DataType). types_of cs ++ (a, u) ∷ []) named typed
        ∙ sym (cond-false (has (names_of (types_of cs)) x.name) (types_of cs) (types_of cs ++ (x.name, t) ∷ []) (sym (some-typed cs x.name) ∙ new))
