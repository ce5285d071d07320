-- Columns of tables that are put one after another, as columns of frames and as names with types.
use Rattle.std.proofs.Common.{◌≡◌, ◌++◌, Bool, true, false, cond, List, [], ◌∷◌, refl, ap, sym, subst, ◌∙◌, append_assoc}
use Rattle.std.specs.List.{AllByRecursion, IsDistinct}
use Rattle.std.specs.Str.{bytes_eq}
use Rattle.std.proofs.lemmas.List.{map-append}
use Rattle.plan_core.specs.Columns.{Columns, HasDistinctNames, names_of, with_type}
use Rattle.plan_core.specs.declared.data_type.DataType.{DataType}
use Rattle.plan_core.proofs.ColumnLemmas.{flip_false}
use Rattle.plan_expr.specs.Leaves.{Name}
use Rattle.plan_frame.specs.Frames.{Column}
use Rattle.plan_frame.specs.Frames as frames
use Rattle.plan_frame.proofs.NameSets.{named}
use Rattle.plan_table.specs.declared.column.Column.{Column as Typed}
use Rattle.plan_table.specs.Tables.{types_of, with_column}
use Rattle.plan_value.specs.Shown.{column_shown, columns_shown}

in-middle : (a : Name) (done rest : Columns) (c : Name × DataType) → AllByRecursion (λ (y : Name). bytes_eq a y ≡ false) (names_of (done ++ c ∷ rest)) → bytes_eq a c.0 ≡ false
in-middle a [] rest c h = h.0
in-middle a (d ∷ done) rest c h = in-middle a done rest c h.1

-- a column of a new name goes last
put-front : (done : List Typed) (c : Typed) (rest : Columns) → HasDistinctNames (types_of done ++ (c.name, c.dtype) ∷ rest) → with_column done c ≡ done ++ c ∷ []
unfolding IsDistinct
put-front [] c rest h = refl
put-front (d ∷ done) c rest h =
    ap (λ (b : Bool). cond b (c ∷ done) (d ∷ with_column done c)) (flip_false d.name c.name (in-middle d.name (types_of done) rest (c.name, c.dtype) h.0))
    ∙ ap (λ (x : List Typed). d ∷ x) (put-front done c rest h.1)

module _ (done : List Typed) (c : Typed) (left rest whole : Columns) (once : HasDistinctNames whole) (is : types_of done ++ left ≡ whole) (steps : left ≡ (c.name, c.dtype) ∷ rest) where
  here : types_of done ++ (c.name, c.dtype) ∷ rest ≡ whole
  here = ap (λ (l : Columns). types_of done ++ l) (sym steps) ∙ is

  last : with_column done c ≡ done ++ c ∷ []
  last = put-front done c rest (subst HasDistinctNames (sym here) once)

  -- the types of what is put, and then those that are left, are all types
  pub put-types : types_of (with_column done c) ++ rest ≡ whole
  put-types = ap (λ (cs : List Typed). types_of cs ++ rest) last ∙ ap (λ (cs : Columns). cs ++ rest) (map-append (λ (d : Typed). (d.name, d.dtype)) done (c ∷ [])) ∙ append_assoc (types_of done) ((c.name, c.dtype) ∷ []) rest ∙ here

  -- the columns of what is put, and then those that are left, are all columns
  pub put-shown : (xs ys all : List Column) → columns_shown done ++ xs ≡ all → xs ≡ column_shown c ∷ ys → columns_shown (with_column done c) ++ ys ≡ all
  put-shown xs ys all e f =
      ap (λ (cs : List Typed). columns_shown cs ++ ys) last
      ∙ ap (λ (cs : List Column). cs ++ ys) (map-append column_shown done (c ∷ []))
      ∙ append_assoc (columns_shown done) (column_shown c ∷ []) ys
      ∙ ap (λ (cs : List Column). columns_shown done ++ cs) (sym f)
      ∙ e

shown-cond : (b : Bool) (c d : Typed) (cs : List Typed) (x : List Typed) → columns_shown (cond b (c ∷ cs) (d ∷ x)) ≡ cond b (column_shown c ∷ columns_shown cs) (column_shown d ∷ columns_shown x)
shown-cond true c d cs x = refl
shown-cond false c d cs x = refl

-- a column that is put is put where it is shown
pub shown-with : (cs : List Typed) (c : Typed) → columns_shown (with_column cs c) ≡ frames.with_column (columns_shown cs) (column_shown c)
shown-with [] c = refl
shown-with (d ∷ cs) c =
    shown-cond (bytes_eq c.name d.name) c d cs (with_column cs c)
    ∙ ap (λ (x : List Column). cond (bytes_eq c.name d.name) (column_shown c ∷ columns_shown cs) (column_shown d ∷ x)) (shown-with cs c)

types-cond : (b : Bool) (c d : Typed) (cs x : List Typed) → (b ≡ true → c.name ≡ d.name) → types_of (cond b (c ∷ cs) (d ∷ x)) ≡ cond b ((d.name, c.dtype) ∷ types_of cs) ((d.name, d.dtype) ∷ types_of x)
types-cond true c d cs x h = ap (λ (a : Name). (a, c.dtype) ∷ types_of cs) (h refl)
types-cond false c d cs x h = refl

-- and has its type there
pub types-with : (cs : List Typed) (c : Typed) → types_of (with_column cs c) ≡ with_type (types_of cs) c.name c.dtype
types-with [] c = refl
types-with (d ∷ cs) c =
    types-cond (bytes_eq c.name d.name) c d cs (with_column cs c) (named c.name d.name)
    ∙ ap (λ (x : Columns). cond (bytes_eq c.name d.name) ((d.name, c.dtype) ∷ types_of cs) ((d.name, d.dtype) ∷ x)) (types-with cs c)
