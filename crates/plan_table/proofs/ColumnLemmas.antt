-- Columns that are put one after another.
use Rattle.std.proofs.Common.{◌≡◌, ◌++◌, ℕ, Bool, false, cond, List, [], ◌∷◌, refl, ap, sym, subst, append_assoc, ◌∙◌}
use Rattle.std.specs.List.{AllByRecursion, IsDistinct}
use Rattle.std.specs.Str.{bytes_eq}
use Rattle.plan_core.specs.Columns.{HasDistinctNames, names_of}
use Rattle.plan_core.proofs.ColumnLemmas.{flip_false}
use Rattle.plan_table.specs.declared.column.Column.{Column}
use Rattle.plan_table.specs.Tables.{types_of, with_column}

in-middle : (a : List ℕ) (done rest : List Column) (c : Column) → AllByRecursion (λ (y : List ℕ). bytes_eq a y ≡ false) (names_of (types_of (done ++ c ∷ rest))) → bytes_eq a c.name ≡ false
in-middle a [] rest c h = h.0
in-middle a (d ∷ done) rest c h = in-middle a done rest c h.1

-- a column of a new name goes last
pub put-last : (done rest : List Column) (c : Column) → HasDistinctNames (types_of (done ++ c ∷ rest)) → with_column done c ≡ done ++ c ∷ []
unfolding IsDistinct
put-last [] rest c h = refl
put-last (d ∷ done) rest c h =
    ap (λ (b : Bool). cond b (c ∷ done) (d ∷ with_column done c)) (flip_false d.name c.name (in-middle d.name done rest c h.0))
    ∙ ap (λ (x : List Column). d ∷ x) (put-last done rest c h.1)

-- what is put, and then what is left, are the columns
pub put-copied : (done : List Column) (c : Column) (rest left whole : List Column) → HasDistinctNames (types_of whole) → done ++ left ≡ whole → left ≡ c ∷ rest → with_column done c ++ rest ≡ whole
put-copied done c rest left whole h is steps =
    let here : done ++ c ∷ rest ≡ whole = ap (λ (l : List Column). done ++ l) (sym steps) ∙ is in
    ap (λ (l : List Column). l ++ rest) (put-last done rest c (subst (λ (l : List Column). HasDistinctNames (types_of l)) (sym here) h))
    ∙ append_assoc done (c ∷ []) rest
    ∙ here
