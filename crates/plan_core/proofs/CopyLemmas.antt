-- Columns that are copied one after another.
use Rattle.std.proofs.Common.{◌≡◌, ◌∙◌, ◌++◌, ◌∷◌, [], List, ℕ, false, refl, sym, ap, append_assoc}
use Rattle.std.specs.Str.{bytes_eq}
use Rattle.std.specs.List.{IsDistinct, AllByRecursion}
use Rattle.plan_core.specs.declared.data_type.DataType.{DataType}
use Rattle.plan_core.specs.Columns.{Columns, HasDistinctNames, names_of, with_type}
use Rattle.plan_core.proofs.ColumnLemmas.{flip_false}

differs_inside : (x : List ℕ) (cs : Columns) (c : List ℕ × DataType) (rest : Columns) → AllByRecursion (λ (y : List ℕ). bytes_eq x y ≡ false) (names_of (cs ++ c ∷ rest)) → bytes_eq x c.0 ≡ false
differs_inside x [] c rest h = h.0
differs_inside x (b ∷ cs) c rest h = differs_inside x cs c rest h.1

-- a name that comes after columns is none of theirs
pub with_type-front : (cs : Columns) (name : List ℕ) (d : DataType) (rest : Columns) → HasDistinctNames (cs ++ (name, d) ∷ rest) → with_type cs name d ≡ cs ++ (name, d) ∷ []
unfolding IsDistinct
with_type-front [] name d rest h = refl
with_type-front (c ∷ cs) name d rest h =
    rw (flip_false c.0 name (differs_inside c.0 cs (name, d) rest h.0)) (ap (λ (x : Columns). c ∷ x) (with_type-front cs name d rest h.1))

-- a column goes from what is left to what is copied
pub with_type-copied : (cs all : Columns) (name : List ℕ) (d : DataType) (rest left : Columns) → HasDistinctNames all → cs ++ left ≡ all → left ≡ (name, d) ∷ rest → with_type cs name d ++ rest ≡ all
with_type-copied cs all name d rest left h e f =
    let whole : cs ++ (name, d) ∷ rest ≡ all = ap (λ (x : Columns). cs ++ x) (sym f) ∙ e in
    let front : HasDistinctNames (cs ++ (name, d) ∷ rest) = rw whole h in
    ap (λ (x : Columns). x ++ rest) (with_type-front cs name d rest front) ∙ append_assoc cs ((name, d) ∷ []) rest ∙ whole
