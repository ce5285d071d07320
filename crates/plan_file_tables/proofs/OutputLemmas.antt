-- The columns that are put out, one after another.
use Rattle.std.proofs.Common.{◌≡◌, ◌∙◌, ◌++◌, ℕ, ◌+◌, Bool, true, false, cond, not, List, [], ◌∷◌, take, drop, Option, Some, refl, sym, ap, subst, append_assoc}
use Rattle.std.specs.List.{slice_get}
use Rattle.std.specs.Str.{bytes_eq}
use Rattle.std.proofs.lemmas.List.{map-append, take-append-drop}
use Rattle.std.proofs.lemmas.List.Sorted.{IsPermutation-filter_both}
use Rattle.std.proofs.lemmas.Map.Keys.{IsDistinct-IsPermutation}
use Rattle.plan_core.specs.declared.data_type.DataType.{DataType}
use Rattle.plan_core.specs.Columns.{Columns, HasDistinctNames, with_type}
use Rattle.plan_core.specs.Names.{has, AreDistinct}
use Rattle.plan_core.proofs.ColumnLemmas.{flip_false}
use Rattle.plan_core.proofs.CopyLemmas.{with_type-copied, with_type-front}
use Rattle.plan_expr.specs.Leaves.{Name}
use Rattle.plan_expr.proofs.ListLemmas.{take-next}
use Rattle.plan_file_scan.specs.Left.{is_path, path_last}
use Rattle.plan_file_scan.proofs.NameLemmas.{names-columns_at}
use Rattle.plan_frame.specs.Reshaped.{columns_at, type_or}
use Rattle.plan_frame.proofs.NameSets.{named, same_named}
use Rattle.plan_scan.specs.Stats.{named_among}
use Rattle.plan_scan.proofs.StatLemmas.{distinct-among}

-- an asked column goes from what is left to what is made
pub asked-next : (asked : List Name) (file made : Columns) (name : Name) (d : DataType) (rest left : Columns) → HasDistinctNames file → made ++ named_among asked left ≡ named_among asked file → left ≡ (name, d) ∷ rest → has asked name ≡ true → with_type made name d ++ named_among asked rest ≡ named_among asked file
asked-next asked file made name d rest left once e is there =
    with_type-copied made (named_among asked file) name d (named_among asked rest) (named_among asked left) (distinct-among asked file once) e
    (ap (named_among asked) is ∙ ap (λ (t : Bool). cond t ((name, d) ∷ named_among asked rest) (named_among asked rest)) there)

-- the column of the next name goes last, where names come once
pub at-next : (file : Columns) (names : List Name) (i : ℕ) (a b : Name) (t : DataType) (made : Columns) → AreDistinct names → made ≡ columns_at file (take i names) → slice_get names i ≡ Some a → b ≡ a → t ≡ type_or file a → with_type made b t ≡ columns_at file (take (i + 1) names)
at-next file names i a b t made once is here same typed =
    rw (is, same, typed)
    (with_type-front (columns_at file (take i names)) a (type_or file a) (columns_at file (drop (i + 1) names)) whole
    ∙ sym (map-append (λ (x : Name). (x, type_or file x)) (take i names) (a ∷ []))
    ∙ ap (columns_at file) (sym (take-next names i a here)))
  where
    split : names ≡ take i names ++ a ∷ drop (i + 1) names
    split =
        sym (take-append-drop (i + 1) names)
        ∙ ap (λ (l : List Name). l ++ drop (i + 1) names) (take-next names i a here)
        ∙ append_assoc (take i names) (a ∷ []) (drop (i + 1) names)

    whole : HasDistinctNames (columns_at file (take i names) ++ (a, type_or file a) ∷ columns_at file (drop (i + 1) names))
    whole =
        subst (λ (cs : Columns). HasDistinctNames cs) (ap (columns_at file) split ∙ map-append (λ (x : Name). (x, type_or file x)) (take i names) (a ∷ drop (i + 1) names))
        (subst AreDistinct (sym (names-columns_at file names)) once)

-- names come once, also with that of the paths last

either_way : (x y : Name) → bytes_eq x y ≡ bytes_eq y x
either_way x y = at (bytes_eq x y) refl
  where
    at : (b : Bool) → bytes_eq x y ≡ b → b ≡ bytes_eq y x
    at false e = sym (flip_false x y e)
    at true e = sym (ap (bytes_eq y) (named x y e) ∙ same_named y)

twice_not : (b : Bool) → b ≡ not (not b)
twice_not true = refl
twice_not false = refl

pub last_once : (path : Option Name) (names : List Name) → AreDistinct names → AreDistinct (path_last path names)
last_once path names once =
    IsDistinct-IsPermutation bytes_eq either_way names (path_last path names)
    (IsPermutation-filter_both (λ (a : Name). not (is_path path a)) (is_path path) (λ (a : Name). twice_not (is_path path a)) names) once
