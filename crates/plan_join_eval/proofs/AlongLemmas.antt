-- Columns of a join along pairs: each has the values that the join gives it, and they stand one behind another.
use Rattle.std.proofs.Common.{◌≡◌, ◌∙◌, ◌++◌, ℕ, zero, suc, Bool, true, false, not, ◌||◌, cond, List, [], ◌∷◌, map, replicate, Option, None, Some, refl, sym, ap, ap₂, subst, append_assoc}
use Rattle.std.specs.Str.{bytes_eq}
use Rattle.plan_core.specs.declared.data_type.DataType.{DataType}
use Rattle.plan_core.specs.Columns.{Columns, HasDistinctNames, names_of}
use Rattle.plan_core.specs.Names.{has}
use Rattle.plan_expr.specs.Leaves.{Name}
use Rattle.plan_frame.specs.Frames.{Column, row}
use Rattle.plan_frame.specs.Values.{Value, null}
use Rattle.plan_join.proofs.ColumnLemmas.{is_new}
use Rattle.plan_join.specs.Joined.{value_or}
use Rattle.plan_join.specs.declared.pairs.RowPair.{RowPair}
use Rattle.plan_join_eval.specs.Along.{place_in, value_along}
use Rattle.plan_table.specs.declared.column.Column.{Column as Typed}
use Rattle.plan_table.specs.Tables.{types_of, with_column}

-- null is in each of some rows that are null, and beyond them
pub null-row : (n i : ℕ) → row (replicate n null) i ≡ null
null-row zero i = refl
null-row (suc n) zero = refl
null-row (suc n) (suc i) = null-row n i

-- a column whose name is new goes last
pub pushed : (cs : List Typed) (c : Typed) → has (names_of (types_of cs)) c.name ≡ false → with_column cs c ≡ cs ++ c ∷ []
pushed [] c h = refl
pushed (d ∷ cs) c h = at (bytes_eq c.name d.name) refl h (λ q. pushed cs c q)
  where
    at : (b : Bool) → bytes_eq c.name d.name ≡ b → (b || has (names_of (types_of cs)) c.name) ≡ false → (has (names_of (types_of cs)) c.name ≡ false → with_column cs c ≡ cs ++ c ∷ []) → cond b (c ∷ cs) (d ∷ with_column cs c) ≡ d ∷ (cs ++ c ∷ [])
    at true e h rest = cc
    at false e h rest = ap (λ (ds : List Typed). d ∷ ds) (rest h)

-- a column of a value that is the same in each row has the same values along pairs
pub along-same : (b : Bool) (vs ws others : List Value) (ps : List RowPair) → ((i : ℕ) → row vs i ≡ row ws i) → map (value_along b vs others) ps ≡ map (value_along b ws others) ps
along-same b vs ws others [] same = refl
along-same b vs ws others (p ∷ ps) same = ap₂ (λ (v : Value) (rest : List Value). v ∷ rest) (at (place_in b p)) (along-same b vs ws others ps same)
  where
    at : (o : Option ℕ) → value_or vs (value_or others null (place_in (not b) p)) o ≡ value_or ws (value_or others null (place_in (not b) p)) o
    at None = refl
    at (Some i) = same i

-- one more column

pub shown-next : (L : Name → Column) (done new : List Column) (x : Column) (it rest : Columns) (a : Name) (d : DataType) (all : List Column) → new ≡ done ++ x ∷ [] → x ≡ L a → it ≡ (a, d) ∷ rest
    → done ++ map L (names_of it) ≡ all → new ++ map L (names_of rest) ≡ all
shown-next L done new x it rest a d all more is steps before =
    ap (λ (cs : List Column). cs ++ map L (names_of rest)) (more ∙ ap (λ (c : Column). done ++ c ∷ []) is)
    ∙ append_assoc done (L a ∷ []) (map L (names_of rest)) ∙ ap (λ (cs : Columns). done ++ map L (names_of cs)) (sym steps) ∙ before

pub types-next : (now : Name × DataType → Name × DataType) (done new : Columns) (x : Name × DataType) (it rest : Columns) (a : Name) (d : DataType) (all : Columns) → new ≡ done ++ x ∷ [] → x ≡ now (a, d) → it ≡ (a, d) ∷ rest
    → done ++ map now it ≡ all → new ++ map now rest ≡ all
types-next now done new x it rest a d all more is steps before =
    ap (λ (cs : Columns). cs ++ map now rest) (more ∙ ap (λ (c : Name × DataType). done ++ c ∷ []) is)
    ∙ append_assoc done (now (a, d) ∷ []) (map now rest) ∙ ap (λ (cs : Columns). done ++ map now cs) (sym steps) ∙ before

-- the next column has a new name, where no name of all comes twice
pub next-new : (now : Name × DataType → Name × DataType) (done it rest : Columns) (a : Name) (d : DataType) (all : Columns) → HasDistinctNames all → it ≡ (a, d) ∷ rest → done ++ map now it ≡ all → has (names_of done) (now (a, d)).0 ≡ false
next-new now done it rest a d all once steps before =
    is_new done (now (a, d)).0 (now (a, d)).1 (map now rest) (subst HasDistinctNames (sym (ap (λ (cs : Columns). done ++ map now cs) (sym steps) ∙ before)) once)
