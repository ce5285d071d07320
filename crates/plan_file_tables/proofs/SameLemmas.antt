-- Sources without rows and values give nothing.
use Rattle.std.proofs.Common.{◌≡◌, ◌∙◌, ◌++◌, ◌+◌, ℕ, Bool, true, false, cond, List, [], ◌∷◌, map, replicate, Option, None, Some, refl, ap, ap₂, sym, subst, unwrap_or, append-nil, arith}
use Rattle.std.specs.Str.{bytes_eq}
use Rattle.std.proofs.lemmas.List.{map-append}
use Rattle.plan_core.specs.declared.options.FileScanOptions.{FileScanOptions}
use Rattle.plan_expr.specs.Leaves.{Name}
use Rattle.plan_file_scan.specs.FileFrames.{Part, alike_or, hive_value, numbers_or, part_values, path_value, rows_in_turn, scan_frame, scan_values, values_in_turn}
use Rattle.plan_frame.specs.Frames.{Column, Frame, column_or, found, table_columns}
use Rattle.plan_frame.specs.Values.{Value, null}
use Rattle.plan_table.specs.declared.column.Column.{Column as Typed}
use Rattle.plan_table.specs.declared.table.Table.{Table}
use Rattle.plan_value.specs.Shown.{columns_shown, frame_of, values_of}
use Rattle.plan_file_tables.specs.Parts.{AreEmpty, GiveSame, IsBare, part_shown, parts_shown}
use Rattle.plan_file_tables.specs.declared.parts.Part.{Part as Lent}
use Rattle.plan_file_tables.proofs.PartLemmas.{rows-push, values-push}

none-found : (h : ℕ) (cs : List Typed) (a : Name) → h ≡ 0 → AreEmpty cs → unwrap_or (found (columns_shown cs) a) (replicate h null) ≡ []
none-found h [] a z e = ap (λ (n : ℕ). replicate n null) z
none-found h (c ∷ cs) a z e = at (bytes_eq a c.name) (none-found h cs a z e.1)
  where
    at : (b : Bool) → unwrap_or (found (columns_shown cs) a) (replicate h null) ≡ [] → unwrap_or (cond b (Some (values_of c.values)) (found (columns_shown cs) a)) (replicate h null) ≡ []
    at true rest = e.0
    at false rest = rest

-- a table without rows whose columns have no values is bare
pub bare-table : (t : Table) → t.height ≡ 0 → AreEmpty t.columns → IsBare (frame_of t)
bare-table t z e = (z, λ a. none-found t.height t.columns a z e)

alike-none : (o : Option Value) (h : ℕ) (vs : List Value) → h ≡ 0 → vs ≡ [] → alike_or o h vs ≡ []
alike-none None h vs z e = e
alike-none (Some v) h vs z e = ap (λ (n : ℕ). replicate n v) z

bare-values : (path : Option Name) (p : Part) (a : Name) → IsBare p.rows → part_values path p a ≡ []
bare-values path p a bare = alike-none (path_value path p.source a) p.rows.height _ bare.0 (alike-none (hive_value p.hive a) p.rows.height _ bare.0 (bare.1 a))

-- a bare source is left out
pub without-bare : (ps : List Part) (p : Part) → IsBare p.rows → GiveSame ps (ps ++ p ∷ [])
without-bare ps p bare = (
  λ path a. sym (values-push path ps p a ∙ ap (λ (vs : List Value). values_in_turn path ps a ++ vs) (bare-values path p a bare) ∙ append-nil (values_in_turn path ps a)),
  (let e = rows-push ps p in omega (arith, e, bare.0)),
)

-- another is put behind
pub with-one : (ls : List Lent) (l : Lent) → GiveSame (parts_shown (ls ++ l ∷ [])) (parts_shown ls ++ part_shown l ∷ [])
with-one ls l =
    let e = map-append part_shown ls (l ∷ []) in
    (λ path a. ap (λ (ps : List Part). values_in_turn path ps a) e, ap rows_in_turn e)

-- one more behind sources that give the same
pub same-next : (ms ps qs : List Part) (p : Part) → GiveSame ms (ps ++ p ∷ []) → GiveSame ps qs → GiveSame ms (qs ++ p ∷ [])
same-next ms ps qs p one same = (
  λ path a. one.0 path a ∙ values-push path ps p a ∙ ap (λ (vs : List Value). vs ++ part_values path p a) (same.0 path a) ∙ sym (values-push path qs p a),
  one.1 ∙ rows-push ps p ∙ ap (λ (n : ℕ). n + p.rows.height) same.1 ∙ sym (rows-push qs p),
)

columns-same : (names : List Name) (f g : Name → List Value) → ((a : Name) → f a ≡ g a) → table_columns names f ≡ table_columns names g
columns-same [] f g h = refl
columns-same (a ∷ names) f g h = ap₂ (λ (vs : List Value) (cs : List Column). record { name = a; values = vs } ∷ cs) (h a) (columns-same names f g h)

-- sources that give the same make the same frame
pub frames-same : (names : List Name) (options : FileScanOptions) (ps qs : List Part) → GiveSame ps qs → scan_frame names options ps ≡ scan_frame names options qs
frames-same names options ps qs same =
    ap₂ (λ (h : ℕ) (cs : List Column). record { height = h; columns = cs }) same.1
    (columns-same names (scan_values options ps) (scan_values options qs) (λ a. ap₂ (λ (n : ℕ) (vs : List Value). numbers_or options.row_index n a vs) same.1 (same.0 options.include_file_paths a)))
