-- The sources of a scan, one after another.
use Rattle.std.proofs.Common.{◌≡◌, ◌++◌, ◌+◌, ◌<◌, ◌∙◌, ℕ, zero, suc, Bool, true, false, cond, List, [], ◌∷◌, length, drop, take, get_or, Option, None, Some, refl, ap, ap₂, sym, arith, append_assoc, append-nil}
use Rattle.std.specs.Borrow.{Bor}
use Rattle.std.specs.Option.{option_copied, unwrap_or}
use Rattle.std.specs.List.{slice_get}
use Rattle.std.specs.Str.{bytes_eq}
use Rattle.std.proofs.lemmas.List.{length-append, map-append, take_more}
use Rattle.std.proofs.lemmas.List.Quantifiers.{position-Some}
use Rattle.plan_core.specs.Columns.{names_of, place_of, type_of}
use Rattle.plan_expr.specs.Leaves.{Name}
use Rattle.plan_file_scan.specs.FileFrames.{Part, hive_value, part_values, parts_of, rows_in_turn, values_in_turn}
use Rattle.plan_frame.specs.Frames.{Frame}
use Rattle.plan_frame.specs.Values.{Value}
use Rattle.plan_scan.specs.Source.{Source}
use Rattle.plan_scan.specs.Sources.{source_of}
use Rattle.plan_scan.specs.Stats.{Stats, columns_of}
use Rattle.plan_scan.specs.declared.stats.ColumnStats.{ColumnStats}
use Rattle.plan_table.specs.declared.table.Table.{Table}
use Rattle.plan_value.specs.Shown.{value_of}
use Rattle.plan_file_tables.specs.Parts.{frame_found, frames_found, hive_at, part_shown, parts_shown}
use Rattle.plan_file_tables.specs.declared.parts.Part.{Part as Lent}

-- The sources with their hive columns and tables

-- the hive columns from the source at a place on
abbrev pub hive_from : Option (List Stats) → ℕ → Option (List Stats)
hive_from None i = None
hive_from (Some parts) i = Some (drop i parts)

-- what is left of sources from a place on
abbrev pub parts_from : Option (List Stats) → List Frame → ℕ → List Source → List Part
parts_from hive fs i ss = parts_of (hive_from hive i) ss (drop i fs)

parts-open : (hive : Option (List Stats)) (i : ℕ) (s : Source) (ss : List Source) (f : Frame) (fs : List Frame) → parts_of (hive_from hive i) (s ∷ ss) (f ∷ fs) ≡ record { source = s; hive = hive_at hive i; rows = f } ∷ parts_of (hive_from hive (suc i)) ss fs
parts-open None i s ss f fs = refl
parts-open (Some parts) i s ss f fs = at parts i
  where
    at : (parts : List Stats) (i : ℕ) → parts_of (Some (drop i parts)) (s ∷ ss) (f ∷ fs) ≡ record { source = s; hive = unwrap_or (slice_get parts i) []; rows = f } ∷ parts_of (Some (drop (suc i) parts)) ss fs
    at [] zero = refl
    at [] (suc i) = refl
    at (part ∷ parts) zero = refl
    at (part ∷ parts) (suc i) = at parts i

-- the frames from the place of a table on
frames-open : (ts : List (Option (Bor Table))) (i : ℕ) (t : Option (Bor Table)) → slice_get ts i ≡ Some t → drop i (frames_found ts) ≡ frame_found t ∷ drop (suc i) (frames_found ts)
frames-open [] zero t e = cc
frames-open [] (suc i) t e = cc
frames-open (u ∷ ts) zero t e = let q : u ≡ t = cc in ap (λ (x : Option (Bor Table)). frame_found x ∷ frames_found ts) q
frames-open (u ∷ ts) (suc i) t e = frames-open ts i t e

-- with one source more
pub parts-next : (hive : Option (List Stats)) (ts : List (Option (Bor Table))) (parts : List Lent) (p : Lent) (s : Source) (rest : List Source) → source_of p.source ≡ s → unwrap_or (option_copied p.hive) [] ≡ hive_at hive (length parts) → slice_get ts (length parts) ≡ Some p.table → parts_shown (parts ++ p ∷ []) ++ parts_from hive (frames_found ts) (length (parts ++ p ∷ [])) rest ≡ parts_shown parts ++ parts_from hive (frames_found ts) (length parts) (s ∷ rest)
parts-next hive ts parts p s rest is own table =
    let n : ℕ = length parts in
    let fs : List Frame = frames_found ts in
    let longer : length (parts ++ p ∷ []) ≡ suc n = let e = length-append parts (p ∷ []) in omega (arith, e) in
    let shown : part_shown p ≡ record { source = s; hive = hive_at hive n; rows = frame_found p.table } =
    ap₂ (λ (x : Source) (h : Stats). record { source = x; hive = h; rows = frame_found p.table }) is own
    in
    ap₂ (λ (l : List Part) (k : ℕ). l ++ parts_from hive fs k rest) (map-append part_shown parts (p ∷ [])) longer
    ∙ append_assoc (parts_shown parts) (part_shown p ∷ []) (parts_from hive fs (suc n) rest)
    ∙ ap (λ (x : Part). parts_shown parts ++ x ∷ parts_from hive fs (suc n) rest) shown
    ∙ ap (λ (l : List Part). parts_shown parts ++ l) (sym (parts-open hive n s rest (frame_found p.table) (drop (suc n) fs)))
    ∙ ap (λ (l : List Frame). parts_shown parts ++ parts_of (hive_from hive n) (s ∷ rest) l) (sym (frames-open ts n p.table table))

-- Hive values

-- the value at the first place of a name
hive-at : (ss : Stats) (a : Name) (i : ℕ) (s : ColumnStats) → slice_get ss i ≡ Some s → bytes_eq a (get_or (names_of (columns_of ss)) i []) ≡ true → ((k : ℕ) → k < i → bytes_eq a (get_or (names_of (columns_of ss)) k []) ≡ false) → hive_value ss a ≡ Some (value_of s.value)
hive-at [] a i s e h none = cc
hive-at (t ∷ ss) a zero s e h none = let q : t ≡ s = cc in rw h (ap (λ (x : ColumnStats). Some (value_of x.value)) q)
hive-at (t ∷ ss) a (suc i) s e h none = rw (none 0 (omega arith)) (hive-at ss a i s e h (λ k lt. none (suc k) (omega (arith, lt))))

pub hive-there : (ss : Stats) (a : Name) (i : ℕ) (s : ColumnStats) → Some i ≡ place_of (columns_of ss) a → Some s ≡ slice_get ss i → Some (value_of s.value) ≡ hive_value ss a
hive-there ss a i s p e =
    let found = position-Some (bytes_eq a) (names_of (columns_of ss)) i [] (sym p) in
    sym (hive-at ss a i s (sym e) found.1 found.2)

-- a name that is no hive column has no hive value
pub hive-none : (ss : Stats) (a : Name) → type_of (columns_of ss) a ≡ None → None ≡ hive_value ss a
hive-none [] a e = refl
hive-none (s ∷ ss) a e = at (hive-none ss a) (bytes_eq a s.field.name) e
  where
    at : (type_of (columns_of ss) a ≡ None → None ≡ hive_value ss a) → (b : Bool) → cond b (Some s.field.dtype) (type_of (columns_of ss) a) ≡ None → None ≡ cond b (Some (value_of s.value)) (hive_value ss a)
    at rest true e = cc
    at rest false e = rest e

-- One source after another

pub values-push : (path : Option Name) (ps : List Part) (p : Part) (a : Name) → values_in_turn path (ps ++ p ∷ []) a ≡ values_in_turn path ps a ++ part_values path p a
values-push path [] p a = append-nil (part_values path p a)
values-push path (q ∷ ps) p a =
    ap (λ (vs : List Value). part_values path q a ++ vs) (values-push path ps p a)
    ∙ sym (append_assoc (part_values path q a) (values_in_turn path ps a) (part_values path p a))

pub rows-push : (ps : List Part) (p : Part) → rows_in_turn (ps ++ p ∷ []) ≡ rows_in_turn ps + p.rows.height
rows-push [] p = omega arith
rows-push (q ∷ ps) p = let e = rows-push ps p in omega (arith, e)

module _ (ps : List Lent) (i : ℕ) (p : Lent) (lt : i < length ps) (is : p ≡ get_or ps i p) where
  -- the sources before the next place, with the one at this place
  pub shown-next : parts_shown (take (i + 1) ps) ≡ parts_shown (take i ps) ++ part_shown p ∷ []
  shown-next =
      ap parts_shown (take_more ps i p lt) ∙ map-append part_shown (take i ps) (get_or ps i p ∷ []) ∙ ap (λ (q : Lent). parts_shown (take i ps) ++ part_shown q ∷ []) (sym is)

  pub values-next : (path : Option Name) (a : Name) → values_in_turn path (parts_shown (take (i + 1) ps)) a ≡ values_in_turn path (parts_shown (take i ps)) a ++ part_values path (part_shown p) a
  values-next path a = ap (λ (qs : List Part). values_in_turn path qs a) shown-next ∙ values-push path (parts_shown (take i ps)) (part_shown p) a

  pub rows-next : rows_in_turn (parts_shown (take (i + 1) ps)) ≡ rows_in_turn (parts_shown (take i ps)) + (part_shown p).rows.height
  rows-next = ap rows_in_turn shown-next ∙ rows-push (parts_shown (take i ps)) (part_shown p)
