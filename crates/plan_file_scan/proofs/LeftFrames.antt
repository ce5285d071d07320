-- The frame of what is left of a scan: as high as the given one, and with the same values in the asked columns.
use Rattle.std.proofs.Common.{◌≡◌, ℕ, ◌+◌, Bool, true, false, cond, List, [], ◌∷◌, ◌++◌, Option, Some, None, refl, ap, ap₂, ◌∙◌}
use Rattle.std.specs.Str.{bytes_eq}
use Rattle.std.proofs.lemmas.Bool.{both_ways, false_from_ne_true}
use Rattle.plan_core.specs.declared.options.FileScanOptions.{FileScanOptions}
use Rattle.plan_core.specs.declared.options.RowIndex.{RowIndex}
use Rattle.plan_core.specs.Names.{has}
use Rattle.plan_expr.specs.Leaves.{Name}
use Rattle.plan_frame.specs.Frames.{Agree, Frame, column_or}
use Rattle.plan_frame.specs.Reshaped.{row_numbers}
use Rattle.plan_frame.specs.Values.{Value, text}
use Rattle.plan_frame.proofs.FrameLemmas.{agree_tables}
use Rattle.plan_frame.proofs.NameSets.{named}
use Rattle.plan_scan.specs.Source.{Source}
use Rattle.plan_scan.specs.Sources.{path_name}
use Rattle.plan_scan.specs.Stats.{Stats}
use Rattle.plan_value.specs.Shown.{value_of}
use Rattle.plan_file_scan.specs.FileFrames.{alike_or, hive_value, numbers_or, part_values, parts_of, path_value, rows_in_turn, scan_frame, scan_values, values_in_turn}
use Rattle.plan_file_scan.specs.Left.{AreAmong, left_options, left_part, left_parts, left_path, left_row}

-- sources with parts that are left have as many rows
pub rows-left : (wanted : List Name) (hive : Option (List Stats)) (ss : List Source) (fs : List Frame) → rows_in_turn (parts_of (left_parts wanted hive) ss fs) ≡ rows_in_turn (parts_of hive ss fs)
rows-left wanted hive [] fs = refl
rows-left wanted hive (s ∷ ss) [] = refl
rows-left wanted None (s ∷ ss) (f ∷ fs) = ap (λ (n : ℕ). f.height + n) (rows-left wanted None ss fs)
rows-left wanted (Some []) (s ∷ ss) (f ∷ fs) = ap (λ (n : ℕ). f.height + n) (rows-left wanted (Some []) ss fs)
rows-left wanted (Some (h ∷ hs)) (s ∷ ss) (f ∷ fs) = ap (λ (n : ℕ). f.height + n) (rows-left wanted (Some hs) ss fs)

module _ (wanted : List Name) (a : Name) (i : has wanted a ≡ true) where
  -- a name that isn't asked isn't this one
  other : (b : Name) → has wanted b ≡ false → bytes_eq a b ≡ false
  other b e = false_from_ne_true (bytes_eq a b) (λ (q : bytes_eq a b ≡ true). both_ways (has wanted a) (ap (has wanted) (named a b q) ∙ e) i)

  hive_value-left : (part : Stats) → hive_value (left_part wanted part) a ≡ hive_value part a
  hive_value-left [] = refl
  hive_value-left (s ∷ part) = at (has wanted s.field.name) refl (hive_value-left part)
    where
      at : (t : Bool) → has wanted s.field.name ≡ t → hive_value (left_part wanted part) a ≡ hive_value part a → hive_value (cond t (s ∷ left_part wanted part) (left_part wanted part)) a ≡ cond (bytes_eq a s.field.name) (Some (value_of s.value)) (hive_value part a)
      at true e r = ap (cond (bytes_eq a s.field.name) (Some (value_of s.value))) r
      at false e r = rw (other s.field.name e) r

  path_value-left : (path : Option Name) (s : Source) → path_value (left_path wanted path) s a ≡ path_value path s a
  path_value-left None s = refl
  path_value-left (Some b) s = at (has wanted b) refl
    where
      at : (t : Bool) → has wanted b ≡ t → path_value (cond t (Some b) None) s a ≡ cond (bytes_eq a b) (Some (text (path_name s))) None
      at true e = refl
      at false e = rw (other b e) refl

  part_values-left : (path : Option Name) (s : Source) (h : Stats) (f : Frame) → part_values (left_path wanted path) (record { source = s; hive = left_part wanted h; rows = f }) a ≡ part_values path (record { source = s; hive = h; rows = f }) a
  part_values-left path s h f = ap₂ (λ (o u : Option Value). alike_or o f.height (alike_or u f.height (column_or f a))) (path_value-left path s) (hive_value-left h)

  turns-left : (path : Option Name) (hive : Option (List Stats)) (ss : List Source) (fs : List Frame) → values_in_turn (left_path wanted path) (parts_of (left_parts wanted hive) ss fs) a ≡ values_in_turn path (parts_of hive ss fs) a
  turns-left path hive [] fs = refl
  turns-left path hive (s ∷ ss) [] = refl
  turns-left path None (s ∷ ss) (f ∷ fs) = ap₂ (λ (x y : List Value). x ++ y) (part_values-left path s [] f) (turns-left path None ss fs)
  turns-left path (Some []) (s ∷ ss) (f ∷ fs) = ap₂ (λ (x y : List Value). x ++ y) (part_values-left path s [] f) (turns-left path (Some []) ss fs)
  turns-left path (Some (h ∷ hs)) (s ∷ ss) (f ∷ fs) = ap₂ (λ (x y : List Value). x ++ y) (part_values-left path s h f) (turns-left path (Some hs) ss fs)

  numbers-left : (row : Option RowIndex) (m n : ℕ) (xs ys : List Value) → m ≡ n → xs ≡ ys → numbers_or (left_row wanted row) m a xs ≡ numbers_or row n a ys
  numbers-left None m n xs ys e q = q
  numbers-left (Some row) m n xs ys e q = at (has wanted row.name) refl
    where
      at : (t : Bool) → has wanted row.name ≡ t → numbers_or (cond t (Some row) None) m a xs ≡ cond (bytes_eq a row.name) (row_numbers row.offset n) ys
      at true k = ap₂ (λ (h : ℕ) (vs : List Value). cond (bytes_eq a row.name) (row_numbers row.offset h) vs) e q
      at false k = q ∙ rw (other row.name k) refl

  -- an asked column has the same values
  pub values-left : (reads : List Name) (options : FileScanOptions) (hive : Option (List Stats)) (ss : List Source) (fs : List Frame) → scan_values (left_options wanted reads options) (parts_of (left_parts wanted hive) ss fs) a ≡ scan_values options (parts_of hive ss fs) a
  values-left reads options hive ss fs =
      numbers-left options.row_index (rows_in_turn (parts_of (left_parts wanted hive) ss fs)) (rows_in_turn (parts_of hive ss fs))
      (values_in_turn (left_path wanted options.include_file_paths) (parts_of (left_parts wanted hive) ss fs) a) (values_in_turn options.include_file_paths (parts_of hive ss fs) a)
      (rows-left wanted hive ss fs) (turns-left options.include_file_paths hive ss fs)

-- the frame of what is left agrees with the given one on the asked names
pub frames_agree : (wanted reads few given : List Name) (hive : Option (List Stats)) (options : FileScanOptions) (ss : List Source) (fs : List Frame) → AreAmong wanted few → AreAmong wanted given → Agree wanted (scan_frame few (left_options wanted reads options) (parts_of (left_parts wanted hive) ss fs)) (scan_frame given options (parts_of hive ss fs))
frames_agree wanted reads few given hive options ss fs in_few in_given =
    let ps = parts_of (left_parts wanted hive) ss fs in
    agree_tables wanted (rows_in_turn ps) (rows_in_turn (parts_of hive ss fs)) few given
    (scan_values (left_options wanted reads options) ps) (scan_values options (parts_of hive ss fs))
    (rows-left wanted hive ss fs) (λ a i. (in_few a i, in_given a i, values-left wanted a i reads options hive ss fs))
