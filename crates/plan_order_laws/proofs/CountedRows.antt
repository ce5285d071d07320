-- A plan whose rows can be counted has as many as its sources.
use Rattle.std.proofs.Common.{◌≡◌, ℕ, ◌+◌, List, [], ◌∷◌, ◌++◌, map, Option, None, Some, refl, sym, ap, ap₂, ◌∙◌, arith}
use Rattle.std.specs.List.{range_with_len}
use Rattle.std.proofs.lemmas.List.FromFn.{length-range_with_len}
use Rattle.std.proofs.lemmas.List.Sorted.{length_permutation}
use Rattle.plan_tree.specs.Rose.{Roses, rose, no_roses, more}
use Rattle.plan_scan.specs.Stats.{Stats}
use Rattle.plan_scan.specs.Source.{Source as ScanSource}
use Rattle.plan_scan.specs.Sources.{sources_of as scan_sources}
use Rattle.plan_scan.specs.declared.file_scan.FileScan.{FileScan}
use Rattle.plan_scan.specs.declared.sources.ScanSources.{ScanSources}
use Rattle.plan_file_scan.specs.FileFrames.{parts_of, rows_in_turn, scan_frame}
use Rattle.plan_core.specs.Columns.{Columns}
use Rattle.plan_core.specs.declared.options.FileScanOptions.{FileScanOptions}
use Rattle.plan_expr.specs.Leaves.{Name}
use Rattle.plan_frame.specs.Frames.{Frame, in_turn, total_height}
use Rattle.plan_ir.specs.Plans.{Op, scan, simple_projection, union, Plan}
use Rattle.plan_meaning.specs.Contents.{Contents, frame_or, frames_of, place_of}
use Rattle.plan_meaning.specs.Mapped.{rows_together}
use Rattle.plan_meaning.specs.Steps.{May, MayAll, OnNone, Step}
use Rattle.plan_order_laws.specs.Counted.{Scans, both_scans, counted_each, counted_scans, rows_of}

parts_high : (c : Contents) (hive : Option (List Stats)) (ss : List ScanSource) → rows_in_turn (parts_of hive ss (map (frame_or c) (map place_of ss))) ≡ rows_together (map (frame_or c) (map place_of ss))
parts_high c hive [] = refl
parts_high c None (s ∷ ss) = ap (λ (n : ℕ). (frame_or c (place_of s)).height + n) (parts_high c None ss)
parts_high c (Some []) (s ∷ ss) = ap (λ (n : ℕ). (frame_or c (place_of s)).height + n) (parts_high c (Some []) ss)
parts_high c (Some (h ∷ hs)) (s ∷ ss) = ap (λ (n : ℕ). (frame_or c (place_of s)).height + n) (parts_high c (Some hs) ss)

turn_high : (fs : List Frame) → (in_turn fs).height ≡ total_height fs
turn_high [] = refl
turn_high (f ∷ []) = omega arith
turn_high (f ∷ g ∷ fs) = ap (λ (n : ℕ). f.height + n) (turn_high (g ∷ fs))

rows_append : (c : Contents) (xs ys : Scans) → rows_of c (xs ++ ys) ≡ rows_of c xs + rows_of c ys
rows_append c [] ys = omega arith
rows_append c (x ∷ xs) ys = let e = rows_append c xs ys in omega (arith, e)

pub record Parts (o p : Option Scans) (zs : Scans) : Type 0 where
  pub xs : Scans
  pub ys : Scans
  pub first : o ≡ Some xs
  pub second : p ≡ Some ys
  pub is : zs ≡ xs ++ ys

pub parts : (o p : Option Scans) (zs : Scans) → both_scans o p ≡ Some zs → Parts o p zs
parts None p zs e = cc
parts (Some xs) None zs e = cc
parts (Some xs) (Some ys) zs e = record { xs = xs; ys = ys; first = refl; second = refl; is = cc }

together_high : (c : Contents) (f : Frame) (fs : List Frame) (o p : Option Scans) (zs : Scans) → Parts o p zs → ((xs : Scans) → o ≡ Some xs → f.height ≡ rows_of c xs) → ((ys : Scans) → p ≡ Some ys → total_height fs ≡ rows_of c ys) → f.height + total_height fs ≡ rows_of c zs
together_high c f fs o p zs q g h = ap₂ (λ (m n : ℕ). m + n) (g q.xs q.first) (h q.ys q.second) ∙ sym (rows_append c q.xs q.ys) ∙ ap (rows_of c) (sym q.is)

scan_high : (c : Contents) (sources : ScanSources) (hive : Option (List Stats)) (kind : FileScan) (names : List Name) (options : FileScanOptions) (f : Frame) (gs : List Frame) → OnNone gs (f ≡ scan_frame names options (parts_of hive (scan_sources sources) (frames_of c sources))) → f.height ≡ rows_of c ((sources, kind) ∷ [])
scan_high c sources hive kind names options f [] st = ap (λ (x : Frame). x.height) st ∙ parts_high c hive (scan_sources sources) ∙ zero_more (rows_together (frames_of c sources))
  where
    zero_more : (n : ℕ) → n ≡ n + 0
    zero_more n = omega arith
scan_high c sources hive kind names options f (g ∷ gs) st = absurd st

passed : (c : Contents) (cs : Columns) (t : Plan) (f : Frame) (n : ℕ) → (gs : List Frame) → MayAll c (more t no_roses) gs → Step c (simple_projection cs) gs f → ((g : Frame) → May c t g → g.height ≡ n) → f.height ≡ n
passed c cs (rose k o us) f n (g ∷ []) m st by = ap (λ (x : Frame). x.height) st ∙ by g m.0
passed c cs (rose k o us) f n [] m st by = absurd m
passed c cs (rose k o us) f n (g ∷ g' ∷ gs) m st by = absurd st

mutual
  pub counted_high : (c : Contents) (p : Plan) (f : Frame) (xs : Scans) → counted_scans p ≡ Some xs → May c p f → f.height ≡ rows_of c xs
  counted_high c (rose n (scan sources info hive predicate output kind options) ts) f xs e m =
      let is : xs ≡ (sources, kind) ∷ [] = cc in
      scan_high c sources hive kind _ options f m.0 m.2 ∙ ap (rows_of c) (sym is)
  counted_high c (rose n (union options) ts) f xs e m =
      ap (λ (x : Frame). x.height) m.2.2 ∙ length_permutation (range_with_len 0 (in_turn m.0).height) m.2.0 m.2.1.permutes ∙ length-range_with_len 0 (in_turn m.0).height ∙ turn_high m.0 ∙ each_high c ts m.0 xs e m.1
  counted_high c (rose n op ts) f xs e m = cc

  each_high : (c : Contents) (ts : Roses (Unit {0}) Op) (fs : List Frame) (xs : Scans) → counted_each ts ≡ Some xs → MayAll c ts fs → total_height fs ≡ rows_of c xs
  each_high c no_roses [] xs e m = let is : xs ≡ [] = cc in ap (rows_of c) (sym is)
  each_high c no_roses (f ∷ fs) xs e m = absurd m
  each_high c (more (rose n (simple_projection cs) (more (rose k o us) no_roses)) rest) (f ∷ fs) xs e m =
      together_high c f fs (counted_scans (rose k o us)) (counted_each rest) xs (parts (counted_scans (rose k o us)) (counted_each rest) xs e)
      (λ ys q. passed c cs (rose k o us) f (rows_of c ys) m.0.0 m.0.1 m.0.2 (λ g a. counted_high c (rose k o us) g ys q a))
      (λ ys q. each_high c rest fs ys q m.1)
  each_high c (more (rose n op us) rest) [] xs e m = absurd m
  each_high c (more (rose n op us) rest) (f ∷ fs) xs e m =
      together_high c f fs (counted_scans (rose n op us)) (counted_each rest) xs (parts (counted_scans (rose n op us)) (counted_each rest) xs e)
      (λ ys q. counted_high c (rose n op us) f ys q m.0)
      (λ ys q. each_high c rest fs ys q m.1)
