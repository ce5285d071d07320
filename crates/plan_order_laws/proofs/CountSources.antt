-- Scans put together as one: its sources are theirs, in order, with as many rows, and they fit.
use Rattle.std.proofs.Common.{◌≡◌, ℕ, ◌+◌, Bool, true, false, List, [], ◌∷◌, ◌++◌, map, Option, None, Some, refl, sym, ap, ◌∙◌, subst, arith}
use Rattle.std.specs.List.{AllByRecursion}
use Rattle.std.proofs.lemmas.List.{append-nil, append_assoc, map-append}
use Rattle.plan_tree.specs.Rose.{Roses, rose, no_roses, more}
use Rattle.plan_core.specs.Columns.{Columns}
use Rattle.plan_scan.specs.Source.{file, buffer}
use Rattle.plan_scan.specs.declared.file_scan.FileScan.{FileScan}
use Rattle.plan_scan.specs.declared.sources.ScanSources.{ScanSources}
use Rattle.plan_scan.specs.declared.sources.ScanSources.TheVariants.{Paths, Buffers}
use Rattle.plan_ir.specs.Plans.{Op, scan, simple_projection, union, Plan}
use Rattle.plan_meaning.specs.Contents.{Contents, Fits, FitsAll, HasFrame, Source, frame_or, place_of, sources_of}
use Rattle.plan_meaning.specs.Mapped.{rows_together}
use Rattle.plan_meaning.specs.Typing.{reader_columns}
use Rattle.plan_order_laws.specs.Counted.{HaveFrames, Scans, all_sources, counted_each, counted_scans, in_one, rows_of, same_kind, together, with_scan}
use Rattle.plan_order_laws.proofs.CountedRows.{Parts, parts}

-- The sources of scans together

one_list : (s t z : ScanSources) → in_one s t ≡ Some z → sources_of z ≡ sources_of s ++ sources_of t
one_list (Paths ps) (Paths qs) z e =
    let is : z ≡ Paths (ps ++ qs) = cc in
    ap sources_of is ∙ ap (map place_of) (map-append file ps qs) ∙ map-append place_of (map file ps) (map file qs)
one_list (Buffers ms) (Buffers ns) z e =
    let is : z ≡ Buffers (ms ++ ns) = cc in
    ap sources_of is ∙ ap (map place_of) (map-append buffer ms ns) ∙ map-append place_of (map buffer ms) (map buffer ns)
one_list (Paths ps) (Buffers ns) z e = cc
one_list (Buffers ms) (Paths qs) z e = cc

-- what a scan is put together with, and the sources of both
record Added (x : ScanSources × FileScan) (o : Option (ScanSources × FileScan)) (z : ScanSources × FileScan) : Type 0 where
  other : ScanSources × FileScan
  there : o ≡ Some other
  is : sources_of z.0 ≡ sources_of x.0 ++ sources_of other.0

added : (x : ScanSources × FileScan) (o : Option (ScanSources × FileScan)) (z : ScanSources × FileScan) → with_scan x o ≡ Some z → Added x o z
added x None z e = cc
added x (Some y) z e = at (same_kind x.1 y.1) refl (in_one x.0 y.0) refl
  where
    at : (b : Bool) → same_kind x.1 y.1 ≡ b → (o : Option ScanSources) → in_one x.0 y.0 ≡ o → Added x (Some y) z
    at false f o g = cc
    at true f None g = cc
    at true f (Some s) g =
        let is : z ≡ (s, x.1) = cc in
        record { other = y; there = refl; is = ap (λ (w : ScanSources × FileScan). sources_of w.0) is ∙ one_list x.0 y.0 s g }

pub together_sources : (xs : Scans) (z : ScanSources × FileScan) → together xs ≡ Some z → sources_of z.0 ≡ all_sources xs
together_sources [] z e = cc
together_sources (x ∷ []) z e =
    let is : z ≡ x = cc in
    ap (λ (w : ScanSources × FileScan). sources_of w.0) is ∙ sym (append-nil (sources_of x.0))
together_sources (x ∷ y ∷ xs) z e =
    let a = added x (together (y ∷ xs)) z e in
    a.is ∙ ap (λ (l : List Source). sources_of x.0 ++ l) (together_sources (y ∷ xs) a.other a.there)

-- They have as many rows

frames_append : (c : Contents) (xs ys : List Source) → rows_together (map (frame_or c) (xs ++ ys)) ≡ rows_together (map (frame_or c) xs) + rows_together (map (frame_or c) ys)
frames_append c [] ys = omega arith
frames_append c (x ∷ xs) ys = let e = frames_append c xs ys in omega (arith, e)

pub sources_rows : (c : Contents) (xs : Scans) → rows_together (map (frame_or c) (all_sources xs)) ≡ rows_of c xs
sources_rows c [] = refl
sources_rows c (x ∷ xs) =
    frames_append c (sources_of x.0) (all_sources xs) ∙ ap (λ (n : ℕ). rows_together (map (frame_or c) (sources_of x.0)) + n) (sources_rows c xs)

-- They have frames

any_frames : (c : Contents) (cs : Columns) (xs : List Source) → AllByRecursion (HasFrame c cs) xs → AllByRecursion (HasFrame c []) xs
any_frames c cs [] h = tt
any_frames c cs (x ∷ xs) h = (record { given = h.0.given; found = h.0.found; formed = h.0.formed; holds = tt }, any_frames c cs xs h.1)

join_frames : (c : Contents) (xs ys : List Source) → AllByRecursion (HasFrame c []) xs → AllByRecursion (HasFrame c []) ys → AllByRecursion (HasFrame c []) (xs ++ ys)
join_frames c [] ys h k = k
join_frames c (x ∷ xs) ys h k = (h.0, join_frames c xs ys h.1 k)

sources_append : (xs ys : Scans) → all_sources (xs ++ ys) ≡ all_sources xs ++ all_sources ys
sources_append [] ys = refl
sources_append (x ∷ xs) ys = ap (λ (l : List Source). sources_of x.0 ++ l) (sources_append xs ys) ∙ sym (append_assoc (sources_of x.0) (all_sources xs) (all_sources ys))

both_fit : (c : Contents) (o p : Option Scans) (zs : Scans) → Parts o p zs → ((xs : Scans) → o ≡ Some xs → HaveFrames c xs) → ((ys : Scans) → p ≡ Some ys → HaveFrames c ys) → HaveFrames c zs
both_fit c o p zs q g h =
    subst (λ (l : List Source). AllByRecursion (HasFrame c []) l) (sym (ap all_sources q.is ∙ sources_append q.xs q.ys))
    (join_frames c (all_sources q.xs) (all_sources q.ys) (g q.xs q.first) (h q.ys q.second))

mutual
  -- each source that is counted has a frame where contents fit the plan
  pub counted_fit : (c : Contents) (p : Plan) (xs : Scans) → counted_scans p ≡ Some xs → Fits c p → HaveFrames c xs
  counted_fit c (rose n (scan sources info hive predicate output kind options) ts) xs e fit =
      let is : xs ≡ (sources, kind) ∷ [] = cc in
      subst (HaveFrames c) (sym is) (join_frames c (sources_of sources) [] (any_frames c (reader_columns info) (sources_of sources) fit.0) tt)
  counted_fit c (rose n (union options) ts) xs e fit = each_fit c ts xs e fit.1
  counted_fit c (rose n op ts) xs e fit = cc

  each_fit : (c : Contents) (ts : Roses (Unit {0}) Op) (xs : Scans) → counted_each ts ≡ Some xs → FitsAll c ts → HaveFrames c xs
  each_fit c no_roses xs e fit = let is : xs ≡ [] = cc in subst (HaveFrames c) (sym is) tt
  each_fit c (more (rose n (simple_projection cs) (more (rose k o us) no_roses)) rest) xs e fit =
      both_fit c (counted_scans (rose k o us)) (counted_each rest) xs (parts (counted_scans (rose k o us)) (counted_each rest) xs e)
      (λ ys q. counted_fit c (rose k o us) ys q (fit.1.0, fit.1.1))
      (λ ys q. each_fit c rest ys q fit.2)
  each_fit c (more (rose n op us) rest) xs e fit =
      both_fit c (counted_scans (rose n op us)) (counted_each rest) xs (parts (counted_scans (rose n op us)) (counted_each rest) xs e)
      (λ ys q. counted_fit c (rose n op us) ys q (fit.0, fit.1))
      (λ ys q. each_fit c rest ys q fit.2)
