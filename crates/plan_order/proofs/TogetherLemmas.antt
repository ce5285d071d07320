-- Scans as one over all their sources.
use Rattle.std.proofs.Common.{◌≡◌, ◌∙◌, ◌&&◌, Bor, map, Bool, true, false, cond, ℕ, List, [], ◌∷◌, append-nil, Option, Some, None, refl, sym, ap, ap₂}
use Rattle.std.specs.List.{list_all, slice_get}
use Rattle.std.specs.Option.{option_or}
use Rattle.std.specs.Prelude.{option_map}
use Rattle.plan_scan.specs.declared.file_scan.FileScan.{FileScan}
use Rattle.plan_scan.specs.declared.file_scan.FileScan.TheVariants as kinds
use Rattle.plan_scan.specs.declared.sources.ScanSources.{ScanSources}
use Rattle.plan_scan.specs.declared.sources.ScanSources.TheVariants.{Paths, Buffers}
use Rattle.plan_expr.specs.Leaves.{Name}
use Rattle.plan_order_laws.specs.Counted.{Scans, in_one, of_kind, same_kind, together, with_scan}
use Rattle.plan_order.specs.Counts.{all_numbers, all_paths, numbers_in, paths_in}

same-self : (k : FileScan) → same_kind k k ≡ true
same-self kinds.Csv = refl
same-self kinds.NDJson = refl
same-self kinds.Parquet = refl
same-self kinds.Ipc = refl

same-is : (k l : FileScan) → same_kind k l ≡ true → k ≡ l
same-is kinds.Csv kinds.Csv e = refl
same-is kinds.NDJson kinds.NDJson e = refl
same-is kinds.Parquet kinds.Parquet e = refl
same-is kinds.Ipc kinds.Ipc e = refl
same-is kinds.Csv kinds.NDJson e = cc
same-is kinds.Csv kinds.Parquet e = cc
same-is kinds.Csv kinds.Ipc e = cc
same-is kinds.NDJson kinds.Csv e = cc
same-is kinds.NDJson kinds.Parquet e = cc
same-is kinds.NDJson kinds.Ipc e = cc
same-is kinds.Parquet kinds.Csv e = cc
same-is kinds.Parquet kinds.NDJson e = cc
same-is kinds.Parquet kinds.Ipc e = cc
same-is kinds.Ipc kinds.Csv e = cc
same-is kinds.Ipc kinds.NDJson e = cc
same-is kinds.Ipc kinds.Parquet e = cc

-- all scans are of one format
abbrev are_of : FileScan → Scans → Bool
are_of k xs = list_all (λ (q : ScanSources × FileScan). same_kind k q.1) xs

-- the sources of scans, if all are paths or all are buffers
abbrev sources_in : Scans → Option ScanSources
sources_in xs = option_or (option_map (λ (ps : List Name). Paths ps) (paths_in xs)) (option_map (λ (ns : List ℕ). Buffers ns) (numbers_in xs))

-- sources with others behind them
abbrev before_all : ScanSources → Option ScanSources → Option ScanSources
before_all s None = None
before_all s (Some t) = in_one s t

sources-step : (x y : ScanSources × FileScan) (xs : Scans) → sources_in (x ∷ y ∷ xs) ≡ before_all x.0 (sources_in (y ∷ xs))
sources-step x y xs = at x.0 y.0 refl refl
  where
    at : (s t : ScanSources) → x.0 ≡ s → y.0 ≡ t → sources_in (x ∷ y ∷ xs) ≡ before_all x.0 (sources_in (y ∷ xs))
    at s t e f = rw (e, f) (go s t (paths_in xs) (numbers_in xs))
      where
        go : (a b : ScanSources) (ps : Option (List Name)) (ns : Option (List ℕ)) → option_or (option_map (λ (p : List Name). Paths p) (all_paths a (all_paths b ps))) (option_map (λ (n : List ℕ). Buffers n) (all_numbers a (all_numbers b ns))) ≡ before_all a (option_or (option_map (λ (p : List Name). Paths p) (all_paths b ps)) (option_map (λ (n : List ℕ). Buffers n) (all_numbers b ns)))
        go (Paths a) (Paths b) None ns = refl
        go (Paths a) (Paths b) (Some ps) ns = refl
        go (Paths a) (Buffers b) ps None = refl
        go (Paths a) (Buffers b) ps (Some ns) = refl
        go (Buffers a) (Paths b) None ns = refl
        go (Buffers a) (Paths b) (Some ps) ns = refl
        go (Buffers a) (Buffers b) ps None = refl
        go (Buffers a) (Buffers b) ps (Some ns) = refl

split : (x : ScanSources × FileScan) (xs : Scans) → together (x ∷ xs) ≡ cond (are_of x.1 (x ∷ xs)) (of_kind x.1 (sources_in (x ∷ xs))) None
split x [] = rw (same-self x.1) (at x.0)
  where
    at : (s : ScanSources) → Some (s, x.1) ≡ of_kind x.1 (option_or (option_map (λ (p : List Name). Paths p) (all_paths s (Some []))) (option_map (λ (n : List ℕ). Buffers n) (all_numbers s (Some []))))
    at (Paths ps) = ap (λ (l : List Name). Some (Paths l, x.1)) (sym (append-nil ps))
    at (Buffers ns) = ap (λ (l : List ℕ). Some (Buffers l, x.1)) (sym (append-nil ns))
split x (y ∷ xs) =
    ap (with_scan x) (split y xs)
    ∙ rw (same-self x.1, same-self y.1, sources-step x y xs) (at (same_kind x.1 y.1) refl)
  where
    step : (b a : Bool) (o : Option ScanSources) → same_kind x.1 y.1 ≡ b → with_scan x (cond a (of_kind y.1 o) None) ≡ cond (b && a) (of_kind x.1 (before_all x.0 o)) None
    step true true None e = refl
    step true true (Some s) e = ap (λ (t : Bool). cond t (of_kind x.1 (in_one x.0 s)) None) e
    step true false o e = refl
    step false true None e = refl
    step false true (Some s) e = ap (λ (t : Bool). cond t (of_kind x.1 (in_one x.0 s)) None) e
    step false false o e = refl

    at : (b : Bool) → same_kind x.1 y.1 ≡ b → with_scan x (cond (are_of y.1 xs) (of_kind y.1 (sources_in (y ∷ xs))) None) ≡ cond (same_kind x.1 y.1 && are_of x.1 xs) (of_kind x.1 (before_all x.0 (sources_in (y ∷ xs)))) None
    at true e =
        let one : x.1 ≡ y.1 = same-is x.1 y.1 e in
        step true (are_of y.1 xs) (sources_in (y ∷ xs)) e
        ∙ ap₂ (λ (s t : Bool). cond (s && t) (of_kind x.1 (before_all x.0 (sources_in (y ∷ xs)))) None) (sym e) (ap (λ (k : FileScan). are_of k xs) (sym one))
    at false e =
        step false (are_of y.1 xs) (sources_in (y ∷ xs)) e
        ∙ ap (λ (s : Bool). cond (s && are_of x.1 xs) (of_kind x.1 (before_all x.0 (sources_in (y ∷ xs)))) None) (sym e)

pub together-is : (xs : Scans) (x : ScanSources × FileScan) → slice_get xs 0 ≡ Some x → together xs ≡ cond (are_of x.1 xs) (of_kind x.1 (sources_in xs)) None
together-is [] x e = cc
together-is (y ∷ xs) x e =
    let same : y ≡ x = cc in
    split y xs ∙ ap (λ (q : ScanSources × FileScan). cond (are_of q.1 (y ∷ xs)) (of_kind q.1 (sources_in (y ∷ xs))) None) same

pub other-kinds : (xs : Scans) (x : ScanSources × FileScan) → slice_get xs 0 ≡ Some x → list_all (λ (q : ScanSources × FileScan). same_kind x.1 q.1) xs ≡ false → together xs ≡ None
other-kinds xs x e no_ = together-is xs x e ∙ ap (λ (b : Bool). cond b (of_kind x.1 (sources_in xs)) None) no_

pub with-paths : (xs : Scans) (x : ScanSources × FileScan) (ps : List Name) → slice_get xs 0 ≡ Some x → list_all (λ (q : ScanSources × FileScan). same_kind x.1 q.1) xs ≡ true → paths_in xs ≡ Some ps → together xs ≡ Some (Paths ps, x.1)
with-paths xs x ps e all has =
    together-is xs x e
    ∙ ap₂ (λ (b : Bool) (o : Option (List Name)). cond b (of_kind x.1 (option_or (option_map (λ (p : List Name). Paths p) o) (option_map (λ (n : List ℕ). Buffers n) (numbers_in xs)))) None) all has

pub with-buffers : (xs : Scans) (x : ScanSources × FileScan) (o : Option (List ℕ)) → slice_get xs 0 ≡ Some x → list_all (λ (q : ScanSources × FileScan). same_kind x.1 q.1) xs ≡ true → paths_in xs ≡ None → numbers_in xs ≡ o → together xs ≡ of_kind x.1 (option_map (λ (n : List ℕ). Buffers n) o)
with-buffers xs x o e all none has =
    together-is xs x e
    ∙ ap₂ (λ (b : Bool) (p : Option (List Name)). cond b (of_kind x.1 (option_or (option_map (λ (l : List Name). Paths l) p) (option_map (λ (n : List ℕ). Buffers n) (numbers_in xs)))) None) all none
    ∙ ap (λ (m : Option (List ℕ)). of_kind x.1 (option_map (λ (n : List ℕ). Buffers n) m)) has

-- scans that are lent
abbrev pub lent : Bor ScanSources × FileScan → ScanSources × FileScan
lent q = (q.0.now, q.1)

pub all-lent : (k : FileScan) (qs : List (Bor ScanSources × FileScan)) → list_all (λ (q : Bor ScanSources × FileScan). same_kind k q.1) qs ≡ list_all (λ (q : ScanSources × FileScan). same_kind k q.1) (map lent qs)
all-lent k [] = refl
all-lent k (q ∷ qs) = ap (λ (b : Bool). same_kind k q.1 && b) (all-lent k qs)

pub first-lent : (qs : List (Bor ScanSources × FileScan)) (q : Bor ScanSources × FileScan) → slice_get qs 0 ≡ Some q → slice_get (map lent qs) 0 ≡ Some (lent q)
first-lent [] q e = cc
first-lent (r ∷ qs) q e = let same : r ≡ q = cc in ap (λ (x : Bor ScanSources × FileScan). Some (lent x)) same
