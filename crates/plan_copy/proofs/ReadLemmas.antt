-- What the scans among some nodes read, with one node more.
use Rattle.std.proofs.Common.{◌≡◌, ℕ, ◌+◌, true, false, List, [], ◌∷◌, ◌++◌, map, take, Some, refl, ap, ◌∙◌, append-nil}
use Rattle.std.specs.Prelude.{filter}
use Rattle.std.specs.List.{slice_get}
use Rattle.std.proofs.lemmas.List.{map-append, take_more}
use Rattle.std.proofs.lemmas.List.Elements.{filter-append}
use Rattle.std.proofs.lemmas.Option.{get_or_from_slice_get, slice_get_within}
use Rattle.plan_ir.specs.declared.ir.IR.{IR}
use Rattle.plan_ir.specs.Reads.{is_scan, reads_of, scan_reads_of}

take-next : {A : Type 0} (xs : List A) (i : ℕ) (x : A) → slice_get xs i ≡ Some x → take (i + 1) xs ≡ take i xs ++ x ∷ []
take-next xs i x e = take_more xs i x (slice_get_within xs i x e) ∙ ap (λ y. take i xs ++ y ∷ []) (get_or_from_slice_get xs i x x e)

-- the scans among nodes one after the other
scan_reads-append : (ps qs : List IR) → scan_reads_of (ps ++ qs) ≡ scan_reads_of ps ++ scan_reads_of qs
scan_reads-append ps qs = ap (map reads_of) (filter-append is_scan ps qs) ∙ map-append reads_of (filter is_scan ps) (filter is_scan qs)

-- one more scan
pub scan_reads-more : (lp : List IR) (i : ℕ) (p : IR) → slice_get lp i ≡ Some p → is_scan p ≡ true → scan_reads_of (take (i + 1) lp) ≡ scan_reads_of (take i lp) ++ reads_of p ∷ []
scan_reads-more lp i p e scan =
    ap scan_reads_of (take-next lp i p e)
    ∙ scan_reads-append (take i lp) (p ∷ [])
    ∙ ap (λ (l : List (List (List ℕ))). scan_reads_of (take i lp) ++ l) (rw scan refl)

-- one more node of another kind
pub scan_reads-same : (lp : List IR) (i : ℕ) (p : IR) → slice_get lp i ≡ Some p → is_scan p ≡ false → scan_reads_of (take (i + 1) lp) ≡ scan_reads_of (take i lp)
scan_reads-same lp i p e other =
    ap scan_reads_of (take-next lp i p e)
    ∙ scan_reads-append (take i lp) (p ∷ [])
    ∙ ap (λ (l : List (List (List ℕ))). scan_reads_of (take i lp) ++ l) (rw other refl)
    ∙ append-nil (scan_reads_of (take i lp))
