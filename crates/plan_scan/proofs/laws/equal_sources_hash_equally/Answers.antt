use Rattle.std.proofs.Common.{◌≡◌, ℕ, Bool, true, false, ◌&&◌, List, [], ◌∷◌, refl, ap₂}
use Rattle.std.specs.Cmp.Lexicographic.{pointwise}
use Rattle.std.specs.Str.{bytes_eq}
use Rattle.std.specs.Prelude.{nat_eq}
use Rattle.std.proofs.lemmas.Slice.Eq.{bytes_eq-Decides}
use borrow.Author.Tests.{eqb-true}
use Rattle.plan_scan.specs.declared.sources.ScanSources.TheVariants.{Paths, Buffers}
use Rattle.plan_scan.proofs.laws.equal_sources_hash_equally.Goals as goal

both : (a b : Bool) → (a && b) ≡ true → (a ≡ true) × (b ≡ true)
both true b h = (refl, h)
both false b h = cc

same_texts : (xs ys : List (List ℕ)) → pointwise bytes_eq xs ys ≡ true → xs ≡ ys
same_texts [] [] h = refl
same_texts [] (y ∷ ys) h = cc
same_texts (x ∷ xs) [] h = cc
same_texts (x ∷ xs) (y ∷ ys) h = let p = both (bytes_eq x y) (pointwise bytes_eq xs ys) h in ap₂ (λ (z : List ℕ) (zs : List (List ℕ)). z ∷ zs) ((bytes_eq-Decides x y).0 p.0) (same_texts xs ys p.1)

same_numbers : (xs ys : List ℕ) → pointwise nat_eq xs ys ≡ true → xs ≡ ys
same_numbers [] [] h = refl
same_numbers [] (y ∷ ys) h = cc
same_numbers (x ∷ xs) [] h = cc
same_numbers (x ∷ xs) (y ∷ ys) h = let p = both (nat_eq x y) (pointwise nat_eq xs ys) h in ap₂ (λ (z : ℕ) (zs : List ℕ). z ∷ zs) (eqb-true x y p.0) (same_numbers xs ys p.1)

pub returns : goal.returns
returns c (Paths xs) (Paths ys) h = rw (same_texts xs ys h) refl
returns c (Paths xs) (Buffers ys) h = cc
returns c (Buffers xs) (Paths ys) h = cc
returns c (Buffers xs) (Buffers ys) h = rw (same_numbers xs ys h) refl
