-- One check on each item of a list, and columns that differ.
use Rattle.std.proofs.Common.{◌≡◌, ℕ, suc, ◌+◌, Bool, List, [], ◌∷◌, ◌++◌, length, None, refl, sym, ap, ap₂, ◌∙◌, arith, add-zero}
use Rattle.plan_core.specs.declared.error.At.{At}
use Rattle.plan_core.specs.declared.error.PolarsError.{PolarsError}
use Rattle.plan_core.specs.declared.arena.Node.{Node}
use Rattle.plan_core.specs.Columns.{Columns, HasDistinctNames, names_of}
use Rattle.plan_meaning.specs.Checks.{Check, check, each}
use Rattle.plan_meaning.specs.Typing.{differ_checks, first_fault}
use Rattle.plan_meaning.proofs.JoinLemmas.{distinct_differ}

-- the items of one list after those of another
pub each-append : {A : Type 0} (fault : At → PolarsError) (k : ℕ) (holds : A → Bool) (xs ys : List A) → each fault k holds (xs ++ ys) ≡ each fault k holds xs ++ each fault (k + length xs) holds ys
each-append fault k holds [] ys = ap (λ (j : ℕ). each fault j holds ys) (sym (add-zero k))
each-append fault k holds (x ∷ xs) ys =
    let here : suc k + length xs ≡ k + length (x ∷ xs) = omega arith in
    ap (λ (cs : List Check). check fault k (holds x) ∷ cs) (each-append fault (suc k) holds xs ys ∙ ap (λ (j : ℕ). each fault (suc k) holds xs ++ each fault j holds ys) here)

-- tests that say the same of each item are checked alike
pub each-same : {A : Type 0} (fault : At → PolarsError) (k : ℕ) (f g : A → Bool) (xs : List A) → ((x : A) → f x ≡ g x) → each fault k f xs ≡ each fault k g xs
each-same fault k f g [] h = refl
each-same fault k f g (x ∷ xs) h = ap₂ (λ (b : Bool) (cs : List Check). check fault k b ∷ cs) (h x) (each-same fault (suc k) f g xs h)

-- the check that columns differ tells no fault where no name comes twice
pub differ_none : (n : Node) (cs : Columns) → HasDistinctNames cs → first_fault n (differ_checks cs) ≡ None
unfolding differ_checks
differ_none n cs d = rw (distinct_differ (names_of cs) d) refl
