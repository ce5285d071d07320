-- The names of hive columns.
use Rattle.std.proofs.Common.{◌≡◌, ℕ, zero, suc, List, [], ◌∷◌, take, Some, refl, ap}
use Rattle.std.specs.List.{slice_get}
use Rattle.plan_hive.specs.Parts.{Text, HivePart, part_names}

-- the names of the first columns
pub names-take : (parts : List HivePart) (i : ℕ) → part_names (take i parts) ≡ take i (part_names parts)
names-take [] zero = refl
names-take [] (suc i) = refl
names-take (p ∷ parts) zero = refl
names-take (p ∷ parts) (suc i) = ap (λ (x : List Text). p.0 ∷ x) (names-take parts i)

pub name-at : (parts : List HivePart) (i : ℕ) (p : HivePart) → slice_get parts i ≡ Some p → slice_get (part_names parts) i ≡ Some p.0
name-at [] i p e = cc
name-at (q ∷ parts) zero p e = let same : q ≡ p = cc in ap (λ (x : HivePart). Some x.0) same
name-at (q ∷ parts) (suc i) p e = name-at parts i p e
