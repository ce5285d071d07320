-- Numbers.
use Rattle.std.proofs.Common.{◌≡◌, ◌∙◌, ◌++◌, ◌+◌, ℕ, [], ◌∷◌, map, pos, refl, sym, ap, add-one}
use Rattle.std.specs.Int.{w64, int_wrap, cast_signed}
use Rattle.std.specs.List.{range_with_len}
use Rattle.std.proofs.lemmas.List.{map-append}
use Rattle.plan_frame.specs.Reshaped.{row_numbers}
use Rattle.plan_frame.specs.Values.{Value, whole}
use Rattle.plan_value.proofs.PlaceLemmas.{range-more}
use Prim.Native.Nat.{◌^◌, ◌%◌}
use mir.Val.{bits}

-- a number that is cut to 64 bits is wrapped
pub cut-wrapped : (n : ℕ) → cast_signed w64 (n % 2 ^ bits w64) ≡ int_wrap w64 (pos n)
unfolding int_wrap
cut-wrapped n = refl

-- the numbers of one row more
pub numbers-next : (first row : ℕ) → row_numbers first row ++ whole (int_wrap w64 (pos (first + row))) ∷ [] ≡ row_numbers first (row + 1)
numbers-next first row =
    let number : ℕ → Value = λ (i : ℕ). whole (int_wrap w64 (pos i)) in
    sym (ap (row_numbers first) (add-one row) ∙ ap (map number) (range-more first row) ∙ map-append number (range_with_len first row) ((first + row) ∷ []))
