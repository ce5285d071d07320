-- Two cells put together row by row, of a type and as high as they are.
use Rattle.std.proofs.Common.{◌≡◌, ℕ, suc, List, [], ◌∷◌, map, length, refl, sym, ap, ◌∙◌, arith}
use Rattle.plan_core.specs.declared.data_type.DataType.{DataType}
use Rattle.plan_frame.specs.Values.{Value, IsOf, AllOf}
use Rattle.plan_frame.specs.Meaning.{Cell, one, many, CellHas, zip_by, spread}
use Rattle.plan_frame.proofs.FrameLemmas.{length-map}

module _ (i j t : DataType) (f : Value → Value → Value) (by : (x y : Value) → IsOf i x → IsOf j y → IsOf t (f x y)) where
  left_of : (x : Value) → IsOf i x → (ys : List Value) → AllOf j ys → AllOf t (map (f x) ys)
  left_of x a [] b = tt
  left_of x a (y ∷ ys) b = (by x y a b.0, left_of x a ys b.1)

  right_of : (y : Value) → IsOf j y → (xs : List Value) → AllOf i xs → AllOf t (map (λ x. f x y) xs)
  right_of y b [] a = tt
  right_of y b (x ∷ xs) a = (by x y a.0 b, right_of y b xs a.1)

  zip_of : (xs ys : List Value) → AllOf i xs → AllOf j ys → AllOf t (zip_by f xs ys)
  zip_of (x ∷ xs) (y ∷ ys) a b = (by x y a.0 b.0, zip_of xs ys a.1 b.1)
  zip_of [] ys a b = tt
  zip_of (x ∷ xs) [] a b = tt

  length-zip_by : (xs ys : List Value) → length xs ≡ length ys → length (zip_by f xs ys) ≡ length xs
  length-zip_by [] [] e = refl
  length-zip_by (x ∷ xs) (y ∷ ys) e = ap suc (length-zip_by xs ys (omega arith))
  length-zip_by [] (y ∷ ys) e = refl
  length-zip_by (x ∷ xs) [] e = absurd (omega arith)

  pub spread_has : (h : ℕ) (c d : Cell) → CellHas i h c → CellHas j h d → CellHas t h (spread f c d)
  spread_has h (one x) (one y) a b = by x y a b
  spread_has h (one x) (many ys) a b = (length-map (f x) ys ∙ b.0, left_of x a ys b.1)
  spread_has h (many xs) (one y) a b = (length-map (λ x. f x y) xs ∙ a.0, right_of y b xs a.1)
  spread_has h (many xs) (many ys) a b = (length-zip_by xs ys (a.0 ∙ sym b.0) ∙ a.0, zip_of xs ys a.1 b.1)
