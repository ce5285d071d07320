-- Two values are the same just where they are equal.
use Rattle.std.proofs.Common.{◌≡◌, true, false, refl, ap}
use Rattle.std.specs.Bool.{Decides}
use Rattle.std.specs.Cmp.Lexicographic.{pointwise}
use Rattle.std.proofs.lemmas.Bool.Decides.{Decides-int_eq}
use Rattle.std.proofs.lemmas.Slice.Eq.{bytes_eq-Decides, slice_eq-Decides}
use Rattle.plan_frame.specs.Values.{Single, no_single, single_whole, single_text, single_truth, same_single, Value, null, whole, text, truth, listed, same_value}

single_decides : (x y : Single) → Decides (same_single x y) (x ≡ y)
single_decides no_single no_single = (λ e. refl, λ e. refl)
single_decides (single_whole a) (single_whole b) = let d = Decides-int_eq a b in (λ e. ap single_whole (d.0 e), λ e. d.1 cc)
single_decides (single_text a) (single_text b) = let d = bytes_eq-Decides a b in (λ e. ap single_text (d.0 e), λ e. d.1 cc)
single_decides (single_truth true) (single_truth true) = (λ e. refl, λ e. refl)
single_decides (single_truth true) (single_truth false) = (λ e. cc, λ e. cc)
single_decides (single_truth false) (single_truth true) = (λ e. cc, λ e. cc)
single_decides (single_truth false) (single_truth false) = (λ e. refl, λ e. refl)
single_decides x y = (λ e. cc, λ e. cc)

pub value_decides : (x y : Value) → Decides (same_value x y) (x ≡ y)
value_decides null null = (λ e. refl, λ e. refl)
value_decides (whole a) (whole b) = let d = Decides-int_eq a b in (λ e. ap whole (d.0 e), λ e. d.1 cc)
value_decides (text a) (text b) = let d = bytes_eq-Decides a b in (λ e. ap text (d.0 e), λ e. d.1 cc)
value_decides (truth true) (truth true) = (λ e. refl, λ e. refl)
value_decides (truth true) (truth false) = (λ e. cc, λ e. cc)
value_decides (truth false) (truth true) = (λ e. cc, λ e. cc)
value_decides (truth false) (truth false) = (λ e. refl, λ e. refl)
value_decides (listed xs) (listed ys) = let d = slice_eq-Decides single_decides xs ys (pointwise same_single xs ys) refl in (λ e. ap listed (d.0 e), λ e. d.1 cc)
value_decides x y = (λ e. cc, λ e. cc)
