-- When two values are the same.
use Rattle.std.proofs.Common.{◌≡◌, Bool, true, false, ◌&&◌, List, [], ◌∷◌, map, refl, ap₂}
use Rattle.std.specs.Cmp.Lexicographic.{pointwise}
use Rattle.plan_table.specs.declared.value.PlainValue.{PlainValue}
use Rattle.plan_table.specs.declared.value.PlainValue.TheVariants.{Null, Int64, String, Boolean}
use Rattle.plan_table.specs.contracts.value.PlainValuePartialEq.TheImpl.{ghosts}
use Rattle.plan_table.specs.declared.value.AnyValue.{AnyValue}
use Rattle.plan_table.specs.declared.value.AnyValue.TheVariants as anys
use Rattle.plan_table.specs.contracts.value.AnyValuePartialEq.TheImpl as any_value
use Rattle.plan_frame.specs.Values.{same_single, same_value}
use Rattle.plan_value.specs.Shown.{single_of, value_of}

-- what `==` says of two single values
single_same : (a b : PlainValue) → ghosts.eq a b ≡ same_single (single_of a) (single_of b)
single_same Null Null = refl
single_same Null (Int64 n) = refl
single_same Null (String s) = refl
single_same Null (Boolean b) = refl
single_same (Int64 n) Null = refl
single_same (Int64 n) (Int64 m) = refl
single_same (Int64 n) (String s) = refl
single_same (Int64 n) (Boolean b) = refl
single_same (String s) Null = refl
single_same (String s) (Int64 n) = refl
single_same (String s) (String t) = refl
single_same (String s) (Boolean b) = refl
single_same (Boolean true) Null = refl
single_same (Boolean false) Null = refl
single_same (Boolean true) (Int64 n) = refl
single_same (Boolean false) (Int64 n) = refl
single_same (Boolean true) (String s) = refl
single_same (Boolean false) (String s) = refl
single_same (Boolean true) (Boolean true) = refl
single_same (Boolean true) (Boolean false) = refl
single_same (Boolean false) (Boolean true) = refl
single_same (Boolean false) (Boolean false) = refl

-- what `==` says of two lists of single values
lists_same : (vs ws : List PlainValue) → pointwise ghosts.eq vs ws ≡ pointwise same_single (map single_of vs) (map single_of ws)
lists_same [] [] = refl
lists_same [] (w ∷ ws) = refl
lists_same (v ∷ vs) [] = refl
lists_same (v ∷ vs) (w ∷ ws) = ap₂ (λ (a b : Bool). a && b) (single_same v w) (lists_same vs ws)

-- what `==` says of two values
pub values_same : (v w : AnyValue) → any_value.ghosts.eq v w ≡ same_value (value_of v) (value_of w)
values_same anys.Null anys.Null = refl
values_same anys.Null (anys.Int64 m) = refl
values_same anys.Null (anys.String t) = refl
values_same anys.Null (anys.Boolean b) = refl
values_same anys.Null (anys.List ws) = refl
values_same (anys.Int64 n) anys.Null = refl
values_same (anys.Int64 n) (anys.Int64 m) = refl
values_same (anys.Int64 n) (anys.String t) = refl
values_same (anys.Int64 n) (anys.Boolean b) = refl
values_same (anys.Int64 n) (anys.List ws) = refl
values_same (anys.String s) anys.Null = refl
values_same (anys.String s) (anys.Int64 m) = refl
values_same (anys.String s) (anys.String t) = refl
values_same (anys.String s) (anys.Boolean b) = refl
values_same (anys.String s) (anys.List ws) = refl
values_same (anys.Boolean true) anys.Null = refl
values_same (anys.Boolean false) anys.Null = refl
values_same (anys.Boolean true) (anys.Int64 m) = refl
values_same (anys.Boolean false) (anys.Int64 m) = refl
values_same (anys.Boolean true) (anys.String t) = refl
values_same (anys.Boolean false) (anys.String t) = refl
values_same (anys.Boolean true) (anys.Boolean true) = refl
values_same (anys.Boolean true) (anys.Boolean false) = refl
values_same (anys.Boolean false) (anys.Boolean true) = refl
values_same (anys.Boolean false) (anys.Boolean false) = refl
values_same (anys.Boolean true) (anys.List ws) = refl
values_same (anys.Boolean false) (anys.List ws) = refl
values_same (anys.List vs) anys.Null = refl
values_same (anys.List vs) (anys.Int64 m) = refl
values_same (anys.List vs) (anys.String t) = refl
values_same (anys.List vs) (anys.Boolean b) = refl
values_same (anys.List vs) (anys.List ws) = lists_same vs ws
