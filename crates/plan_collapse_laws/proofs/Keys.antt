-- Keys that are taken from a minterm match where the minterm is true over the pair alone, with null matching off.
use Rattle.std.proofs.Common.{◌≡◌, ◌∙◌, ◌<◌, ℕ, Bool, true, false, List, [], ◌∷◌, Option, Some, unwrap_or, replicate, refl, sym, ap, arith}
use Rattle.std.specs.Prelude.{option_map}
use Rattle.std.specs.Str.{bytes_eq}
use Rattle.std.specs.Cmp.{int_cmp_total}
use Rattle.std.specs.Cmp.Lexicographic.{slice_cmp}
use Rattle.std.specs.Ordering.{int_cmp, nat_cmp, ordering_reverse, is_eq, is_lt, is_le, is_gt, is_ge}
use Rattle.std.specs.declared.cmp.Ordering.{Ordering}
use Rattle.std.specs.declared.cmp.Ordering.TheVariants.{Less, Equal, Greater}
use Rattle.std.proofs.lemmas.Cmp.{same_from_slice_cmp}
use Rattle.std.proofs.lemmas.Bool.Decides.{nat_tests}
use Rattle.std.proofs.Math.Bool.{and-true}
use Rattle.plan_core.specs.declared.data_type.DataType.{DataType}
use Rattle.plan_core.specs.declared.data_type.DataType.TheVariants as types
use Rattle.plan_expr.specs.Exprs.{Expr}
use Rattle.plan_expr.specs.Leaves.{Name}
use Rattle.plan_expr.specs.Types.{is_plain}
use Rattle.plan_join.specs.declared.origin.Side.TheVariants as sides
use Rattle.plan_frame.specs.Values.{Value, null, whole, text, truth, listed, IsOf, is_true}
use Rattle.plan_frame.specs.Frames.{Frame, column, found, picked, row, rows_at}
use Rattle.plan_frame.specs.Meaning.{Cell, compared, val, value_at}
use Rattle.plan_frame.proofs.FrameLemmas.{found-picked}
use Rattle.plan_join.specs.Pairs.{both}
use Rattle.plan_join.specs.Joined.{side_value}
use Rattle.plan_join.specs.Matching.{key_matches}
use Rattle.plan_meaning.specs.JoinChecks.{is_elementwise}
use Rattle.plan_meaning.specs.CellRows.{IsEven}
use Rattle.plan_meaning.proofs.RowWise.{elementwise_rows, value_of_rows}

text_same : (xs ys : List ℕ) (o : Ordering) → o ≡ slice_cmp nat_cmp xs ys → is_eq o ≡ bytes_eq xs ys
text_same = same_from_slice_cmp nat_cmp is_eq bytes_eq refl (λ _ _. refl) (λ _ _. refl) (λ x y xs ys o h. grind (arith, nat_tests))

-- two values of one plain type are equal where neither is null and they stand equal
pub equal-keys : (t : DataType) (v w : Value) → is_plain t ≡ true → IsOf t v → IsOf t w → is_true (compared is_eq v w) ≡ key_matches false v w
equal-keys t null null p h k = refl
equal-keys t null (whole b) p h k = refl
equal-keys t null (text b) p h k = refl
equal-keys t null (truth b) p h k = refl
equal-keys t null (listed b) p h k = refl
equal-keys types.Int64 (whole a) (whole b) p h k = sym (and-true (is_eq (int_cmp a b)))
equal-keys types.Int64 (whole a) null p h k = refl
equal-keys types.String (text a) (text b) p h k = text_same a b (slice_cmp nat_cmp a b) refl ∙ sym (and-true (bytes_eq a b))
equal-keys types.String (text a) null p h k = refl
equal-keys types.Boolean (truth true) (truth true) p h k = refl
equal-keys types.Boolean (truth true) (truth false) p h k = refl
equal-keys types.Boolean (truth false) (truth true) p h k = refl
equal-keys types.Boolean (truth false) (truth false) p h k = refl
equal-keys types.Boolean (truth true) null p h k = refl
equal-keys types.Boolean (truth false) null p h k = refl
equal-keys (types.List u) v w p h k = cc
equal-keys types.Int64 (whole a) (text b) p h k = absurd k
equal-keys types.Int64 (whole a) (truth b) p h k = absurd k
equal-keys types.Int64 (whole a) (listed b) p h k = absurd k
equal-keys types.Int64 (text a) w p h k = absurd h
equal-keys types.Int64 (truth a) w p h k = absurd h
equal-keys types.Int64 (listed a) w p h k = absurd h
equal-keys types.String (text a) (whole b) p h k = absurd k
equal-keys types.String (text a) (truth b) p h k = absurd k
equal-keys types.String (text a) (listed b) p h k = absurd k
equal-keys types.String (whole a) w p h k = absurd h
equal-keys types.String (truth a) w p h k = absurd h
equal-keys types.String (listed a) w p h k = absurd h
equal-keys types.Boolean (truth a) (whole b) p h k = absurd k
equal-keys types.Boolean (truth a) (text b) p h k = absurd k
equal-keys types.Boolean (truth a) (listed b) p h k = absurd k
equal-keys types.Boolean (whole a) w p h k = absurd h
equal-keys types.Boolean (text a) w p h k = absurd h
equal-keys types.Boolean (listed a) w p h k = absurd h

-- two whole numbers, turned round
turned_test : (test other : Ordering → Bool) → ((o : Ordering) → test (ordering_reverse o) ≡ other o) → (v w : Value) → IsOf types.Int64 v → IsOf types.Int64 w → is_true (compared test v w) ≡ is_true (compared other w v)
turned_test test other by (whole a) (whole b) h k = ap test (int_cmp_total.antisymm a b) ∙ by (int_cmp b a)
turned_test test other by null null h k = refl
turned_test test other by null (whole b) h k = refl
turned_test test other by (whole a) null h k = refl
turned_test test other by null (text b) h k = absurd k
turned_test test other by null (truth b) h k = absurd k
turned_test test other by null (listed b) h k = absurd k
turned_test test other by (whole a) (text b) h k = absurd k
turned_test test other by (whole a) (truth b) h k = absurd k
turned_test test other by (whole a) (listed b) h k = absurd k
turned_test test other by (text a) w h k = absurd h
turned_test test other by (truth a) w h k = absurd h
turned_test test other by (listed a) w h k = absurd h

pub turned-less : (v w : Value) → IsOf types.Int64 v → IsOf types.Int64 w → is_true (compared is_lt v w) ≡ is_true (compared is_gt w v)
turned-less v w h k = turned_test is_lt is_gt flips v w h k
  where
    flips : (o : Ordering) → is_lt (ordering_reverse o) ≡ is_gt o
    flips Less = refl
    flips Equal = refl
    flips Greater = refl

pub turned-at_most : (v w : Value) → IsOf types.Int64 v → IsOf types.Int64 w → is_true (compared is_le v w) ≡ is_true (compared is_ge w v)
turned-at_most v w h k = turned_test is_le is_ge flips v w h k
  where
    flips : (o : Ordering) → is_le (ordering_reverse o) ≡ is_ge o
    flips Less = refl
    flips Equal = refl
    flips Greater = refl

-- an expression that means over one row of a side what another means over a pair means in that row what the other means over the pair
pub key-value : (side pair : Frame) (k : ℕ) (key operand : Expr) → IsEven side → k < side.height → is_elementwise key ≡ true → val key (rows_at (k ∷ []) side) ≡ val operand pair → value_at (val operand pair) 0 ≡ value_at (val key side) k
key-value side pair k key operand even lt w same =
    ap (λ (c : Cell). value_at c 0) (sym same ∙ (elementwise_rows side even (k ∷ []) (lt, tt) key w).rows_of)
    ∙ value_of_rows (k ∷ []) (val key side) 0 (omega arith)

-- what a pair of two rows has in a column of a side is what that row of the side has
pub left-value : (fill : Name → Option Name) (f g : Frame) (i j : ℕ) (b : Name) (vs : List Value) → found f.columns b ≡ Some vs → column (rows_at (i ∷ []) f) b ≡ Some (side_value fill f g (sides.Left, b) (both i j) ∷ [])
left-value fill f g i j b vs e =
    found-picked (i ∷ []) f.columns b
    ∙ ap (option_map (picked (i ∷ []))) e
    ∙ sym (ap (λ (o : Option (List Value)). Some (row (unwrap_or o (replicate f.height null)) i ∷ [])) e)
