-- Rows that pass a test whose answer is the same for all.
use Rattle.std.proofs.Common.{◌≡◌, ◌∙◌, ◌∷◌, ℕ, zero, suc, Bool, true, false, cond, List, [], refl, ap, sym, subst, add-one}
use Rattle.std.specs.List.{range_with_len}
use Rattle.plan_frame.specs.Meaning.{places_from, value_at}
use Rattle.plan_frame.specs.Rows.{true_rows}
use Rattle.plan_frame.specs.Values.{is_true}
use Rattle.plan_table.specs.declared.value.AnyValue.{AnyValue}
use Rattle.plan_value.specs.declared.exprs.Values.{Values}
use Rattle.plan_value.specs.declared.exprs.Values.TheVariants.{One}
use Rattle.plan_value.specs.Cells.{cell_of}
use Rattle.plan_value.specs.Shown.{value_of}

all : (i n : ℕ) → places_from (λ (k : ℕ). true) i n ≡ range_with_len i n
all i zero = refl
all i (suc n) = ap (λ (l : List ℕ). i ∷ l) (all (suc i) n ∙ ap (λ (k : ℕ). range_with_len k n) (sym (add-one i)))

none : (i n : ℕ) → places_from (λ (k : ℕ). false) i n ≡ []
none i zero = refl
none i (suc n) = none (suc i) n

-- all rows pass, or none
places-alike : (b : Bool) (n : ℕ) → places_from (λ (k : ℕ). b) 0 n ≡ cond b (range_with_len 0 n) []
places-alike true n = all 0 n
places-alike false n = none 0 n

-- one value is true in all rows, or in none
pub one-places : (values : Values) (v : AnyValue) (b : Bool) (n : ℕ) → values ≡ One v → b ≡ is_true (value_at (cell_of values) 0) → true_rows (cell_of values) n ≡ cond b (range_with_len 0 n) []
one-places values v b n is =
    subst (λ (w : Values). b ≡ is_true (value_at (cell_of w) 0) → true_rows (cell_of w) n ≡ cond b (range_with_len 0 n) []) (sym is)
    (λ e. places-alike (is_true (value_of v)) n ∙ ap (λ (t : Bool). cond t (range_with_len 0 n) []) (sym e))
