-- Parts that are read of a value are read again of what is written for them: numbers, truths, texts.
use Rattle.std.proofs.Common.{◌≡◌, ℕ, ℤ, pos, negsuc, ◌^◌, Bool, true, false, cond, List, nat_lt, Some, None, refl, subst}
use Rattle.serde_json.specs.Data.{Num, unsigned, negative, float, Data, null, boolean, number, string, array, object}
use Rattle.serde_json.specs.Find.{as_number, as_u64, as_i64, of_integer}
use Rattle.plan_core.specs.declared.arena.Node.{Node}
use Rattle.plan_doc_parts.specs.Parts.{◌>>=◌, number_of, link_of, integer_of, truth_of, name_of}
use Rattle.plan_doc_parts.proofs.EntryLemmas.{bind_some, some_is}
use Rattle.plan_text_pieces.specs.Values.{number_data, link_data, integer_data}
use Rattle.plan_round_trip.specs.Canonical.{is_canonical, is_signed}
use Rattle.plan_round_trip.proofs.Gives.{gives1}
use Rattle.plan_round_trip.proofs.Steps.{Again, Back}

-- a number below 2 ^ 32
pub number_again : (d : Data) (n : ℕ) → number_of d ≡ Some n → Again number_of number_data n
unfolding number_of
number_again d n e =
    let m = bind_some (as_number d) (λ m. as_u64 m >>= λ k. cond (nat_lt k (2 ^ 32)) (Some k) None) n e in
    let k = bind_some (as_u64 m.0) (λ k. cond (nat_lt k (2 ^ 32)) (Some k) None) n m.2 in
    tested k.0 (nat_lt k.0 (2 ^ 32)) refl k.2
  where
    tested : (k : ℕ) (b : Bool) → nat_lt k (2 ^ 32) ≡ b → cond b (Some k) None ≡ Some n → cond (nat_lt n (2 ^ 32)) (Some n) None ≡ Some n
    tested k true t q = subst (λ (i : ℕ). cond (nat_lt i (2 ^ 32)) (Some i) None ≡ Some i) (some_is k n q) (rw t)
    tested k false t q = absurd cc

pub number_back : Back number_of number_data
number_back = record { again = λ d n c e. number_again d n e }

pub link_again : (d : Data) (n : Node) → link_of d ≡ Some n → Again link_of link_data n
unfolding link_of
link_again d n e = gives1 (number_of d) (λ k. record { 0 = k }) n e (λ m. (number_of (link_data m) >>= λ k. Some (record { 0 = k })) ≡ Some m) (λ k ek. rw (number_again d k ek) refl)

pub link_back : Back link_of link_data
link_back = record { again = λ d n c e. link_again d n e }

-- a number of 64 signed bits
signed_again : (m : Num) (z : ℤ) → is_signed m ≡ true → as_i64 m ≡ Some z → as_i64 (of_integer z) ≡ Some z
signed_again (unsigned n) z c e = by_test (nat_lt n (2 ^ 63)) refl e
  where
    by_test : (b : Bool) → nat_lt n (2 ^ 63) ≡ b → cond b (Some (pos n)) None ≡ Some z → as_i64 (of_integer z) ≡ Some z
    by_test true t q = subst (λ (y : ℤ). as_i64 (of_integer y) ≡ Some y) (some_is (pos n) z q) (rw t)
    by_test false t q = absurd cc
signed_again (negative (pos n)) z c e = absurd cc
signed_again (negative (negsuc n)) z c e = subst (λ (y : ℤ). as_i64 (of_integer y) ≡ Some y) (some_is (negsuc n) z e) refl
signed_again (float x) z c e = absurd cc

number_signed : (d : Data) (m : Num) → is_canonical d ≡ true → as_number d ≡ Some m → is_signed m ≡ true
number_signed (number n) m c e = subst (λ (k : Num). is_signed k ≡ true) (some_is n m e) c
number_signed null m c e = absurd cc
number_signed (boolean b) m c e = absurd cc
number_signed (string s) m c e = absurd cc
number_signed (array ds) m c e = absurd cc
number_signed (object ms) m c e = absurd cc

integer_again : (d : Data) (z : ℤ) → is_canonical d ≡ true → integer_of d ≡ Some z → Again integer_of integer_data z
unfolding integer_of
integer_again d z c e =
    let m = bind_some (as_number d) as_i64 z e in
    signed_again m.0 z (number_signed d m.0 c m.1) m.2

pub integer_back : Back integer_of integer_data
integer_back = record { again = integer_again }

-- a truth value
pub truth_again : (b : Bool) → Again truth_of boolean b
unfolding truth_of
truth_again b = refl

-- a text
pub name_again : (s : List ℕ) → Again name_of string s
unfolding name_of
name_again s = refl
