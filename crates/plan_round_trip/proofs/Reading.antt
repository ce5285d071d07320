-- What is read of a text has canonical numbers.
use Rattle.std.proofs.Common.{◌≡◌, ◌&&◌, ◌==◌, ◌^◌, ℕ, zero, suc, Bool, true, false, cond, List, drop, Ordering, Less, Equal, Greater, Option, Some, None, option_map, option_and_then, nat_lt, nat_le, refl, subst}
use Rattle.std.specs.Prelude.{slice_index}
use Rattle.std.specs.Float.{binary64, float_is_finite}
use Rattle.std.specs.Ordering.{nat_cmp, match_ordering}
use Rattle.std.specs.Cmp.Lexicographic.{slice_cmp}
use Rattle.fast_float.specs.Text.{minus, Parts, scan, digits_of, nearest, with_sign}
use Rattle.json.specs.Json as json
use Rattle.json.specs.Lex.{tokens}
use Rattle.serde_json.specs.Data.{Num, unsigned, negative, float, Data, null, boolean, number, string, array, object, Items, no_items, item, Members, no_members, member, put}
use Rattle.serde_json.specs.Read.{is_integer, float_of, number_from, number_of, of_json, of_items, of_members, max_depth, read}
use Rattle.plan_doc_parts.proofs.EntryLemmas.{some_is}
use Rattle.plan_round_trip.specs.Canonical.{is_signed, is_canonical, are_canonical, members_are_canonical}
use Rattle.plan_round_trip.proofs.Steps.{choice, both_left, both_right}

mapped : {A B : Type 0} (f : A → B) (o : Option A) (y : B) → option_map f o ≡ Some y → (x : A) × (o ≡ Some x) × (f x ≡ y)
mapped f (Some x) y e = (x, refl, some_is (f x) y e)
mapped f None y e = absurd cc

and_then : {A B : Type 0} (f : A → Option B) (o : Option A) (y : B) → option_and_then f o ≡ Some y → (x : A) × (o ≡ Some x) × (f x ≡ Some y)
and_then f (Some x) y e = (x, refl, e)
and_then f None y e = absurd cc

both : (a b : Bool) → a ≡ true → b ≡ true → (a && b) ≡ true
both true b e f = f
both false b e f = absurd cc

middle : (a b c : Bool) → (a && b && c) ≡ true → b ≡ true
middle true true c e = refl
middle true false c e = absurd cc
middle false true c e = refl
middle false false c e = absurd cc

-- ---- numbers

abbrev IsSigned : Num → Type 0
IsSigned n = is_signed n ≡ true

signed_is : (m n : Num) → IsSigned m → ◌≡◌ {A = Option Num} (Some m) (Some n) → IsSigned n
signed_is m n k e = subst IsSigned (some_is m n e) k

float_signed : (sign : Bool) (p : Parts) (n : Num) → float_of sign p ≡ Some n → IsSigned n
float_signed sign p n e = choice (float_is_finite (nearest binary64 sign p)) (Some (float (nearest binary64 sign p))) None n e (λ q. signed_is (float (nearest binary64 sign p)) n refl q) (λ q. absurd cc)

below_zero : (k : ℕ) → nat_lt 0 k ≡ true → IsSigned (negative (with_sign true k))
below_zero zero e = absurd cc
below_zero (suc k) e = refl

from_signed : (sign : Bool) (p : Parts) (n : Num) → number_from sign p ≡ Some n → IsSigned n
from_signed false p n e = choice (is_integer p && nat_lt (digits_of p) (2 ^ 64)) (Some (unsigned (digits_of p))) (float_of false p) n e (λ q. signed_is (unsigned (digits_of p)) n refl q) (λ q. float_signed false p n q)
from_signed true p n e = tested (is_integer p && nat_lt 0 (digits_of p) && nat_le (digits_of p) (2 ^ 63)) refl e
  where
    tested : (b : Bool) → (is_integer p && nat_lt 0 (digits_of p) && nat_le (digits_of p) (2 ^ 63)) ≡ b → cond b (Some (negative (with_sign true (digits_of p)))) (float_of true p) ≡ Some n → IsSigned n
    tested true t q = signed_is (negative (with_sign true (digits_of p))) n (below_zero (digits_of p) (middle (is_integer p) (nat_lt 0 (digits_of p)) (nat_le (digits_of p) (2 ^ 63)) t)) q
    tested false t q = float_signed true p n q

number_signed : (s : List ℕ) (n : Num) → number_of s ≡ Some n → IsSigned n
unfolding number_of
number_signed s n e = choice (slice_index s 0 == minus) (number_from true (scan (drop 1 s))) (number_from false (scan s)) n e (λ q. from_signed true (scan (drop 1 s)) n q) (λ q. from_signed false (scan s) n q)

-- ---- values

abbrev Canonical : Data → Type 0
Canonical d = is_canonical d ≡ true

abbrev MembersCanonical : Members → Type 0
MembersCanonical ms = members_are_canonical ms ≡ true

put_canonical : (k : List ℕ) (d : Data) (ms : Members) → Canonical d → MembersCanonical ms → MembersCanonical (put k d ms)
put_canonical k d no_members c m = both (is_canonical d) true c refl
put_canonical k d (member l e ms) c m =
    by_order (slice_cmp nat_cmp k l) (put_canonical k d ms c (both_right (is_canonical e) (members_are_canonical ms) m))
  where
    by_order : (o : Ordering) → MembersCanonical (put k d ms) → MembersCanonical (match_ordering o (member k d (member l e ms)) (member l d ms) (member l e (put k d ms)))
    by_order Less h = both (is_canonical d) (members_are_canonical (member l e ms)) c m
    by_order Equal h = both (is_canonical d) (members_are_canonical ms) c (both_right (is_canonical e) (members_are_canonical ms) m)
    by_order Greater h = both (is_canonical e) (members_are_canonical (put k d ms)) (both_left (is_canonical e) (members_are_canonical ms) m) h

mutual
  json_canonical : (j : json.Json) (d : Data) → of_json j ≡ Some d → Canonical d
  json_canonical json.null d e = subst Canonical (some_is null d e) refl
  json_canonical (json.boolean b) d e = subst Canonical (some_is (boolean b) d e) refl
  json_canonical (json.number s) d e =
      let n = mapped number (number_of s) d e in
      subst Canonical n.2 (number_signed s n.0 n.1)
  json_canonical (json.string s) d e = subst Canonical (some_is (string s) d e) refl
  json_canonical (json.array js) d e =
      let ds = mapped array (of_items js) d e in
      subst Canonical ds.2 (items_canonical js ds.0 ds.1)
  json_canonical (json.object ms) d e =
      let ns = mapped object (of_members ms no_members) d e in
      subst Canonical ns.2 (members_canonical ms no_members ns.0 refl ns.1)

  items_canonical : (js : json.Items) (ds : Items) → of_items js ≡ Some ds → are_canonical ds ≡ true
  items_canonical json.no_items ds e = subst (λ (es : Items). are_canonical es ≡ true) (some_is no_items ds e) refl
  items_canonical (json.item j js) ds e =
      let d = and_then (λ d. option_map (item d) (of_items js)) (of_json j) ds e in
      let es = mapped (item d.0) (of_items js) ds d.2 in
      subst (λ (fs : Items). are_canonical fs ≡ true) es.2 (both (is_canonical d.0) (are_canonical es.0) (json_canonical j d.0 d.1) (items_canonical js es.0 es.1))

  members_canonical : (ms : json.Members) (found ns : Members) → MembersCanonical found → of_members ms found ≡ Some ns → MembersCanonical ns
  members_canonical json.no_members found ns c e = subst MembersCanonical (some_is found ns e) c
  members_canonical (json.member k j ms) found ns c e =
      let d = and_then (λ d. of_members ms (put k d found)) (of_json j) ns e in
      members_canonical ms (put k d.0 found) ns (put_canonical k d.0 found (json_canonical j d.0 d.1) c) d.2

-- the value of a text
pub read_canonical : (text : List ℕ) (d : Data) → read text ≡ Some d → is_canonical d ≡ true
read_canonical text d e =
    let j = and_then of_json (option_and_then (λ p. json.if_last p.0 p.1) (json.value max_depth (tokens text))) d e in
    json_canonical j.0 d j.2
