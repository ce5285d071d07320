-- Rows that are compared one by one, and the lists of those that match.
use Rattle.std.proofs.Common.{◌≡◌, ◌∙◌, ◌++◌, ◌+◌, ◌<◌, ◌≤◌, ◌⊎◌, inl, inr, ℕ, Bool, true, false, cond, List, [], ◌∷◌, length, length-append, None, Some, get_or, ap, sym, arith}
use Rattle.std.specs.List.{filter as only_where, range_with_len}
use Rattle.std.proofs.Math.Seq.{get_or-append_seam}
use Rattle.std.proofs.lemmas.Bool.{cases_lt}
use Rattle.std.proofs.lemmas.List.{get_or_append_left}
use Rattle.std.proofs.lemmas.List.Elements.{filter-append}
use Rattle.plan_join.specs.declared.matches.Matches.{Matches}
use Rattle.plan_join.specs.Pairs.{Test, passing}
use Rattle.plan_join.specs.Rows.{listed_at, AreJoined}
use Rattle.plan_join.proofs.PlaceLemmas.{passing-below, range-next}
use Rattle.plan_join_eval.specs.Compared.{sided, AreLists, AreOwn}

-- one place more
pub passing-next : (p : ℕ → Bool) (n : ℕ) (b : Bool) → p n ≡ b → passing p (n + 1) ≡ passing p n ++ cond b (n ∷ []) []
passing-next p n b e = ap (only_where p) (range-next n) ∙ filter-append p (range_with_len 0 n) (n ∷ []) ∙ ap (λ (t : Bool). passing p n ++ cond t (n ∷ []) []) e

-- rows of which each has its own list
pub own-lists : (b : Bool) (test : Test) (h k : ℕ) (m : Matches) (n : ℕ) → n ≡ cond b k h → m.others ≡ cond b h k → length m.numbers ≡ n → ((i : ℕ) → i < n → get_or m.numbers i None ≡ Some i)
    → ((i : ℕ) → i < n → get_or m.lists.items i [] ≡ passing (sided b test i) m.others) → AreJoined b test h k m
own-lists true test h k m n rows others numbers own each = record {
  rows = numbers ∙ rows;
  others = others;
  each = λ i lt. ap (listed_at m.lists.items) (own i (omega (arith, lt, rows))) ∙ each i (omega (arith, lt, rows)) ∙ ap (passing (sided true test i)) others;
}
own-lists false test h k m n rows others numbers own each = record {
  rows = numbers ∙ rows;
  others = others;
  each = λ i lt. ap (listed_at m.lists.items) (own i (omega (arith, lt, rows))) ∙ each i (omega (arith, lt, rows)) ∙ ap (passing (sided false test i)) others;
}

-- a list more, of the next row
pub lists-next : (test : Test) (k n : ℕ) (lists new : List (List ℕ)) (rows : List ℕ) → AreLists test n k lists → new ≡ lists ++ rows ∷ [] → rows ≡ passing (test n) k → AreLists test (n + 1) k new
lists-next test k n lists new rows are more is = record {
  long = let l = ap {B = ℕ} length more in let m = length-append lists (rows ∷ []) in omega (arith, l, m, are.long);
  each = λ i lt. ap (λ (l : List (List ℕ)). get_or l i []) more ∙ at i lt (cases_lt i n);
}
  where
    at : (i : ℕ) → i < n + 1 → (i < n) ⊎ (n ≤ i) → get_or (lists ++ rows ∷ []) i [] ≡ passing (test i) k
    at i lt (inl below) = get_or_append_left lists (rows ∷ []) [] i (omega (arith, below, are.long)) ∙ are.each i below
    at i lt (inr from) =
        let q : i ≡ length lists = omega (arith, lt, from, are.long) in
        let r : n ≡ i = omega (arith, lt, from) in
        ap (λ (m : ℕ). get_or (lists ++ rows ∷ []) m []) q ∙ get_or-append_seam lists rows [] [] ∙ is ∙ ap (λ (m : ℕ). passing (test m) k) r

-- lists for one test are those for another that is the same below the bound
pub lists-same : (p q : Test) (h k : ℕ) (lists : List (List ℕ)) → ((i j : ℕ) → j < k → p i j ≡ q i j) → AreLists p h k lists → AreLists q h k lists
lists-same p q h k lists same are = record {
  long = are.long;
  each = λ i lt. are.each i lt ∙ passing-below (p i) (q i) k (λ j below. same i j below);
}

-- lists of which each row has its own are the matches of these rows
pub lists-joined : (b : Bool) (test : Test) (h k : ℕ) (m : Matches) (n others : ℕ) (lists : List (List ℕ)) → n ≡ cond b k h → others ≡ cond b h k → AreLists (sided b test) n others lists → AreOwn lists others m → AreJoined b test h k m
lists-joined b test h k m n others lists rows high are own =
    own-lists b test h k m n rows (own.others ∙ high) (own.numbers ∙ are.long) (λ i lt. own.own i (let l = are.long in omega (arith, lt, l)))
    (λ i lt. ap (λ (l : List (List ℕ)). get_or l i []) own.lists_are ∙ are.each i lt ∙ ap (passing (sided b test i)) (sym own.others))
