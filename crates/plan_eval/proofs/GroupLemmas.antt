-- Groupings: the first rows of groups, in order, and what is made of them.
use Rattle.std.proofs.Common.{◌≡◌, ℕ, zero, suc, ◌+◌, ◌<◌, ◌≤◌, Bool, true, false, cond, List, [], ◌∷◌, ◌++◌, map, length, get_or, replicate, Option, Some, refl, sym, ap, ap₂, ◌∙◌, subst, arith}
use Rattle.std.specs.List.{AllByRecursion, IsDistinct, cons_option, range_with_len}
use Rattle.std.specs.Ordering.{is_lt, nat_cmp}
use Rattle.std.specs.Str.{bytes_eq}
use Rattle.std.proofs.lemmas.List.{map-append}
use Rattle.std.proofs.lemmas.List.Sums.{fold-append}
use Rattle.std.proofs.lemmas.List.Sorted.{IsPermutation-refl}
use Rattle.plan_options.specs.declared.distinct.UniqueKeepStrategy.TheVariants as keeps
use Rattle.plan_expr.specs.declared.aexpr.AExpr.{AExpr}
use Rattle.plan_expr.specs.declared.expr_ir.ExprIR.{ExprIR}
use Rattle.plan_expr.specs.Exprs.{Named, all_named_at, named_at}
use Rattle.plan_expr.specs.Naming.{name_of}
use Rattle.plan_frame.specs.Frames.{Column, Frame, picked, picked_columns, row, rows_at, with_column, with_columns}
use Rattle.plan_frame.specs.Grouping.{gathered_expr, nameless, over_keys, row_exprs}
use Rattle.plan_frame.specs.Meaning.{Cell, one, many, are_alike, cells, filled, only_value, rows_alike, val, vals, value_at}
use Rattle.plan_frame.specs.Orders.{AreKept, key_cells}
use Rattle.plan_frame.specs.Made.{grouped, made_columns}
use Rattle.plan_frame.specs.Values.{Value}
use Rattle.plan_value.specs.Groups.{AreNumbered, rows_numbered}
use Rattle.plan_eval.specs.Distinct.{kept, kept_of}
use Rattle.plan_eval.specs.Groups.{columns_in, group_column}
use Rattle.plan_eval.proofs.DistinctLemmas.{alike-part, first-before, gathered, gathered-apart, groups-kept, is-kept, kept-parts, one-kept, part, parts-are}
use Rattle.plan_meaning.proofs.FarApart.{near-sorted}

-- Rows that are picked of columns that are put

picked-put : (rows : List ℕ) (cs : List Column) (c : Column) → picked_columns rows (with_column cs c) ≡ with_column (picked_columns rows cs) (record { name = c.name; values = picked rows c.values })
picked-put rows [] c = refl
picked-put rows (d ∷ cs) c = at (bytes_eq c.name d.name) (picked-put rows cs c)
  where
    cut : Column → Column
    cut x = record { name = x.name; values = picked rows x.values }

    at : (b : Bool) → picked_columns rows (with_column cs c) ≡ with_column (picked_columns rows cs) (cut c) → picked_columns rows (cond b (c ∷ cs) (d ∷ with_column cs c)) ≡ cond b (cut c ∷ picked_columns rows cs) (cut d ∷ with_column (picked_columns rows cs) (cut c))
    at true e = refl
    at false e = ap (λ (xs : List Column). cut d ∷ xs) e

picked-with : (rows : List ℕ) (cs others : List Column) → picked_columns rows (with_columns cs others) ≡ with_columns (picked_columns rows cs) (picked_columns rows others)
picked-with rows cs [] = refl
picked-with rows cs (c ∷ others) = picked-with rows (with_column cs c) others ∙ ap (λ (xs : List Column). with_columns xs (picked_columns rows others)) (picked-put rows cs c)

-- Values in rows that there are

row-replicate : (v : Value) (h i : ℕ) → i < h → row (replicate h v) i ≡ v
row-replicate v zero i lt = absurd (omega (arith, lt))
row-replicate v (suc h) zero lt = refl
row-replicate v (suc h) (suc i) lt = row-replicate v h i (omega (arith, lt))

row-range : (at : ℕ → Value) (a n i : ℕ) → i < n → row (map at (range_with_len a n)) i ≡ at (a + i)
row-range at a zero i lt = absurd (omega (arith, lt))
row-range at a (suc n) zero lt = let q : a ≡ a + 0 = omega arith in ap at q
row-range at a (suc n) (suc i) lt = let q : a + 1 + i ≡ a + suc i = omega arith in row-range at (a + 1) n i (omega (arith, lt)) ∙ ap at q

same-each : (p q : ℕ → Value) (rows : List ℕ) → AllByRecursion (λ i. p i ≡ q i) rows → map p rows ≡ map q rows
same-each p q [] h = refl
same-each p q (i ∷ rows) h = ap₂ (λ (v : Value) (vs : List Value). v ∷ vs) h.0 (same-each p q rows h.1)

ones : (v : Value) (h : ℕ) (rows : List ℕ) → AllByRecursion (λ i. i < h) rows → AllByRecursion (λ i. row (replicate h v) i ≡ v) rows
ones v h [] b = tt
ones v h (i ∷ rows) b = (row-replicate v h i b.0, ones v h rows b.1)

-- a cell as a column, in rows that there are
picked-filled : (c : Cell) (h : ℕ) (rows : List ℕ) → AllByRecursion (λ i. i < h) rows → picked rows (filled h c) ≡ map (value_at c) rows
picked-filled (one v) h rows b = same-each (row (replicate h v)) (λ (i : ℕ). v) rows (ones v h rows b)
picked-filled (many vs) h rows b = refl

-- what a key is in some rows of a frame
abbrev pub key_column : List ℕ → Frame → Named → Column
key_column rows g e = record { name = name_of e.name; values = map (value_at (val e.expr g)) rows }

picked-keys : (g : Frame) (rows : List ℕ) (keys : List Named) → AllByRecursion (λ i. i < g.height) rows → picked_columns rows (made_columns g.height g keys) ≡ map (key_column rows g) keys
picked-keys g rows [] b = refl
picked-keys g rows (e ∷ keys) b = ap₂ (λ (vs : List Value) (cs : List Column). record { name = name_of e.name; values = vs } ∷ cs) (picked-filled (val e.expr g) g.height rows b) (picked-keys g rows keys b)

nameless-cells : (keys : List Named) (g : Frame) → cells (vals (nameless keys)) g ≡ key_cells keys g
nameless-cells [] g = refl
nameless-cells (e ∷ keys) g = ap (λ (cs : List Cell). val e.expr g ∷ cs) (nameless-cells keys g)

-- Groups of rows with the same keys

module _ (keys : List Named) (g : Frame) (count : ℕ) (numbers : List ℕ) (parts : List (List ℕ)) (n : AreNumbered (key_cells keys g) g.height count numbers) (many-parts : length parts ≡ count) (each : (k : ℕ) → k < count → get_or parts k [] ≡ rows_numbered numbers k) where
  abbrev same : ℕ → ℕ → Bool
  same = are_alike (key_cells keys g)

  abbrev number : ℕ → ℕ
  number i = get_or numbers i 0

  abbrev own : ℕ → List ℕ
  own = part same g.height count number n.below n.same

  abbrev first : ℕ → Option ℕ
  first k = kept_of keeps.First (own k)

  abbrev firsts : List ℕ
  firsts = kept keeps.First parts

  are-parts : parts ≡ map own (range_with_len 0 count)
  are-parts = parts-are numbers g.height count parts n.height many-parts each

  are-firsts : firsts ≡ gathered first 0 count
  are-firsts = ap (kept keeps.First) are-parts ∙ kept-parts keeps.First own (range_with_len 0 count)

  -- the first rows are kept, in order
  pub firsts-kept : AreKept true keeps.First same g.height firsts
  firsts-kept =
      groups-kept (key_cells keys g) g.height count numbers parts firsts true keeps.First n many-parts each (IsPermutation-refl firsts)
      (λ e. near-sorted nat_cmp firsts (subst (IsDistinct (λ i j. is_lt (nat_cmp j i))) (sym are-firsts) (gathered-apart first (λ i j. is_lt (nat_cmp j i)) 0 count (λ k l i j lt below. first-before (key_cells keys g) g.height count numbers n k l i j lt (omega (arith, below))))))

  -- each group has a first row
  has-first : (k : ℕ) → k < count → (i : ℕ) × (first k ≡ Some i)
  has-first k lt =
      let w = n.all k lt in
      let r = one-kept same g.height count number n.below n.same keeps.First w.0 w.1 refl in
      (r.0, subst (λ (m : ℕ). first m ≡ Some r.0) w.2 r.1)

  -- the rows that are the same as the first one of a group are the group
  alike-first : (k i : ℕ) → first k ≡ Some i → (i < g.height) × (rows_alike (key_cells keys g) g.height i ≡ own k)
  alike-first k i e =
      let a = is-kept same g.height count number n.below n.same keeps.First k i e in
      (a.row, alike-part (key_cells keys g) g.height count numbers n k i a.row a.has)

  -- what is made of each group, by its first row
  by-firsts : (make : List ℕ → Value) (at : ℕ → Value) → ((i : ℕ) → i < g.height → at i ≡ make (rows_alike (key_cells keys g) g.height i)) → (a m : ℕ) → a + m ≤ count → map at (gathered first a m) ≡ map make (map own (range_with_len a m))
  by-firsts make at is a zero le = refl
  by-firsts make at is a (suc m) le =
      let w = has-first a (omega (arith, le)) in
      let r = alike-first a w.0 w.1 in
      ap (λ (o : Option ℕ). map at (cons_option o (gathered first (a + 1) m))) w.1
      ∙ ap₂ (λ (v : Value) (vs : List Value). v ∷ vs) (is w.0 r.0 ∙ ap make r.1) (by-firsts make at is (a + 1) m (omega (arith, le)))

  -- an aggregate over the keys, in the first row of each group, is the aggregate over the group
  picked-over : (e : Named) → picked firsts (filled g.height (val (over_keys keys e).expr g)) ≡ (group_column parts g e).values
  picked-over e =
      let make : List ℕ → Value = λ (rows : List ℕ). only_value (val (gathered_expr e.expr) (rows_at rows g)) in
      let over : List Cell → ℕ → Value = λ (ks : List Cell) (i : ℕ). make (rows_alike ks g.height i) in
      let all : List Cell → List Value = λ (ks : List Cell). map (over ks) (range_with_len 0 g.height) in
      let at : ℕ → Value = row (all (key_cells keys g)) in
      ap (λ (ks : List Cell). picked firsts (all ks)) (nameless-cells keys g)
      ∙ ap (map at) are-firsts
      ∙ by-firsts make at (λ i lt. let q : 0 + i ≡ i = omega arith in row-range (over (key_cells keys g)) 0 g.height i lt ∙ ap (over (key_cells keys g)) q) 0 count (omega arith)
      ∙ ap (map make) (sym are-parts)

  picked-aggs : (aggs : List Named) → picked_columns firsts (made_columns g.height g (map (over_keys keys) aggs)) ≡ map (group_column parts g) aggs
  picked-aggs [] = refl
  picked-aggs (e ∷ aggs) = ap₂ (λ (vs : List Value) (cs : List Column). record { name = name_of e.name; values = vs } ∷ cs) (picked-over e) (picked-aggs aggs)

  -- the keys in the first rows, and the aggregates over the groups, are the grouping
  pub group-columns : (aggs : List Named) → record { height = length firsts; columns = with_columns (with_columns [] (map (key_column firsts g) keys)) (map (group_column parts g) aggs) } ≡ grouped keys aggs firsts g
  group-columns aggs =
      let column : Named → Column = λ (e : Named). record { name = name_of e.name; values = filled g.height (val e.expr g) } in
      let cut : Column → Column = λ (c : Column). record { name = c.name; values = picked firsts c.values } in
      let overs : List Named = map (over_keys keys) aggs in
      let split : picked_columns firsts (made_columns g.height g (row_exprs keys aggs)) ≡ map (key_column firsts g) keys ++ map (group_column parts g) aggs =
      ap (picked_columns firsts) (map-append column keys overs)
      ∙ map-append cut (made_columns g.height g keys) (made_columns g.height g overs)
      ∙ ap₂ (λ (cs ds : List Column). cs ++ ds) (picked-keys g firsts keys firsts-kept.below) (picked-aggs aggs)
      in
      ap (λ (cs : List Column). record { height = length firsts; columns = cs })
      (sym (fold-append with_column [] (map (key_column firsts g) keys) (map (group_column parts g) aggs))
      ∙ ap (with_columns []) (sym split)
      ∙ sym (picked-with firsts [] (made_columns g.height g (row_exprs keys aggs))))

-- the columns of keys in some rows, from the values of each key
pub columns-in : (ex : List AExpr) (rows : List ℕ) (g : Frame) (keys : List ExprIR) → columns_in rows keys (key_cells (all_named_at ex keys) g) ≡ map (key_column rows g) (all_named_at ex keys)
columns-in ex rows g [] = refl
columns-in ex rows g (e ∷ keys) = ap (λ (cs : List Column). key_column rows g (named_at ex e) ∷ cs) (columns-in ex rows g keys)

-- a key has values for each key
pub many-cells : (ex : List AExpr) (g : Frame) (keys : List ExprIR) → length (key_cells (all_named_at ex keys) g) ≡ length keys
many-cells ex g [] = refl
many-cells ex g (e ∷ keys) = ap suc (many-cells ex g keys)
