-- A filter over a join keeps the pairs for which its predicate is true over them alone.
use Rattle.std.proofs.Common.{◌≡◌, ◌∙◌, ◌+◌, ◌<◌, ℕ, zero, suc, Bool, true, false, cond, List, [], ◌∷◌, map, length, get_or, refl, sym, ap, ap₂, arith}
use Rattle.std.specs.List.{AllByRecursion, filter as only_where}
use Rattle.plan_options.specs.declared.join.JoinArgs.{JoinArgs}
use Rattle.plan_expr.specs.Exprs.{Expr}
use Rattle.plan_expr.specs.Leaves.{Name}
use Rattle.plan_join.specs.declared.origin.Side.{Side}
use Rattle.plan_frame.specs.Values.{Value, null, is_true}
use Rattle.plan_frame.specs.Frames.{Frame, Column, column_names, picked, picked_columns, row, rows_at}
use Rattle.plan_frame.specs.Meaning.{Cell, places_from, val, value_at}
use Rattle.plan_frame.specs.Rows.{filtered, true_rows}
use Rattle.plan_frame.proofs.FrameLemmas.{length-map}
use Rattle.plan_join.specs.declared.pairs.RowPair.{RowPair}
use Rattle.plan_join.specs.Joined.{call, joined, side_column, side_value}
use Rattle.plan_join.specs.Sides.{filler, left_out, name_sources}
use Rattle.plan_meaning.specs.JoinChecks.{is_elementwise}
use Rattle.plan_meaning.specs.CellRows.{IsEven}
use Rattle.plan_meaning.proofs.RowWise.{elementwise_rows, value_of_rows}
use Rattle.plan_collapse_laws.specs.FilteredFrames.{holds}

module _ {X V : Type 0} (d : X) (keep : X → Bool) (value : X → V) where
  -- what is made of the places that pass a test is what is made of the elements there
  places-made : (xs : List X) (a : ℕ) (at : ℕ → V) (test : ℕ → Bool) → ((i : ℕ) → i < length xs → (test (a + i) ≡ keep (get_or xs i d)) × (at (a + i) ≡ value (get_or xs i d))) → map at (places_from test a (length xs)) ≡ map value (only_where keep xs)
  places-made [] a at test h = refl
  places-made (x ∷ xs) a at test h =
      let here : a + 0 ≡ a = omega arith in
      let first = h 0 (omega arith) in
      go (test a) (keep x) (sym (ap test here) ∙ first.0) (sym (ap at here) ∙ first.1)
      (places-made xs (suc a) at test (λ i lt. let next : suc a + i ≡ a + suc i = omega arith in let k = h (suc i) (omega (arith, lt)) in (ap test next ∙ k.0, ap at next ∙ k.1)))
    where
      go : (b c : Bool) → b ≡ c → at a ≡ value x → map at (places_from test (suc a) (length xs)) ≡ map value (only_where keep xs) → map at (cond b (a ∷ places_from test (suc a) (length xs)) (places_from test (suc a) (length xs))) ≡ map value (cond c (x ∷ only_where keep xs) (only_where keep xs))
      go true true e v rest = ap₂ (λ (y : V) (ys : List V). y ∷ ys) v rest
      go false false e v rest = rest
      go true false e v rest = cc
      go false true e v rest = cc

row-pair : (value : RowPair → Value) (ps : List RowPair) (k : ℕ) (d : RowPair) → k < length ps → row (map value ps) k ≡ value (get_or ps k d)
row-pair value [] k d lt = absurd (omega (arith, lt))
row-pair value (p ∷ ps) zero d lt = refl
row-pair value (p ∷ ps) (suc k) d lt = row-pair value ps k d (omega (arith, lt))

module _ (args : JoinArgs) (lk rk : List Name) (f g : Frame) where
  abbrev along : List RowPair → Frame
  along ps = joined args lk rk ps f g

  abbrev one_column : List RowPair → Side × Name → Column
  one_column ps s = side_column (filler args lk rk) (call args (left_out args lk (column_names f.columns))) ps f g s

  abbrev values_of : Side × Name → RowPair → Value
  values_of s p = side_value (filler args lk rk) f g s p

  abbrev all_sources : List (Side × Name)
  all_sources = name_sources args lk rk (column_names f.columns) (column_names g.columns)

  pub even-joined : (ps : List RowPair) → IsEven (joined args lk rk ps f g)
  even-joined ps = go all_sources
    where
      go : (ss : List (Side × Name)) → AllByRecursion (λ (c : Column). length c.values ≡ length ps) (map (one_column ps) ss)
      go [] = tt
      go (s ∷ ss) = (length-map (values_of s) ps, go ss)

  -- some rows of a joined frame are those of some pairs
  same_rows : (rows : List ℕ) (ps qs : List RowPair) → length rows ≡ length qs → ((s : Side × Name) → picked rows (map (values_of s) ps) ≡ map (values_of s) qs) → rows_at rows (along ps) ≡ along qs
  same_rows rows ps qs high same = ap₂ (λ (h : ℕ) (cs : List Column). record { height = h; columns = cs }) high (go all_sources)
    where
      go : (ss : List (Side × Name)) → picked_columns rows (map (one_column ps) ss) ≡ map (one_column qs) ss
      go [] = refl
      go (s ∷ ss) = ap₂ (λ (vs : List Value) (cs : List Column). record { name = call args (left_out args lk (column_names f.columns)) s; values = vs } ∷ cs) (same s) (go ss)

  one_row : (ps : List RowPair) (k : ℕ) (d : RowPair) → k < length ps → rows_at (k ∷ []) (along ps) ≡ along (get_or ps k d ∷ [])
  one_row ps k d lt = same_rows (k ∷ []) ps (get_or ps k d ∷ []) refl (λ s. ap (λ (v : Value). v ∷ []) (row-pair (values_of s) ps k d lt))

  module _ (e : Expr) (w : is_elementwise e ≡ true) where
    pub true-row : (ps : List RowPair) (k : ℕ) (d : RowPair) → k < length ps → is_true (value_at (val e (along ps)) k) ≡ holds args lk rk f g e (get_or ps k d)
    true-row ps k d lt =
        ap is_true (sym (value_of_rows (k ∷ []) (val e (along ps)) 0 (omega arith)) ∙ ap (λ (c : Cell). value_at c 0) (sym (elementwise_rows (along ps) (even-joined ps) (k ∷ []) (lt, tt) e w).rows_of))
        ∙ ap (λ (h : Frame). is_true (value_at (val e h) 0)) (one_row ps k d lt)

    -- what a filter keeps of the rows of a join are those of the pairs that make its predicate true
    pub filtered-joined : (d : RowPair) (ps : List RowPair) → filtered e (joined args lk rk ps f g) ≡ joined args lk rk (only_where (holds args lk rk f g e) ps) f g
    filtered-joined d ps =
        let rows = true_rows (val e (along ps)) (length ps) in
        let test = λ (i : ℕ). is_true (value_at (val e (along ps)) i) in
        let made : (V : Type 0) → (value : RowPair → V) (at : ℕ → V) → ((i : ℕ) → i < length ps → at i ≡ value (get_or ps i d)) → map at (places_from test 0 (length ps)) ≡ map value (only_where (holds args lk rk f g e) ps) =
        λ V value at same. places-made d (holds args lk rk f g e) value ps 0 at test (λ i lt. let z : 0 + i ≡ i = omega arith in (ap test z ∙ true-row ps i d lt, ap at z ∙ same i lt)) in
        same_rows rows ps (only_where (holds args lk rk f g e) ps)
        (sym (length-map (λ (i : ℕ). null) rows) ∙ ap length (made Value (λ p. null) (λ i. null) (λ i lt. refl)) ∙ length-map (λ (p : RowPair). null) (only_where (holds args lk rk f g e) ps))
        (λ s. made Value (values_of s) (row (map (values_of s) ps)) (λ i lt. row-pair (values_of s) ps i d lt))
