-- An elementwise expression means, over some rows of a frame, what it means in these rows over the frame.
use Rattle.std.proofs.Common.{◌≡◌, ◌∙◌, ◌<◌, ℕ, zero, suc, Bool, true, false, cond, List, [], ◌∷◌, map, length, Option, Some, None, replicate, get_or, unwrap_or, refl, sym, ap, ap₂, arith}
use Rattle.std.specs.Prelude.{option_map}
use Rattle.std.specs.List.{AllByRecursion, range_with_len}
use Rattle.std.specs.Str.{bytes_eq}
use Rattle.std.proofs.lemmas.Bool.{and_parts as parts_of}
use Rattle.std.proofs.lemmas.List.{ext_get_or}
use Rattle.std.proofs.lemmas.List.FromFn.{get_or-map-range_with_len, length-map-range_with_len}
use Rattle.plan_tree.specs.Rose.{Roses, rose, no_roses, more}
use Rattle.plan_expr.specs.Exprs.{ExprOp, column as column_of, literal, alias, binary, ternary, aggregate, call, window, len, Expr}
use Rattle.plan_expr.specs.Functions.{is_row_wise}
use Rattle.plan_expr.specs.Leaves.{Name}
use Rattle.plan_expr.specs.declared.function_expr.FunctionExpr.{FunctionExpr}
use Rattle.plan_expr.specs.declared.function_expr.FunctionExpr.TheVariants.{Not, IsNull, IsNotNull, FillNull, Reverse, CumSum}
use Rattle.plan_frame.specs.Values.{Value, null, is_true}
use Rattle.plan_frame.specs.Frames.{Frame, Column, column_or, found, picked, row, rows_at}
use Rattle.plan_frame.specs.Meaning.{Cell, one, many, Meaning, all_one, called_on, called_on_two, chosen, each_value, meaning, operated, spread, val, vals, value_at, zip_by}
use Rattle.plan_frame.proofs.FrameLemmas.{found-picked, length-map}
use Rattle.plan_meaning.specs.CellRows.{cell_rows, IsWide, AreBelow, IsEven}
use Rattle.plan_meaning.specs.JoinChecks.{works_by_row, is_elementwise, are_elementwise}

-- rows of lists that are made value by value

row_map : (g : Value → Value) (vs : List Value) (i : ℕ) → i < length vs → row (map g vs) i ≡ g (row vs i)
row_map g [] i lt = absurd (omega (arith, lt))
row_map g (v ∷ vs) zero lt = refl
row_map g (v ∷ vs) (suc i) lt = row_map g vs i (omega (arith, lt))

row_zip : (g : Value → Value → Value) (xs ys : List Value) (i : ℕ) → i < length xs → i < length ys → row (zip_by g xs ys) i ≡ g (row xs i) (row ys i)
row_zip g [] ys i lx ly = absurd (omega (arith, lx))
row_zip g (x ∷ xs) [] i lx ly = absurd (omega (arith, ly))
row_zip g (x ∷ xs) (y ∷ ys) zero lx ly = refl
row_zip g (x ∷ xs) (y ∷ ys) (suc i) lx ly = row_zip g xs ys i (omega (arith, lx)) (omega (arith, ly))

row_none : (h i : ℕ) → row (replicate h null) i ≡ null
row_none zero i = refl
row_none (suc h) zero = refl
row_none (suc h) (suc i) = row_none h i

row-get : (vs : List Value) (i : ℕ) → row vs i ≡ get_or vs i null
row-get [] i = refl
row-get (v ∷ vs) zero = refl
row-get (v ∷ vs) (suc i) = row-get vs i

length-none : (h : ℕ) → length (replicate h null) ≡ h
length-none zero = refl
length-none (suc h) = ap suc (length-none h)

length-zip : (g : Value → Value → Value) (h : ℕ) (xs ys : List Value) → length xs ≡ h → length ys ≡ h → length (zip_by g xs ys) ≡ h
length-zip g h [] [] e k = e
length-zip g h [] (y ∷ ys) e k = e
length-zip g h (x ∷ xs) [] e k = k
length-zip g zero (x ∷ xs) (y ∷ ys) e k = cc
length-zip g (suc h) (x ∷ xs) (y ∷ ys) e k = ap suc (length-zip g h xs ys (omega (arith, e)) (omega (arith, k)))

module _ (h : ℕ) where
  picked-map : (g : Value → Value) (rows : List ℕ) (vs : List Value) → AreBelow h rows → length vs ≡ h → map g (picked rows vs) ≡ picked rows (map g vs)
  picked-map g [] vs b e = refl
  picked-map g (i ∷ rows) vs b e = ap₂ (λ (x : Value) (xs : List Value). x ∷ xs) (sym (row_map g vs i (omega (arith, b.0, e)))) (picked-map g rows vs b.1 e)

  picked-zip : (g : Value → Value → Value) (rows : List ℕ) (xs ys : List Value) → AreBelow h rows → length xs ≡ h → length ys ≡ h → zip_by g (picked rows xs) (picked rows ys) ≡ picked rows (zip_by g xs ys)
  picked-zip g [] xs ys b e k = refl
  picked-zip g (i ∷ rows) xs ys b e k = ap₂ (λ (v : Value) (vs : List Value). v ∷ vs) (sym (row_zip g xs ys i (omega (arith, b.0, e)) (omega (arith, b.0, k)))) (picked-zip g rows xs ys b.1 e k)

  spread_rows : (g : Value → Value → Value) (rows : List ℕ) (c d : Cell) → AreBelow h rows → IsWide h c → IsWide h d → spread g (cell_rows rows c) (cell_rows rows d) ≡ cell_rows rows (spread g c d)
  spread_rows g rows (one x) (one y) b e k = refl
  spread_rows g rows (one x) (many ys) b e k = ap many (picked-map (g x) rows ys b k)
  spread_rows g rows (many xs) (one y) b e k = ap many (picked-map (λ x. g x y) rows xs b e)
  spread_rows g rows (many xs) (many ys) b e k = ap many (picked-zip g rows xs ys b e k)

  spread_wide : (g : Value → Value → Value) (c d : Cell) → IsWide h c → IsWide h d → IsWide h (spread g c d)
  spread_wide g (one x) (one y) e k = tt
  spread_wide g (one x) (many ys) e k = length-map (g x) ys ∙ k
  spread_wide g (many xs) (one y) e k = length-map (λ x. g x y) xs ∙ e
  spread_wide g (many xs) (many ys) e k = length-zip g h xs ys e k

  each_rows : (g : Value → Value) (rows : List ℕ) (c : Cell) → AreBelow h rows → IsWide h c → each_value g (cell_rows rows c) ≡ cell_rows rows (each_value g c)
  each_rows g rows (one x) b e = refl
  each_rows g rows (many xs) b e = ap many (picked-map g rows xs b e)

  each_wide : (g : Value → Value) (c : Cell) → IsWide h c → IsWide h (each_value g c)
  each_wide g (one x) e = tt
  each_wide g (many xs) e = length-map g xs ∙ e

-- a value of some rows of a cell
pub value_of_rows : (rows : List ℕ) (c : Cell) (k : ℕ) → k < length rows → value_at (cell_rows rows c) k ≡ value_at c (get_or rows k 0)
value_of_rows rows (one v) k lt = refl
value_of_rows rows (many vs) k lt = go rows k lt
  where
    go : (rows : List ℕ) (k : ℕ) → k < length rows → row (picked rows vs) k ≡ row vs (get_or rows k 0)
    go [] k lt = absurd (omega (arith, lt))
    go (i ∷ rows) zero lt = refl
    go (i ∷ rows) (suc k) lt = go rows k (omega (arith, lt))

below_at : (h : ℕ) (rows : List ℕ) (k : ℕ) → AreBelow h rows → k < length rows → get_or rows k 0 < h
below_at h [] k b lt = absurd (omega (arith, lt))
below_at h (i ∷ rows) zero b lt = b.0
below_at h (i ∷ rows) (suc k) b lt = below_at h rows k b.1 (omega (arith, lt))

-- choices

all-one-rows : (rows : List ℕ) (c d p : Cell) → all_one (cell_rows rows c ∷ cell_rows rows d ∷ cell_rows rows p ∷ []) ≡ all_one (c ∷ d ∷ p ∷ [])
all-one-rows rows (many x) d p = refl
all-one-rows rows (one x) (many y) p = refl
all-one-rows rows (one x) (one y) (many z) = refl
all-one-rows rows (one x) (one y) (one z) = refl

-- values that are made in each row are, in some rows, those that are made there
made_rows : (h : ℕ) (rows : List ℕ) (at there : ℕ → Value) → AreBelow h rows → ((k : ℕ) → k < length rows → there k ≡ at (get_or rows k 0)) → map there (range_with_len 0 (length rows)) ≡ picked rows (map at (range_with_len 0 h))
made_rows h rows at there b same =
    ext_get_or null (map there (range_with_len 0 (length rows))) (picked rows (map at (range_with_len 0 h)))
    (length-map-range_with_len there 0 (length rows) ∙ sym (length-map (row (map at (range_with_len 0 h))) rows))
    (λ k lt. let kl : k < length rows = omega (arith, lt, length-map-range_with_len there 0 (length rows)) in
    get_or-map-range_with_len there 0 (length rows) k k null kl (omega arith)
    ∙ same k kl
    ∙ sym (get_or-map-range_with_len at 0 h (get_or rows k 0) (get_or rows k 0) null (below_at h rows k b kl) (omega arith))
    ∙ sym (row-get (map at (range_with_len 0 h)) (get_or rows k 0))
    ∙ sym (value_of_rows rows (many (map at (range_with_len 0 h))) k kl)
    ∙ row-get (picked rows (map at (range_with_len 0 h))) k)

abbrev choice : Cell → Cell → Cell → ℕ → Value
choice c d p i = cond (is_true (value_at p i)) (value_at c i) (value_at d i)

chosen_rows : (h : ℕ) (rows : List ℕ) (c d p : Cell) → AreBelow h rows → chosen (length rows) (cell_rows rows c) (cell_rows rows d) (cell_rows rows p) ≡ cell_rows rows (chosen h c d p)
chosen_rows h rows (one x) (one y) (one z) b = refl
chosen_rows h rows (many x) d p b = ap many (made_rows h rows (choice (many x) d p) (choice (cell_rows rows (many x)) (cell_rows rows d) (cell_rows rows p)) b (λ k lt. same k lt))
  where
    same : (k : ℕ) → k < length rows → choice (cell_rows rows (many x)) (cell_rows rows d) (cell_rows rows p) k ≡ choice (many x) d p (get_or rows k 0)
    same k lt = ap₂ (λ (v w : Value). cond (is_true (value_at (cell_rows rows p) k)) v w) (value_of_rows rows (many x) k lt) (value_of_rows rows d k lt) ∙ ap (λ (v : Value). cond (is_true v) (value_at (many x) (get_or rows k 0)) (value_at d (get_or rows k 0))) (value_of_rows rows p k lt)
chosen_rows h rows (one x) (many y) p b = ap many (made_rows h rows (choice (one x) (many y) p) (choice (one x) (cell_rows rows (many y)) (cell_rows rows p)) b (λ k lt. same k lt))
  where
    same : (k : ℕ) → k < length rows → choice (one x) (cell_rows rows (many y)) (cell_rows rows p) k ≡ choice (one x) (many y) p (get_or rows k 0)
    same k lt = ap (λ (w : Value). cond (is_true (value_at (cell_rows rows p) k)) x w) (value_of_rows rows (many y) k lt) ∙ ap (λ (v : Value). cond (is_true v) x (value_at (many y) (get_or rows k 0))) (value_of_rows rows p k lt)
chosen_rows h rows (one x) (one y) (many z) b = ap many (made_rows h rows (choice (one x) (one y) (many z)) (choice (one x) (one y) (cell_rows rows (many z))) b (λ k lt. ap (λ (v : Value). cond (is_true v) x y) (value_of_rows rows (many z) k lt)))

chosen_wide : (h : ℕ) (c d p : Cell) → IsWide h (chosen h c d p)
chosen_wide h (one x) (one y) (one z) = tt
chosen_wide h (many x) d p = length-map-range_with_len (choice (many x) d p) 0 h
chosen_wide h (one x) (many y) p = length-map-range_with_len (choice (one x) (many y) p) 0 h
chosen_wide h (one x) (one y) (many z) = length-map-range_with_len (choice (one x) (one y) (many z)) 0 h

-- columns

found_wide : (h : ℕ) (cs : List Column) (a : Name) (vs : List Value) → AllByRecursion (λ (c : Column). length c.values ≡ h) cs → found cs a ≡ Some vs → length vs ≡ h
found_wide h [] a vs w e = cc
found_wide h (c ∷ cs) a vs w e = at (bytes_eq a c.name) e (λ q. found_wide h cs a vs w.1 q)
  where
    at : (b : Bool) → cond b (Some c.values) (found cs a) ≡ Some vs → (found cs a ≡ Some vs → length vs ≡ h) → length vs ≡ h
    at true q rest = let r : c.values ≡ vs = cc in ap length (sym r) ∙ w.0
    at false q rest = rest q

picked-none : (rows : List ℕ) (h : ℕ) → replicate (length rows) null ≡ picked rows (replicate h null)
picked-none [] h = refl
picked-none (i ∷ rows) h = ap₂ (λ (v : Value) (vs : List Value). v ∷ vs) (sym (row_none h i)) (picked-none rows h)

module _ (f : Frame) (even : IsEven f) (rows : List ℕ) (below : AreBelow f.height rows) where
  column_rows : (a : Name) → column_or (rows_at rows f) a ≡ picked rows (column_or f a)
  column_rows a = ap (λ (o : Option (List Value)). unwrap_or o (replicate (length rows) null)) (found-picked rows f.columns a) ∙ at (found f.columns a)
    where
      at : (o : Option (List Value)) → unwrap_or (option_map (picked rows) o) (replicate (length rows) null) ≡ picked rows (unwrap_or o (replicate f.height null))
      at None = picked-none rows f.height
      at (Some vs) = refl

  column_wide : (a : Name) → length (column_or f a) ≡ f.height
  column_wide a = at (found f.columns a) refl
    where
      at : (o : Option (List Value)) → found f.columns a ≡ o → length (unwrap_or o (replicate f.height null)) ≡ f.height
      at None e = length-none f.height
      at (Some vs) e = found_wide f.height f.columns a vs even e

  -- a meaning works row by row here
  pub record RowWise (m : Meaning) : Type 0 where
    pub wide : IsWide f.height (m f)
    pub rows_of : m (rows_at rows f) ≡ cell_rows rows (m f)

  abbrev AllRowWise : List Meaning → Type 0
  AllRowWise [] = Unit {0}
  AllRowWise (m ∷ ms) = RowWise m × AllRowWise ms

  unary_rows : (function : FunctionExpr) → is_row_wise function ≡ true → (c : Cell) → IsWide f.height c → IsWide f.height (called_on function c) × (called_on function (cell_rows rows c) ≡ cell_rows rows (called_on function c))
  unary_rows Not w c wide = (each_wide f.height _ c wide, each_rows f.height _ rows c below wide)
  unary_rows IsNull w c wide = (each_wide f.height _ c wide, each_rows f.height _ rows c below wide)
  unary_rows IsNotNull w c wide = (each_wide f.height _ c wide, each_rows f.height _ rows c below wide)
  unary_rows FillNull w c wide = (tt, refl)
  unary_rows Reverse w c wide = cc
  unary_rows CumSum w c wide = cc

  binary_rows : (function : FunctionExpr) → (c d : Cell) → IsWide f.height c → IsWide f.height d → IsWide f.height (called_on_two function c d) × (called_on_two function (cell_rows rows c) (cell_rows rows d) ≡ cell_rows rows (called_on_two function c d))
  binary_rows FillNull c d wc wd = (spread_wide f.height _ c d wc wd, spread_rows f.height _ rows c d below wc wd)
  binary_rows Not c d wc wd = (tt, refl)
  binary_rows IsNull c d wc wd = (tt, refl)
  binary_rows IsNotNull c d wc wd = (tt, refl)
  binary_rows Reverse c d wc wd = (tt, refl)
  binary_rows CumSum c d wc wd = (tt, refl)

  meaning_rows : (op : ExprOp) (ms : List Meaning) → works_by_row op ≡ true → AllRowWise ms → RowWise (meaning op ms)
  meaning_rows (column_of a) ms w h = record { wide = column_wide a; rows_of = ap many (column_rows a) }
  meaning_rows (literal v) ms w h = record { wide = tt; rows_of = refl }
  meaning_rows (alias a) [] w h = record { wide = tt; rows_of = refl }
  meaning_rows (alias a) (m ∷ []) w h = record { wide = h.0.wide; rows_of = h.0.rows_of }
  meaning_rows (alias a) (m ∷ n ∷ ms) w h = record { wide = tt; rows_of = refl }
  meaning_rows (binary o) [] w h = record { wide = tt; rows_of = refl }
  meaning_rows (binary o) (m ∷ []) w h = record { wide = tt; rows_of = refl }
  meaning_rows (binary o) (m ∷ n ∷ []) w h = record {
    wide = spread_wide f.height (operated o) (m f) (n f) h.0.wide h.1.0.wide;
    rows_of = ap₂ (spread (operated o)) h.0.rows_of h.1.0.rows_of ∙ spread_rows f.height (operated o) rows (m f) (n f) below h.0.wide h.1.0.wide;
  }
  meaning_rows (binary o) (m ∷ n ∷ k ∷ ms) w h = record { wide = tt; rows_of = refl }
  meaning_rows ternary [] w h = record { wide = tt; rows_of = refl }
  meaning_rows ternary (m ∷ []) w h = record { wide = tt; rows_of = refl }
  meaning_rows ternary (m ∷ n ∷ []) w h = record { wide = tt; rows_of = refl }
  meaning_rows ternary (m ∷ n ∷ k ∷ []) w h = record {
    wide = chosen_wide f.height (m f) (n f) (k f);
    rows_of =
        ap (λ (c : Cell). chosen (length rows) c (n (rows_at rows f)) (k (rows_at rows f))) h.0.rows_of
        ∙ ap₂ (λ (d p : Cell). chosen (length rows) (cell_rows rows (m f)) d p) h.1.0.rows_of h.1.1.0.rows_of
        ∙ chosen_rows f.height rows (m f) (n f) (k f) below;
  }
  meaning_rows ternary (m ∷ n ∷ k ∷ j ∷ ms) w h = record { wide = tt; rows_of = refl }
  meaning_rows (aggregate o) ms w h = cc
  meaning_rows (call c o) [] w h = record { wide = tt; rows_of = refl }
  meaning_rows (call c o) (m ∷ []) w h = let u = unary_rows c w (m f) h.0.wide in record { wide = u.0; rows_of = ap (called_on c) h.0.rows_of ∙ u.1 }
  meaning_rows (call c o) (m ∷ n ∷ []) w h = let u = binary_rows c (m f) (n f) h.0.wide h.1.0.wide in record { wide = u.0; rows_of = ap₂ (called_on_two c) h.0.rows_of h.1.0.rows_of ∙ u.1 }
  meaning_rows (call c o) (m ∷ n ∷ k ∷ ms) w h = record { wide = tt; rows_of = refl }
  meaning_rows window ms w h = cc
  meaning_rows len ms w h = cc

  mutual
    pub elementwise_rows : (e : Expr) → is_elementwise e ≡ true → RowWise (val e)
    elementwise_rows (rose n op es) w = let p = parts_of (works_by_row op) (are_elementwise es) w in meaning_rows op (vals es) p.0 (elementwise_all es p.1)

    elementwise_all : (es : Roses (Unit {0}) ExprOp) → are_elementwise es ≡ true → AllRowWise (vals es)
    elementwise_all no_roses w = tt
    elementwise_all (more e es) w = let p = parts_of (is_elementwise e) (are_elementwise es) w in (elementwise_rows e p.0, elementwise_all es p.1)
