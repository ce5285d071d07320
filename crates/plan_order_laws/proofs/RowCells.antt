-- What is elementwise gives each value by one row alone: over some rows of a frame it has its values in these rows.
use Rattle.std.proofs.Common.{◌≡◌, ℕ, ◌<◌, true, cond, List, [], ◌∷◌, length, map, refl, sym, ap, ap₂, ◌∙◌, subst}
use Rattle.std.specs.List.{range_with_len}
use Rattle.std.proofs.lemmas.Bool.{and_parts}
use Rattle.std.proofs.lemmas.List.FromFn.{length-map-range_with_len}
use Rattle.plan_tree.specs.Rose.{Roses, rose, no_roses, more}
use Rattle.plan_expr.specs.Exprs.{ExprOp, column as column_of, literal, alias, binary, ternary, aggregate, call, window, len, Expr}
use Rattle.plan_expr.specs.declared.function_expr.FunctionExpr.{FunctionExpr}
use Rattle.plan_expr.specs.declared.function_expr.FunctionExpr.TheVariants.{Not, IsNull, IsNotNull, FillNull, Reverse, CumSum}
use Rattle.plan_expr.specs.Functions.{is_row_wise}
use Rattle.plan_frame.specs.Values.{Value, null, truth, is_null, is_true}
use Rattle.plan_frame.specs.Aggregates.{filled_null, negated}
use Rattle.plan_frame.specs.Frames.{Frame, picked}
use Rattle.plan_frame.specs.Meaning.{Cell, one, many, Meaning, called, chosen, each_value, operated, spread, value_at, meaning, val, vals}
use Rattle.plan_meaning.specs.JoinChecks.{is_elementwise, are_elementwise, works_by_row}
use Rattle.plan_frame.proofs.FrameLemmas.{length-map}
use Rattle.plan_order_laws.specs.Rows.{Below, IsLevel, IsLevelCell, nth, rows_cell}
use Rattle.plan_order_laws.proofs.Cells.{column_rows, long_zip, numbers_rows, picked_map, picked_zip, value_rows}
use Rattle.plan_order_laws.specs.Elementwise.{AllRowWise, RowWise}

module _ (f : Frame) (ps : List ℕ) (b : Below f.height ps) where
  in_long : (vs : List Value) → length vs ≡ f.height → Below (length vs) ps
  in_long vs e = subst (λ (n : ℕ). Below n ps) (sym e) b

  spread_rows : (o : Value → Value → Value) (c d : Cell) → IsLevelCell f.height c → IsLevelCell f.height d → IsLevelCell f.height (spread o c d) × (spread o (rows_cell ps c) (rows_cell ps d) ≡ rows_cell ps (spread o c d))
  spread_rows o (one x) (one y) h k = (tt, refl)
  spread_rows o (one x) (many ys) h k = (length-map (o x) ys ∙ k, ap many (picked_map (o x) ys ps (in_long ys k)))
  spread_rows o (many xs) (one y) h k = (length-map (λ x. o x y) xs ∙ h, ap many (picked_map (λ x. o x y) xs ps (in_long xs h)))
  spread_rows o (many xs) (many ys) h k = (long_zip o xs ys (k ∙ sym h) ∙ h, ap many (picked_zip o xs ys ps (in_long xs h) (k ∙ sym h)))

  each_rows : (o : Value → Value) (c : Cell) → IsLevelCell f.height c → IsLevelCell f.height (each_value o c) × (each_value o (rows_cell ps c) ≡ rows_cell ps (each_value o c))
  each_rows o (one v) h = (tt, refl)
  each_rows o (many vs) h = (length-map o vs ∙ h, ap many (picked_map o vs ps (in_long vs h)))

  abbrev at_row : Cell → Cell → Cell → ℕ → Value
  at_row t e p i = cond (is_true (value_at p i)) (value_at t i) (value_at e i)

  row_at : (t e p : Cell) (i : ℕ) → i < length ps → at_row (rows_cell ps t) (rows_cell ps e) (rows_cell ps p) i ≡ at_row t e p (nth ps i)
  row_at t e p i lt =
      ap (λ (v : Value). cond (is_true v) (value_at (rows_cell ps t) i) (value_at (rows_cell ps e) i)) (value_rows p ps i lt)
      ∙ ap₂ (λ (v w : Value). cond (is_true (value_at p (nth ps i))) v w) (value_rows t ps i lt) (value_rows e ps i lt)

  each_row : (t e p : Cell) → map (at_row (rows_cell ps t) (rows_cell ps e) (rows_cell ps p)) (range_with_len 0 (length ps)) ≡ picked ps (map (at_row t e p) (range_with_len 0 f.height))
  each_row t e p = numbers_rows (at_row t e p) (at_row (rows_cell ps t) (rows_cell ps e) (rows_cell ps p)) f.height ps b (row_at t e p)

  long_rows : (t e p : Cell) → length (map (at_row t e p) (range_with_len 0 f.height)) ≡ f.height
  long_rows t e p = length-map-range_with_len (at_row t e p) 0 f.height

  chosen_rows : (t e p : Cell) → IsLevelCell f.height (chosen f.height t e p) × (chosen (length ps) (rows_cell ps t) (rows_cell ps e) (rows_cell ps p) ≡ rows_cell ps (chosen f.height t e p))
  chosen_rows (one x) (one y) (one z) = (tt, refl)
  chosen_rows (one x) (one y) (many zs) = (long_rows (one x) (one y) (many zs), ap many (each_row (one x) (one y) (many zs)))
  chosen_rows (one x) (many ys) p = (long_rows (one x) (many ys) p, ap many (each_row (one x) (many ys) p))
  chosen_rows (many xs) e p = (long_rows (many xs) e p, ap many (each_row (many xs) e p))

  constant : (c : Value) → RowWise f ps (λ g. one c)
  constant c = record { level = tt; rows = refl }

  called_one : (c : FunctionExpr) (m : Meaning) → is_row_wise c ≡ true → RowWise f ps m → RowWise f ps (λ g. called c (m g ∷ []))
  called_one Not m e h = let k = each_rows negated (m f) h.level in record { level = k.0; rows = ap (each_value negated) h.rows ∙ k.1 }
  called_one IsNull m e h = let k = each_rows (λ v. truth (is_null v)) (m f) h.level in record { level = k.0; rows = ap (each_value (λ v. truth (is_null v))) h.rows ∙ k.1 }
  called_one IsNotNull m e h = let k = each_rows _ (m f) h.level in record { level = k.0; rows = ap (each_value _) h.rows ∙ k.1 }
  called_one FillNull m e h = constant null
  called_one Reverse m e h = cc
  called_one CumSum m e h = cc

  called_two : (c : FunctionExpr) (m n : Meaning) → is_row_wise c ≡ true → RowWise f ps m → RowWise f ps n → RowWise f ps (λ g. called c (m g ∷ n g ∷ []))
  called_two FillNull m n e h k = let r = spread_rows filled_null (m f) (n f) h.level k.level in record { level = r.0; rows = ap₂ (spread filled_null) h.rows k.rows ∙ r.1 }
  called_two Not m n e h k = constant null
  called_two IsNull m n e h k = constant null
  called_two IsNotNull m n e h k = constant null
  called_two Reverse m n e h k = constant null
  called_two CumSum m n e h k = constant null

  chosen_same : (h : ℕ) (a b c x y z : Cell) → a ≡ x → b ≡ y → c ≡ z → chosen h a b c ≡ chosen h x y z
  chosen_same h a b c x y z p q r = ap (λ (u : Cell). chosen h u b c) p ∙ ap₂ (chosen h x) q r

  meaning_rows : (level : IsLevel f) (op : ExprOp) (ms : List Meaning) → works_by_row op ≡ true → AllRowWise f ps ms → RowWise f ps (meaning op ms)
  meaning_rows level (column_of a) ms e h = record { level = level a; rows = ap many (column_rows f ps a) }
  meaning_rows level (literal v) ms e h = record { level = tt; rows = refl }
  meaning_rows level (alias a) [] e h = constant null
  meaning_rows level (alias a) (m ∷ []) e h = record { level = h.0.level; rows = h.0.rows }
  meaning_rows level (alias a) (m ∷ n ∷ ms) e h = constant null
  meaning_rows level (binary o) [] e h = constant null
  meaning_rows level (binary o) (m ∷ []) e h = constant null
  meaning_rows level (binary o) (m ∷ n ∷ []) e h = let r = spread_rows (operated o) (m f) (n f) h.0.level h.1.0.level in record { level = r.0; rows = ap₂ (spread (operated o)) h.0.rows h.1.0.rows ∙ r.1 }
  meaning_rows level (binary o) (m ∷ n ∷ k ∷ ms) e h = constant null
  meaning_rows level ternary [] e h = constant null
  meaning_rows level ternary (m ∷ []) e h = constant null
  meaning_rows level ternary (m ∷ n ∷ []) e h = constant null
  meaning_rows level ternary (m ∷ n ∷ k ∷ []) e h = let r = chosen_rows (m f) (n f) (k f) in record { level = r.0; rows = chosen_same (length ps) _ _ _ _ _ _ h.0.rows h.1.0.rows h.1.1.0.rows ∙ r.1 }
  meaning_rows level ternary (m ∷ n ∷ k ∷ j ∷ ms) e h = constant null
  meaning_rows level (call c o) [] e h = constant null
  meaning_rows level (call c o) (m ∷ []) e h = let r = called_one c m e h.0 in record { level = r.level; rows = r.rows }
  meaning_rows level (call c o) (m ∷ n ∷ []) e h = let r = called_two c m n e h.0 h.1.0 in record { level = r.level; rows = r.rows }
  meaning_rows level (call c o) (m ∷ n ∷ k ∷ ms) e h = constant null
  meaning_rows level (aggregate o) ms e h = cc
  meaning_rows level window ms e h = cc
  meaning_rows level len ms e h = cc

  mutual
    pub val_rows : (level : IsLevel f) (e : Expr) → is_elementwise e ≡ true → RowWise f ps (val e)
    val_rows level (rose n op es) w = let q = and_parts (works_by_row op) (are_elementwise es) w in meaning_rows level op (vals es) q.0 (vals_rows level es q.1)

    pub vals_rows : (level : IsLevel f) (es : Roses (Unit {0}) ExprOp) → are_elementwise es ≡ true → AllRowWise f ps (vals es)
    vals_rows level no_roses w = tt
    vals_rows level (more e es) w = let q = and_parts (is_elementwise e) (are_elementwise es) w in (val_rows level e q.0, vals_rows level es q.1)
