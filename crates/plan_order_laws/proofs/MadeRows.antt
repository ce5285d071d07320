-- Selections and additions of what is elementwise, over rows in another order.
use Rattle.std.proofs.Common.{◌≡◌, ℕ, zero, suc, ◌<◌, Bool, true, false, cond, List, [], ◌∷◌, length, map, replicate, refl, sym, ap, ap₂, ◌∙◌, arith}
use Rattle.std.specs.Str.{bytes_eq}
use Rattle.std.proofs.lemmas.Bool.{and_parts}
use Rattle.plan_expr.specs.Exprs.{Named}
use Rattle.plan_expr.specs.Naming.{name_of}
use Rattle.plan_expr.specs.Scalars.{is_scalar}
use Rattle.plan_frame.specs.Values.{Value}
use Rattle.plan_frame.specs.Frames.{Column, Frame, picked, picked_columns, row, rows_at, with_column, with_columns}
use Rattle.plan_frame.specs.ExprLists.{all_scalar}
use Rattle.plan_frame.specs.Made.{made, made_columns}
use Rattle.plan_frame.specs.Meaning.{Cell, one, many, filled, val}
use Rattle.plan_frame.specs.Orders.{key_cells}
use Rattle.plan_frame.proofs.Sound.{val_single}
use Rattle.plan_meaning.specs.JoinChecks.{is_elementwise}
use Rattle.plan_order_laws.specs.Elementwise.{all_elementwise}
use Rattle.plan_order_laws.specs.Rows.{Below, IsLevel, rows_cell}
use Rattle.plan_order_laws.proofs.RowCells.{val_rows}

pub same_row : (v : Value) (h i : ℕ) → i < h → row (replicate h v) i ≡ v
same_row v zero i lt = absurd (omega (arith, lt))
same_row v (suc h) zero lt = refl
same_row v (suc h) (suc i) lt = same_row v h i (omega (arith, lt))

same_rows : (v : Value) (h : ℕ) (ps : List ℕ) → Below h ps → replicate (length ps) v ≡ picked ps (replicate h v)
same_rows v h [] b = refl
same_rows v h (p ∷ ps) b = ap₂ (λ (x : Value) (xs : List Value). x ∷ xs) (sym (same_row v h p b.0)) (same_rows v h ps b.1)

pub filled_rows : (c : Cell) (h : ℕ) (ps : List ℕ) → Below h ps → filled (length ps) (rows_cell ps c) ≡ picked ps (filled h c)
filled_rows (one v) h ps b = same_rows v h ps b
filled_rows (many vs) h ps b = refl

-- columns put together, in some rows
pub with_column_rows : (ps : List ℕ) (cs : List Column) (c : Column) → with_column (picked_columns ps cs) (record { name = c.name; values = picked ps c.values }) ≡ picked_columns ps (with_column cs c)
with_column_rows ps [] c = refl
with_column_rows ps (d ∷ cs) c = at (bytes_eq c.name d.name) (with_column_rows ps cs c)
  where
    now : Column
    now = record { name = c.name; values = picked ps c.values }

    at : (b : Bool) → with_column (picked_columns ps cs) (record { name = c.name; values = picked ps c.values }) ≡ picked_columns ps (with_column cs c) → cond b (record { name = c.name; values = picked ps c.values } ∷ picked_columns ps cs) (record { name = d.name; values = picked ps d.values } ∷ with_column (picked_columns ps cs) (record { name = c.name; values = picked ps c.values })) ≡ picked_columns ps (cond b (c ∷ cs) (d ∷ with_column cs c))
    at true e = refl
    at false e = ap (λ (l : List Column). record { name = d.name; values = picked ps d.values } ∷ l) e

pub with_columns_rows : (ps : List ℕ) (cs ds : List Column) → with_columns (picked_columns ps cs) (picked_columns ps ds) ≡ picked_columns ps (with_columns cs ds)
with_columns_rows ps cs [] = refl
with_columns_rows ps cs (d ∷ ds) = ap (λ (l : List Column). with_columns l (picked_columns ps ds)) (with_column_rows ps cs d) ∙ with_columns_rows ps (with_column cs d) ds

module _ (g : Frame) (ps : List ℕ) (b : Below g.height ps) (level : IsLevel g) where
  pub made_rows : (es : List Named) → all_elementwise es ≡ true → made_columns (length ps) (rows_at ps g) es ≡ picked_columns ps (made_columns g.height g es)
  made_rows [] w = refl
  made_rows (e ∷ es) w =
      let q = and_parts (is_elementwise e.expr) (all_elementwise es) w in
      ap₂ (λ (vs : List Value) (cs : List Column). record { name = name_of e.name; values = vs } ∷ cs)
      (ap (filled (length ps)) (val_rows g ps b level e.expr q.0).rows ∙ filled_rows (val e.expr g) g.height ps b)
      (made_rows es q.1)

  -- an addition of what is elementwise has its rows one for one
  pub added_rows : (es : List Named) → all_elementwise es ≡ true → made (length ps) (picked_columns ps g.columns) es (rows_at ps g) ≡ rows_at ps (made g.height g.columns es g)
  added_rows es w = ap (λ (cs : List Column). record { height = length ps; columns = cs }) (ap (with_columns (picked_columns ps g.columns)) (made_rows es w) ∙ with_columns_rows ps g.columns (made_columns g.height g es))

  pub alone_rows : (es : List Named) → all_elementwise es ≡ true → made (length ps) [] es (rows_at ps g) ≡ rows_at ps (made g.height [] es g)
  alone_rows es w = ap (λ (cs : List Column). record { height = length ps; columns = cs }) (ap (with_columns []) (made_rows es w) ∙ with_columns_rows ps [] (made_columns g.height g es))

  one_rows : (c : Cell) → (v : Value) × (c ≡ one v) → rows_cell ps c ≡ c
  one_rows (one v) s = refl
  one_rows (many vs) s = cc

  -- what is scalar and elementwise reads no row
  pub scalar_rows : (h : ℕ) (es : List Named) → all_scalar es ≡ true → all_elementwise es ≡ true → made_columns h (rows_at ps g) es ≡ made_columns h g es
  scalar_rows h [] s w = refl
  scalar_rows h (e ∷ es) s w =
      let q = and_parts (is_elementwise e.expr) (all_elementwise es) w in
      let r = and_parts (is_scalar e.expr) (all_scalar es) s in
      ap₂ (λ (c : Cell) (cs : List Column). record { name = name_of e.name; values = filled h c } ∷ cs)
      ((val_rows g ps b level e.expr q.0).rows ∙ one_rows (val e.expr g) ((val_single e.expr r.0).at g))
      (scalar_rows h es r.1 q.1)

-- the cells of keys
pub keys_rows : (g : Frame) (ps : List ℕ) → Below g.height ps → IsLevel g → (keys : List Named) → all_elementwise keys ≡ true → key_cells keys (rows_at ps g) ≡ map (rows_cell ps) (key_cells keys g)
keys_rows g ps b level [] w = refl
keys_rows g ps b level (e ∷ es) w =
    let q = and_parts (is_elementwise e.expr) (all_elementwise es) w in
    ap₂ (λ (c : Cell) (cs : List Cell). c ∷ cs) (val_rows g ps b level e.expr q.0).rows (keys_rows g ps b level es q.1)
