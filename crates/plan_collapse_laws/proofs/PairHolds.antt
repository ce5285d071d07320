-- A comparison of an operand from the left side with one from the right, over a pair of rows, is that of the keys in these rows.
use Rattle.std.proofs.Common.{◌≡◌, ◌∙◌, ◌<◌, ℕ, Bool, true, cond, List, [], ◌∷◌, Option, Some, None, is_some, replicate, unwrap_or, length, refl, sym, ap, subst}
use Rattle.std.specs.Prelude.{option_map}
use Rattle.std.specs.List.{AllByRecursion}
use Rattle.plan_core.specs.declared.data_type.DataType.{DataType}
use Rattle.plan_core.specs.Columns.{Columns, names_of, type_of}
use Rattle.plan_core.specs.Names.{has, AreDistinct}
use Rattle.plan_options.specs.declared.join.JoinArgs.{JoinArgs}
use Rattle.plan_tree.specs.Rose.{rose, no_roses, more}
use Rattle.plan_expr.specs.declared.operator.Operator.{Operator}
use Rattle.plan_expr.specs.Exprs.{binary, Expr}
use Rattle.plan_expr.specs.Leaves.{Name, leaves}
use Rattle.plan_join.specs.declared.origin.Side.TheVariants as sides
use Rattle.plan_join.specs.Naming.{join_columns}
use Rattle.plan_frame.specs.Values.{Value, null, IsOf, is_true}
use Rattle.plan_frame.specs.Exprs.{expr_type}
use Rattle.plan_frame.specs.Frames.{Column, Frame, HasSchema, HaveTypes, column, column_or, found, picked, row, rows_at}
use Rattle.plan_frame.specs.Meaning.{Cell, CellHas, one, many, operated, spread, val, value_at}
use Rattle.plan_frame.proofs.Depends.{val_depends}
use Rattle.plan_frame.proofs.FrameLemmas.{found-picked, row_of}
use Rattle.plan_frame.proofs.MadeColumns.{some-found}
use Rattle.plan_frame.proofs.NameSets.{some-type_of}
use Rattle.plan_frame.proofs.Sound.{val_sound}
use Rattle.plan_join.specs.Pairs.{both}
use Rattle.plan_join.specs.Joined.{joined}
use Rattle.plan_join.specs.Sides.{filler, partner}
use Rattle.plan_join.proofs.JoinedLemmas.{joined-has}
use Rattle.plan_meaning.specs.JoinChecks.{is_elementwise}
use Rattle.plan_meaning.specs.CellRows.{IsEven, IsWide}
use Rattle.plan_meaning.proofs.RowWise.{elementwise_rows}
use Rattle.plan_collapse_laws.proofs.FilteredJoins.{even-joined}
use Rattle.plan_collapse_laws.specs.FilteredFrames.{holds, PutsOutAll}
use Rattle.plan_collapse_laws.proofs.Keys.{key-value}
use Rattle.plan_collapse_laws.specs.CrossKeys.{all_from, own_expr, own_name}
use Rattle.plan_pruned.proofs.JoinColumns.{origin_called, origin_out, out_values}
use Rattle.plan_pruned.proofs.JoinRenames.{elementwise-renamed, val-renamed}
use Rattle.plan_collapse_laws.proofs.OneSide.{cross, wide, from_side, left_has, own_is, right_has}

-- one row

spread_one : (g : Value → Value → Value) (c d : Cell) → IsWide 1 c → IsWide 1 d → value_at (spread g c d) 0 ≡ g (value_at c 0) (value_at d 0)
spread_one g (one x) (one y) h k = refl
spread_one g (one x) (many []) h k = cc
spread_one g (one x) (many (y ∷ ys)) h k = refl
spread_one g (many []) (one y) h k = cc
spread_one g (many (x ∷ xs)) (one y) h k = refl
spread_one g (many []) (many ys) h k = cc
spread_one g (many (x ∷ xs)) (many []) h k = cc
spread_one g (many (x ∷ xs)) (many (y ∷ ys)) h k = refl

pub typed_row : (t : DataType) (h : ℕ) (c : Cell) (i : ℕ) → CellHas t h c → IsOf t (value_at c i)
typed_row t h (one v) i k = k
typed_row t h (many vs) i k = row_of t vs i k.1

side_row : (f : Frame) (s : Columns) (i : ℕ) (b : Name) → HasSchema f s → has (names_of s) b ≡ true → column (rows_at (i ∷ []) f) b ≡ Some (row (column_or f b) i ∷ [])
side_row f s i b hf k = found-picked (i ∷ []) f.columns b ∙ at (found f.columns b) (some-found f.height f.columns s b hf ∙ some-type_of s b ∙ k)
  where
    at : (o : Option (List Value)) → is_some o ≡ true → option_map (picked (i ∷ [])) o ≡ Some (row (unwrap_or o (replicate f.height null)) i ∷ [])
    at None q = cc
    at (Some vs) q = refl

even_of : (f : Frame) (s : Columns) → HasSchema f s → IsEven f
even_of f s hf = go f.columns s hf
  where
    go : (cs : List Column) (ss : Columns) → HaveTypes f.height cs ss → AllByRecursion (λ (c : Column). length c.values ≡ f.height) cs
    go [] ss k = tt
    go (c ∷ cs) [] k = absurd k
    go (c ∷ cs) (d ∷ ss) k = (k.1, go cs ss k.3)

module _ (args : JoinArgs) (all : PutsOutAll args) (s t : Columns) (apart : AreDistinct (names_of (join_columns args [] [] s t))) (f g : Frame) (hf : HasSchema f s) (hg : HasSchema g t) (i j : ℕ) where
  abbrev pub pair : Frame
  pair = joined args [] [] (both i j ∷ []) f g

  left_column : (e : Expr) (a : Name) → all_from (cross args all s t) sides.Left e ≡ true → has (leaves e) a ≡ true → column (rows_at (i ∷ []) f) a ≡ column pair a
  left_column e a h k =
      let x = from_side args all s t sides.Left e a h k in
      let is : x.0 ≡ a = origin_called args [] [] s t a (sides.Left, x.0) x.1 in
      subst (λ (b : Name). column (rows_at (i ∷ []) f) b ≡ column pair b) is
      (side_row f s i x.0 hf (left_has args all s t x.0 a x.1) ∙ sym (out_values args [] [] s t apart (both i j ∷ []) f g hf hg (sides.Left, x.0) (origin_out args [] [] s t a (sides.Left, x.0) x.1)))

  right_column : (e : Expr) (a : Name) → all_from (cross args all s t) sides.Right e ≡ true → has (leaves e) a ≡ true → column (rows_at (j ∷ []) g) (own_name (cross args all s t) a) ≡ column pair a
  right_column e a h k =
      let x = from_side args all s t sides.Right e a h k in
      ap (column (rows_at (j ∷ []) g)) (own_is args all s t a (sides.Right, x.0) x.1)
      ∙ side_row g t j x.0 hg (right_has args all s t x.0 a x.1)
      ∙ sym (out_values args [] [] s t apart (both i j ∷ []) f g hf hg (sides.Right, x.0) (origin_out args [] [] s t a (sides.Right, x.0) x.1))
      ∙ ap (column pair) (origin_called args [] [] s t a (sides.Right, x.0) x.1)

  -- the value of an operand over the pair is that of the key in the row of its side
  pub left_operand : (e : Expr) → is_elementwise e ≡ true → all_from (cross args all s t) sides.Left e ≡ true → i < f.height → value_at (val e pair) 0 ≡ value_at (val e f) i
  left_operand e w h lt = key-value f pair i e e (even_of f s hf) lt w (val_depends e (rows_at (i ∷ []) f) pair (record { height = refl; same = λ a k. left_column e a h k }))

  pub right_operand : (e : Expr) → is_elementwise e ≡ true → all_from (cross args all s t) sides.Right e ≡ true → j < g.height → value_at (val e pair) 0 ≡ value_at (val (own_expr (cross args all s t) e) g) j
  right_operand e w h lt = key-value g pair j (own_expr (cross args all s t) e) e (even_of g t hg) lt (elementwise-renamed (own_name (cross args all s t)) e ∙ w)
      (val-renamed (own_name (cross args all s t)) e (leaves e) (rows_at (j ∷ []) g) pair (λ a k. k) (record { height = refl; same = λ a k. right_column e a h k }))

  -- what an operator makes of operands over the pair
  pub operator_holds : (op : Operator) (l r : Expr) → is_elementwise l ≡ true → is_elementwise r ≡ true → holds args [] [] f g (rose tt (binary op) (more l (more r no_roses))) (both i j) ≡ is_true (operated op (value_at (val l pair) 0) (value_at (val r pair) 0))
  operator_holds op l r wl wr = ap is_true (spread_one (operated op) (val l pair) (val r pair) (elementwise_rows pair (even-joined args [] [] f g (both i j ∷ [])) [] tt l wl).wide (elementwise_rows pair (even-joined args [] [] f g (both i j ∷ [])) [] tt r wr).wide)

  -- and of what type an operand is over the pair
  module _ (once_s : AreDistinct (names_of s)) (once_t : AreDistinct (names_of t)) where
    none_filled : (a b : Name) → filler args [] [] a ≡ Some b → type_of s a ≡ type_of t b
    none_filled a b e = none (ap (λ (x : Bool). cond x (partner [] [] a) None) (sym all.filled) ∙ e)
      where
        none : None ≡ Some b → type_of s a ≡ type_of t b
        none q = cc

    pub operand_type : (e : Expr) (k : DataType) → expr_type e (wide args all s t) ≡ Some k → IsOf k (value_at (val e pair) 0)
    operand_type e k q = typed_row k 1 (val e pair) 0 ((val_sound (wide args all s t) e).by pair k (joined-has args [] [] (both i j ∷ []) f g s t hf hg none_filled once_s once_t) q)
