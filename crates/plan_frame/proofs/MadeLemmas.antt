-- What expressions make of a frame has the columns that they make.
use Rattle.std.proofs.Common.{◌≡◌, ℕ, Bool, true, false, cond, List, [], ◌∷◌, map, Option, Some, None, is_some, unwrap_or, refl, subst}
use Rattle.std.specs.List.{AllByRecursion}
use Rattle.plan_core.specs.declared.data_type.DataType.{DataType}
use Rattle.plan_core.specs.Columns.{Columns}
use Rattle.plan_expr.specs.Exprs.{Named}
use Rattle.plan_core.specs.declared.data_type.DataType.TheVariants as types
use Rattle.plan_expr.specs.Naming.{name_of}
use Rattle.plan_expr.specs.Scalars.{is_scalar}
use Rattle.plan_frame.specs.Exprs.{expr_type}
use Rattle.plan_frame.specs.Grouping.{gathered, group_exprs, row_exprs}
use Rattle.plan_frame.specs.Made.{made_schema, made_columns, made, selected, grouped}
use Rattle.plan_frame.specs.Frames.{Frame, Column, HaveTypes, HasSchema, with_columns}
use Rattle.plan_frame.specs.Meaning.{val, filled}
use Rattle.plan_frame.specs.ExprLists.{all_scalar}
use Rattle.std.proofs.lemmas.Bool.{and_parts as parts_of}
use Rattle.plan_frame.proofs.FrameLemmas.{rows_schema, with_has}
use Rattle.plan_frame.proofs.Sound.{val_sound, val_single, Fills, cell_fills, one_fills}
use Rattle.plan_frame.proofs.GroupLemmas.{all_front, row-schema, rows_typed}

-- the columns that expressions make, beside others
pub made_have : (h : ℕ) (g : Frame) (s : Columns) (es : List Named) (cs : List Column) (base : Columns) → HaveTypes h cs base → AllByRecursion (λ (e : Named). Fills (unwrap_or (expr_type e.expr s) types.Int64) h (val e.expr g)) es → HaveTypes h (with_columns cs (made_columns h g es)) (made_schema base es s)
made_have h g s [] cs base k a = k
made_have h g s (e ∷ es) cs base k a =
    made_have h g s es _ _ (with_has h cs base (record { name = name_of e.name; values = filled h (val e.expr g) }) (unwrap_or (expr_type e.expr s) types.Int64) k a.0.0 a.0.1) a.1

typed_some : (o : Option DataType) → is_some o ≡ true → o ≡ Some (unwrap_or o types.Int64)
typed_some None e = cc
typed_some (Some t) e = refl

-- expressions that have types fill columns as high as the frame
pub typed_fill : (g : Frame) (s : Columns) (es : List Named) → HasSchema g s → AllByRecursion (λ (e : Named). is_some (expr_type e.expr s) ≡ true) es → AllByRecursion (λ (e : Named). Fills (unwrap_or (expr_type e.expr s) types.Int64) g.height (val e.expr g)) es
typed_fill g s [] has a = tt
typed_fill g s (e ∷ es) has a =
    let t = unwrap_or (expr_type e.expr s) types.Int64 in
    (cell_fills t g.height (val e.expr g) ((val_sound s e.expr).by g t has (typed_some (expr_type e.expr s) a.0)), typed_fill g s es has a.1)

-- and where they are scalar, columns of any height
scalar_fill : (h : ℕ) (g : Frame) (s : Columns) (es : List Named) → HasSchema g s → all_scalar es ≡ true → AllByRecursion (λ (e : Named). is_some (expr_type e.expr s) ≡ true) es → AllByRecursion (λ (e : Named). Fills (unwrap_or (expr_type e.expr s) types.Int64) h (val e.expr g)) es
scalar_fill h g s [] has q a = tt
scalar_fill h g s (e ∷ es) has q a =
    let t = unwrap_or (expr_type e.expr s) types.Int64 in
    let p = parts_of (is_scalar e.expr) (all_scalar es) q in
    (one_fills t h g.height (val e.expr g) ((val_single e.expr p.0).at g) ((val_sound s e.expr).by g t has (typed_some (expr_type e.expr s) a.0)), scalar_fill h g s es has p.1 a.1)

-- a selection has a column for each expression
pub selected_has : (g : Frame) (s : Columns) (es : List Named) → HasSchema g s → AllByRecursion (λ (e : Named). is_some (expr_type e.expr s) ≡ true) es → HasSchema (selected es g) (made_schema [] es s)
selected_has g s es has a = at (all_scalar es) refl
  where
    at : (b : Bool) → all_scalar es ≡ b → HasSchema (made (cond b 1 g.height) [] es g) (made_schema [] es s)
    at true q = made_have 1 g s es [] [] tt (scalar_fill 1 g s es has q a)
    at false q = made_have g.height g s es [] [] tt (typed_fill g s es has a)

-- a grouping has a column for each key, and for each aggregate
pub grouped_has : (keys aggs : List Named) (rows : List ℕ) (g : Frame) (s : Columns) → HasSchema g s → AllByRecursion (λ (e : Named). is_some (expr_type e.expr s) ≡ true) (group_exprs keys aggs) → HasSchema (grouped keys aggs rows g) (made_schema [] (group_exprs keys aggs) s)
grouped_has keys aggs rows g s has a =
    let by_row = made_have g.height g s (row_exprs keys aggs) [] [] tt (typed_fill g s (row_exprs keys aggs) has (rows_typed keys aggs s a)) in
    let typed = all_front (λ (e : Named). is_some (expr_type e.expr s) ≡ true) keys (map gathered aggs) a in
    rows_schema rows (made g.height [] (row_exprs keys aggs) g) (made_schema [] (group_exprs keys aggs) s) (subst (HasSchema (made g.height [] (row_exprs keys aggs) g)) (row-schema keys s typed [] aggs) by_row)
