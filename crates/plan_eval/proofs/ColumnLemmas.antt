-- The columns that expressions make, one after another.
use Rattle.std.proofs.Common.{◌≡◌, ◌++◌, ◌<◌, ◌+◌, ℕ, List, [], ◌∷◌, map, take, length, get_or, ap, ap₂, sym, ◌∙◌}
use Rattle.std.proofs.lemmas.List.{map-append, take_more}
use Rattle.std.proofs.lemmas.List.Sums.{fold-append}
use Rattle.plan_core.specs.Columns.{Columns, with_type, with_types}
use Rattle.plan_core.specs.declared.data_type.DataType.{DataType}
use Rattle.plan_expr.specs.declared.aexpr.AExpr.{AExpr}
use Rattle.plan_expr.specs.declared.expr_ir.ExprIR.{ExprIR}
use Rattle.plan_expr.specs.Exprs.{Named, all_named_at, expr_at, named_at}
use Rattle.plan_expr.specs.Leaves.{Name}
use Rattle.plan_expr.specs.Naming.{name_of}
use Rattle.plan_frame.specs.Frames.{Column, Frame}
use Rattle.plan_frame.specs.Frames as frames
use Rattle.plan_frame.specs.Meaning.{filled, val}
use Rattle.plan_frame.specs.Made.{made_columns}
use Rattle.plan_table.specs.declared.column.Column.{Column as Typed}
use Rattle.plan_table.specs.Tables.{types_of, with_column}
use Rattle.plan_value.specs.Shown.{column_shown, columns_shown}
use Rattle.plan_value.proofs.ColumnLemmas.{shown-with, types-with}
use Rattle.plan_function_tables.specs.Given.{stored_column}

-- expressions one after another
module _ (ex : List AExpr) (h : ℕ) (g : Frame) (schema : Columns) (es : List ExprIR) (i : ℕ) (e : ExprIR) (lt : i < length es) (is : e ≡ get_or es i e) (c : Typed) where
  abbrev pub made : ExprIR → Column
  made x = record { name = name_of x.output_name; values = filled h (val (expr_at ex x.node) g) }

  upto : take (i + 1) es ≡ take i es ++ e ∷ []
  upto = take_more es i e lt ∙ ap (λ (x : ExprIR). take i es ++ x ∷ []) (sym is)

  -- the columns of one expression more
  pub made-next : (base : List Column) (done : List Typed) → column_shown c ≡ made e → columns_shown done ≡ frames.with_columns base (made_columns h g (all_named_at ex (take i es))) → columns_shown (with_column done c) ≡ frames.with_columns base (made_columns h g (all_named_at ex (take (i + 1) es)))
  made-next base done shown before =
      let column : Named → Column = λ (x : Named). record { name = name_of x.name; values = filled h (val x.expr g) } in
      let grown : made_columns h g (all_named_at ex (take (i + 1) es)) ≡ made_columns h g (all_named_at ex (take i es)) ++ made e ∷ [] =
      ap (λ (l : List ExprIR). made_columns h g (all_named_at ex l)) upto
      ∙ ap (map column) (map-append (named_at ex) (take i es) (e ∷ []))
      ∙ map-append column (all_named_at ex (take i es)) (named_at ex e ∷ [])
      in
      shown-with done c
      ∙ ap₂ frames.with_column before shown
      ∙ sym (fold-append frames.with_column base (made_columns h g (all_named_at ex (take i es))) (made e ∷ []))
      ∙ ap (frames.with_columns base) (sym grown)

  -- and their types
  pub stored-next : (base : Columns) (done : List Typed) → (c.name, c.dtype) ≡ stored_column schema e → types_of done ≡ with_types base (map (stored_column schema) (take i es)) → types_of (with_column done c) ≡ with_types base (map (stored_column schema) (take (i + 1) es))
  stored-next base done typed before =
      let put : Columns → Name × DataType → Columns = λ (t : Columns) (d : Name × DataType). with_type t d.0 d.1 in
      let grown : map (stored_column schema) (take (i + 1) es) ≡ map (stored_column schema) (take i es) ++ stored_column schema e ∷ [] =
      ap (map (stored_column schema)) upto ∙ map-append (stored_column schema) (take i es) (e ∷ [])
      in
      types-with done c
      ∙ ap₂ put before typed
      ∙ sym (fold-append put base (map (stored_column schema) (take i es)) (stored_column schema e ∷ []))
      ∙ ap (with_types base) (sym grown)

  -- the same as a list
  pub list-next : (done : List Typed) → column_shown c ≡ made e → columns_shown done ≡ made_columns h g (all_named_at ex (take i es)) → columns_shown (done ++ c ∷ []) ≡ made_columns h g (all_named_at ex (take (i + 1) es))
  list-next done shown before =
      let column : Named → Column = λ (x : Named). record { name = name_of x.name; values = filled h (val x.expr g) } in
      map-append column_shown done (c ∷ [])
      ∙ ap₂ (λ (cs : List Column) (d : Column). cs ++ d ∷ []) before shown
      ∙ sym (ap (λ (l : List ExprIR). made_columns h g (all_named_at ex l)) upto
      ∙ ap (map column) (map-append (named_at ex) (take i es) (e ∷ []))
      ∙ map-append column (all_named_at ex (take i es)) (named_at ex e ∷ []))

  pub typed-next : (done : List Typed) → (c.name, c.dtype) ≡ stored_column schema e → types_of done ≡ map (stored_column schema) (take i es) → types_of (done ++ c ∷ []) ≡ map (stored_column schema) (take (i + 1) es)
  typed-next done typed before =
      map-append (λ (d : Typed). (d.name, d.dtype)) done (c ∷ [])
      ∙ ap₂ (λ (cs : Columns) (d : Name × DataType). cs ++ d ∷ []) before typed
      ∙ sym (ap (map (stored_column schema)) upto ∙ map-append (stored_column schema) (take i es) (e ∷ []))

-- a column that is put is the first of those that are to be put
pub put-first : (done : List Typed) (d : Typed) (x : Column) (rest all : List Column) → column_shown d ≡ x → frames.with_columns (columns_shown done) (x ∷ rest) ≡ all → frames.with_columns (columns_shown (with_column done d)) rest ≡ all
put-first done d x rest all is before =
    ap (λ (cs : List Column). frames.with_columns cs rest) (shown-with done d ∙ ap (frames.with_column (columns_shown done)) is) ∙ before

-- and so is its type
pub put-type : (done : List Typed) (d : Typed) (x : Name × DataType) (rest all : Columns) → (d.name, d.dtype) ≡ x → with_types (types_of done) (x ∷ rest) ≡ all → with_types (types_of (with_column done d)) rest ≡ all
put-type done d x rest all is before =
    ap (λ (t : Columns). with_types t rest) (types-with done d ∙ ap (λ (y : Name × DataType). with_type (types_of done) y.0 y.1) is) ∙ before
