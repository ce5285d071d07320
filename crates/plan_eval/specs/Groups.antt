-- What a grouping gives of some rows, one of each group.
use Rattle.std.specs.Prelude.{ℕ, List, [], ◌∷◌, map}
use Rattle.plan_expr.specs.declared.expr_ir.ExprIR.{ExprIR}
use Rattle.plan_expr.specs.Exprs.{Named}
use Rattle.plan_expr.specs.Naming.{name_of}
use Rattle.plan_frame.specs.Frames.{Column, Frame, rows_at}
use Rattle.plan_frame.specs.Grouping.{gathered_expr}
use Rattle.plan_frame.specs.Meaning.{Cell, only_value, val, value_at}

-- what keys are in some rows, under their names
abbrev pub columns_in : List ℕ → List ExprIR → List Cell → List Column
columns_in rows [] cs = []
columns_in rows (e ∷ es) [] = []
columns_in rows (e ∷ es) (c ∷ cs) = record { name = name_of e.output_name; values = map (value_at c) rows } ∷ columns_in rows es cs

-- what an aggregate is over each of several parts of a frame
abbrev pub group_column : List (List ℕ) → Frame → Named → Column
group_column parts g e = record { name = name_of e.name; values = map (λ (rows : List ℕ). only_value (val (gathered_expr e.expr) (rows_at rows g))) parts }
