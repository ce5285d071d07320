-- What functions make of whole frames.
use Rattle.std.specs.Prelude.{◌+◌, ◌*◌, ℕ, List, [], ◌∷◌, ◌++◌, length, pos, unwrap_or}
use Rattle.std.specs.Int.{w64, int_wrap}
use Rattle.plan_expr.specs.Leaves.{Name}
use Rattle.plan_ir.specs.declared.functions.FunctionIR.{FunctionIR}
use Rattle.plan_ir.specs.declared.functions.FunctionIR.TheVariants.{Rename, RowIndex, Unpivot, Explode, FastCount}
use Rattle.plan_ir.specs.declared.functions.UnpivotArgsIR.{UnpivotArgsIR}
use Rattle.plan_meaning.specs.Contents.{Contents, frames_of}
use Rattle.plan_meaning.specs.Functions.{count_name, renamed, value_names, variable_name, value_name}
use Rattle.plan_frame.specs.Frames.{Frame, column_names, table_columns}
use Rattle.plan_frame.specs.Values.{whole}
use Rattle.plan_frame.specs.Reshaped.{with_renamed, with_numbers, repeated, names_down, values_down, exploded}

-- all rows of a frame for each of its value columns in turn: what is repeated, the name of the value column, and its values
abbrev pub unpivoted : UnpivotArgsIR → Frame → Frame
unpivoted args g =
    let names = value_names args (column_names g.columns) in
    record {
      height = length names * g.height;
      columns =
          table_columns args.index (repeated names g)
          ++ record { name = variable_name args; values = names_down names g } ∷ record { name = value_name args; values = values_down names g } ∷ [];
    }

-- how many rows frames have, all together
abbrev pub rows_together : List Frame → ℕ
rows_together [] = 0
rows_together (f ∷ fs) = f.height + rows_together fs

-- one row with the number of the rows of some frames, which wraps at 64 bits
abbrev pub counted : Name → List Frame → Frame
counted name fs = record { height = 1; columns = record { name = name; values = whole (int_wrap w64 (pos (rows_together fs))) ∷ [] } ∷ [] }

-- what a function makes of a frame; a count of the rows of files looks at these alone
abbrev pub mapped : Contents → FunctionIR → Frame → Frame
mapped c (Rename existing new swapping) g = with_renamed (renamed existing new) g
mapped c (RowIndex name offset) g = with_numbers name (unwrap_or offset 0) g
mapped c (Unpivot args) g = unpivoted args g
mapped c (Explode columns) g = exploded columns g
mapped c (FastCount sources scan_type alias) g = counted (count_name alias) (frames_of c sources)
