-- The functions of whole frames that objects stand for.
use Rattle.std.specs.Prelude.{[], ◌∷◌, Option, Some, None, is_some, if◌then◌else◌, codes}
use Rattle.serde_json.specs.Data.{Data}
use Rattle.serde_json.specs.Find.{get}
use Rattle.plan_ir.specs.declared.functions.FunctionIR.{FunctionIR}
use Rattle.plan_ir.specs.declared.functions.FunctionIR.TheVariants as functions
use Rattle.plan_ir.specs.declared.functions.UnpivotArgsIR.{UnpivotArgsIR}
use Rattle.plan_doc_parts.specs.Parts.{◌>>=◌, nullable, name_of, names_of, number_of, truth_of}
use Rattle.plan_doc_parts.specs.Members.{object_of, at, only_of}
use Rattle.plan_doc_scans.specs.Scans.{files_of}

-- columns under other names
unfoldable pub rename_of : Data → Option FunctionIR
rename_of d = do
  o ← object_of (codes "existing" ∷ codes "new" ∷ codes "swapping" ∷ []) d
  es ← at (codes "existing") names_of o
  ns ← at (codes "new") names_of o
  s ← at (codes "swapping") truth_of o
  Some (functions.Rename es ns s)

-- columns behind one that numbers the rows
unfoldable pub numbering_of : Data → Option FunctionIR
numbering_of d = do
  o ← object_of (codes "name" ∷ codes "offset" ∷ []) d
  n ← at (codes "name") name_of o
  first ← at (codes "offset") (nullable number_of) o
  Some (functions.RowIndex n first)

-- what is unpivoted, and the names of what comes of it
unfoldable pub unpivot_args_of : Data → Option UnpivotArgsIR
unpivot_args_of o = do
  is ← at (codes "index") names_of o
  os ← at (codes "on") names_of o
  v ← at (codes "value_name") (nullable name_of) o
  w ← at (codes "variable_name") (nullable name_of) o
  Some (record { on = os; index = is; variable_name = w; value_name = v })

-- the values of several columns in one
unfoldable pub unpivot_of : Data → Option FunctionIR
unpivot_of d = do
  o ← object_of (codes "index" ∷ codes "on" ∷ codes "value_name" ∷ codes "variable_name" ∷ []) d
  args ← unpivot_args_of o
  Some (functions.Unpivot args)

-- lists taken apart
unfoldable pub explode_of : Data → Option FunctionIR
explode_of d = do
  o ← object_of (codes "columns" ∷ []) d
  cs ← at (codes "columns") names_of o
  Some (functions.Explode cs)

-- the number of the rows of files
unfoldable pub count_of : Data → Option FunctionIR
count_of d = do
  o ← object_of (codes "alias" ∷ codes "kind" ∷ codes "sources" ∷ []) d
  a ← at (codes "alias") (nullable name_of) o
  f ← files_of o
  Some (functions.FastCount f.0 f.1 a)

-- the function of a whole frame that stands under its name in an object of one key
abbrev pub frame_function_of : Data → Option FunctionIR
frame_function_of d =
    if is_some (get (codes "Rename") d) then (only_of (codes "Rename") d >>= rename_of) else (
    if is_some (get (codes "RowIndex") d) then (only_of (codes "RowIndex") d >>= numbering_of) else (
    if is_some (get (codes "Unpivot") d) then (only_of (codes "Unpivot") d >>= unpivot_of) else (
    if is_some (get (codes "Explode") d) then (only_of (codes "Explode") d >>= explode_of) else (
    if is_some (get (codes "FastCount") d) then (only_of (codes "FastCount") d >>= count_of) else None))))
