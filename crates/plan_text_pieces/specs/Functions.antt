-- The JSON values of functions of whole frames: members in the byte order of their keys.
use Rattle.std.specs.Prelude.{ℕ, Bool, List, Option, codes}
use Rattle.serde_json.specs.Data.{Data, boolean, string, object, no_members, member}
use Rattle.plan_ir.specs.declared.functions.FunctionIR.{FunctionIR}
use Rattle.plan_ir.specs.declared.functions.FunctionIR.TheVariants as functions
use Rattle.plan_ir.specs.declared.functions.UnpivotArgsIR.{UnpivotArgsIR}
use Rattle.plan_scan.specs.Sources.{kind_name}
use Rattle.plan_scan.specs.declared.file_scan.FileScan.{FileScan}
use Rattle.plan_scan.specs.declared.sources.ScanSources.{ScanSources}
use Rattle.plan_text_pieces.specs.Values.{number_data, nullable_data, only_data, names_data, sources_data}

-- columns under other names
unfoldable pub rename_data : List (List ℕ) → List (List ℕ) → Bool → Data
rename_data existing new swapping = object (
    member (codes "existing") (names_data existing) (
    member (codes "new") (names_data new) (
    member (codes "swapping") (boolean swapping) no_members)))

-- columns behind one that numbers the rows
unfoldable pub numbering_data : List ℕ → Option ℕ → Data
numbering_data name offset = object (
    member (codes "name") (string name) (
    member (codes "offset") (nullable_data number_data offset) no_members))

-- the values of several columns in one
unfoldable pub unpivot_data : UnpivotArgsIR → Data
unpivot_data args = object (
    member (codes "index") (names_data args.index) (
    member (codes "on") (names_data args.on) (
    member (codes "value_name") (nullable_data string args.value_name) (
    member (codes "variable_name") (nullable_data string args.variable_name) no_members))))

-- lists taken apart
unfoldable pub explode_data : List (List ℕ) → Data
explode_data columns = object (member (codes "columns") (names_data columns) no_members)

-- the number of the rows of files
unfoldable pub count_data : ScanSources → FileScan → Option (List ℕ) → Data
count_data from format alias = object (
    member (codes "alias") (nullable_data string alias) (
    member (codes "kind") (string (kind_name format)) (
    member (codes "sources") (sources_data from) no_members)))

-- the name of a function of whole frames
abbrev pub frame_function_name : FunctionIR → List ℕ
frame_function_name (functions.Rename existing new swapping) = codes "Rename"
frame_function_name (functions.RowIndex name offset) = codes "RowIndex"
frame_function_name (functions.Unpivot args) = codes "Unpivot"
frame_function_name (functions.Explode columns) = codes "Explode"
frame_function_name (functions.FastCount from format alias) = codes "FastCount"

-- what a function of whole frames is told
abbrev pub told_data : FunctionIR → Data
told_data (functions.Rename existing new swapping) = rename_data existing new swapping
told_data (functions.RowIndex name offset) = numbering_data name offset
told_data (functions.Unpivot args) = unpivot_data args
told_data (functions.Explode columns) = explode_data columns
told_data (functions.FastCount from format alias) = count_data from format alias

-- a function of whole frames, under its name
unfoldable pub frame_function_data : FunctionIR → Data
frame_function_data f = only_data (frame_function_name f) (told_data f)
