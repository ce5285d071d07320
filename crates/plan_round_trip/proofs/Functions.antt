-- Functions of whole frames are read as they are written.
use Rattle.std.proofs.Common.{◌≡◌, ℕ, Bool, List, [], ◌∷◌, Option, Some, refl}
use Rattle.std.specs.Prelude.{codes, is_some}
use Rattle.serde_json.specs.Data.{Data}
use Rattle.serde_json.specs.Find.{get}
use Rattle.plan_ir.specs.declared.functions.FunctionIR.{FunctionIR}
use Rattle.plan_ir.specs.declared.functions.FunctionIR.TheVariants as functions
use Rattle.plan_ir.specs.declared.functions.UnpivotArgsIR.{UnpivotArgsIR}
use Rattle.plan_scan.specs.declared.file_scan.FileScan.{FileScan}
use Rattle.plan_scan.specs.declared.sources.ScanSources.{ScanSources}
use Rattle.plan_doc_parts.specs.Parts.{◌>>=◌, nullable, name_of, names_of, number_of, truth_of}
use Rattle.plan_doc_parts.specs.Members.{object_of, at, only_of}
use Rattle.plan_doc_scans.specs.Functions.{rename_of, numbering_of, unpivot_args_of, unpivot_of, explode_of, count_of, frame_function_of}
use Rattle.plan_doc_scans.specs.Scans.{files_of}
use Rattle.plan_text_pieces.specs.Functions.{rename_data, numbering_data, unpivot_data, explode_data, count_data, frame_function_data}
use Rattle.plan_text_pieces.specs.Values.{number_data, nullable_data}
use Rattle.plan_round_trip.proofs.Gives.{gives2, gives3, gives4}
use Rattle.plan_round_trip.proofs.Steps.{Again, first_holds, object_canonical, only_said, under}
use Rattle.plan_round_trip.proofs.Lists.{IsCanonical}
use Rattle.plan_round_trip.proofs.Names.{kind_again}
use Rattle.plan_round_trip.proofs.Scans.{SourcesAgain, files_told}
use Rattle.plan_round_trip.proofs.Pieces.{maybe_name_again, maybe_number, names_again}

abbrev FunctionAgain : FunctionIR → Type 0
FunctionAgain f = Again frame_function_of frame_function_data f

rename_read : (es ns : List (List ℕ)) (s : Bool) → FunctionAgain (functions.Rename es ns s)
unfolding frame_function_data rename_data rename_of only_of object_of at truth_of
rename_read es ns s = rw (names_again es, names_again ns) refl

rename_again : (d : Data) (f : FunctionIR) → rename_of d ≡ Some f → FunctionAgain f
unfolding rename_of
rename_again d f e =
    gives4 (object_of (codes "existing" ∷ codes "new" ∷ codes "swapping" ∷ []) d) (λ o. at (codes "existing") names_of o) (λ o es. at (codes "new") names_of o) (λ o es ns. at (codes "swapping") truth_of o) (λ o es ns s. functions.Rename es ns s) f e FunctionAgain
    (λ o es ns s eo ees ens ess. rename_read es ns s)

numbering_read : (n : List ℕ) (first : Option ℕ) → Again (nullable number_of) (nullable_data number_data) first → FunctionAgain (functions.RowIndex n first)
unfolding frame_function_data numbering_data numbering_of only_of object_of at name_of
numbering_read n first e =
    let h : nullable number_of (nullable_data number_data first) ≡ Some first = e in
    rw h refl

numbering_again : (d : Data) (f : FunctionIR) → IsCanonical d → numbering_of d ≡ Some f → FunctionAgain f
unfolding numbering_of
numbering_again d f c e =
    gives3 (object_of (codes "name" ∷ codes "offset" ∷ []) d) (λ o. at (codes "name") name_of o) (λ o n. at (codes "offset") (nullable number_of) o) (λ o n first. functions.RowIndex n first) f e FunctionAgain
    (λ o n first eo en efirst. numbering_read n first (under maybe_number _ o first (object_canonical _ d o c eo) efirst))

unpivot_read : (args : UnpivotArgsIR) → FunctionAgain (functions.Unpivot args)
unfolding frame_function_data unpivot_data unpivot_of unpivot_args_of only_of object_of at
unpivot_read args = rw (names_again args.index, names_again args.on, maybe_name_again args.value_name, maybe_name_again args.variable_name) refl

unpivot_again : (d : Data) (f : FunctionIR) → unpivot_of d ≡ Some f → FunctionAgain f
unfolding unpivot_of
unpivot_again d f e =
    gives2 (object_of (codes "index" ∷ codes "on" ∷ codes "value_name" ∷ codes "variable_name" ∷ []) d) (λ o. unpivot_args_of o) (λ o args. functions.Unpivot args) f e FunctionAgain
    (λ o args eo eargs. unpivot_read args)

explode_read : (cs : List (List ℕ)) → FunctionAgain (functions.Explode cs)
unfolding frame_function_data explode_data explode_of only_of object_of at
explode_read cs = rw (names_again cs) refl

explode_again : (d : Data) (f : FunctionIR) → explode_of d ≡ Some f → FunctionAgain f
unfolding explode_of
explode_again d f e =
    gives2 (object_of (codes "columns" ∷ []) d) (λ o. at (codes "columns") names_of o) (λ o cs. functions.Explode cs) f e FunctionAgain
    (λ o cs eo ecs. explode_read cs)

pub count_read : (from : ScanSources) (kind : FileScan) (alias : Option (List ℕ)) → SourcesAgain from → FunctionAgain (functions.FastCount from kind alias)
unfolding frame_function_data count_data count_of files_of only_of object_of at
count_read from kind alias e = rw (maybe_name_again alias, kind_again kind, e) refl

count_again : (d : Data) (f : FunctionIR) → IsCanonical d → count_of d ≡ Some f → FunctionAgain f
unfolding count_of
count_again d f c e =
    gives3 (object_of (codes "alias" ∷ codes "kind" ∷ codes "sources" ∷ []) d) (λ o. at (codes "alias") (nullable name_of) o) (λ o a. files_of o) (λ o a k. functions.FastCount k.0 k.1 a) f e FunctionAgain
    (λ o a k eo ea ek. count_read k.0 k.1 a (files_told o k (object_canonical _ d o c eo) ek))

-- a function of a whole frame: each entry is a test of `frame_function_of`, in its order, with what that reads
pub function_told : (d : Data) (f : FunctionIR) → IsCanonical d → frame_function_of d ≡ Some f → FunctionAgain f
function_told d f c e =
    first_holds FunctionAgain (
    (is_some (get (codes "Rename") d), only_of (codes "Rename") d >>= rename_of)
    ∷ (is_some (get (codes "RowIndex") d), only_of (codes "RowIndex") d >>= numbering_of)
    ∷ (is_some (get (codes "Unpivot") d), only_of (codes "Unpivot") d >>= unpivot_of)
    ∷ (is_some (get (codes "Explode") d), only_of (codes "Explode") d >>= explode_of)
    ∷ (is_some (get (codes "FastCount") d), only_of (codes "FastCount") d >>= count_of) ∷ []) f e (
      λ e. let v = only_said (codes "Rename") d rename_of f c e in rename_again v.0 f v.2,
      (
        λ e. let v = only_said (codes "RowIndex") d numbering_of f c e in numbering_again v.0 f v.1 v.2,
        (
          λ e. let v = only_said (codes "Unpivot") d unpivot_of f c e in unpivot_again v.0 f v.2,
          (
            λ e. let v = only_said (codes "Explode") d explode_of f c e in explode_again v.0 f v.2,
            (
              λ e. let v = only_said (codes "FastCount") d count_of f c e in count_again v.0 f v.1 v.2,
              tt,
            ),
          ),
        ),
      ),
    )
