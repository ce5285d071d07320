-- What paths tell, from their two rounds.
use Rattle.std.proofs.Common.{◌≡◌, ◌≢◌, ◌∙◌, ℕ, Bool, true, false, ◌==◌, List, [], ◌∷◌, length, map, Option, None, Some, Ok, Err, if◌then◌else◌, refl, sym, ap}
use Rattle.std.specs.List.{slice_get}
use Rattle.plan_core.specs.Columns.{Columns}
use Rattle.plan_core.specs.Names.{with_names}
use Rattle.plan_core.specs.declared.error.PolarsError.{PolarsError}
use Rattle.plan_core.specs.declared.error.PolarsError.TheVariants.{SchemaFieldNotFound, Duplicate, SchemaMismatch, InvalidOperation, ComputeError, OutOfMemory}
use Rattle.plan_hive.specs.Parts.{Text, HivePart, hive_parts, may_cut, part_names}
use Rattle.plan_hive.specs.Hive.{first_fault, hive_columns, hive_of, partition_of, partitions, path_fault, place, read_paths, unless, values_fault, with_first, Says}

-- an answer that is an error but for memory names that fault
pub named : (A : Type 0) (e : PolarsError) (fault : Option PolarsError) → Says {A = A} (Err e) fault → e ≢ OutOfMemory → fault ≡ Some e
named A (SchemaFieldNotFound a) fault h n = h
named A (Duplicate a) fault h n = h
named A (SchemaMismatch a) fault h n = h
named A (InvalidOperation a) fault h n = h
named A (ComputeError a) fault h n = h
named A OutOfMemory fault h n = absurd (n refl)

module _ (start : ℕ) (schema : Option Columns) (reader : Columns) where
  -- a first path that can be cut
  pub first-cut : (paths : List Text) (path : Text) (parts : List HivePart) → slice_get paths 0 ≡ Some path → may_cut start path ≡ true → parts ≡ hive_parts start path → hive_of start schema reader paths ≡ with_first start schema reader parts paths
  first-cut [] path parts is cut spelled = cc
  first-cut (q ∷ paths) path parts is cut spelled =
      let same : q ≡ path = cc in
      let there : may_cut start q ≡ true = ap (may_cut start) same ∙ cut in
      let columns : hive_parts start q ≡ parts = ap (hive_parts start) same ∙ sym spelled in
      ap (λ (t : Bool). if t then with_first start schema reader (hive_parts start q) (q ∷ paths) else Err (ComputeError (place 0))) there ∙ ap (λ (ps : List HivePart). with_first start schema reader ps (q ∷ paths)) columns

  -- its columns, if there are some
  pub first-read : (paths : List Text) (parts : List HivePart) → (length parts == 0) ≡ false → with_first start schema reader parts paths ≡ read_paths start schema reader (with_names [] (part_names parts)) paths
  first-read paths [] some = cc
  first-read paths (part ∷ parts) some = refl

  module _ (firsts paths : List Text) where
    pub names-refused : (e : PolarsError) → first_fault (path_fault start schema firsts) 0 paths ≡ Some e → read_paths start schema reader firsts paths ≡ Err e
    names-refused e h = let all = map (hive_parts start) paths in ap (λ (o : Option PolarsError). unless o (partitions (hive_columns schema reader all firsts) all)) h

    pub names-read : first_fault (path_fault start schema firsts) 0 paths ≡ None → read_paths start schema reader firsts paths ≡ partitions (hive_columns schema reader (map (hive_parts start) paths) firsts) (map (hive_parts start) paths)
    names-read h = let all = map (hive_parts start) paths in ap (λ (o : Option PolarsError). unless o (partitions (hive_columns schema reader all firsts) all)) h

module _ (columns : Columns) (all : List (List HivePart)) where
  pub values-refused : (e : PolarsError) → first_fault (values_fault columns) 0 all ≡ Some e → partitions columns all ≡ Err e
  values-refused e h = ap (λ (o : Option PolarsError). unless o (Ok (Some (map (partition_of columns) all)))) h

  pub values-read : first_fault (values_fault columns) 0 all ≡ None → partitions columns all ≡ Ok (Some (map (partition_of columns) all))
  values-read h = ap (λ (o : Option PolarsError). unless o (Ok (Some (map (partition_of columns) all)))) h
