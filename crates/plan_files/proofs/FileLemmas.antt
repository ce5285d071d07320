-- The columns of files, by their names.
use Rattle.std.proofs.Common.{◌≡◌, Bool, true, false, not, ◌||◌, cond, List, [], ◌∷◌, ◌++◌, map, Option, Some, None, is_some, unwrap_or, option_map, refl, sym, ap, ap₂, ◌∙◌, subst, append_assoc}
use Rattle.std.specs.Str.{bytes_eq}
use Rattle.plan_core.specs.declared.data_type.DataType.{DataType}
use Rattle.plan_core.specs.Columns.{Columns, HasDistinctNames, names_of, type_of}
use Rattle.plan_core.specs.Names.{has, AreDistinct}
use Rattle.plan_core.specs.declared.options.FileScanOptions.{FileScanOptions}
use Rattle.plan_expr.specs.Leaves.{Name}
use Rattle.plan_frame.proofs.BesideLemmas.{or_else, type_of-join}
use Rattle.plan_frame.proofs.NameSets.{named, distinct_cons, has-append, has_back, has_first, names-append, some-type_of}
use Rattle.plan_files.specs.FileColumns.{file_columns, found_column, found_columns, lacking, path_columns, row_columns}

-- a column has a type exactly where its name is there

pub known_there : (s : Columns) (a : Name) (t : DataType) → type_of s a ≡ Some t → has (names_of s) a ≡ true
known_there s a t e = sym (some-type_of s a) ∙ ap (λ (o : Option DataType). is_some o) e

pub known_none : (s : Columns) (a : Name) → type_of s a ≡ None → has (names_of s) a ≡ false
known_none s a e = sym (some-type_of s a) ∙ ap (λ (o : Option DataType). is_some o) e

-- the type of a column that a reader finds: its hive type, else its own
type_of-found_each : (hive reader : Columns) (a : Name) → type_of (map (found_column hive) reader) a ≡ option_map (λ (t : DataType). unwrap_or (type_of hive a) t) (type_of reader a)
type_of-found_each hive [] a = refl
type_of-found_each hive (c ∷ reader) a = at (bytes_eq a c.0) refl (type_of-found_each hive reader a)
  where
    at : (b : Bool) → bytes_eq a c.0 ≡ b → type_of (map (found_column hive) reader) a ≡ option_map (λ (t : DataType). unwrap_or (type_of hive a) t) (type_of reader a) → cond b (Some (unwrap_or (type_of hive c.0) c.1)) (type_of (map (found_column hive) reader) a) ≡ option_map (λ (t : DataType). unwrap_or (type_of hive a) t) (cond b (Some c.1) (type_of reader a))
    at true e rest = ap (λ (x : Name). Some (unwrap_or (type_of hive x) c.1)) (sym (named a c.0 e))
    at false e rest = rest

-- the type of a hive column that a reader doesn't find
type_of-lacking : (reader hive : Columns) (a : Name) → type_of (lacking reader hive) a ≡ cond (has (names_of reader) a) None (type_of hive a)
type_of-lacking reader [] a = none (has (names_of reader) a)
  where
    none : (b : Bool) → type_of [] a ≡ cond b None (type_of [] a)
    none true = refl
    none false = refl
type_of-lacking reader (c ∷ hive) a = at (has (names_of reader) c.0) refl (bytes_eq a c.0) refl (type_of-lacking reader hive a)
  where
    there : {h : Bool} → has (names_of reader) c.0 ≡ h → bytes_eq a c.0 ≡ true → has (names_of reader) a ≡ h
    there p e = ap (has (names_of reader)) (named a c.0 e) ∙ p

    rest : Type 0
    rest = type_of (lacking reader hive) a ≡ cond (has (names_of reader) a) None (type_of hive a)

    at : (h : Bool) → has (names_of reader) c.0 ≡ h → (b : Bool) → bytes_eq a c.0 ≡ b → rest → type_of (cond (not h) (c ∷ lacking reader hive) (lacking reader hive)) a ≡ cond (has (names_of reader) a) None (cond b (Some c.1) (type_of hive a))
    at true p true e r = r ∙ ap (λ (x : Bool). cond x None (type_of hive a)) (there p e) ∙ sym (ap (λ (x : Bool). cond x None (Some c.1)) (there p e))
    at true p false e r = r
    at false p true e r = ap (λ (x : Bool). cond x (Some c.1) (type_of (lacking reader hive) a)) e ∙ sym (ap (λ (x : Bool). cond x None (Some c.1)) (there p e))
    at false p false e r = ap (λ (x : Bool). cond x (Some c.1) (type_of (lacking reader hive) a)) e ∙ r

-- the type of a column that a reader finds or that is a hive column: its hive type, else that of the reader
pub type_of-found : (reader hive : Columns) (a : Name) → type_of (found_columns reader hive) a ≡ or_else (type_of hive a) (type_of reader a)
type_of-found reader hive a =
    type_of-join (map (found_column hive) reader) (lacking reader hive) a
    ∙ ap₂ or_else (type_of-found_each hive reader a) (type_of-lacking reader hive a)
    ∙ at (type_of reader a) (some-type_of reader a)
  where
    given : (t : DataType) (h : Option DataType) → or_else (Some (unwrap_or h t)) (cond (has (names_of reader) a) None h) ≡ or_else h (Some t)
    given t None = refl
    given t (Some u) = refl

    absent : (h : Option DataType) → h ≡ or_else h None
    absent None = refl
    absent (Some u) = refl

    at : (o : Option DataType) → is_some o ≡ has (names_of reader) a → or_else (option_map (λ (t : DataType). unwrap_or (type_of hive a) t) o) (cond (has (names_of reader) a) None (type_of hive a)) ≡ or_else (type_of hive a) o
    at (Some t) e = given t (type_of hive a)
    at None e = rw (sym e) (absent (type_of hive a))

-- the type of a column of files: of the one that numbers the rows, else its hive type, else that of the reader, else that of the one with the paths
pub type_of-files : (reader hive : Columns) (options : FileScanOptions) (a : Name) → type_of (file_columns reader hive options) a ≡ or_else (type_of (row_columns options.row_index) a) (or_else (or_else (type_of hive a) (type_of reader a)) (type_of (path_columns options.include_file_paths) a))
type_of-files reader hive options a =
    let row = row_columns options.row_index in
    let path = path_columns options.include_file_paths in
    type_of-join row (found_columns reader hive ++ path) a
    ∙ ap (or_else (type_of row a)) (type_of-join (found_columns reader hive) path a ∙ ap (λ (o : Option DataType). or_else o (type_of path a)) (type_of-found reader hive a))

-- the names of the columns that a reader finds, and then of the hive columns that it doesn't find
names-found_each : (hive reader : Columns) → names_of (map (found_column hive) reader) ≡ names_of reader
names-found_each hive [] = refl
names-found_each hive (c ∷ reader) = ap (λ (names : List Name). c.0 ∷ names) (names-found_each hive reader)

pub names-found : (reader hive : Columns) → names_of (found_columns reader hive) ≡ names_of reader ++ names_of (lacking reader hive)
names-found reader hive = names-append (map (found_column hive) reader) (lacking reader hive) ∙ ap (λ (names : List Name). names ++ names_of (lacking reader hive)) (names-found_each hive reader)

-- the names of the columns of files
pub names-files : (reader hive : Columns) (options : FileScanOptions) → names_of (file_columns reader hive options) ≡ names_of (row_columns options.row_index) ++ ((names_of reader ++ names_of (lacking reader hive)) ++ names_of (path_columns options.include_file_paths))
names-files reader hive options =
    let row = row_columns options.row_index in
    let path = path_columns options.include_file_paths in
    names-append row (found_columns reader hive ++ path)
    ∙ ap (λ (names : List Name). names_of row ++ names) (names-append (found_columns reader hive) path ∙ ap (λ (names : List Name). names ++ names_of path) (names-found reader hive))

-- of names that differ none before another is called like it
pub none_before : (names : List Name) (b : Name) (rest : List Name) → AreDistinct (names ++ b ∷ rest) → has names b ≡ false
none_before [] b rest d = refl
none_before (x ∷ names) b rest d =
    let p = distinct_cons x (names ++ b ∷ rest) d in
    at (bytes_eq b x) refl p.0 (none_before names b rest p.1)
  where
    at : (e : Bool) → bytes_eq b x ≡ e → has (names ++ b ∷ rest) x ≡ false → has names b ≡ false → (e || has names b) ≡ false
    at true e none others =
        let there : has (names ++ b ∷ rest) x ≡ true = has_back names (b ∷ rest) x (ap (λ (y : Name). has (b ∷ rest) y) (sym (named b x e)) ∙ has_first b rest) in
        cc
    at false e none others = others

-- no other column of files whose names differ is called like the one with the paths
pub path_apart : (reader hive : Columns) (options : FileScanOptions) → HasDistinctNames (file_columns reader hive options) → (b : Name) → options.include_file_paths ≡ Some b → or_else (type_of hive b) (type_of reader b) ≡ None
path_apart reader hive options d b e = sym (type_of-found reader hive b) ∙ none (type_of (found_columns reader hive) b) (some-type_of (found_columns reader hive) b ∙ second (has (names_of row) b) (has (names_of found) b) apart)
  where
    row : Columns
    row = row_columns options.row_index

    found : Columns
    found = found_columns reader hive

    names : names_of (file_columns reader hive options) ≡ (names_of row ++ names_of found) ++ b ∷ []
    names =
        names-append row (found ++ path_columns options.include_file_paths)
        ∙ ap (λ (ns : List Name). names_of row ++ ns) (names-append found (path_columns options.include_file_paths) ∙ ap (λ (o : Option Name). names_of found ++ names_of (path_columns o)) e)
        ∙ sym (append_assoc (names_of row) (names_of found) (b ∷ []))

    apart : (has (names_of row) b || has (names_of found) b) ≡ false
    apart = sym (has-append (names_of row) (names_of found) b) ∙ none_before (names_of row ++ names_of found) b [] (subst AreDistinct names d)

    second : (x y : Bool) → (x || y) ≡ false → y ≡ false
    second true y h = cc
    second false y h = h

    none : (o : Option DataType) → is_some o ≡ false → o ≡ None
    none None h = refl
    none (Some t) h = cc
