-- What is read by what is left of a scan: columns that its reader finds, none of them a hive column, and of those that are put out all that are its files'.
use Rattle.std.proofs.Common.{◌≡◌, ◌≤◌, ◌⊎◌, Bool, true, false, cond, not, ◌||◌, List, [], ◌∷◌, ◌++◌, length, Option, Some, None, is_some, refl, sym, ap, ◌∙◌, subst, inl, inr, ⊎_elim, arith}
use Rattle.std.specs.List.{AllByRecursion, IsDistinct, list_all}
use Rattle.std.proofs.lemmas.Bool.{and_parts, both_ways, false_from_ne_true, or_cases}
use Rattle.plan_core.specs.declared.data_type.DataType.{DataType}
use Rattle.plan_core.specs.declared.options.FileScanOptions.{FileScanOptions}
use Rattle.plan_core.specs.Columns.{Columns, names_of, type_of}
use Rattle.plan_core.specs.Names.{has, AreDistinct}
use Rattle.plan_expr.specs.Leaves.{Name}
use Rattle.plan_frame.specs.Frames.{names_or}
use Rattle.plan_frame.proofs.BesideLemmas.{or_else}
use Rattle.plan_frame.proofs.FrameLemmas.{weaker}
use Rattle.plan_frame.proofs.NameSets.{distinct_cons, distinct_none, has_back, has_cons, has_first, has_front, only, some-type_of}
use Rattle.plan_scan.specs.Stats.{Stats, named_among}
use Rattle.plan_scan.specs.declared.file_scan.FileScan.{FileScan}
use Rattle.plan_scan.specs.declared.file_scan.FileScan.TheVariants as kinds
use Rattle.plan_files.specs.FileColumns.{file_columns, hive_columns, lacking, path_columns, plain_columns, read_names, row_columns}
use Rattle.plan_files.specs.FileReads.{first_alone, is_counted, is_given, is_read, is_told, left_names, own_names, stand_in}
use Rattle.plan_files.proofs.FileLemmas.{names-files, type_of-files}
use Rattle.plan_file_scan.specs.Left.{AreAmong, AreRead, Found, ReadsAreLeft, left_parts}
use Rattle.plan_file_scan.proofs.NameLemmas.{distinct_where, has_where, name_passes, names-where, where_has}
use Rattle.plan_file_scan.proofs.ScanColumns.{hive-left}

-- a reader finds what a scan reads, and none of it is a hive column
reads_found : (told : Option (List Name)) (reader hive : Columns) → AllByRecursion (λ (a : Name). is_some (type_of reader a) ≡ true) (names_or told []) → AllByRecursion (λ (a : Name). not (has (names_of hive) a) ≡ true) (names_or told []) → (a : Name) → has (read_names told reader hive) a ≡ true → Found reader hive a
reads_found None reader hive known plain a i =
    let q = where_has (λ (b : Name). not (has (names_of hive) b)) (names_of reader) a (subst (λ (l : List Name). has l a ≡ true) (names-where (λ (b : Name). not (has (names_of hive) b)) reader) i) in
    (some-type_of reader a ∙ q.0, q.1)
reads_found (Some given) reader hive known plain a i =
    (name_passes (λ (b : Name). is_some (type_of reader b) ≡ true) given known a i, name_passes (λ (b : Name). not (has (names_of hive) b) ≡ true) given plain a i)

-- what stands in for rows is read

first_among : (l : List Name) (a : Name) → has (first_alone l) a ≡ true → has l a ≡ true
first_among [] a i = i
first_among (b ∷ l) a i = subst (λ (x : Name). has (b ∷ l) x ≡ true) (sym (only b a i)) (has_first b l)

stand_in_among : (kind : FileScan) (l : List Name) (a : Name) → has (stand_in kind l) a ≡ true → has l a ≡ true
stand_in_among kinds.Csv l a i = first_among l a i
stand_in_among kinds.NDJson l a i = first_among l a i
stand_in_among kinds.Parquet l a i = cc
stand_in_among kinds.Ipc l a i = cc

first_few : (l : List Name) → length (first_alone l) ≤ 1
first_few [] = omega arith
first_few (a ∷ l) = omega arith

stand_in_few : (kind : FileScan) (l : List Name) → length (stand_in kind l) ≤ 1
stand_in_few kinds.Csv l = first_few l
stand_in_few kinds.NDJson l = first_few l
stand_in_few kinds.Parquet l = omega arith
stand_in_few kinds.Ipc l = omega arith

first_distinct : (l : List Name) → AreDistinct (first_alone l)
unfolding IsDistinct
first_distinct [] = tt
first_distinct (a ∷ l) = (tt, tt)

stand_in_distinct : (kind : FileScan) (l : List Name) → AreDistinct (stand_in kind l)
stand_in_distinct kinds.Csv l = first_distinct l
stand_in_distinct kinds.NDJson l = first_distinct l
stand_in_distinct kinds.Parquet l = distinct_none
stand_in_distinct kinds.Ipc l = distinct_none

-- names in a row that differ

apart : (xs ys : List Name) (a : Name) → AreDistinct (xs ++ ys) → has xs a ≡ true → has ys a ≡ true → ⊥
apart [] ys a d i j = cc
apart (x ∷ xs) ys a d i j =
    let p = distinct_cons x (xs ++ ys) d in
    ⊎_elim
    (λ (e : a ≡ x). both_ways (has (xs ++ ys) x) p.0 (subst (λ (y : Name). has (xs ++ ys) y ≡ true) e (has_back xs ys a j)))
    (λ (k : has xs a ≡ true). apart xs ys a p.1 k j)
    (has_cons x xs a i)

behind : (xs ys : List Name) → AreDistinct (xs ++ ys) → AreDistinct ys
behind [] ys d = d
behind (x ∷ xs) ys d = behind xs ys (distinct_cons x (xs ++ ys) d).1

all_pass : (p : Name → Bool) (l : List Name) → list_all p l ≡ true → (a : Name) → has l a ≡ true → p a ≡ true
all_pass p [] h a i = cc
all_pass p (b ∷ l) h a i =
    let q = and_parts (p b) (list_all p l) h in
    ⊎_elim (λ (e : a ≡ b). ap p e ∙ q.0) (λ (j : has l a ≡ true). all_pass p l q.1 a j) (has_cons b l a i)

none_of : (x y z : Bool) → not ((x || y) || z) ≡ true → (x ≡ false) × (y ≡ false) × (z ≡ false)
none_of false false false e = (refl, refl, refl)
none_of true y z e = cc
none_of false true z e = cc
none_of false false true e = cc

-- a column of files is one that the reader finds where nothing else gives it
found_at : (row hive reader path : Option DataType) → is_some row ≡ false → is_some hive ≡ false → is_some path ≡ false → is_some (or_else row (or_else (or_else hive reader) path)) ≡ true → is_some reader ≡ true
found_at None None None None e f g h = cc
found_at None None (Some t) path e f g h = refl
found_at None None None (Some t) e f g h = cc
found_at None (Some t) reader path e f g h = cc
found_at (Some t) hive reader path e f g h = cc

read_of : (told : Option (List Name)) (reader hive : Columns) (a : Name) → has (names_of (plain_columns reader hive)) a ≡ true → is_told told a ≡ true → has (read_names told reader hive) a ≡ true
read_of None reader hive a i h = i
read_of (Some given) reader hive a i h = h

read_plain : (x y : Bool) → x ≡ true → (not x || y) ≡ true → y ≡ true
read_plain true y e q = q
read_plain false y e q = cc

module _ (wanted : List Name) (kind : FileScan) (told : Option (List Name)) (reader hive : Columns) (options : FileScanOptions) where
  -- each name once
  pub left_once : AreDistinct wanted → AreDistinct (left_names kind wanted (read_names told reader hive) hive options)
  left_once once = at (list_all (is_counted options) wanted)
    where
      at : (b : Bool) → AreDistinct (cond b (stand_in kind (read_names told reader hive)) (own_names wanted hive options))
      at true = stand_in_distinct kind (read_names told reader hive)
      at false = distinct_where (λ (a : Name). not (is_given hive options a)) wanted once

  -- only what is asked, or what stands in for rows
  pub left_few : AreAmong (left_names kind wanted (read_names told reader hive) hive options) wanted ⊎ ((list_all (is_counted options) wanted ≡ true) × (length (left_names kind wanted (read_names told reader hive) hive options) ≤ 1))
  left_few = at (list_all (is_counted options) wanted) refl
    where
      chosen : Bool → List Name
      chosen b = cond b (stand_in kind (read_names told reader hive)) (own_names wanted hive options)

      at : (b : Bool) → list_all (is_counted options) wanted ≡ b → AreAmong (chosen b) wanted ⊎ ((b ≡ true) × (length (chosen b) ≤ 1))
      at true e = inr (refl, stand_in_few kind (read_names told reader hive))
      at false e = inl (λ a i. (where_has (λ (b : Name). not (is_given hive options b)) wanted a i).0)

  -- a reader finds each
  module _ (asked : (a : Name) → has wanted a ≡ true → is_some (type_of (file_columns reader hive options) a) ≡ true) where
    own_found : (a : Name) → has (own_names wanted hive options) a ≡ true → Found reader hive a
    own_found a i =
        let row = row_columns options.row_index in
        let path = path_columns options.include_file_paths in
        let q = where_has (λ (b : Name). not (is_given hive options b)) wanted a i in
        let n = none_of (has (names_of row) a) (has (names_of path) a) (has (names_of hive) a) q.1 in
        (found_at (type_of row a) (type_of hive a) (type_of reader a) (type_of path a) (some-type_of row a ∙ n.0) (some-type_of hive a ∙ n.2) (some-type_of path a ∙ n.1) (ap is_some (sym (type_of-files reader hive options a)) ∙ asked a q.0), ap not n.2)

    pub left_found : AllByRecursion (λ (a : Name). is_some (type_of reader a) ≡ true) (names_or told []) → AllByRecursion (λ (a : Name). not (has (names_of hive) a) ≡ true) (names_or told []) → (a : Name) → has (left_names kind wanted (read_names told reader hive) hive options) a ≡ true → Found reader hive a
    left_found known plain a i = at (list_all (is_counted options) wanted) i
      where
        at : (b : Bool) → has (cond b (stand_in kind (read_names told reader hive)) (own_names wanted hive options)) a ≡ true → Found reader hive a
        at true j = reads_found told reader hive known plain a (stand_in_among kind (read_names told reader hive) a j)
        at false j = own_found a j

  -- and each was read where the asked ones were
  module _ (asked : (a : Name) → has wanted a ≡ true → is_some (type_of (file_columns reader hive options) a) ≡ true) (were : AreRead told (plain_columns reader hive) wanted) where
    own_before : (a : Name) → has (own_names wanted hive options) a ≡ true → has (read_names told reader hive) a ≡ true
    own_before a i =
        let found = own_found asked a i in
        let wants = (where_has (λ (b : Name). not (is_given hive options b)) wanted a i).0 in
        let plain : has (names_of (plain_columns reader hive)) a ≡ true = subst (λ (l : List Name). has l a ≡ true) (sym (names-where (λ (b : Name). not (has (names_of hive) b)) reader)) (has_where (λ (b : Name). not (has (names_of hive) b)) (names_of reader) a found.1 (sym (some-type_of reader a) ∙ found.0)) in
        read_of told reader hive a plain (read_plain (has (names_of (plain_columns reader hive)) a) (is_told told a) plain (were a wants))

    pub left_before : (a : Name) → has (left_names kind wanted (read_names told reader hive) hive options) a ≡ true → has (read_names told reader hive) a ≡ true
    left_before a i = at (list_all (is_counted options) wanted) i
      where
        at : (b : Bool) → has (cond b (stand_in kind (read_names told reader hive)) (own_names wanted hive options)) a ≡ true → has (read_names told reader hive) a ≡ true
        at true j = stand_in_among kind (read_names told reader hive) a j
        at false j = own_before a j

  -- a column that the reader finds neither numbers the rows nor has their paths
  uncounted : AreDistinct (names_of (file_columns reader hive options)) → (a : Name) → has (names_of reader) a ≡ true → is_counted options a ≡ false
  uncounted d a j =
      let row = names_of (row_columns options.row_index) in
      let path = names_of (path_columns options.include_file_paths) in
      let lacks = names_of (lacking reader hive) in
      let all : AreDistinct (row ++ ((names_of reader ++ lacks) ++ path)) = subst AreDistinct (names-files reader hive options) d in
      let here : has (names_of reader ++ lacks) a ≡ true = has_front (names_of reader) lacks a j in
      false_from_ne_true (is_counted options a) (λ (c : is_counted options a ≡ true). ⊎_elim
      (λ (i : has row a ≡ true). apart row ((names_of reader ++ lacks) ++ path) a all i (has_front (names_of reader ++ lacks) path a here))
      (λ (i : has path a ≡ true). apart (names_of reader ++ lacks) path a (behind row ((names_of reader ++ lacks) ++ path) all) here i)
      (or_cases (has row a) (has path a) c))

  -- an asked column is read where it is the files'
  pub left_reads : (few : Columns) → few ≡ named_among wanted hive → AreDistinct (names_of (file_columns reader hive options)) → (a : Name) → has wanted a ≡ true → is_read (Some (left_names kind wanted (read_names told reader hive) hive options)) (plain_columns reader few) a ≡ true
  left_reads few e d a i = at (has (names_of (plain_columns reader few)) a) refl
    where
      own : has (names_of reader) a ≡ true → not (has (names_of few) a) ≡ true → has (left_names kind wanted (read_names told reader hive) hive options) a ≡ true
      own j k = here (list_all (is_counted options) wanted) refl
        where
          counted : is_counted options a ≡ false
          counted = uncounted d a j

          hidden : has (names_of hive) a ≡ false
          hidden = false_from_ne_true (has (names_of hive) a) (λ (h : has (names_of hive) a ≡ true).
              let there : has (names_of few) a ≡ true = subst (λ (l : List Name). has l a ≡ true) (sym (ap names_of e ∙ names-where (has wanted) hive)) (has_where (has wanted) (names_of hive) a i h) in
              no (has (names_of few) a) there k)
            where
              no : (b : Bool) → b ≡ true → not b ≡ true → ⊥
              no true p q = cc
              no false p q = cc

          mine : not (is_given hive options a) ≡ true
          mine = rw counted (ap not hidden)

          here : (b : Bool) → list_all (is_counted options) wanted ≡ b → has (cond b (stand_in kind (read_names told reader hive)) (own_names wanted hive options)) a ≡ true
          here true q = absurd (both_ways (is_counted options a) counted (all_pass (is_counted options) wanted q a i))
          here false q = has_where (λ (b : Name). not (is_given hive options b)) wanted a mine i

      at : (b : Bool) → has (names_of (plain_columns reader few)) a ≡ b → (not b || has (left_names kind wanted (read_names told reader hive) hive options) a) ≡ true
      at false q = refl
      at true q =
          let p = where_has (λ (b : Name). not (has (names_of few) b)) (names_of reader) a (subst (λ (l : List Name). has l a ≡ true) (names-where (λ (b : Name). not (has (names_of few) b)) reader) q) in
          own p.0 p.1

-- what is read for the asked names
pub reads_are_left : (kind : FileScan) (wanted : List Name) (told : Option (List Name)) (reader : Columns) (hive : Option (List Stats)) (options : FileScanOptions) → AreDistinct wanted → AreAmong wanted (names_of (file_columns reader (hive_columns hive) options)) → AreDistinct (names_of (file_columns reader (hive_columns hive) options)) → AllByRecursion (Found reader (hive_columns hive)) (names_or told []) → AreRead told (plain_columns reader (hive_columns hive)) wanted → ReadsAreLeft wanted told reader (hive_columns hive) (hive_columns (left_parts wanted hive)) options (left_names kind wanted (read_names told reader (hive_columns hive)) (hive_columns hive) options)
reads_are_left kind wanted told reader hive options once among differ found were =
    let all = hive_columns hive in
    let known : (a : Name) → has wanted a ≡ true → is_some (type_of (file_columns reader all options) a) ≡ true = λ a i. some-type_of (file_columns reader all options) a ∙ among a i in
    let told_known = weaker (Found reader all) (λ (a : Name). is_some (type_of reader a) ≡ true) (names_or told []) (λ a h. h.0) found in
    let told_plain = weaker (Found reader all) (λ (a : Name). not (has (names_of all) a) ≡ true) (names_or told []) (λ a h. h.1) found in
    record {
      once = left_once wanted kind told reader all options once;
      found = λ a i. left_found wanted kind told reader all options known told_known told_plain a i;
      before = λ a i. left_before wanted kind told reader all options known were a i;
      asked = λ a i. left_reads wanted kind told reader all options (hive_columns (left_parts wanted hive)) (hive-left wanted hive) differ a i;
      few = left_few wanted kind told reader all options;
    }
