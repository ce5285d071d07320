-- The columns that are left of the files of a scan: their names are some of the given ones, in order, and the asked ones have the types that they had.
use Rattle.std.proofs.Common.{◌≡◌, ℕ, suc, ◌==◌, Bool, true, false, cond, ◌&&◌, ◌||◌, not, List, [], ◌∷◌, ◌++◌, map, Option, Some, None, refl, sym, ap, ap₂, ◌∙◌, subst, ⊎_elim}
use Rattle.std.specs.List.{AllByRecursion, IsDistinct, filter as only_where, list_all}
use Rattle.std.specs.Str.{bytes_eq}
use Rattle.std.proofs.lemmas.Bool.{and_parts, or_left, or_right}
use Rattle.plan_core.specs.declared.data_type.DataType.{DataType}
use Rattle.plan_core.specs.declared.options.FileScanOptions.{FileScanOptions}
use Rattle.plan_core.specs.declared.options.RowIndex.{RowIndex}
use Rattle.plan_core.specs.Columns.{Columns, names_of, same_columns, type_of}
use Rattle.plan_core.specs.Names.{has, AreDistinct}
use Rattle.plan_expr.specs.Leaves.{Name}
use Rattle.plan_frame.proofs.BesideLemmas.{or_else}
use Rattle.plan_frame.proofs.FrameLemmas.{length-map}
use Rattle.plan_frame.proofs.NameSets.{has_cons, has_either, has_first, has_later}
use Rattle.plan_scan.specs.Stats.{Stats, column_of, columns_of, named_among}
use Rattle.plan_files.specs.FileColumns.{file_columns, hive_columns, lacking, path_columns, row_columns}
use Rattle.plan_files.specs.HiveParts.{are_alike, are_one_each, are_typed, is_of}
use Rattle.plan_files.proofs.FileLemmas.{names-files, type_of-files}
use Rattle.plan_file_scan.specs.Left.{AreLeft, columns_left, left_options, left_part, left_parts, left_path, left_row}
use Rattle.plan_file_scan.proofs.NameLemmas.{is_same, names-where, same_is, type_of-among, where_has}

-- names are others, in their order, with some left out
data Left : List Name → List Name → Type 0 where
  nothing : Left [] []
  with_one : (a : Name) {xs ys : List Name} → Left xs ys → Left (a ∷ xs) (a ∷ ys)
  but_one : (a : Name) {xs ys : List Name} → Left xs ys → Left xs (a ∷ ys)

left_same : (xs : List Name) → Left xs xs
left_same [] = nothing
left_same (a ∷ xs) = with_one a (left_same xs)

left_where : (p : Name → Bool) (xs : List Name) → Left (only_where p xs) xs
left_where p [] = nothing
left_where p (a ∷ xs) = at (p a) (left_where p xs)
  where
    at : (t : Bool) → Left (only_where p xs) xs → Left (cond t (a ∷ only_where p xs) (only_where p xs)) (a ∷ xs)
    at true r = with_one a r
    at false r = but_one a r

left_under : (p : Name → Bool) {xs ys : List Name} → Left xs ys → Left (only_where p xs) (only_where p ys)
left_under p nothing = nothing
left_under p (with_one a {xs} {ys} h) = at (p a) (left_under p h)
  where
    at : (t : Bool) → Left (only_where p xs) (only_where p ys) → Left (cond t (a ∷ only_where p xs) (only_where p xs)) (cond t (a ∷ only_where p ys) (only_where p ys))
    at true r = with_one a r
    at false r = r
left_under p (but_one a {xs} {ys} h) = at (p a) (left_under p h)
  where
    at : (t : Bool) → Left (only_where p xs) (only_where p ys) → Left (only_where p xs) (cond t (a ∷ only_where p ys) (only_where p ys))
    at true r = but_one a r
    at false r = r

left_join : {xs ys us vs : List Name} → Left xs ys → Left us vs → Left (xs ++ us) (ys ++ vs)
left_join nothing k = k
left_join (with_one a h) k = with_one a (left_join h k)
left_join (but_one a h) k = but_one a (left_join h k)

left_all : (P : Name → Type 0) {xs ys : List Name} → Left xs ys → AllByRecursion P ys → AllByRecursion P xs
left_all P nothing h = tt
left_all P (with_one a k) h = (h.0, left_all P k h.1)
left_all P (but_one a k) h = left_all P k h.1

left_distinct : {xs ys : List Name} → Left xs ys → AreDistinct ys → AreDistinct xs
unfolding IsDistinct
left_distinct nothing h = tt
left_distinct (with_one a k) h = (left_all (λ (y : Name). bytes_eq a y ≡ false) k h.0, left_distinct k h.1)
left_distinct (but_one a k) h = left_distinct k h.1

left_has : {xs ys : List Name} → Left xs ys → (b : Name) → has xs b ≡ true → has ys b ≡ true
left_has nothing b i = i
left_has (with_one a {xs} {ys} h) b i = ⊎_elim
    (λ (e : b ≡ a). subst (λ (x : Name). has (a ∷ ys) x ≡ true) (sym e) (has_first a ys))
    (λ (j : has xs b ≡ true). has_later a ys b (left_has h b j))
    (has_cons a xs b i)
left_has (but_one a {xs} {ys} h) b i = has_later a ys b (left_has h b i)

module _ (wanted : List Name) where
  -- the columns of a part that is left are those of the part that are asked
  columns-part : (part : Stats) → columns_of (left_part wanted part) ≡ named_among wanted (columns_of part)
  columns-part [] = refl
  columns-part (s ∷ part) = at (has wanted s.field.name) (columns-part part)
    where
      at : (t : Bool) → columns_of (left_part wanted part) ≡ named_among wanted (columns_of part) → columns_of (cond t (s ∷ left_part wanted part) (left_part wanted part)) ≡ cond t (column_of s ∷ named_among wanted (columns_of part)) (named_among wanted (columns_of part))
      at true r = ap (λ (x : Columns). column_of s ∷ x) r
      at false r = r

  pub hive-left : (hive : Option (List Stats)) → hive_columns (left_parts wanted hive) ≡ named_among wanted (hive_columns hive)
  hive-left None = refl
  hive-left (Some []) = refl
  hive-left (Some (part ∷ parts)) = columns-part part

  -- a hive column that is left is one of the given ones
  pub hive_among : (hive : Option (List Stats)) (a : Name) → has (names_of (hive_columns (left_parts wanted hive))) a ≡ true → has (names_of (hive_columns hive)) a ≡ true
  hive_among hive a i = (where_has (has wanted) (names_of (hive_columns hive)) a (subst (λ (l : List Name). has l a ≡ true) (ap names_of (hive-left hive) ∙ names-where (has wanted) (hive_columns hive)) i)).0

  row-left : (row : Option RowIndex) → row_columns (left_row wanted row) ≡ named_among wanted (row_columns row)
  row-left None = refl
  row-left (Some row) = at (has wanted row.name)
    where
      at : (t : Bool) → row_columns (cond t (Some row) None) ≡ cond t (row_columns (Some row)) []
      at true = refl
      at false = refl

  path-left : (path : Option Name) → path_columns (left_path wanted path) ≡ named_among wanted (path_columns path)
  path-left None = refl
  path-left (Some a) = at (has wanted a)
    where
      at : (t : Bool) → path_columns (cond t (Some a) None) ≡ cond t (path_columns (Some a)) []
      at true = refl
      at false = refl

  -- the parts that are left are typed and alike, and one for each source, as the given ones

  typed-part : (part : Stats) → are_typed part ≡ true → are_typed (left_part wanted part) ≡ true
  typed-part [] h = refl
  typed-part (s ∷ part) h =
      let p = and_parts (is_of s.field.dtype s.value) (are_typed part) h in
      at (has wanted s.field.name) p.0 (typed-part part p.1)
    where
      at : (t : Bool) → is_of s.field.dtype s.value ≡ true → are_typed (left_part wanted part) ≡ true → are_typed (cond t (s ∷ left_part wanted part) (left_part wanted part)) ≡ true
      at true q r = ap (λ (b : Bool). b && are_typed (left_part wanted part)) q ∙ r
      at false q r = r

  alike_each : (first : Columns) (parts : List Stats) → list_all (λ (part : Stats). same_columns first (columns_of part) && are_typed part) parts ≡ true → list_all (λ (part : Stats). same_columns (named_among wanted first) (columns_of part) && are_typed part) (map (left_part wanted) parts) ≡ true
  alike_each first [] h = refl
  alike_each first (part ∷ parts) h =
      let p = and_parts (same_columns first (columns_of part) && are_typed part) (list_all (λ (x : Stats). same_columns first (columns_of x) && are_typed x) parts) h in
      let q = and_parts (same_columns first (columns_of part)) (are_typed part) p.0 in
      let same : named_among wanted first ≡ columns_of (left_part wanted part) = ap (named_among wanted) (same_is first (columns_of part) q.0) ∙ sym (columns-part part) in
      let here : same_columns (named_among wanted first) (columns_of (left_part wanted part)) ≡ true = is_same (named_among wanted first) (columns_of (left_part wanted part)) same in
      let typed : are_typed (left_part wanted part) ≡ true = typed-part part q.1 in
      let rest = alike_each first parts p.1 in
      both (same_columns (named_among wanted first) (columns_of (left_part wanted part))) (are_typed (left_part wanted part)) (list_all (λ (x : Stats). same_columns (named_among wanted first) (columns_of x) && are_typed x) (map (left_part wanted) parts)) here typed rest
    where
      both : (x y z : Bool) → x ≡ true → y ≡ true → z ≡ true → ((x && y) && z) ≡ true
      both true true z d e f = f
      both true false z d e f = cc
      both false y z d e f = cc

  pub alike-left : (hive : Option (List Stats)) → are_alike hive ≡ true → are_alike (left_parts wanted hive) ≡ true
  alike-left None h = refl
  alike-left (Some []) h = refl
  alike-left (Some (part ∷ parts)) h =
      subst (λ (cs : Columns). list_all (λ (x : Stats). same_columns cs (columns_of x) && are_typed x) (map (left_part wanted) (part ∷ parts)) ≡ true) (sym (columns-part part))
      (alike_each (columns_of part) (part ∷ parts) h)

  pub one_each-left : (hive : Option (List Stats)) (n : ℕ) → are_one_each (left_parts wanted hive) n ≡ are_one_each hive n
  one_each-left None n = refl
  one_each-left (Some []) n = refl
  one_each-left (Some (part ∷ parts)) n = ap (λ (k : ℕ). suc k == n) (length-map (left_part wanted) parts)

  -- the names that are left of columns are some of theirs
  left_kept : (cs ds : Columns) → ds ≡ named_among wanted cs → Left (names_of ds) (names_of cs)
  left_kept cs ds e = subst (λ (l : List Name). Left l (names_of cs)) (sym (ap names_of e ∙ names-where (has wanted) cs)) (left_where (has wanted) (names_of cs))

  module _ (reader : Columns) (hive : Option (List Stats)) (reads : List Name) (options : FileScanOptions) where
    left_lacking : Left (names_of (lacking reader (hive_columns (left_parts wanted hive)))) (names_of (lacking reader (hive_columns hive)))
    left_lacking =
        let given = hive_columns hive in
        let few = hive_columns (left_parts wanted hive) in
        let lacks : Name → Bool = λ (a : Name). not (has (names_of reader) a) in
        subst (λ (l : List Name). Left l (names_of (lacking reader given))) (sym (names-where lacks few))
        (subst (λ (l : List Name). Left (only_where lacks (names_of few)) l) (sym (names-where lacks given))
        (left_under lacks (left_kept given few (hive-left hive))))

    -- the names of the columns that are left are some of those there were
    left_files : Left (names_of (columns_left wanted reads reader hive options)) (names_of (file_columns reader (hive_columns hive) options))
    left_files =
        let few = hive_columns (left_parts wanted hive) in
        let row = left_kept (row_columns options.row_index) (row_columns (left_row wanted options.row_index)) (row-left options.row_index) in
        let path = left_kept (path_columns options.include_file_paths) (path_columns (left_path wanted options.include_file_paths)) (path-left options.include_file_paths) in
        subst (λ (l : List Name). Left l (names_of (file_columns reader (hive_columns hive) options))) (sym (names-files reader few (left_options wanted reads options)))
        (subst (Left (names_of (row_columns (left_row wanted options.row_index)) ++ ((names_of reader ++ names_of (lacking reader few)) ++ names_of (path_columns (left_path wanted options.include_file_paths))))) (sym (names-files reader (hive_columns hive) options))
        (left_join row (left_join (left_join (left_same (names_of reader)) left_lacking) path)))

    -- so they differ
    pub left_differ : AreDistinct (names_of (file_columns reader (hive_columns hive) options)) → AreDistinct (names_of (columns_left wanted reads reader hive options))
    left_differ d = left_distinct left_files d

    -- and those that are asked have their types
    pub left_types : (a : Name) → has wanted a ≡ true → type_of (columns_left wanted reads reader hive options) a ≡ type_of (file_columns reader (hive_columns hive) options) a
    left_types a i =
        let few = hive_columns (left_parts wanted hive) in
        type_of-files reader few (left_options wanted reads options) a
        ∙ ap₂ or_else (same (row_columns options.row_index) (row_columns (left_row wanted options.row_index)) (row-left options.row_index))
        (ap₂ or_else (ap (λ (o : Option DataType). or_else o (type_of reader a)) (same (hive_columns hive) few (hive-left hive)))
        (same (path_columns options.include_file_paths) (path_columns (left_path wanted options.include_file_paths)) (path-left options.include_file_paths)))
        ∙ sym (type_of-files reader (hive_columns hive) options a)
      where
        same : (cs ds : Columns) → ds ≡ named_among wanted cs → type_of ds a ≡ type_of cs a
        same cs ds e = ap (λ (x : Columns). type_of x a) e ∙ type_of-among wanted cs a i

    -- each is found by the reader or asked
    left_few : (a : Name) → has (names_of (columns_left wanted reads reader hive options)) a ≡ true → (has (names_of reader) a || has wanted a) ≡ true
    left_few a i =
        let row = row_columns (left_row wanted options.row_index) in
        let path = path_columns (left_path wanted options.include_file_paths) in
        let lacks = lacking reader (hive_columns (left_parts wanted hive)) in
        ⊎_elim
        (λ (j : has (names_of row) a ≡ true). asked (row_columns options.row_index) row (row-left options.row_index) j)
        (λ (j : has ((names_of reader ++ names_of lacks) ++ names_of path) a ≡ true). ⊎_elim
        (λ (k : has (names_of reader ++ names_of lacks) a ≡ true). ⊎_elim
        (λ (l : has (names_of reader) a ≡ true). or_left (has (names_of reader) a) (has wanted a) l)
        (λ (l : has (names_of lacks) a ≡ true). asked (hive_columns hive) (hive_columns (left_parts wanted hive)) (hive-left hive) (lacked l))
        (has_either (names_of reader) (names_of lacks) a k))
        (λ (k : has (names_of path) a ≡ true). asked (path_columns options.include_file_paths) path (path-left options.include_file_paths) k)
        (has_either (names_of reader ++ names_of lacks) (names_of path) a j))
        (has_either (names_of row) ((names_of reader ++ names_of lacks) ++ names_of path) a (subst (λ (l : List Name). has l a ≡ true) (names-files reader (hive_columns (left_parts wanted hive)) (left_options wanted reads options)) i))
      where
        asked : (cs ds : Columns) → ds ≡ named_among wanted cs → has (names_of ds) a ≡ true → (has (names_of reader) a || has wanted a) ≡ true
        asked cs ds e j = or_right (has (names_of reader) a) (has wanted a) (where_has (has wanted) (names_of cs) a (subst (λ (l : List Name). has l a ≡ true) (ap names_of e ∙ names-where (has wanted) cs) j)).1

        lacked : has (names_of (lacking reader (hive_columns (left_parts wanted hive)))) a ≡ true → has (names_of (hive_columns (left_parts wanted hive))) a ≡ true
        lacked j =
            let few = hive_columns (left_parts wanted hive) in
            let lacks : Name → Bool = λ (b : Name). not (has (names_of reader) b) in
            (where_has lacks (names_of few) a (subst (λ (l : List Name). has l a ≡ true) (names-where lacks few) j)).0

    -- what is left of the columns of files
    pub columns_are_left : AreDistinct (names_of (file_columns reader (hive_columns hive) options)) → AreLeft wanted reader (file_columns reader (hive_columns hive) options) (columns_left wanted reads reader hive options)
    columns_are_left d = record {
      differ = left_differ d;
      typed = λ a i. left_types a i;
      few = λ a i. (left_has left_files a i, left_few a i);
    }
