-- The columns that a condition reads of a join: over them it is what it is over all, and in a row what it is of that pair alone.
use Rattle.std.proofs.Common.{◌≡◌, ◌∙◌, ◌++◌, ◌<◌, ℕ, zero, suc, Bool, true, false, true≢false, cond, List, [], ◌∷◌, map, length, take, drop, drop-cons, get_or, Option, None, Some, refl, sym, ap, ap₂, subst, arith, append_assoc}
use Rattle.std.specs.List.{AllByRecursion, IsDistinct, filter as only_where}
use Rattle.std.specs.Str.{bytes_eq}
use Rattle.std.proofs.lemmas.List.{map-append, take-append-drop}
use Rattle.std.proofs.lemmas.List.Elements.{filter-append}
use Rattle.std.proofs.lemmas.List.FromFn.{get_or-map-range_with_len, length-map-range_with_len}
use Rattle.plan_core.specs.declared.arena.Node.{Node}
use Rattle.plan_core.specs.declared.data_type.DataType.{DataType}
use Rattle.plan_core.specs.Columns.{Columns, HasDistinctNames, names_of}
use Rattle.plan_core.specs.Names.{has, with_names}
use Rattle.plan_options.specs.declared.join.JoinArgs.{JoinArgs}
use Rattle.plan_options.specs.Join.{suffix_of}
use Rattle.plan_expr.specs.declared.aexpr.AExpr.{AExpr}
use Rattle.plan_expr.specs.Exprs.{Expr, expr_at}
use Rattle.plan_expr.specs.Leaves.{Name, leaves}
use Rattle.plan_frame.specs.Frames.{Column, Frame, Agree, column_or, found, picked_columns, row, rows_at}
use Rattle.plan_frame.specs.Meaning.{Cell, val, value_at}
use Rattle.plan_frame.specs.Values.{Value, is_true}
use Rattle.plan_frame.proofs.Depends.{val_depends}
use Rattle.plan_frame.proofs.FrameLemmas.{length-map}
use Rattle.plan_frame.proofs.NameSets.{has-once, named}
use Rattle.plan_meaning.specs.CellRows.{IsEven}
use Rattle.plan_meaning.proofs.RowWise.{elementwise_rows, value_of_rows}
use Rattle.plan_join.proofs.ColumnLemmas.{is_new}
use Rattle.plan_join.specs.declared.origin.Side.{Side}
use Rattle.plan_join.specs.declared.origin.Side.TheVariants as sides
use Rattle.plan_join.specs.Naming.{left_rest, join_columns, right_name, right_rest}
use Rattle.plan_join.specs.Joined.{call, filled_by, joined, side_column, side_value, value_or}
use Rattle.plan_join.specs.Sides.{filler, fills, left_out, name_sources, partner}
use Rattle.plan_join.proofs.JoinedLemmas.{parts, under}
use Rattle.plan_join.proofs.NameLemmas.{left-names, right-names}
use Rattle.plan_meaning.specs.JoinChecks.{is_elementwise}
use Rattle.plan_join.specs.declared.pairs.RowPair.{RowPair}
use Rattle.plan_join.specs.Pairs.{both}
use Rattle.plan_table.specs.declared.table.Table.{Table}
use Rattle.plan_value.specs.Shown.{frame_of, schema_of}
use Rattle.plan_join_eval.specs.Along.{right_column, value_along}
use Rattle.plan_join_eval.specs.Compared.{condition_test, sided}
use Rattle.plan_join_eval.specs.declared.reads.Read.{Read}
use Rattle.plan_join_eval.specs.Reads.{all_beside, beside, is_beside_true, is_named, is_read, left_along, read_column, read_frame, read_type}
use Rattle.plan_join_eval.proofs.TableLemmas.{names_shown, none_value, right_values, same_each}

-- a column more is read, or passed over

module _ {X Y : Type 0} (F : X → Y) (p : Y → Bool) where
  pub taken : (done new : List X) (r : X) (y : Y) (ys all : List Y) → new ≡ done ++ r ∷ [] → F r ≡ y → p y ≡ true → map F done ++ only_where p (y ∷ ys) ≡ all → map F new ++ only_where p ys ≡ all
  taken done new r y ys all more is passes before =
      ap (λ (xs : List X). map F xs ++ only_where p ys) more
      ∙ ap (λ (zs : List Y). zs ++ only_where p ys) (map-append F done (r ∷ []))
      ∙ append_assoc (map F done) (F r ∷ []) (only_where p ys)
      ∙ ap (λ (z : Y). map F done ++ z ∷ only_where p ys) is
      ∙ ap (λ (b : Bool). map F done ++ cond b (y ∷ only_where p ys) (only_where p ys)) (sym passes)
      ∙ before

  pub passed : (done : List X) (y : Y) (ys all : List Y) → p y ≡ false → map F done ++ only_where p (y ∷ ys) ≡ all → map F done ++ only_where p ys ≡ all
  passed done y ys all fails before =
      ap (λ (b : Bool). map F done ++ cond b (y ∷ only_where p ys) (only_where p ys)) (sym fails) ∙ before

-- names that stay are distinct

apart_where : (p : Name × DataType → Bool) (x : Name) (cs : Columns) → AllByRecursion (λ (y : Name). bytes_eq x y ≡ false) (names_of cs) → AllByRecursion (λ (y : Name). bytes_eq x y ≡ false) (names_of (only_where p cs))
apart_where p x [] h = tt
apart_where p x (c ∷ cs) h = at (p c) (apart_where p x cs h.1)
  where
    at : (b : Bool) → AllByRecursion (λ (y : Name). bytes_eq x y ≡ false) (names_of (only_where p cs)) → AllByRecursion (λ (y : Name). bytes_eq x y ≡ false) (names_of (cond b (c ∷ only_where p cs) (only_where p cs)))
    at true rest = (h.0, rest)
    at false rest = rest

pub distinct-where : (p : Name × DataType → Bool) (cs : Columns) → HasDistinctNames cs → HasDistinctNames (only_where p cs)
unfolding IsDistinct
distinct-where p [] h = tt
distinct-where p (c ∷ cs) h = at (p c) (distinct-where p cs h.1)
  where
    at : (b : Bool) → HasDistinctNames (only_where p cs) → HasDistinctNames (cond b (c ∷ only_where p cs) (only_where p cs))
    at true rest = (apart_where p c.0 cs h.0, rest)
    at false rest = rest

-- columns by their names among those that are read

not_named : (names : List Name) (a b : Name) → has names a ≡ true → has names b ≡ false → bytes_eq a b ≡ false
not_named names a b h k = at (bytes_eq a b) refl
  where
    at : (t : Bool) → bytes_eq a b ≡ t → bytes_eq a b ≡ false
    at false e = e
    at true e = absurd (true≢false (sym h ∙ ap (has names) (named a b e) ∙ k))

found_read : (names : List Name) (cs : List Column) (a : Name) → has names a ≡ true → found (only_where (is_read names) cs) a ≡ found cs a
found_read names [] a h = refl
found_read names (c ∷ cs) a h = at (has names c.name) refl (found_read names cs a h)
  where
    at : (b : Bool) → has names c.name ≡ b → found (only_where (is_read names) cs) a ≡ found cs a → found (cond b (c ∷ only_where (is_read names) cs) (only_where (is_read names) cs)) a ≡ cond (bytes_eq a c.name) (Some c.values) (found cs a)
    at true e rest = ap (λ (o : Option (List Value)). cond (bytes_eq a c.name) (Some c.values) o) rest
    at false e rest = rest ∙ sym (ap (λ (t : Bool). cond t (Some c.values) (found cs a)) (not_named names a c.name h e))

agree_read : (names : List Name) (f : Frame) → Agree names (record { height = f.height; columns = only_where (is_read (with_names [] names)) f.columns }) f
agree_read names f = record { height = refl; same = λ a h. found_read (with_names [] names) f.columns a (has-once names a ∙ h) }

-- the columns of a join without keys

no_fill : (args : JoinArgs) (a : Name) → filler args [] [] a ≡ None
no_fill args a = at (fills args.how args.coalesce)
  where
    at : (b : Bool) → cond b (partner [] [] a) None ≡ None
    at true = refl
    at false = refl

module _ (args : JoinArgs) (left right : Table) (ps : List RowPair) where
  abbrev f : Frame
  f = frame_of left

  abbrev g : Frame
  g = frame_of right

  abbrev fill : Name → Option Name
  fill = filler args [] []

  left_same : (a : Name) (qs : List RowPair) → map (side_value fill f g (sides.Left, a)) qs ≡ map (value_along false (column_or f a) []) qs
  left_same a [] = refl
  left_same a (p ∷ qs) =
      ap₂ (λ (v : Value) (vs : List Value). v ∷ vs)
      (ap (λ (v : Value). value_or (column_or f a) v p.left) (ap (λ (o : Option Name). filled_by o g p.right) (no_fill args a) ∙ sym (none_value p.right)))
      (left_same a qs)

  abbrev pub lefts : Columns
  lefts = left_rest args [] (schema_of left)

  abbrev pub rights : Columns
  rights = right_rest args [] (schema_of right)

  abbrev pub renamed : Name → Name
  renamed = right_name (suffix_of args) (names_of lefts)

  pub columns-joined : (joined args [] [] ps f g).columns ≡ map (left_along f ps) (names_of lefts) ++ map (right_column renamed g ps) (names_of rights)
  columns-joined =
      parts args [] [] ps f g (schema_of left) (schema_of right) (names_shown left.columns) (names_shown right.columns)
      ∙ ap₂ (λ (xs ys : List Column). xs ++ ys)
      (ap (map (under (length ps) (λ a. a) (λ a. map (side_value fill f g (sides.Left, a)) ps))) (left-names args [] (schema_of left))
      ∙ same_each (under (length ps) (λ a. a) (λ a. map (side_value fill f g (sides.Left, a)) ps)) (left_along f ps) (names_of lefts) (λ a. ap (λ (vs : List Value). record { name = a; values = vs }) (left_same a ps)))
      (ap (map (under (length ps) renamed (λ a. map (side_value fill f g (sides.Right, a)) ps))) (right-names args [] (schema_of right))
      ∙ same_each (under (length ps) renamed (λ a. map (side_value fill f g (sides.Right, a)) ps)) (right_column renamed g ps) (names_of rights) (λ a. ap (λ (vs : List Value). record { name = renamed a; values = vs }) (sym (right_values fill f g a ps))))

  -- those of them that are read, the left ones first
  module _ (N names : List Name) (ls rs : Columns) (sx : Name) (all : List Read) (n : N ≡ names) (l : ls ≡ lefts) (r : rs ≡ rights) (x : sx ≡ suffix_of args) where
    pub columns-read : map (read_column ps) all ≡ only_where (is_read N) (map (left_along f ps) (names_of ls)) ++ only_where (is_read N) (map (right_column (right_name sx (names_of ls)) g ps) (names_of rs))
        → map (read_column ps) all ≡ only_where (is_read names) (joined args [] [] ps f g).columns
    columns-read both =
        let lefts_along : Columns → List Column = λ (cs : Columns). map (left_along f ps) (names_of cs) in
        let rights_along : Name → Columns → Columns → List Column = λ (s : Name) (cs ds : Columns). map (right_column (right_name s (names_of cs)) g ps) (names_of ds) in
        both
        ∙ sym (filter-append (is_read N) (lefts_along ls) (rights_along sx ls rs))
        ∙ ap (λ (k : List Name). only_where (is_read k) (lefts_along ls ++ rights_along sx ls rs)) n
        ∙ ap (λ (cs : Columns). only_where (is_read names) (lefts_along cs ++ rights_along sx cs rs)) l
        ∙ ap₂ (λ (s : Name) (cs : Columns). only_where (is_read names) (lefts_along lefts ++ rights_along s lefts cs)) x r
        ∙ ap (only_where (is_read names)) (sym columns-joined)

    pub types-read : map read_type all ≡ only_where (is_named N) ls ++ only_where (is_named N) (map (λ (c : Name × DataType). (right_name sx (names_of ls) c.0, c.1)) rs)
        → map read_type all ≡ only_where (is_named names) (join_columns args [] [] (schema_of left) (schema_of right))
    types-read both =
        let under_new : Name → Columns → Columns → Columns = λ (s : Name) (cs ds : Columns). map (λ (c : Name × DataType). (right_name s (names_of cs) c.0, c.1)) ds in
        both
        ∙ sym (filter-append (is_named N) ls (under_new sx ls rs))
        ∙ ap (λ (k : List Name). only_where (is_named k) (ls ++ under_new sx ls rs)) n
        ∙ ap (λ (cs : Columns). only_where (is_named names) (cs ++ under_new sx cs rs)) l
        ∙ ap₂ (λ (s : Name) (cs : Columns). only_where (is_named names) (lefts ++ under_new s lefts cs)) x r

-- of distinct columns the next one is none of those before it
pub next-read : (reads : List Read) (i : ℕ) (r : Read) → i < length reads → r ≡ get_or reads i r → HasDistinctNames (map read_type reads) → has (names_of (map read_type (take i reads))) r.name ≡ false
next-read reads i r lt is once =
    is_new (map read_type (take i reads)) r.name r.dtype (map read_type (drop (suc i) reads))
    (subst HasDistinctNames
    (ap (map read_type) (sym (take-append-drop i reads) ∙ ap (λ (rs : List Read). take i reads ++ rs) (drop-cons reads i r lt ∙ ap (λ (x : Read). x ∷ drop (suc i) reads) (sym is)))
    ∙ map-append read_type (take i reads) (r ∷ drop (suc i) reads))
    once)

-- one pair of many

row_mapped : (v : RowPair → Value) (ps : List RowPair) (k : ℕ) (d : RowPair) → k < length ps → row (map v ps) k ≡ v (get_or ps k d)
row_mapped v [] k d lt = absurd (omega (arith, lt))
row_mapped v (p ∷ ps) zero d lt = refl
row_mapped v (p ∷ ps) (suc k) d lt = row_mapped v ps k d (omega (arith, lt))

module _ (fill : Name → Option Name) (call : Side × Name → Name) (f g : Frame) (ps : List RowPair) where
  picked_sides : (k : ℕ) (d : RowPair) → k < length ps → (ss : List (Side × Name)) → picked_columns (k ∷ []) (map (side_column fill call ps f g) ss) ≡ map (side_column fill call (get_or ps k d ∷ []) f g) ss
  picked_sides k d lt [] = refl
  picked_sides k d lt (s ∷ ss) = ap₂ (λ (v : Value) (cs : List Column). record { name = call s; values = v ∷ [] } ∷ cs) (row_mapped (side_value fill f g s) ps k d lt) (picked_sides k d lt ss)

  even_sides : (ss : List (Side × Name)) → AllByRecursion (λ (c : Column). length c.values ≡ length ps) (map (side_column fill call ps f g) ss)
  even_sides [] = tt
  even_sides (s ∷ ss) = (length-map (side_value fill f g s) ps, even_sides ss)

module _ (args : JoinArgs) (f g : Frame) where
  abbrev along_all : List RowPair → Frame
  along_all ps = joined args [] [] ps f g

  even : (ps : List RowPair) → IsEven (along_all ps)
  even ps = even_sides (filler args [] []) (call args (left_out args [] (map (λ (c : Column). c.name) f.columns))) f g ps (name_sources args [] [] (map (λ (c : Column). c.name) f.columns) (map (λ (c : Column). c.name) g.columns))

  one_row : (ps : List RowPair) (k : ℕ) (d : RowPair) → k < length ps → rows_at (k ∷ []) (along_all ps) ≡ along_all (get_or ps k d ∷ [])
  one_row ps k d lt = ap (λ (cs : List Column). record { height = 1; columns = cs }) (picked_sides (filler args [] []) (call args (left_out args [] (map (λ (c : Column). c.name) f.columns))) f g ps k d lt (name_sources args [] [] (map (λ (c : Column). c.name) f.columns) (map (λ (c : Column). c.name) g.columns)))

  -- what works row by row is in a row what it is of its pair alone
  of_pair : (ps : List RowPair) (k : ℕ) (d : RowPair) → k < length ps → (e : Expr) → is_elementwise e ≡ true → value_at (val e (along_all ps)) k ≡ value_at (val e (along_all (get_or ps k d ∷ []))) 0
  of_pair ps k d lt e w =
      let one = elementwise_rows (along_all ps) (even ps) (k ∷ []) (lt, tt) e w in
      sym (value_of_rows (k ∷ []) (val e (along_all ps)) 0 (omega arith))
      ∙ ap (λ (c : Cell). value_at c 0) (sym one.rows_of ∙ ap (val e) (one_row ps k d lt))

-- a row of the side that is gone through with each of the other

pub beside-long : (by_right : Bool) (row others : ℕ) → length (all_beside by_right row others) ≡ others
beside-long by_right row others = length-map-range_with_len (beside by_right row) 0 others

beside_at : (by_right : Bool) (row others k : ℕ) → k < others → get_or (all_beside by_right row others) k (both 0 0) ≡ beside by_right row k
beside_at by_right row others k lt = get_or-map-range_with_len (beside by_right row) 0 others k k (both 0 0) lt (omega arith)

module _ (ex : List AExpr) (args : JoinArgs) (condition : Node) (f g : Frame) where
  sided_pair : (by_right : Bool) (row k : ℕ) → sided by_right (condition_test ex args condition f g) row k ≡ is_true (value_at (val (expr_at ex condition) (joined args [] [] (beside by_right row k ∷ []) f g)) 0)
  sided_pair true row k = refl
  sided_pair false row k = refl

  pub worked-same : (reads : List Read) → is_elementwise (expr_at ex condition) ≡ true
      → ((ps : List RowPair) → map (read_column ps) reads ≡ only_where (is_read (with_names [] (leaves (expr_at ex condition)))) (joined args [] [] ps f g).columns)
      → (by_right : Bool) (row others k : ℕ) → k < others → is_beside_true by_right (expr_at ex condition) reads row others k ≡ sided by_right (condition_test ex args condition f g) row k
  worked-same reads w are by_right row others k lt =
      let e = expr_at ex condition in
      let ps = all_beside by_right row others in
      let long = beside-long by_right row others in
      let whole = joined args [] [] ps f g in
      let over_read : val e (read_frame ps reads) ≡ val e whole =
      ap (λ (cs : List Column). val e (record { height = length ps; columns = cs })) (are ps)
      ∙ val_depends e (record { height = length ps; columns = only_where (is_read (with_names [] (leaves e))) whole.columns }) whole (agree_read (leaves e) whole)
      in
      ap (λ (c : Cell). is_true (value_at c k)) over_read
      ∙ ap is_true (of_pair args f g ps k (both 0 0) (omega (arith, lt, long)) e w)
      ∙ ap (λ (p : RowPair). is_true (value_at (val e (joined args [] [] (p ∷ []) f g)) 0)) (beside_at by_right row others k lt)
      ∙ sym (sided_pair by_right row k)
