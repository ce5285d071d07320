-- The table of a join is the frame of the join: its left columns, and then its right ones.
use Rattle.std.proofs.Common.{◌≡◌, ◌∙◌, ◌++◌, ℕ, zero, suc, Bool, true, false, cond, List, [], ◌∷◌, map, length, replicate, Option, None, Some, refl, sym, ap, ap₂, subst, unwrap_or, arith}
use Rattle.std.specs.List.{AllByRecursion, IsDistinct, filter as only_where, slice_get}
use Rattle.std.specs.Option.{option_and_then, option_map_or}
use Rattle.std.specs.Str.{bytes_eq}
use Rattle.plan_core.specs.declared.data_type.DataType.{DataType}
use Rattle.plan_core.specs.Columns.{Columns, HasDistinctNames, names_of, place_of, type_of}
use Rattle.plan_core.proofs.ColumnLemmas.{flip_false}
use Rattle.plan_core.proofs.PlaceLemmas.{stands_nowhere, stands_there}
use Rattle.plan_options.specs.declared.join.JoinArgs.{JoinArgs}
use Rattle.plan_options.specs.Join.{suffix_of}
use Rattle.plan_expr.specs.Leaves.{Name}
use Rattle.plan_frame.specs.Frames.{Column, Frame, column_names, column_or, found}
use Rattle.plan_frame.specs.Values.{Value, null}
use Rattle.plan_frame.proofs.NameSets.{same_named}
use Rattle.plan_join.specs.declared.origin.Side.TheVariants as sides
use Rattle.plan_join.specs.Naming.{left_rest, right_name, right_rest}
use Rattle.plan_join.specs.Origins.{puts_out_left}
use Rattle.plan_join.specs.Joined.{filled_by, joined, side_value, value_or}
use Rattle.plan_join.specs.Sides.{filler}
use Rattle.plan_join.proofs.JoinedLemmas.{parts, under}
use Rattle.plan_join.proofs.NameLemmas.{left-names, left-where, own-types, right-names}
use Rattle.plan_join.specs.declared.pairs.RowPair.{RowPair}
use Rattle.plan_table.specs.declared.column.Column.{Column as Typed}
use Rattle.plan_table.specs.declared.table.Table.{Table}
use Rattle.plan_table.specs.Tables.{types_of}
use Rattle.plan_value.specs.Shown.{columns_shown, frame_of, schema_of, values_of}
use Rattle.plan_join_eval.specs.Along.{filled_column, filling, left_column, right_column, slot, value_along}
use Rattle.plan_join_eval.specs.Fills.{ArePartners}
use Rattle.plan_join_eval.proofs.AlongLemmas.{null-row}
use Rattle.plan_join_eval.proofs.FillLemmas.{differs, named_at, names_long, place_within}

-- no value stands in no rows
pub none_value : (j : Option ℕ) → value_or [] null j ≡ null
none_value None = refl
none_value (Some i) = refl

-- null in each row is null in a pair
null_value : (n : ℕ) (j : Option ℕ) → value_or (replicate n null) null j ≡ null
null_value n None = refl
null_value n (Some i) = null-row n i

-- columns of a table by name and by place

absent : (cs : List Typed) (b : Name) → type_of (types_of cs) b ≡ None → found (columns_shown cs) b ≡ None
absent [] b e = refl
absent (c ∷ cs) b e = at (bytes_eq b c.name) e (λ q. absent cs b q)
  where
    at : (t : Bool) → cond t (Some c.dtype) (type_of (types_of cs) b) ≡ None → (type_of (types_of cs) b ≡ None → found (columns_shown cs) b ≡ None) → cond t (Some (values_of c.values)) (found (columns_shown cs) b) ≡ None
    at true e rest = cc
    at false e rest = rest e

abbrev at_place : List Column → ℕ → List Value
at_place cs k = option_map_or (λ (c : Column). c.values) (slice_get cs k) []

stands : (cs : List Typed) (k : ℕ) (b : Name) (d : DataType) → HasDistinctNames (types_of cs) → slice_get (types_of cs) k ≡ Some (b, d) → found (columns_shown cs) b ≡ Some (at_place (columns_shown cs) k)
unfolding IsDistinct
stands [] k b d once e = cc
stands (c ∷ cs) zero b d once e =
    let q : c.name ≡ b = ap (λ (o : Option (Name × DataType)). option_map_or (λ (x : Name × DataType). x.0) o []) e in
    ap (λ (t : Bool). cond t (Some (values_of c.values)) (found (columns_shown cs) b)) (ap (bytes_eq b) q ∙ same_named b)
stands (c ∷ cs) (suc k) b d once e =
    let here = named_at (types_of cs) k b d e in
    let within = place_within (types_of cs) k (b, d) e in
    let apart : bytes_eq b c.name ≡ false = flip_false c.name b (ap (bytes_eq c.name) (sym here) ∙ differs c.name (names_of (types_of cs)) k once.0 (omega (arith, within, names_long (types_of cs)))) in
    ap (λ (t : Bool). cond t (Some (values_of c.values)) (found (columns_shown cs) b)) apart ∙ stands cs k b d once.1 e

-- what fills a left column

module _ (s : Columns) (right : Table) (fill : Name → Option Name) (places : List (Option ℕ)) (once : HasDistinctNames (schema_of right)) (are : ArePartners s (schema_of right) fill places) where
  abbrev g : Frame
  g = frame_of right

  from_place : (b : Name) (j : Option ℕ) (o : Option ℕ) → o ≡ place_of (schema_of right) b → value_or (filling g o) null j ≡ value_or (column_or g b) null j
  from_place b j None e =
      none_value j ∙ sym (ap (λ (o : Option (List Value)). value_or (unwrap_or o (replicate g.height null)) null j) (absent right.columns b (stands_nowhere (schema_of right) b None e)) ∙ null_value g.height j)
  from_place b j (Some k) e =
      let at = stands_there (schema_of right) b (Some k) e in
      sym (ap (λ (o : Option (List Value)). value_or (unwrap_or o (replicate g.height null)) null j) (stands right.columns k b at.0 once at.1))

  from_fill : (j : Option ℕ) (o : Option Name) → value_or (filling g (option_and_then (place_of (schema_of right)) o)) null j ≡ filled_by o g j
  from_fill j None = none_value j
  from_fill j (Some b) = from_place b j (place_of (schema_of right) b) refl

  fill_value : (a : Name) (d : DataType) (j : Option ℕ) (o : Option ℕ) → o ≡ place_of s a → type_of s a ≡ Some d → value_or (filling g (option_and_then (slot places) o)) null j ≡ filled_by (fill a) g j
  fill_value a d j None e is = let none : type_of s a ≡ None = stands_nowhere s a None e in cc
  fill_value a d j (Some i) e is =
      let at = stands_there s a (Some i) e in
      ap (λ (o : Option ℕ). value_or (filling g o) null j) (are.each i (place_within s i (a, at.0) at.1) ∙ ap (λ (x : Name). option_and_then (place_of (schema_of right)) (fill x)) (named_at s i a at.0 at.1))
      ∙ from_fill j (fill a)

  module _ (f : Frame) where
    left_values : (a : Name) (d : DataType) (ps : List RowPair) → type_of s a ≡ Some d
        → map (value_along false (column_or f a) (filling g (option_and_then (slot places) (place_of s a)))) ps ≡ map (side_value fill f g (sides.Left, a)) ps
    left_values a d [] is = refl
    left_values a d (p ∷ ps) is = ap₂ (λ (v : Value) (vs : List Value). v ∷ vs) (ap (λ (v : Value). value_or (column_or f a) v p.left) (fill_value a d p.right (place_of s a) refl is)) (left_values a d ps is)

pub right_values : (fill : Name → Option Name) (f g : Frame) (a : Name) (ps : List RowPair) → map (value_along true (column_or g a) []) ps ≡ map (side_value fill f g (sides.Right, a)) ps
right_values fill f g a [] = refl
right_values fill f g a (p ∷ ps) = ap₂ (λ (v : Value) (vs : List Value). v ∷ vs) (ap (λ (v : Value). value_or (column_or g a) v p.right) (none_value p.left)) (right_values fill f g a ps)

-- columns that are made alike of each name that is there

same_where : (L M : Name → Column) (q : Name × DataType → Bool) (s : Columns) → AllByRecursion (λ (c : Name × DataType). L c.0 ≡ M c.0) s → map L (names_of (only_where q s)) ≡ map M (names_of (only_where q s))
same_where L M q [] h = refl
same_where L M q (c ∷ s) h = at (q c) (same_where L M q s h.1)
  where
    at : (b : Bool) → map L (names_of (only_where q s)) ≡ map M (names_of (only_where q s)) → map L (names_of (cond b (c ∷ only_where q s) (only_where q s))) ≡ map M (names_of (cond b (c ∷ only_where q s) (only_where q s)))
    at true rest = ap₂ (λ (x : Column) (xs : List Column). x ∷ xs) h.0 rest
    at false rest = rest

pub same_each : (L M : Name → Column) (names : List Name) → ((a : Name) → L a ≡ M a) → map L names ≡ map M names
same_each L M [] h = refl
same_each L M (a ∷ names) h = ap₂ (λ (x : Column) (xs : List Column). x ∷ xs) (h a) (same_each L M names h)

each : (P Q : Name × DataType → Type 0) (s : Columns) → AllByRecursion P s → ((c : Name × DataType) → P c → Q c) → AllByRecursion Q s
each P Q [] h by = tt
each P Q (c ∷ s) h by = (by c h.0, each P Q s h.1 by)

pub names_shown : (cs : List Typed) → column_names (columns_shown cs) ≡ names_of (types_of cs)
names_shown [] = refl
names_shown (c ∷ cs) = ap (λ (names : List Name). c.name ∷ names) (names_shown cs)

module _ (args : JoinArgs) (lk rk : List Name) (ps : List RowPair) (left right : Table) where
  abbrev s : Columns
  s = schema_of left

  abbrev t : Columns
  t = schema_of right

  abbrev fill : Name → Option Name
  fill = filler args lk rk

  abbrev own_left : Name → Column
  own_left = filled_column fill (frame_of left) (frame_of right) ps

  abbrev right_call : Name → Name
  right_call = right_name (suffix_of args) (names_of (left_rest args lk s))

  abbrev own_right : Name → Column
  own_right = right_column right_call (frame_of right) ps

  abbrev right_under : Name → Column
  right_under = under (length ps) right_call (λ a. map (side_value fill (frame_of left) (frame_of right) (sides.Right, a)) ps)

  module _ (places : List (Option ℕ)) where
    abbrev placed_left : Name → Column
    placed_left = left_column s places (frame_of left) (frame_of right) ps

    pub lefts-filled : HasDistinctNames s → HasDistinctNames t → ArePartners s t fill places → map placed_left (names_of (left_rest args lk s)) ≡ map own_left (names_of (left_rest args lk s))
    lefts-filled once-left once-right are = subst (λ (cs : Columns). map placed_left (names_of cs) ≡ map own_left (names_of cs)) (sym (left-where args lk s))
        (same_where placed_left own_left (λ (c : Name × DataType). puts_out_left args lk c.0) s
        (each (λ c. type_of s c.0 ≡ Some c.1) (λ c. placed_left c.0 ≡ own_left c.0) s (own-types s once-left)
        (λ c is. ap (λ (vs : List Value). record { name = c.0; values = vs }) (left_values s right fill places once-right are (frame_of left) c.0 c.1 ps is))))

  rights : map own_right (names_of (right_rest args rk t)) ≡ map right_under (names_of (right_rest args rk t))
  rights = same_each own_right right_under (names_of (right_rest args rk t)) (λ a. ap (λ (vs : List Value). record { name = right_call a; values = vs }) (right_values fill (frame_of left) (frame_of right) a ps))

  pub table-joined : map own_left (names_of (left_rest args lk s)) ++ map own_right (names_of (right_rest args rk t)) ≡ (joined args lk rk ps (frame_of left) (frame_of right)).columns
  table-joined =
      ap₂ (λ (xs ys : List Column). xs ++ ys) (ap (map own_left) (sym (left-names args lk s))) (rights ∙ ap (map right_under) (sym (right-names args rk t)))
      ∙ sym (parts args lk rk ps (frame_of left) (frame_of right) s t (names_shown left.columns) (names_shown right.columns))
