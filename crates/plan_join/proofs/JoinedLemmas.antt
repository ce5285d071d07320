-- Frames of joins: they have the columns of the join, and each join may give one.
use Rattle.std.proofs.Common.{◌≡◌, ◌∙◌, ◌++◌, ℕ, Bool, true, false, cond, List, [], ◌∷◌, map, length, Option, None, Some, refl, sym, ap, ap₂, subst}
use Rattle.std.specs.List.{AllByRecursion, filter as only_where}
use Rattle.std.proofs.lemmas.List.{map-append, map-id}
use Rattle.std.proofs.lemmas.Simd.{map-map}
use Rattle.plan_core.specs.declared.data_type.DataType.{DataType}
use Rattle.plan_core.specs.Columns.{Columns, HasDistinctNames, names_of, type_of}
use Rattle.plan_options.specs.declared.join.JoinArgs.{JoinArgs}
use Rattle.plan_options.specs.Join.{suffix_of}
use Rattle.plan_expr.specs.Exprs.{Named}
use Rattle.plan_expr.specs.Leaves.{Name}
use Rattle.plan_join.specs.declared.origin.Side.TheVariants as sides
use Rattle.plan_join.specs.Naming.{join_columns, left_rest, right_name, right_rest}
use Rattle.plan_join.specs.Origins.{puts_out_left, puts_out_right}
use Rattle.plan_join.specs.Told.{Told, column_keys}
use Rattle.plan_frame.specs.Values.{Value, IsOf, AllOf, null}
use Rattle.plan_frame.specs.Frames.{Frame, Column, column_names, column_or, HaveTypes, HasSchema}
use Rattle.plan_frame.proofs.FrameLemmas.{holds_or, length-map, null_of, row_of, schema_holds}
use Rattle.plan_join.specs.declared.pairs.RowPair.{RowPair}
use Rattle.plan_join.proofs.OrderLemmas.{picked-exists}
use Rattle.plan_join.specs.Joined.{call, filled_by, joined, side_column, side_value, value_or}
use Rattle.plan_join.specs.Matching.{join_test, Joins}
use Rattle.plan_join.specs.Sides.{filler, left_out, name_sources, right_out}
use Rattle.plan_join.proofs.NameLemmas.{columns-named, left-names, left-where, own-types, right-where}

-- columns that are put out under new names have the types that they had

module _ (h : ℕ) (call : Name → Name) (values : Name → List Value) where
  abbrev pub under : Name → Column
  under a = record { name = call a; values = values a }

  abbrev renamed : Name × DataType → Name × DataType
  renamed c = (call c.0, c.1)

  abbrev Fit : Name × DataType → Type 0
  Fit c = (length (values c.0) ≡ h) × AllOf c.1 (values c.0)

  pub those-have : (p : Name → Bool) (s : Columns) → AllByRecursion Fit s → HaveTypes h (map under (only_where p (names_of s))) (map renamed (only_where (λ (c : Name × DataType). p c.0) s))
  those-have p [] k = tt
  those-have p (c ∷ s) k = at (those-have p s k.1) (p c.0)
    where
      at : HaveTypes h (map under (only_where p (names_of s))) (map renamed (only_where (λ (c : Name × DataType). p c.0) s)) → (b : Bool) → HaveTypes h (map under (cond b (c.0 ∷ only_where p (names_of s)) (only_where p (names_of s)))) (map renamed (cond b (c ∷ only_where (λ (c : Name × DataType). p c.0) s) (only_where (λ (c : Name × DataType). p c.0) s)))
      at rest true = (refl, k.0.0, k.0.1, rest)
      at rest false = rest

both_have : (h : ℕ) (cs ds : List Column) (s t : Columns) → HaveTypes h cs s → HaveTypes h ds t → HaveTypes h (cs ++ ds) (s ++ t)
both_have h [] ds [] t k l = l
both_have h (c ∷ cs) ds (d ∷ s) t k l = (k.0, k.1, k.2, both_have h cs ds s t k.3 l)
both_have h [] ds (d ∷ s) t k l = absurd k
both_have h (c ∷ cs) ds [] t k l = absurd k

-- values along pairs are of the type of their column

all_values : (t : DataType) (at : RowPair → Value) (ps : List RowPair) → ((p : RowPair) → IsOf t (at p)) → AllOf t (map at ps)
all_values t at [] by = tt
all_values t at (p ∷ ps) by = (by p, all_values t at ps by)

value_of : (t : DataType) (vs : List Value) (v : Value) (i : Option ℕ) → AllOf t vs → IsOf t v → IsOf t (value_or vs v i)
value_of t vs v None h k = k
value_of t vs v (Some i) h k = row_of t vs i h

column_of : (f : Frame) (s : Columns) (a : Name) (t : DataType) → HasSchema f s → type_of s a ≡ Some t → AllOf t (column_or f a)
column_of f s a t has is = (holds_or f (a, t) (schema_holds f s a t has is)).1

module _ (fill : Name → Option Name) (f g : Frame) (s t : Columns) (left : HasSchema f s) (right : HasSchema g t) (fits : (a b : Name) → fill a ≡ Some b → type_of s a ≡ type_of t b) where
  filled_of : (a : Name) (d : DataType) (o : Option Name) (j : Option ℕ) → fill a ≡ o → type_of s a ≡ Some d → IsOf d (filled_by o g j)
  filled_of a d None j e is = null_of d
  filled_of a d (Some b) j e is = value_of d (column_or g b) null j (column_of g t b d right (sym (fits a b e) ∙ is)) (null_of d)

  left_of : (ps : List RowPair) (c : Name × DataType) → type_of s c.0 ≡ Some c.1 → AllOf c.1 (map (side_value fill f g (sides.Left, c.0)) ps)
  left_of ps c is = all_values c.1 (side_value fill f g (sides.Left, c.0)) ps
      (λ p. value_of c.1 (column_or f c.0) (filled_by (fill c.0) g p.right) p.left (column_of f s c.0 c.1 left is) (filled_of c.0 c.1 (fill c.0) p.right refl is))

  right_of : (ps : List RowPair) (c : Name × DataType) → type_of t c.0 ≡ Some c.1 → AllOf c.1 (map (side_value fill f g (sides.Right, c.0)) ps)
  right_of ps c is = all_values c.1 (side_value fill f g (sides.Right, c.0)) ps (λ p. value_of c.1 (column_or g c.0) null p.right (column_of g t c.0 c.1 right is) (null_of c.1))

each : (P Q : Name × DataType → Type 0) (s : Columns) → AllByRecursion P s → ((c : Name × DataType) → P c → Q c) → AllByRecursion Q s
each P Q [] h by = tt
each P Q (c ∷ s) h by = (by c h.0, each P Q s h.1 by)

-- what a join makes of two frames has its columns

module _ (args : JoinArgs) (lk rk : List Name) (ps : List RowPair) (f g : Frame) (s t : Columns) where
  abbrev pub fill : Name → Option Name
  fill = filler args lk rk

  abbrev pub left_values : Name → List Value
  left_values a = map (side_value fill f g (sides.Left, a)) ps

  abbrev pub right_values : Name → List Value
  right_values a = map (side_value fill f g (sides.Right, a)) ps

  abbrev pub right_call : Name → Name
  right_call = right_name (suffix_of args) (names_of (left_rest args lk s))

  abbrev pub left_columns : List Column
  left_columns = map (under (length ps) (λ a. a) left_values) (left_out args lk (names_of s))

  abbrev pub right_columns : List Column
  right_columns = map (under (length ps) right_call right_values) (right_out args rk (names_of t))

  -- the columns of both sides, by the names of these
  pub parts : column_names f.columns ≡ names_of s → column_names g.columns ≡ names_of t → (joined args lk rk ps f g).columns ≡ left_columns ++ right_columns
  parts left right =
      ap₂ (λ (xs ys : List Name). map (side_column fill (call args (left_out args lk xs)) ps f g) (name_sources args lk rk xs ys)) left right
      ∙ ap (λ (names : List Name). map (side_column fill (call args names) ps f g) (name_sources args lk rk (names_of s) (names_of t))) (left-names args lk s)
      ∙ map-append (side_column fill (call args (names_of (left_rest args lk s))) ps f g) (map (λ (a : Name). (sides.Left, a)) (left_out args lk (names_of s))) (map (λ (a : Name). (sides.Right, a)) (right_out args rk (names_of t)))
      ∙ ap₂ (λ (xs ys : List Column). xs ++ ys)
      (map-map (side_column fill (call args (names_of (left_rest args lk s))) ps f g) (λ (a : Name). (sides.Left, a)) (left_out args lk (names_of s)))
      (map-map (side_column fill (call args (names_of (left_rest args lk s))) ps f g) (λ (a : Name). (sides.Right, a)) (right_out args rk (names_of t)))

  module _ (left : HasSchema f s) (right : HasSchema g t) where
    module _ (fits : (a b : Name) → fill a ≡ Some b → type_of s a ≡ type_of t b) where
      lefts : HasDistinctNames s → HaveTypes (length ps) left_columns (left_rest args lk s)
      lefts once = subst (HaveTypes (length ps) left_columns) (map-id (only_where (λ (c : Name × DataType). puts_out_left args lk c.0) s) ∙ sym (left-where args lk s))
          (those-have (length ps) (λ a. a) left_values (puts_out_left args lk) s
          (each (λ c. type_of s c.0 ≡ Some c.1) (Fit (length ps) (λ a. a) left_values) s (own-types s once) (λ c is. (length-map (side_value fill f g (sides.Left, c.0)) ps, left_of fill f g s t left right fits ps c is))))

      rights : HasDistinctNames t → HaveTypes (length ps) right_columns (map (renamed (length ps) right_call right_values) (right_rest args rk t))
      rights once = subst (λ (u : Columns). HaveTypes (length ps) right_columns (map (renamed (length ps) right_call right_values) u)) (sym (right-where args rk t))
          (those-have (length ps) right_call right_values (puts_out_right args rk) t
          (each (λ c. type_of t c.0 ≡ Some c.1) (Fit (length ps) right_call right_values) t (own-types t once) (λ c is. (length-map (side_value fill f g (sides.Right, c.0)) ps, right_of fill f g s t left right fits ps c is))))

      pub joined-has : HasDistinctNames s → HasDistinctNames t → HasSchema (joined args lk rk ps f g) (join_columns args lk rk s t)
      joined-has once-left once-right = subst (λ (cs : List Column). HaveTypes (length ps) cs (join_columns args lk rk s t)) (sym (parts (columns-named f.height f.columns s left) (columns-named g.height g.columns t right)))
          (both_have (length ps) left_columns right_columns (left_rest args lk s) (map (renamed (length ps) right_call right_values) (right_rest args rk t)) (lefts once-left) (rights once-right))

-- each join may give a frame
pub joins-exist : (told : Told) (left_on right_on : List Named) (f g : Frame) → (frame : Frame) × Joins told left_on right_on f g frame
joins-exist told left_on right_on f g =
    let picked = picked-exists told.args.how told.args.maintain_order (join_test told left_on right_on f g) f.height g.height in
    (joined told.args (column_keys left_on) (column_keys right_on) picked.0 f g, (picked.0, picked.1, refl))
