-- A narrowed join has the columns that are asked of it, with their types and values, under the names that they have now.
use Rattle.std.proofs.Common.{◌≡◌, ℕ, Bool, true, false, not, ◌&&◌, cond, List, [], ◌∷◌, ◌++◌, map, Option, Some, None, refl, sym, ap, ap₂, ◌∙◌, subst, is_some, ⊎_elim}
use Rattle.std.specs.List.{cons_option, filter as only_where, flat_map}
use Rattle.std.specs.Option.{option_map_or}
use Rattle.std.specs.Str.{bytes_eq}
use Rattle.plan_core.specs.declared.data_type.DataType.{DataType}
use Rattle.plan_core.specs.Columns.{Columns, HasDistinctNames, names_of, type_of}
use Rattle.plan_core.specs.Names.{has}
use Rattle.plan_options.specs.declared.join.JoinArgs.{JoinArgs}
use Rattle.plan_options.specs.Join.{suffix_of}
use Rattle.plan_expr.specs.Exprs.{column as column_of, Expr, Named}
use Rattle.plan_expr.specs.Leaves.{Name, leaves}
use Rattle.plan_tree.specs.Rose.{rose, no_roses}
use Rattle.plan_frame.specs.ExprLists.{all_leaves}
use Rattle.plan_frame.specs.Frames.{Frame, HasSchema, Agree, AgreeBy, column}
use Rattle.plan_frame.specs.Values.{Value, null}
use Rattle.plan_frame.proofs.FrameLemmas.{or_same}
use Rattle.plan_frame.proofs.NameSets.{adds_names, has_cons, has_back, has_first, has_front, has_later, some-type_of}
use Rattle.plan_join.specs.declared.origin.Side.{Side}
use Rattle.plan_join.specs.declared.origin.Side.TheVariants as sides
use Rattle.plan_join.specs.Naming.{called, join_columns, left_rest, right_rest, side_columns}
use Rattle.plan_join.specs.Origins.{puts_out_left, puts_out_right}
use Rattle.plan_join.specs.Told.{Told, column_keys, expr_column}
use Rattle.plan_join.specs.Joined.{filled_by, joined, side_value, value_or}
use Rattle.plan_join.specs.Sides.{fills, filler, partner}
use Rattle.plan_join.proofs.NameLemmas.{left-where, right-where}
use Rattle.plan_join.specs.declared.pairs.RowPair.{RowPair}
use Rattle.plan_meaning.specs.JoinAsked.{left_asked, needed_of, of_side, origin_of, right_asked, side_asked, side_names}
use Rattle.plan_meaning.specs.Relating.{Holding}
use Rattle.plan_pruned.specs.JoinPruned.{called_now}
use Rattle.plan_pruned.proofs.JoinColumns.{IsOut, name_out, origin_called, origin_out, origin_some, out_type, out_values, type_of-where}
use Rattle.plan_pruned.proofs.JoinKept.{Kept}
use Rattle.plan_pruned.proofs.JoinTops.{Renamed}

-- what a name asks of a side is asked

flat_has : (f : Name → List Name) (l : List Name) (a b : Name) → has l a ≡ true → has (f a) b ≡ true → has (flat_map f l) b ≡ true
flat_has f [] a b i j = cc
flat_has f (c ∷ l) a b i j = ⊎_elim
    (λ (e : a ≡ c). has_front (f c) (flat_map f l) b (subst (λ (x : Name). has (f x) b ≡ true) e j))
    (λ (k : has l a ≡ true). has_back (f c) (flat_map f l) b (flat_has f l a b k j))
    (has_cons c l a i)

module _ (side : Side) (keys : List Named) (by : Name → Option (Side × Name)) (s : Columns) (needed : List Name) where
  -- what the keys read
  pub keys_asked : (b : Name) → has (all_leaves keys) b ≡ true → has (side_asked side keys by s needed) b ≡ true
  keys_asked b i = adds_names [] (all_leaves keys ++ flat_map (side_names side by s) needed) b (has_front (all_leaves keys) (flat_map (side_names side by s) needed) b i)

  -- the column that a needed name stands for
  pub origin_asked : (a b : Name) → has needed a ≡ true → has (of_side side (by a)) b ≡ true → has (side_asked side keys by s needed) b ≡ true
  origin_asked a b n i =
      adds_names [] (all_leaves keys ++ flat_map (side_names side by s) needed) b
      (has_back (all_leaves keys) (flat_map (side_names side by s) needed) b
      (flat_has (side_names side by s) needed a b n (at (has (names_of s) a))))
    where
      at : (h : Bool) → has (cond h (a ∷ of_side side (by a)) (of_side side (by a))) b ≡ true
      at true = has_later a (of_side side (by a)) b i
      at false = i

-- a column that passes by its name is put out

has_where : (test : Name → Bool) (s : Columns) (b : Name) → test b ≡ true → has (names_of s) b ≡ true → has (names_of (only_where (λ (c : Name × DataType). test c.0) s)) b ≡ true
has_where test s b q i = sym (some-type_of (only_where (λ (c : Name × DataType). test c.0) s) b) ∙ ap is_some (type_of-where test s b q) ∙ some-type_of s b ∙ i

where_has : (test : Name → Bool) (s : Columns) (b : Name) → has (names_of (only_where (λ (c : Name × DataType). test c.0) s)) b ≡ true → (has (names_of s) b ≡ true) × (test b ≡ true)
where_has test [] b i = cc
where_has test (c ∷ s) b i = at (test c.0) refl i (λ j. where_has test s b j)
  where
    at : (k : Bool) → test c.0 ≡ k → has (names_of (cond k (c ∷ only_where (λ (c : Name × DataType). test c.0) s) (only_where (λ (c : Name × DataType). test c.0) s))) b ≡ true → (has (names_of (only_where (λ (c : Name × DataType). test c.0) s)) b ≡ true → (has (names_of s) b ≡ true) × (test b ≡ true)) → (has (names_of (c ∷ s)) b ≡ true) × (test b ≡ true)
    at true e i r = ⊎_elim
        (λ (p : b ≡ c.0). (subst (λ (x : Name). has (c.0 ∷ names_of s) x ≡ true) (sym p) (has_first c.0 (names_of s)), ap test p ∙ e))
        (λ j. let k = r j in (has_later c.0 (names_of s) b k.0, k.1))
        (has_cons c.0 (names_of (only_where (λ (c : Name × DataType). test c.0) s)) b i)
    at false e i r = let k = r i in (has_later c.0 (names_of s) b k.0, k.1)

pub left_passes : (args : JoinArgs) (keys : List Name) (s : Columns) (b : Name) → puts_out_left args keys b ≡ true → has (names_of s) b ≡ true → has (names_of (left_rest args keys s)) b ≡ true
left_passes args keys s b q i = ap (λ (u : Columns). has (names_of u) b) (left-where args keys s) ∙ has_where (puts_out_left args keys) s b q i

pub left_passed : (args : JoinArgs) (keys : List Name) (s : Columns) (b : Name) → has (names_of (left_rest args keys s)) b ≡ true → (has (names_of s) b ≡ true) × (puts_out_left args keys b ≡ true)
left_passed args keys s b i = where_has (puts_out_left args keys) s b (ap (λ (u : Columns). has (names_of u) b) (sym (left-where args keys s)) ∙ i)

pub right_passes : (args : JoinArgs) (keys : List Name) (t : Columns) (b : Name) → puts_out_right args keys b ≡ true → has (names_of t) b ≡ true → has (names_of (right_rest args keys t)) b ≡ true
right_passes args keys t b q i = ap (λ (u : Columns). has (names_of u) b) (right-where args keys t) ∙ has_where (puts_out_right args keys) t b q i

pub right_passed : (args : JoinArgs) (keys : List Name) (t : Columns) (b : Name) → has (names_of (right_rest args keys t)) b ≡ true → (has (names_of t) b ≡ true) × (puts_out_right args keys b ≡ true)
right_passed args keys t b i = where_has (puts_out_right args keys) t b (ap (λ (u : Columns). has (names_of u) b) (sym (right-where args keys t)) ∙ i)

-- the partner of a key is a column that the right keys read

partner_leaf : (left_on right_on : List Named) (a c : Name) → partner (column_keys left_on) (column_keys right_on) a ≡ Some c → has (all_leaves right_on) c ≡ true
partner_leaf left_on right_on a c e = key_leaf right_on c (partner_in (column_keys left_on) (column_keys right_on) a c e)
  where
    partner_in : (ls rs : List Name) (a c : Name) → partner ls rs a ≡ Some c → has rs c ≡ true
    partner_in [] rs a c e = cc
    partner_in (l ∷ ls) [] a c e = cc
    partner_in (l ∷ ls) (r ∷ rs) a c e = at (bytes_eq a l) e (λ q. partner_in ls rs a c q)
      where
        at : (t : Bool) → cond t (Some r) (partner ls rs a) ≡ Some c → (partner ls rs a ≡ Some c → has rs c ≡ true) → has (r ∷ rs) c ≡ true
        at true q later = (let same : r ≡ c = cc in subst (λ (x : Name). has (r ∷ rs) x ≡ true) same (has_first r rs))
        at false q later = has_later r rs c (later q)

    column_leaf : (e : Expr) (c : Name) → expr_column e ≡ Some c → has (leaves e) c ≡ true
    column_leaf (rose n (column_of b) no_roses) c q = (let same : b ≡ c = cc in subst (λ (x : Name). has (b ∷ []) x ≡ true) same (has_first b []))
    column_leaf e c q = cc

    key_leaf : (keys : List Named) (c : Name) → has (column_keys keys) c ≡ true → has (all_leaves keys) c ≡ true
    key_leaf [] c i = cc
    key_leaf (k ∷ keys) c i = at (expr_column k.expr) refl i (λ j. key_leaf keys c j)
      where
        at : (o : Option Name) → expr_column k.expr ≡ o → has (cons_option o (column_keys keys)) c ≡ true → (has (column_keys keys) c ≡ true → has (all_leaves keys) c ≡ true) → has (leaves k.expr ++ all_leaves keys) c ≡ true
        at None q i later = has_back (leaves k.expr) (all_leaves keys) c (later i)
        at (Some b) q i later = ⊎_elim
            (λ (p : c ≡ b). has_front (leaves k.expr) (all_leaves keys) c (column_leaf k.expr c (q ∙ ap (λ (x : Name). Some x) (sym p))))
            (λ j. has_back (leaves k.expr) (all_leaves keys) c (later j))
            (has_cons b (column_keys keys) c i)

same_values : {X : Type 0} (f g : X → Value) (xs : List X) → ((x : X) → f x ≡ g x) → map f xs ≡ map g xs
same_values f g [] h = refl
same_values f g (x ∷ xs) h = ap₂ (λ (v : Value) (vs : List Value). v ∷ vs) (h x) (same_values f g xs h)

-- narrowed sides, and what is needed of the join

module _ (left_on right_on : List Named) (told : Told) (left : JoinArgs) (wanted : List Name) (s t r1 r2 : Columns) (kept : Kept told.args left right_on (origin_of left_on right_on told s t) (needed_of told wanted)) (hl : Holding (left_asked left_on right_on told wanted s t) r1 s) (hr : Holding (right_asked left_on right_on told wanted s t) r2 t) where
  abbrev own : JoinArgs
  own = told.args

  abbrev lk : List Name
  lk = column_keys left_on

  abbrev rk : List Name
  rk = column_keys right_on

  abbrev by : Name → Option (Side × Name)
  by = origin_of left_on right_on told s t

  abbrev needed : List Name
  needed = needed_of told wanted

  abbrev now : Name → Name
  now = called_now left lk r1 by

  left_same : (b : Name) → puts_out_left left lk b ≡ puts_out_left own lk b
  left_same b = ap (λ (d : Bool). not (d && has lk b)) kept.left_drops

  -- the columns that are left are among those that were
  pub lefts_less : (b : Name) → has (names_of (left_rest left lk r1)) b ≡ true → has (names_of (left_rest own lk s)) b ≡ true
  lefts_less b i =
      let p = left_passed left lk r1 b i in
      left_passes own lk s b (sym (left_same b) ∙ p.1) (sym (some-type_of s b) ∙ hl.within b (some-type_of r1 b ∙ p.0))

  pub rights_less : (b : Name) → has (names_of (right_rest left rk r2)) b ≡ true → has (names_of (right_rest own rk t)) b ≡ true
  rights_less b i =
      let p = right_passed left rk r2 b i in
      right_passes own rk t b (kept.right_less b p.1) (sym (some-type_of t b) ∙ hr.within b (some-type_of r2 b ∙ p.0))

  held_left : (a b : Name) → has needed a ≡ true → by a ≡ Some (sides.Left, b) → has (left_asked left_on right_on told wanted s t) b ≡ true
  held_left a b n e = origin_asked sides.Left left_on by s needed a b n (subst (λ (o : Option (Side × Name)). has (of_side sides.Left o) b ≡ true) (sym e) (has_first b []))

  held_right : (a b : Name) → has needed a ≡ true → by a ≡ Some (sides.Right, b) → has (right_asked left_on right_on told wanted s t) b ≡ true
  held_right a b n e = origin_asked sides.Right right_on by t needed a b n (subst (λ (o : Option (Side × Name)). has (of_side sides.Right o) b ≡ true) (sym e) (has_first b []))

  -- the column that a needed name stands for is still put out
  pub still_out : (a : Name) (x : Side × Name) → has needed a ≡ true → by a ≡ Some x → IsOut left lk rk r1 r2 x
  still_out a (sides.Left, b) n e =
      let k = hl.held b (held_left a b n e) in
      let p = left_passed own lk s b (origin_out own lk rk s t a (sides.Left, b) e) in
      left_passes left lk r1 b (left_same b ∙ p.1) (sym (some-type_of r1 b) ∙ ap is_some k.1)
  still_out a (sides.Right, b) n e =
      let k = hr.held b (held_right a b n e) in
      let p = right_passed own rk t b (origin_out own lk rk s t a (sides.Right, b) e) in
      right_passes left rk r2 b (kept.right_kept a b n e p.1) (sym (some-type_of r2 b) ∙ ap is_some k.1)

  -- what it is called now
  pub now-is : (a : Name) (x : Side × Name) → by a ≡ Some x → now a ≡ name_out left lk rk r1 r2 x
  now-is a x e = ap (λ (o : Option (Side × Name)). option_map_or (λ (c : Side × Name). called (suffix_of left) (names_of (left_rest left lk r1)) c.0 c.1) o a) e

  side_type : (a : Name) (x : Side × Name) → has needed a ≡ true → by a ≡ Some x → (d : DataType) × (type_of (side_columns r1 r2 x.0) x.1 ≡ Some d) × (type_of (side_columns s t x.0) x.1 ≡ Some d)
  side_type a (sides.Left, b) n e = hl.held b (held_left a b n e)
  side_type a (sides.Right, b) n e = hr.held b (held_right a b n e)

  module _ (wide : HasDistinctNames (join_columns own lk rk s t)) (narrow : HasDistinctNames (join_columns left lk rk r1 r2)) (known : (a : Name) → has needed a ≡ true → is_some (type_of (join_columns own lk rk s t) a) ≡ true) where
    abbrev from : (a : Name) → has needed a ≡ true → (x : Side × Name) × (by a ≡ Some x)
    from a n = origin_some own lk rk s t a (sym (some-type_of (join_columns own lk rk s t) a) ∙ known a n)

    -- its type
    pub renamed_columns : Renamed now needed (join_columns left lk rk r1 r2) (join_columns own lk rk s t)
    renamed_columns = record {
      held = λ a n.
          let x = from a n in
          let d = side_type a x.0 n x.1 in (
            d.0,
            ap (type_of (join_columns left lk rk r1 r2)) (now-is a x.0 x.1) ∙ out_type left lk rk r1 r2 narrow x.0 (still_out a x.0 n x.1) ∙ d.1,
            ap (type_of (join_columns own lk rk s t)) (sym (origin_called own lk rk s t a x.0 x.1)) ∙ out_type own lk rk s t wide x.0 (origin_out own lk rk s t a x.0 x.1) ∙ d.2,
          );
    }

    -- its values
    module _ (f1 f g1 g : Frame) (hf1 : HasSchema f1 r1) (hf : HasSchema f s) (hg1 : HasSchema g1 r2) (hg : HasSchema g t) (al : Agree (left_asked left_on right_on told wanted s t) f1 f) (ar : Agree (right_asked left_on right_on told wanted s t) g1 g) where
      fill-same : (b : Name) → filler left lk rk b ≡ filler own lk rk b
      fill-same b = ap (λ (m : Bool). cond m (partner lk rk b) None) kept.filled

      filler_leaf : (b c : Name) → filler own lk rk b ≡ Some c → has (all_leaves right_on) c ≡ true
      filler_leaf b c e = at (fills own.how own.coalesce) e
        where
          at : (m : Bool) → cond m (partner lk rk b) None ≡ Some c → has (all_leaves right_on) c ≡ true
          at true q = partner_leaf left_on right_on b c q
          at false q = cc

      filled-same : (b : Name) (j : Option ℕ) → filled_by (filler left lk rk b) g1 j ≡ filled_by (filler own lk rk b) g j
      filled-same b j = ap (λ (o : Option Name). filled_by o g1 j) (fill-same b) ∙ at (filler own lk rk b) refl
        where
          at : (o : Option Name) → filler own lk rk b ≡ o → filled_by o g1 j ≡ filled_by o g j
          at None e = refl
          at (Some c) e = ap (λ (vs : List Value). value_or vs null j) (or_same g1 g c c ar.height (ar.same c (keys_asked sides.Right right_on by t needed c (filler_leaf b c e))))

      value-same : (a : Name) (x : Side × Name) → has needed a ≡ true → by a ≡ Some x → (p : RowPair) → side_value (filler left lk rk) f1 g1 x p ≡ side_value (filler own lk rk) f g x p
      value-same a (sides.Left, b) n e p = ap₂ (λ (vs : List Value) (v : Value). value_or vs v p.left) (or_same f1 f b b al.height (al.same b (held_left a b n e))) (filled-same b p.right)
      value-same a (sides.Right, b) n e p = ap (λ (vs : List Value). value_or vs null p.right) (or_same g1 g b b ar.height (ar.same b (held_right a b n e)))

      pub renamed_frames : (ps : List RowPair) → AgreeBy now needed (joined left lk rk ps f1 g1) (joined own lk rk ps f g)
      renamed_frames ps = record {
        height = refl;
        same = λ a n.
            let x = from a n in
            ap (column (joined left lk rk ps f1 g1)) (now-is a x.0 x.1)
            ∙ out_values left lk rk r1 r2 narrow ps f1 g1 hf1 hg1 x.0 (still_out a x.0 n x.1)
            ∙ ap (λ (vs : List Value). Some vs) (same_values (side_value (filler left lk rk) f1 g1 x.0) (side_value (filler own lk rk) f g x.0) ps (value-same a x.0 n x.1))
            ∙ sym (out_values own lk rk s t wide ps f g hf hg x.0 (origin_out own lk rk s t a x.0 x.1))
            ∙ ap (column (joined own lk rk ps f g)) (origin_called own lk rk s t a x.0 x.1);
      }
