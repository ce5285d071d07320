-- What a join asks of its sides are columns of theirs.
use Rattle.std.proofs.Common.{◌≡◌, Bool, true, false, cond, List, [], ◌∷◌, ◌++◌, map, Option, Some, None, refl, sym, ap, ◌∙◌, subst, is_some, ⊎_elim}
use Rattle.std.specs.List.{AllByRecursion, filter as only_where, find, flat_map}
use Rattle.plan_core.specs.declared.data_type.DataType.{DataType}
use Rattle.plan_core.specs.Columns.{Columns, names_of, type_of}
use Rattle.plan_core.specs.Names.{has, with_names}
use Rattle.plan_options.specs.declared.join.JoinArgs.{JoinArgs}
use Rattle.plan_options.specs.Join.{suffix_of}
use Rattle.plan_expr.specs.Exprs.{Named}
use Rattle.plan_expr.specs.Leaves.{Name}
use Rattle.plan_frame.specs.ExprLists.{all_leaves}
use Rattle.plan_frame.proofs.NameSets.{distinct_names, distinct_none, has_cons, has_either, has_first, has_later, some-type_of, from_names}
use Rattle.plan_join.specs.declared.origin.Side.{Side}
use Rattle.plan_join.specs.declared.origin.Side.TheVariants as sides
use Rattle.plan_join.specs.Naming.{has_right, is_called, left_rest, origin, right_rest, side_columns, sources}
use Rattle.plan_join.specs.Told.{Told, column_keys}
use Rattle.plan_meaning.specs.Asked.{set_of, IsFair}
use Rattle.plan_meaning.specs.JoinChecks.{join_checks}
use Rattle.plan_meaning.specs.Typing.{AllHold}
use Rattle.plan_meaning.proofs.AskedSets.{fair_set}
use Rattle.plan_meaning.proofs.JoinLemmas.{JoinGood, join_good}
use Rattle.plan_meaning.proofs.KeptExprs.{known_leaves}
use Rattle.plan_join.specs.Origins.{puts_out_left, puts_out_right}
use Rattle.plan_join.proofs.NameLemmas.{left-where, right-where}
use Rattle.plan_meaning.specs.JoinAsked.{left_asked, left_names, needed_of, of_side, origin_of, right_asked, right_names, side_names, side_asked, unasked_right}

-- what a search finds is one of the items
found_holds : {X : Type 0} (P : X → Type 0) (test : X → Bool) (xs : List X) (x : X) → AllByRecursion P xs → find test xs ≡ Some x → P x
found_holds P test [] x h e = cc
found_holds P test (y ∷ xs) x h e = at (test y) (λ r. found_holds P test xs x h.1 r) e
  where
    at : (b : Bool) → (find test xs ≡ Some x → P x) → cond b (Some y) (find test xs) ≡ Some x → P x
    at true later q = (let same : y ≡ x = cc in subst P same h.0)
    at false later q = later q

all_both : {X : Type 0} (P : X → Type 0) (xs ys : List X) → AllByRecursion P xs → AllByRecursion P ys → AllByRecursion P (xs ++ ys)
all_both P [] ys h k = k
all_both P (x ∷ xs) ys h k = (h.0, all_both P xs ys h.1 k)

-- of each column of a side that passes a test there is one of its name
side_known : (side : Side) (left right t s : Columns) (test : Name × DataType → Bool) → ((b : Name) → has (names_of s) b ≡ true → is_some (type_of t b) ≡ true) → side_columns left right side ≡ t → AllByRecursion (λ (x : Side × Name). is_some (type_of (side_columns left right x.0) x.1) ≡ true) (map (λ (c : Name × DataType). (side, c.0)) (only_where test s))
side_known side left right t [] test known is = tt
side_known side left right t (c ∷ s) test known is =
    at (test c) (known c.0 (has_first c.0 (names_of s))) (side_known side left right t s test (λ b i. known b (has_later c.0 (names_of s) b i)) is)
  where
    at : (b : Bool) → is_some (type_of t c.0) ≡ true → AllByRecursion (λ (x : Side × Name). is_some (type_of (side_columns left right x.0) x.1) ≡ true) (map (λ (c : Name × DataType). (side, c.0)) (only_where test s)) → AllByRecursion (λ (x : Side × Name). is_some (type_of (side_columns left right x.0) x.1) ≡ true) (map (λ (c : Name × DataType). (side, c.0)) (cond b (c ∷ only_where test s) (only_where test s)))
    at true here later = (ap (λ (u : Columns). is_some (type_of u c.0)) is ∙ here, later)
    at false here later = later

-- the column that a join puts out under a name is a column of its side
pub origin_known : (args : JoinArgs) (lk rk : List Name) (s t : Columns) (a : Name) (x : Side × Name) → origin args lk rk s t a ≡ Some x → is_some (type_of (side_columns s t x.0) x.1) ≡ true
origin_known args lk rk s t a x e =
    let lefts = subst (λ (u : Columns). AllByRecursion (λ (x : Side × Name). is_some (type_of (side_columns s t x.0) x.1) ≡ true) (map (λ (c : Name × DataType). (sides.Left, c.0)) u)) (sym (left-where args lk s)) (side_known sides.Left s t s s (λ (c : Name × DataType). puts_out_left args lk c.0) (λ b i. some-type_of s b ∙ i) refl) in
    let rights = subst (λ (u : Columns). AllByRecursion (λ (x : Side × Name). is_some (type_of (side_columns s t x.0) x.1) ≡ true) (map (λ (c : Name × DataType). (sides.Right, c.0)) u)) (sym (right-where args rk t)) (side_known sides.Right s t t t (λ (c : Name × DataType). puts_out_right args rk c.0) (λ b i. some-type_of t b ∙ i) refl) in
    found_holds (λ (x : Side × Name). is_some (type_of (side_columns s t x.0) x.1) ≡ true) (is_called (suffix_of args) (names_of (left_rest args lk s)) a) (sources args lk rk s t) x
    (all_both (λ (x : Side × Name). is_some (type_of (side_columns s t x.0) x.1) ≡ true) (map (λ (c : Name × DataType). (sides.Left, c.0)) (left_rest args lk s)) (map (λ (c : Name × DataType). (sides.Right, c.0)) (right_rest args rk t)) lefts rights) e

one_known : (s : Columns) (b c : Name) → has (c ∷ []) b ≡ true → is_some (type_of s c) ≡ true → is_some (type_of s b) ≡ true
one_known s b c i k = ⊎_elim (λ (e : b ≡ c). ap (λ (x : Name). is_some (type_of s x)) e ∙ k) (λ (n : false ≡ true). cc) (has_cons c [] b i)

-- so of the left side
pub left_origin_known : (args : JoinArgs) (lk rk : List Name) (s t : Columns) (a b : Name) → has (of_side sides.Left (origin args lk rk s t a)) b ≡ true → is_some (type_of s b) ≡ true
left_origin_known args lk rk s t a b i = at (origin args lk rk s t a) refl i
  where
    at : (o : Option (Side × Name)) → origin args lk rk s t a ≡ o → has (of_side sides.Left o) b ≡ true → is_some (type_of s b) ≡ true
    at None e i = cc
    at (Some (sides.Left, c)) e i = one_known s b c i (origin_known args lk rk s t a (sides.Left, c) e)
    at (Some (sides.Right, c)) e i = cc

-- and of the right one
pub right_origin_known : (args : JoinArgs) (lk rk : List Name) (s t : Columns) (a b : Name) → has (of_side sides.Right (origin args lk rk s t a)) b ≡ true → is_some (type_of t b) ≡ true
right_origin_known args lk rk s t a b i = at (origin args lk rk s t a) refl i
  where
    at : (o : Option (Side × Name)) → origin args lk rk s t a ≡ o → has (of_side sides.Right o) b ≡ true → is_some (type_of t b) ≡ true
    at None e i = cc
    at (Some (sides.Left, c)) e i = cc
    at (Some (sides.Right, c)) e i = one_known t b c i (origin_known args lk rk s t a (sides.Right, c) e)

-- what names ask of a side are columns of it
module _ (side : Side) (by : Name → Option (Side × Name)) (s : Columns) (known : (a b : Name) → has (of_side side (by a)) b ≡ true → is_some (type_of s b) ≡ true) where
  name_known : (a b : Name) → has (side_names side by s a) b ≡ true → is_some (type_of s b) ≡ true
  name_known a b i = at (has (names_of s) a) refl i
    where
      at : (h : Bool) → has (names_of s) a ≡ h → has (cond h (a ∷ of_side side (by a)) (of_side side (by a))) b ≡ true → is_some (type_of s b) ≡ true
      at true h i = ⊎_elim (λ (e : b ≡ a). ap (λ (x : Name). is_some (type_of s x)) e ∙ some-type_of s a ∙ h) (λ (j : has (of_side side (by a)) b ≡ true). known a b j) (has_cons a (of_side side (by a)) b i)
      at false h i = known a b i

  names_known : (needed : List Name) (b : Name) → has (flat_map (side_names side by s) needed) b ≡ true → is_some (type_of s b) ≡ true
  names_known [] b i = cc
  names_known (a ∷ needed) b i = ⊎_elim (λ j. name_known a b j) (λ j. names_known needed b j) (has_either (side_names side by s a) (flat_map (side_names side by s) needed) b i)

  pub asked_known : (keys : List Named) (needed : List Name) → ((b : Name) → has (all_leaves keys) b ≡ true → is_some (type_of s b) ≡ true) → (b : Name) → has (side_asked side keys by s needed) b ≡ true → is_some (type_of s b) ≡ true
  asked_known keys needed leaves b i = ⊎_elim
      (λ (n : has [] b ≡ true). cc)
      (λ (j : has (all_leaves keys ++ flat_map (side_names side by s) needed) b ≡ true). ⊎_elim (λ k. leaves b k) (λ k. names_known needed b k) (has_either (all_leaves keys) (flat_map (side_names side by s) needed) b j))
      (from_names [] (all_leaves keys ++ flat_map (side_names side by s) needed) b i)

-- what a valid join asks of its sides can be asked of them

module _ (left_on right_on : List Named) (stored : Columns) (told : Told) (s t : Columns) (good : AllHold (join_checks left_on right_on stored told s t)) where
  parts : JoinGood left_on right_on stored told s t
  parts = join_good left_on right_on stored told s t good

  pub fair_left : (asked : List Name) → IsFair (set_of (left_names asked left_on right_on told s t)) s
  fair_left [] = tt
  fair_left (a ∷ asked) =
      let by = origin_of left_on right_on told s t in
      let needed = needed_of told (a ∷ asked) in
      fair_set (left_asked left_on right_on told (a ∷ asked) s t) s (distinct_names [] (all_leaves left_on ++ flat_map (side_names sides.Left by s) needed) distinct_none)
      (asked_known sides.Left by s (λ x b i. left_origin_known told.args (column_keys left_on) (column_keys right_on) s t x b i) left_on needed (λ b i. known_leaves left_on s parts.left_known b i))

  some_side : (shows : Bool) → IsFair (set_of (unasked_right shows right_on)) t
  some_side true = tt
  some_side false = fair_set (with_names [] (all_leaves right_on)) t (distinct_names [] (all_leaves right_on) distinct_none) (λ b i. ⊎_elim (λ (n : has [] b ≡ true). cc) (λ j. known_leaves right_on t parts.right_known b j) (from_names [] (all_leaves right_on) b i))

  pub fair_right : (asked : List Name) → IsFair (set_of (right_names asked left_on right_on told s t)) t
  fair_right [] = some_side (has_right told.args.how)
  fair_right (a ∷ asked) =
      let by = origin_of left_on right_on told s t in
      let needed = needed_of told (a ∷ asked) in
      fair_set (right_asked left_on right_on told (a ∷ asked) s t) t (distinct_names [] (all_leaves right_on ++ flat_map (side_names sides.Right by t) needed) distinct_none)
      (asked_known sides.Right by t (λ x b i. right_origin_known told.args (column_keys left_on) (column_keys right_on) s t x b i) right_on needed (λ b i. known_leaves right_on t parts.right_known b i))
