-- Expressions over a cross join whose leaves are all from one side: their types and leaves over the columns of that side.
use Rattle.std.proofs.Common.{◌≡◌, ◌∙◌, Bool, true, false, not, ◌&&◌, ◌||◌, cond, List, [], ◌∷◌, Option, Some, None, is_some, refl, sym, ap, ap₂, subst}
use Rattle.std.specs.Option.{option_map_or}
use Rattle.std.specs.List.{list_all}
use Rattle.std.specs.Str.{bytes_eq}
use Rattle.std.proofs.lemmas.Bool.{and_parts as parts_of}
use Rattle.plan_core.specs.Columns.{Columns, names_of, type_of}
use Rattle.plan_core.specs.Names.{has, AreDistinct}
use Rattle.plan_options.specs.declared.join.JoinArgs.{JoinArgs}
use Rattle.plan_expr.specs.Exprs.{Expr}
use Rattle.plan_expr.specs.Leaves.{Name, leaves}
use Rattle.plan_join.specs.declared.origin.Side.{Side}
use Rattle.plan_join.specs.declared.origin.Side.TheVariants as sides
use Rattle.plan_join.specs.Naming.{drops_left, join_columns, left_rest, origin, right_rest, but_for}
use Rattle.plan_frame.specs.Exprs.{all_known, expr_type}
use Rattle.plan_frame.proofs.Depends.{type_within}
use Rattle.plan_frame.proofs.NameSets.{has_first, has_later, named, some-type_of}
use Rattle.plan_meaning.specs.Checks.{is_empty}
use Rattle.plan_collapse_laws.specs.CrossKeys.{Crossed, all_from, is_from, is_side, own_expr, own_name, stands_for}
use Rattle.plan_collapse_laws.specs.FilteredFrames.{PutsOutAll}
use Rattle.plan_pruned.proofs.JoinColumns.{origin_called, origin_out, out_type}
use Rattle.plan_pruned.proofs.JoinRenames.{known-renamed, type-renamed}
use Rattle.plan_collapse_laws.proofs.Predicates.{both_hold}

-- each of some names

each_name : (test : Name → Bool) (names : List Name) (a : Name) → list_all test names ≡ true → has names a ≡ true → test a ≡ true
each_name test [] a h i = cc
each_name test (b ∷ names) a h i = let p = parts_of (test b) (list_all test names) h in at (bytes_eq a b) refl p.0 i (λ j. each_name test names a p.1 j)
  where
    at : (t : Bool) → bytes_eq a b ≡ t → test b ≡ true → (t || has names a) ≡ true → (has names a ≡ true → test a ≡ true) → test a ≡ true
    at true q k j rest = ap test (named a b q) ∙ k
    at false q k j rest = rest j

all_columns : (names : List Name) (s : Columns) → ((a : Name) → has names a ≡ true → is_some (type_of s a) ≡ true) → all_known names s ≡ true
all_columns [] s h = refl
all_columns (a ∷ names) s h = both_hold (is_some (type_of s a)) (all_known names s) (h a (has_first a names)) (all_columns names s (λ b i. h b (has_later a names b i)))

same_side : (x y : Side) → is_side x y ≡ true → y ≡ x
same_side sides.Left sides.Left h = refl
same_side sides.Right sides.Right h = refl
same_side sides.Left sides.Right h = cc
same_side sides.Right sides.Left h = cc

module _ (args : JoinArgs) (all : PutsOutAll args) (s t : Columns) where
  abbrev pub cross : Crossed
  cross = record { args = args; left = s; right = t }

  abbrev pub wide : Columns
  wide = join_columns args [] [] s t

  pub left_whole : (keys : List Name) → left_rest args keys s ≡ s
  left_whole keys = ap (λ (b : Bool). cond (b && drops_left args.how) (but_for keys s) s) all.keeps

  pub right_whole : (keys : List Name) → right_rest args keys t ≡ t
  right_whole keys = ap₂ (λ (r b : Bool). cond r (cond (b && not (drops_left args.how)) (but_for keys t) t) []) all.rights all.keeps

  -- the name of a column on the side from which it is
  pub from_side : (side : Side) (e : Expr) (a : Name) → all_from cross side e ≡ true → has (leaves e) a ≡ true → (b : Name) × (origin args [] [] s t a ≡ Some (side, b))
  from_side side e a h k =
      let p = parts_of (not (is_empty (leaves e))) (list_all (λ (x : Name). is_from side (stands_for cross x)) (leaves e)) h in
      at (stands_for cross a) refl (each_name (λ (x : Name). is_from side (stands_for cross x)) (leaves e) a p.1 k)
    where
      at : (o : Option (Side × Name)) → origin args [] [] s t a ≡ o → is_from side o ≡ true → (b : Name) × (origin args [] [] s t a ≡ Some (side, b))
      at None q m = cc
      at (Some x) q m = (x.1, q ∙ ap (λ (z : Side). Some (z, x.1)) (same_side side x.0 m))

  pub own_is : (a : Name) (x : Side × Name) → origin args [] [] s t a ≡ Some x → own_name cross a ≡ x.1
  own_is a x e = ap (λ (o : Option (Side × Name)). option_map_or (λ (y : Side × Name). y.1) o a) e

  -- that side has it

  pub left_has : (b : Name) (a : Name) → origin args [] [] s t a ≡ Some (sides.Left, b) → has (names_of s) b ≡ true
  left_has b a e = ap (λ (cs : Columns). has (names_of cs) b) (sym (left_whole [])) ∙ origin_out args [] [] s t a (sides.Left, b) e

  pub right_has : (b : Name) (a : Name) → origin args [] [] s t a ≡ Some (sides.Right, b) → has (names_of t) b ≡ true
  right_has b a e = ap (λ (cs : Columns). has (names_of cs) b) (sym (right_whole [])) ∙ origin_out args [] [] s t a (sides.Right, b) e

  pub left_known : (e : Expr) → all_from cross sides.Left e ≡ true → all_known (leaves e) s ≡ true
  left_known e h = all_columns (leaves e) s (λ a i.
      let x = from_side sides.Left e a h i in
      let is : x.0 ≡ a = origin_called args [] [] s t a (sides.Left, x.0) x.1 in
      subst (λ (b : Name). is_some (type_of s b) ≡ true) is (some-type_of s x.0 ∙ left_has x.0 a x.1))

  pub right_known : (e : Expr) → all_from cross sides.Right e ≡ true → all_known (leaves (own_expr cross e)) t ≡ true
  right_known e h = known-renamed (own_name cross) e t (λ a i.
      let x = from_side sides.Right e a h i in
      ap (λ (b : Name). is_some (type_of t b)) (own_is a (sides.Right, x.0) x.1) ∙ some-type_of t x.0 ∙ right_has x.0 a x.1)

  -- over that side an expression has the type that it has over the join
  module _ (apart : AreDistinct (names_of (join_columns args [] [] s t))) where
    pub left_type : (e : Expr) → all_from cross sides.Left e ≡ true → expr_type e s ≡ expr_type e wide
    left_type e h = type_within e s wide (λ a i.
        let x = from_side sides.Left e a h i in
        let is : x.0 ≡ a = origin_called args [] [] s t a (sides.Left, x.0) x.1 in
        subst (λ (b : Name). type_of s b ≡ type_of wide b) is (sym (out_type args [] [] s t apart (sides.Left, x.0) (origin_out args [] [] s t a (sides.Left, x.0) x.1))))

    pub right_type : (e : Expr) → all_from cross sides.Right e ≡ true → expr_type (own_expr cross e) t ≡ expr_type e wide
    right_type e h = type-renamed (own_name cross) e t wide (λ a i.
        let x = from_side sides.Right e a h i in
        ap (type_of t) (own_is a (sides.Right, x.0) x.1)
        ∙ sym (out_type args [] [] s t apart (sides.Right, x.0) (origin_out args [] [] s t a (sides.Right, x.0) x.1))
        ∙ ap (type_of wide) (origin_called args [] [] s t a (sides.Right, x.0) x.1))
