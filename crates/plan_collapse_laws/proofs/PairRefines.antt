-- What two additions become that meet refines them.
use Rattle.std.proofs.Common.{◌≡◌, ◌∙◌, ◌++◌, Bool, true, false, not, ◌&&◌, ◌||◌, cond, List, [], ◌∷◌, map, Option, Some, is_some, unwrap_or, refl, sym, ap, ap₂, subst}
use Rattle.std.specs.Prelude.{option_map}
use Rattle.std.specs.List.{AllByRecursion, cons_option, filter as only_where}
use Rattle.std.proofs.lemmas.Bool.{and_parts as parts_of}
use Rattle.plan_core.specs.declared.data_type.DataType.{DataType}
use Rattle.plan_core.specs.declared.data_type.DataType.TheVariants as types
use Rattle.plan_core.specs.Columns.{Columns, names_of, type_of, with_types}
use Rattle.plan_core.specs.Names.{has, with_names, AreDistinct}
use Rattle.plan_tree.specs.Rose.{Roses, rose, no_roses, more}
use Rattle.plan_expr.specs.Exprs.{Named}
use Rattle.plan_expr.specs.Forms.{has_form}
use Rattle.plan_expr.specs.Leaves.{Name, leaves}
use Rattle.plan_expr.specs.Naming.{naming, may_be_named}
use Rattle.plan_frame.specs.Exprs.{all_known, expr_type, is_type}
use Rattle.plan_frame.specs.ExprLists.{out_names}
use Rattle.plan_frame.specs.Frames.{Frame, HasSchema, column_names, cut, found}
use Rattle.plan_frame.specs.Made.{made, made_column, made_schema}
use Rattle.plan_frame.proofs.FrameLemmas.{some_type_is}
use Rattle.plan_frame.proofs.MadeColumns.{types_made}
use Rattle.plan_frame.proofs.NameSets.{distinct_names, adds_names}
use Rattle.plan_join.proofs.NameLemmas.{columns-named, own-types}
use Rattle.plan_ir.specs.Plans.{Op, simple_projection, Plan}
use Rattle.plan_meaning.specs.Checks.{is_column, is_empty, is_known}
use Rattle.plan_meaning.specs.Typing.{schema_by, schemas}
use Rattle.plan_meaning.specs.Contents.{Contents, Fits}
use Rattle.plan_meaning.specs.Steps.{May, MayAll, Step, IsValid}
use Rattle.plan_meaning.specs.Relating.{Refines}
use Rattle.plan_meaning.proofs.CheckParts.{MadeGood, made_good, good_made, ProjectionGood, good_projection, same_is, is_same}
use Rattle.plan_meaning.proofs.KeptExprs.{all_append, all_where, new_distinct}
use Rattle.plan_meaning.proofs.DistinctColumns.{valid_once}
use Rattle.plan_meaning.proofs.JoinLemmas.{distinct_differ}
use Rattle.plan_meaning.proofs.Refining.{refines_refl}
use Rattle.plan_meaning.proofs.Runs.{may_has, valid_runs}
use Rattle.plan_collapse_laws.specs.Staying.{HoldsStaying, out, stays}
use Rattle.plan_collapse_laws.specs.Meeting.{takes_place, moves_down, from_behind, leaves_order, left_above, met, as_one, moving, restored_if, stayed, sunk_into, taking}
use Rattle.plan_collapse_laws.proofs.PairFrames.{found-now, now, was}
use Rattle.plan_collapse_laws.proofs.Staying.{one_all, one_of, holds-staying}
use Rattle.plan_collapse_laws.proofs.Ordered.{names-made, order-kept, restored, same-frame}
use Rattle.plan_collapse_laws.specs.Additions.{Addition, as_op}
use Rattle.plan_pruned.specs.Pruned.{typed_names}
use Rattle.plan_collapse_laws.proofs.PairColumns.{same-columns, names-schema, filter_distinct, all_passing, all_sunk, once_sunk, names-sunk, stay_types, sunk_types, stay_type, sunk_type, type-now, low-stored}
use Rattle.plan_pruned.proofs.SideLemmas.{new_from, known_within}

-- the order in which expressions stand, move and take places

module _ (lower : List Name) (stay : Named → Bool) where
  abbrev take : Named → Bool
  take e = takes_place lower stay e

  from_front : (es : List Named) → from_behind stay (takes_place lower stay) true es ≡ false → (only_where (λ (e : Named). not (take e)) es ≡ only_where stay es) × (only_where (moves_down lower stay) es ≡ [])
  from_front [] h = (refl, refl)
  from_front (e ∷ es) h = at (stay e) (has lower (out e)) h (λ k. from_front es k)
    where
      at : (b c : Bool) → cond b (from_behind stay (takes_place lower stay) true es) ((true && not (not b && c)) || from_behind stay (takes_place lower stay) true es) ≡ false → (from_behind stay (takes_place lower stay) true es ≡ false → (only_where (λ (x : Named). not (take x)) es ≡ only_where stay es) × (only_where (moves_down lower stay) es ≡ [])) → (cond (not (not b && c)) (e ∷ only_where (λ (x : Named). not (take x)) es) (only_where (λ (x : Named). not (take x)) es) ≡ cond b (e ∷ only_where stay es) (only_where stay es)) × (cond (not b && not c) (e ∷ only_where (moves_down lower stay) es) (only_where (moves_down lower stay) es) ≡ [])
      at true c k rest = let r = rest k in (ap (λ (xs : List Named). e ∷ xs) r.0, r.1)
      at false true k rest = rest k
      at false false k rest = cc

  split : (es : List Named) → from_behind stay (takes_place lower stay) false es ≡ false → only_where (λ (e : Named). not (take e)) es ≡ only_where (moves_down lower stay) es ++ only_where stay es
  split [] h = refl
  split (e ∷ es) h = at (stay e) (has lower (out e)) h (λ k. from_front es k) (λ k. split es k)
    where
      at : (b c : Bool) → cond b (from_behind stay (takes_place lower stay) true es) ((false && not (not b && c)) || from_behind stay (takes_place lower stay) false es) ≡ false → (from_behind stay (takes_place lower stay) true es ≡ false → (only_where (λ (x : Named). not (take x)) es ≡ only_where stay es) × (only_where (moves_down lower stay) es ≡ [])) → (from_behind stay (takes_place lower stay) false es ≡ false → only_where (λ (x : Named). not (take x)) es ≡ only_where (moves_down lower stay) es ++ only_where stay es) → cond (not (not b && c)) (e ∷ only_where (λ (x : Named). not (take x)) es) (only_where (λ (x : Named). not (take x)) es) ≡ cond (not b && not c) (e ∷ only_where (moves_down lower stay) es) (only_where (moves_down lower stay) es) ++ cond b (e ∷ only_where stay es) (only_where stay es)
      at true c k front rest = let r = front k in ap (λ (xs : List Named). e ∷ xs) r.0 ∙ sym (ap (λ (xs : List Named). xs ++ e ∷ only_where stay es) r.1)
      at false true k front rest = rest k
      at false false k front rest = ap (λ (xs : List Named). e ∷ xs) (rest k)

  -- where none stays none stands behind one that does
  none-behind : (es : List Named) → only_where stay es ≡ [] → from_behind stay (takes_place lower stay) false es ≡ false
  none-behind [] h = refl
  none-behind (e ∷ es) h = at (stay e) h (λ k. none-behind es k)
    where
      at : (b : Bool) → cond b (e ∷ only_where stay es) (only_where stay es) ≡ [] → (only_where stay es ≡ [] → from_behind stay (takes_place lower stay) false es ≡ false) → cond b (from_behind stay (takes_place lower stay) true es) ((false && not (takes_place lower stay e)) || from_behind stay (takes_place lower stay) false es) ≡ false
      at true k rest = cc
      at false k rest = rest k

typed-made : (t s : Columns) (es : List Named) → AllByRecursion (λ (e : Named). type_of t (out e) ≡ Some (made_column s e).1) es → typed_names t (out_names es) ≡ map (made_column s) es
typed-made t s [] h = refl
typed-made t s (e ∷ es) h =
    ap (λ (o : Option DataType). cons_option (option_map (λ (d : DataType). (out e, d)) o) (typed_names t (out_names es))) h.0
    ∙ ap (λ (cs : Columns). made_column s e ∷ cs) (typed-made t s es h.1)

empty_is : {X : Type 0} (xs : List X) → is_empty xs ≡ true → xs ≡ []
empty_is [] e = refl
empty_is (x ∷ xs) e = cc

module _ (u l : Addition) (s : Columns) (good_l : MadeGood s l.exprs l.schema s) (good_u : MadeGood (made_schema s l.exprs s) u.exprs u.schema (made_schema s l.exprs s)) (once_s : AreDistinct (names_of s)) where
  abbrev es : List Named
  es = u.exprs

  abbrev ls : List Named
  ls = l.exprs

  abbrev stay : Named → Bool
  stay = stays u.exprs (out_names l.exprs)

  abbrev t : Columns
  t = made_schema s l.exprs s

  abbrev low : Columns
  low = made_schema s (sunk_into u l).exprs s

  once : AreDistinct (out_names u.exprs)
  once = new_distinct 1 [] (out_names u.exprs) good_u.once

  once_l : AreDistinct (out_names l.exprs)
  once_l = new_distinct 1 [] (out_names l.exprs) good_l.once

  h : HoldsStaying u.exprs (out_names l.exprs) (stays u.exprs (out_names l.exprs))
  h = holds-staying u.exprs (out_names l.exprs)

  upper_same : u.schema ≡ made_schema t es t
  upper_same = same_is u.schema (made_schema t es t) good_u.same

  upper_typed : AllByRecursion (λ (e : Named). type_of u.schema (out e) ≡ Some (made_column t e).1) es
  upper_typed = subst (λ (cs : Columns). AllByRecursion (λ (e : Named). type_of cs (out e) ≡ Some (made_column t e).1) es) (sym upper_same) (types_made t t es once)

  sunk_once : AreDistinct (out_names (sunk_into u l).exprs)
  sunk_once = once_sunk es ls stay once once_l

  sinking : AllByRecursion (λ (e : Named). type_of u.schema (out e) ≡ Some (made_column t e).1) (taking u l ++ moving u l)
  sinking = all_append (λ (e : Named). type_of u.schema (out e) ≡ Some (made_column t e).1) (taking u l) (moving u l)
      (all_where (λ (e : Named). type_of u.schema (out e) ≡ Some (made_column t e).1) (takes_place (out_names ls) stay) es upper_typed)
      (all_where (λ (e : Named). type_of u.schema (out e) ≡ Some (made_column t e).1) (moves_down (out_names ls) stay) es upper_typed)

  -- the stored columns of the new lower addition are what it makes
  sunk_stored : (sunk_into u l).schema ≡ low
  sunk_stored =
      ap₂ with_types (same_is l.schema t good_l.same) (typed-made u.schema t (taking u l ++ moving u l) sinking)
      ∙ low-stored es ls stay once once_l h s once_s

  pub good_sunk : (stored : Columns) → stored ≡ low → MadeGood s (sunk_into u l).exprs stored s
  good_sunk stored is = record {
    formed = all_sunk es ls stay (λ (e : Named). has_form e.expr ≡ true) (λ e i q. one_of (λ (x : Named). has_form x.expr ≡ true) es e i good_u.formed) good_l.formed;
    known = all_sunk es ls stay (λ (e : Named). all_known (leaves e.expr) s ≡ true) (λ e i q. known_within (leaves e.expr) s t (sunk_types es ls stay once once_l h s e i q) ∙ one_of (λ (x : Named). all_known (leaves x.expr) t ≡ true) es e i good_u.known) good_l.known;
    typed = all_sunk es ls stay (λ (e : Named). is_some (expr_type e.expr s) ≡ true) (λ e i q. ap is_some (sunk_type es ls stay once once_l h s e i q) ∙ one_of (λ (x : Named). is_some (expr_type x.expr t) ≡ true) es e i good_u.typed) good_l.typed;
    once = new_from 1 [] (out_names (sunk_into u l).exprs) (λ a i. refl) sunk_once;
    same = is_same stored low is;
    named = all_sunk es ls stay (λ (e : Named). may_be_named e.name (naming e.expr) ≡ true) (λ e i q. one_of (λ (x : Named). may_be_named x.name (naming x.expr) ≡ true) es e i good_u.named) good_l.named;
  }

  -- the columns of the new pair are those of the old one, where nothing moves from behind
  known_names : AllByRecursion (λ (e : Named). not (takes_place (out_names ls) stay e) ≡ false → has (with_names (names_of s) (out_names ls)) (out e) ≡ true) es
  known_names = one_all (λ (e : Named). not (takes_place (out_names ls) stay e) ≡ false → has (with_names (names_of s) (out_names ls)) (out e) ≡ true) es
      (λ e i q. adds_names (names_of s) (out_names ls) (out e) (parts_of (not (stay e)) (has (out_names ls) (out e)) (not_false (takes_place (out_names ls) stay e) q)).1)
    where
      not_false : (b : Bool) → not b ≡ false → b ≡ true
      not_false true q = refl
      not_false false q = cc

  abbrev both : Columns
  both = made_schema low (stayed u l) low

  both_once : AreDistinct (names_of (made_schema t es t))
  both_once = subst AreDistinct (sym (names-schema t t es ∙ ap (λ (ns : List Name). with_names ns (out_names es)) (names-schema s s ls))) (distinct_names (with_names (names_of s) (out_names ls)) (out_names es) (distinct_names (names_of s) (out_names ls) once_s))

  kept_order : leaves_order u l ≡ false → both ≡ made_schema t es t
  kept_order k = same-columns both (made_schema t es t)
      (names-schema low low (stayed u l)
      ∙ ap (λ (ns : List Name). with_names ns (out_names (stayed u l))) (names-schema s s (sunk_into u l).exprs ∙ ap (with_names (names_of s)) (names-sunk es ls stay))
      ∙ order-kept (names_of s) (out_names ls) (takes_place (out_names ls) stay) es (moving u l) (stayed u l) known_names (split (out_names ls) stay es k)
      ∙ sym (names-schema t t es ∙ ap (λ (ns : List Name). with_names ns (out_names es)) (names-schema s s ls)))
      both_once
      (type-now es ls stay once once_l h s)

  same_made : (xs : List Named) → AllByRecursion (λ (e : Named). made_column t e ≡ made_column low e) xs → map (made_column t) xs ≡ map (made_column low) xs
  same_made [] k = refl
  same_made (x ∷ xs) k = ap₂ (λ (c : Name × DataType) (cs : Columns). c ∷ cs) k.0 (same_made xs k.1)

  left_stored : (left_above u l).schema ≡ both
  left_stored = at (leaves_order u l) refl
    where
      at : (b : Bool) → leaves_order u l ≡ b → cond b (with_types (sunk_into u l).schema (typed_names u.schema (out_names (stayed u l)))) u.schema ≡ both
      at true k = ap₂ with_types sunk_stored
          (typed-made u.schema t (stayed u l) (all_where (λ (e : Named). type_of u.schema (out e) ≡ Some (made_column t e).1) stay es upper_typed)
          ∙ same_made (stayed u l) (all_passing (λ (e : Named). made_column t e ≡ made_column low e) stay es (λ e i q. ap (λ (o : Option DataType). (out e, unwrap_or o types.Int64)) (sym (stay_type es ls stay once once_l h s e i q)))))
      at false k = upper_same ∙ sym (kept_order k)

  pub good_left : MadeGood low (stayed u l) (left_above u l).schema low
  good_left = record {
    formed = all_where (λ (e : Named). has_form e.expr ≡ true) stay es good_u.formed;
    known = all_passing (λ (e : Named). all_known (leaves e.expr) low ≡ true) stay es (λ e i q. known_within (leaves e.expr) low t (stay_types es ls stay once once_l h s e i q) ∙ one_of (λ (x : Named). all_known (leaves x.expr) t ≡ true) es e i good_u.known);
    typed = all_passing (λ (e : Named). is_some (expr_type e.expr low) ≡ true) stay es (λ e i q. ap is_some (stay_type es ls stay once once_l h s e i q) ∙ one_of (λ (x : Named). is_some (expr_type x.expr t) ≡ true) es e i good_u.typed);
    once = new_from 1 [] (out_names (stayed u l)) (λ a i. refl) (filter_distinct stay es once);
    same = is_same (left_above u l).schema both left_stored;
    named = all_where (λ (e : Named). may_be_named e.name (naming e.expr) ≡ true) stay es good_u.named;
  }

  -- where none stays the one addition stores what it makes
  one_stored : is_empty (stayed u l) ≡ true → u.schema ≡ low
  one_stored k =
      let none : stayed u l ≡ [] = empty_is (stayed u l) k in
      upper_same ∙ sym (kept_order (none-behind (out_names ls) stay es none)) ∙ ap (λ (xs : List Named). made_schema low xs low) none

  some_column : (cs : Columns) (a : Name) (k : DataType) → type_of cs a ≡ Some k → is_empty cs ≡ false
  some_column [] a k q = cc
  some_column (c ∷ cs) a k q = refl

  some_columns : leaves_order u l ≡ true → is_empty u.schema ≡ false
  some_columns k = go es k upper_typed
    where
      go : (xs : List Named) → from_behind stay (takes_place (out_names ls) stay) false xs ≡ true → AllByRecursion (λ (e : Named). type_of u.schema (out e) ≡ Some (made_column t e).1) xs → is_empty u.schema ≡ false
      go [] q typed = cc
      go (x ∷ xs) q typed = some_column u.schema (out x) (made_column t x).1 typed.0

  upper_once : AreDistinct (names_of u.schema)
  upper_once = subst (λ (cs : Columns). AreDistinct (names_of cs)) (sym upper_same) both_once

  -- the projection to the old columns
  pub good_restored : leaves_order u l ≡ true → ProjectionGood u.schema both
  good_restored k = record {
    some = ap not (some_columns k);
    known = each (λ (c : Name × DataType). type_of u.schema c.0 ≡ Some c.1) (λ (c : Name × DataType). is_known both c.0 ≡ true) u.schema (own-types u.schema upper_once) (λ c q. ap is_some (there c.0 ∙ q));
    typed = each (λ (c : Name × DataType). type_of u.schema c.0 ≡ Some c.1) (λ (c : Name × DataType). is_column both c ≡ true) u.schema (own-types u.schema upper_once) (λ c q. ap (λ (o : Option DataType). is_type o c.1) (there c.0 ∙ q) ∙ some_type_is c.1);
    differ = distinct_differ (names_of u.schema) upper_once;
  }
    where
      there : (b : Name) → type_of both b ≡ type_of u.schema b
      there b = type-now es ls stay once once_l h s b ∙ ap (λ (cs : Columns). type_of cs b) (sym upper_same)

      each : (P Q : Name × DataType → Type 0) (cs : Columns) → AllByRecursion P cs → ((c : Name × DataType) → P c → Q c) → AllByRecursion Q cs
      each P Q [] a by = tt
      each P Q (c ∷ cs) a by = (by c a.0, each P Q cs a.1 by)

  -- frames

  module _ (f : Frame) (has_s : HasSchema f s) where
    own_names : column_names f.columns ≡ names_of s
    own_names = columns-named f.height f.columns s has_s

    was_names : column_names (was es ls stay f).columns ≡ names_of (made_schema t es t)
    was_names =
        names-made f.height (made f.height f.columns ls f) (made f.height f.columns ls f).columns es
        ∙ ap (λ (ns : List Name). with_names ns (out_names es)) (names-made f.height f f.columns ls ∙ ap (λ (ns : List Name). with_names ns (out_names ls)) own_names ∙ sym (names-schema s s ls))
        ∙ sym (names-schema t t es)

    now_names : column_names (now es ls stay f).columns ≡ names_of both
    now_names =
        names-made f.height (made f.height f.columns (sunk_into u l).exprs f) (made f.height f.columns (sunk_into u l).exprs f).columns (stayed u l)
        ∙ ap (λ (ns : List Name). with_names ns (out_names (stayed u l))) (names-made f.height f f.columns (sunk_into u l).exprs ∙ ap (λ (ns : List Name). with_names ns (out_names (sunk_into u l).exprs)) own_names ∙ sym (names-schema s s (sunk_into u l).exprs))
        ∙ sym (names-schema low low (stayed u l))

    was_once : AreDistinct (column_names (was es ls stay f).columns)
    was_once = subst AreDistinct (sym was_names) both_once

    same_found : (b : Name) → found (now es ls stay f).columns b ≡ found (was es ls stay f).columns b
    same_found b = found-now es ls stay f once once_l h b

    pub same_kept : leaves_order u l ≡ false → now es ls stay f ≡ was es ls stay f
    same_kept k = same-frame (now es ls stay f) (was es ls stay f) was_once (now_names ∙ ap names_of (kept_order k) ∙ sym was_names) refl same_found

    pub same_restored : cut (names_of u.schema) (now es ls stay f) ≡ was es ls stay f
    same_restored = ap (λ (ns : List Name). cut ns (now es ls stay f)) (ap names_of upper_same ∙ sym was_names) ∙ restored (now es ls stay f) (was es ls stay f) was_once refl same_found

-- plans over one input

abbrev one : Plan → Roses (Unit {0}) Op
one q = more q no_roses

one_below : (c : Contents) (o : Op) (m : Unit {0}) (op : Op) (us : Roses (Unit {0}) Op) (f : Frame) → May c (rose tt o (more (rose m op us) no_roses)) f → (g : Frame) × May c (rose m op us) g × Step c o (g ∷ []) f
one_below c o m op us f x = go x.0 x.1 x.2
  where
    go : (gs : List Frame) → MayAll c (more (rose m op us) no_roses) gs → Step c o gs f → (g : Frame) × May c (rose m op us) g × Step c o (g ∷ []) f
    go [] a st = absurd a
    go (g ∷ []) a st = (g, a.0, st)
    go (g ∷ k ∷ gs) a st = absurd a.1

one_above : (c : Contents) (o : Op) (m : Unit {0}) (op : Op) (us : Roses (Unit {0}) Op) (f g : Frame) → May c (rose m op us) g → Step c o (g ∷ []) f → May c (rose tt o (more (rose m op us) no_roses)) f
one_above c o m op us f g a st = (g ∷ [], (a, tt), st)

module _ (u l : Addition) (n : Unit {0}) (op : Op) (ts : Roses (Unit {0}) Op) (v : IsValid (rose tt (as_op u) (more (rose tt (as_op l) (more (rose n op ts) no_roses)) no_roses))) where
  abbrev s0 : Columns
  s0 = schema_by op (schemas ts)

  abbrev t0 : Columns
  t0 = made_schema s0 l.exprs s0

  abbrev low0 : Columns
  low0 = made_schema s0 (sunk_into u l).exprs s0

  valid_p : IsValid (rose n op ts)
  valid_p = (v.1.1.0, v.1.1.1)

  gl : MadeGood s0 l.exprs l.schema s0
  gl = made_good s0 l.exprs l.schema s0 v.1.0

  gu : MadeGood t0 u.exprs u.schema t0
  gu = made_good t0 u.exprs u.schema t0 v.0

  once0 : AreDistinct (names_of s0)
  once0 = valid_once (rose n op ts) valid_p

  abbrev given : Plan
  given = rose tt (as_op u) (more (rose tt (as_op l) (more (rose n op ts) no_roses)) no_roses)

  abbrev low_plan : Plan
  low_plan = rose tt (as_op (sunk_into u l)) (more (rose n op ts) no_roses)

  abbrev left_plan : Plan
  left_plan = rose tt (as_op (left_above u l)) (more low_plan no_roses)

  abbrev stay0 : Named → Bool
  stay0 = stays u.exprs (out_names l.exprs)

  valid_low : (x : Addition) → MadeGood s0 x.exprs x.schema s0 → IsValid (rose tt (as_op x) (more (rose n op ts) no_roses))
  valid_low x g = (good_made s0 x.exprs x.schema s0 g, v.1.1)

  valid_left : IsValid left_plan
  valid_left = let w = valid_low (sunk_into u l) (good_sunk u l s0 gl gu once0 (sunk_into u l).schema (sunk_stored u l s0 gl gu once0)) in
      (good_made low0 (stayed u l) (left_above u l).schema low0 (good_left u l s0 gl gu once0), (w.0, w.1, tt))

  -- what both give over a frame
  given_may : (c : Contents) (f : Frame) → May c (rose n op ts) f → May c given (was u.exprs l.exprs stay0 f)
  given_may c f a = one_above c (as_op u) tt (as_op l) (more (rose n op ts) no_roses) (was u.exprs l.exprs stay0 f) (made f.height f.columns l.exprs f) (one_above c (as_op l) n op ts (made f.height f.columns l.exprs f) f a refl) refl

  left_gives : (c : Contents) (g : Frame) → Fits c given → May c left_plan g → (f : Frame) × May c (rose n op ts) f × HasSchema f s0 × (g ≡ now u.exprs l.exprs stay0 f)
  left_gives c g k a =
      let x = one_below c (as_op (left_above u l)) tt (as_op (sunk_into u l)) (more (rose n op ts) no_roses) g a in
      let y = one_below c (as_op (sunk_into u l)) n op ts x.0 x.1 in (
        y.0,
        y.1,
        may_has c (rose n op ts) y.0 valid_p (k.1.1.0, k.1.1.1) y.1,
        x.2 ∙ ap (λ (w : Frame). made w.height w.columns (stayed u l) w) y.2,
      )

  some_refines : (b : Bool) → leaves_order u l ≡ b → Refines (restored_if b u.schema left_plan) given
  some_refines true k =
      let w = valid_left in
      let vq : IsValid (restored_if true u.schema left_plan) = (good_projection u.schema (made_schema low0 (stayed u l) low0) (good_restored u l s0 gl gu once0 k), (w.0, w.1, tt)) in
      record {
        valid = vq;
        schema = upper_same u l s0 gl gu once0;
        fits = λ c q. (tt, (tt, (tt, q.1.1, tt), tt));
        run = λ c q. valid_runs c (restored_if true u.schema left_plan) vq (tt, (tt, (tt, q.1.1, tt), tt));
        may = λ c f q a.
            let x = one_below c (simple_projection u.schema) tt (as_op (left_above u l)) (more low_plan no_roses) f a in
            let y = left_gives c x.0 q x.1 in
            subst (May c given) (sym (x.2 ∙ ap (cut (names_of u.schema)) y.3 ∙ same_restored u l s0 gl gu once0 y.0 y.2)) (given_may c y.0 y.1);
      }
  some_refines false k = record {
    valid = valid_left;
    schema = kept_order u l s0 gl gu once0 k;
    fits = λ c q. (tt, (tt, q.1.1, tt));
    run = λ c q. valid_runs c left_plan valid_left (tt, (tt, q.1.1, tt));
    may = λ c f q a.
        let y = left_gives c f q a in
        subst (May c given) (sym (y.3 ∙ same_kept u l s0 gl gu once0 y.0 y.2 k)) (given_may c y.0 y.1);
  }

  one_refines : is_empty (stayed u l) ≡ true → Refines (rose tt (as_op (as_one u l)) (more (rose n op ts) no_roses)) given
  one_refines e =
      let none : stayed u l ≡ [] = empty_is (stayed u l) e in
      let order : leaves_order u l ≡ false = none-behind (out_names l.exprs) stay0 u.exprs none in
      let w = valid_low (as_one u l) (good_sunk u l s0 gl gu once0 u.schema (one_stored u l s0 gl gu once0 e)) in
      record {
        valid = w;
        schema = ap (λ (xs : List Named). made_schema low0 xs low0) (sym none) ∙ kept_order u l s0 gl gu once0 order;
        fits = λ c q. (tt, q.1.1);
        run = λ c q. valid_runs c (rose tt (as_op (as_one u l)) (more (rose n op ts) no_roses)) w (tt, q.1.1);
        may = λ c f q a.
            let y = one_below c (as_op (as_one u l)) n op ts f a in
            let has = may_has c (rose n op ts) y.0 valid_p (q.1.1.0, q.1.1.1) y.1 in
            let low : f ≡ now u.exprs l.exprs stay0 y.0 = y.2 ∙ ap (λ (xs : List Named). made y.0.height (made y.0.height y.0.columns (sunk_into u l).exprs y.0).columns xs (made y.0.height y.0.columns (sunk_into u l).exprs y.0)) (sym none) in
            subst (May c given) (sym (low ∙ same_kept u l s0 gl gu once0 y.0 has order)) (given_may c y.0 y.1);
      }

  -- two additions that meet, over what they stood over, refine what they were
  pub met_refines : Refines (met u l (λ (x : Addition). rose tt (as_op x) (more (rose n op ts) no_roses))) given
  met_refines = at (is_empty (stayed u l)) (is_empty (taking u l ++ moving u l)) refl
    where
      at : (b c : Bool) → is_empty (stayed u l) ≡ b → Refines (cond b (rose tt (as_op (as_one u l)) (more (rose n op ts) no_roses)) (cond c given (restored_if (leaves_order u l) u.schema left_plan))) given
      at true c e = one_refines e
      at false true e = refines_refl given v
      at false false e = some_refines (leaves_order u l) refl
