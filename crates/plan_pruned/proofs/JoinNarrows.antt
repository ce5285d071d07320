-- A join over sides that narrow at what it asks narrows at what it is asked.
use Rattle.std.proofs.Common.{◌≡◌, Bool, true, false, List, [], ◌∷◌, Option, Some, refl, sym, ap, ◌∙◌, subst, is_some, ⊎_elim}
use Rattle.std.specs.List.{AllByRecursion}
use Rattle.std.proofs.lemmas.Bool.{both_ways}
use Rattle.plan_core.specs.Columns.{Columns, HasDistinctNames, names_of, type_of}
use Rattle.plan_core.specs.Names.{has, with_names}
use Rattle.plan_options.specs.declared.join.JoinArgs.{JoinArgs}
use Rattle.plan_tree.specs.Rose.{Roses, rose, no_roses, more}
use Rattle.plan_expr.specs.Exprs.{Named}
use Rattle.plan_expr.specs.Leaves.{Name, leaves}
use Rattle.plan_ir.specs.Plans.{Op, join, Plan}
use Rattle.plan_frame.specs.ExprLists.{all_leaves}
use Rattle.plan_frame.specs.Exprs.{all_known}
use Rattle.plan_frame.proofs.NameSets.{has_back, has_either, some-type_of}
use Rattle.plan_join.specs.declared.origin.Side.{Side}
use Rattle.plan_join.specs.declared.origin.Side.TheVariants as sides
use Rattle.plan_join.specs.Naming.{has_right, join_columns, origin, right_rest}
use Rattle.plan_join.specs.Told.{Told, column_keys}
use Rattle.plan_meaning.specs.Asked.{set_of, Fair, IsFair}
use Rattle.plan_meaning.specs.JoinAsked.{left_asked, needed_of, origin_of, right_asked, left_names, right_names, unasked_right}
use Rattle.plan_meaning.specs.JoinChecks.{conditions}
use Rattle.plan_meaning.specs.Relating.{Asked, all, names, Holding, NarrowColumns, AgreeOn, Narrows}
use Rattle.plan_meaning.specs.Steps.{IsValid}
use Rattle.plan_meaning.specs.Typing.{first_schema, rest_schemas, schema, schema_by, schemas, AllValid}
use Rattle.plan_meaning.proofs.CheckParts.{known_leaf}
use Rattle.plan_meaning.proofs.DistinctColumns.{valid_once}
use Rattle.plan_meaning.proofs.JoinLemmas.{differ_distinct, join_good, JoinGood}
use Rattle.plan_meaning.proofs.Related.{LocalTo, relates_node}
use Rattle.plan_pruned.specs.JoinPruned.{called_now, first_of_each, narrowed_args, narrowed_told, pruned_join, topped_if}
use Rattle.plan_pruned.proofs.FirstColumns.{first-distinct}
use Rattle.plan_pruned.proofs.JoinColumns.{origin_called, origin_out, origin_some, out_named}
use Rattle.plan_pruned.proofs.JoinFrames.{lefts_less, now-is}
use Rattle.plan_pruned.proofs.JoinKept.{Kept, kept_args}
use Rattle.plan_pruned.proofs.JoinLocal.{held_of, join_local}
use Rattle.plan_pruned.proofs.JoinTops.{View, seen, renamed, SeeColumns, SeeFrames, IsRenamed, renamed_fewer, bare_top, topped_narrows}
use Rattle.plan_pruned.proofs.JoinWhole.{left_local, no_right, same_local}
use Rattle.plan_schema.proofs.StoredLemmas.{stored-schemas}

-- what a join needs of its own columns is among them
needed_known : (left_on right_on : List Named) (stored : Columns) (told : Told) (wanted : List Name) (s t : Columns) → JoinGood left_on right_on stored told s t → Fair wanted (join_columns told.args (column_keys left_on) (column_keys right_on) s t) → (a : Name) → has (needed_of told wanted) a ≡ true → is_some (type_of (join_columns told.args (column_keys left_on) (column_keys right_on) s t) a) ≡ true
needed_known left_on right_on stored told wanted s t g fair a i =
    ⊎_elim (λ j. of_all (conditions told.options) g.condition_known j) (λ j. fair.known a j) (has_either (all_leaves (conditions told.options)) wanted a i)
  where
    wide : Columns
    wide = join_columns told.args (column_keys left_on) (column_keys right_on) s t

    of_all : (es : List Named) → AllByRecursion (λ (e : Named). all_known (leaves e.expr) wide ≡ true) es → has (all_leaves es) a ≡ true → is_some (type_of wide a) ≡ true
    of_all [] h j = cc
    of_all (e ∷ es) h j = ⊎_elim (λ k. known_leaf (leaves e.expr) wide a h.0 k) (λ k. of_all es h.1 k) (has_either (leaves e.expr) (all_leaves es) a j)

module _ (left_on right_on : List Named) (stored : Columns) (told : Told) (a0 : Name) (asked : List Name) (m1 m2 n1 n2 : Unit {0}) (o1 o2 k1 k2 : Op) (us1 us2 ts1 ts2 : Roses (Unit {0}) Op) where
  abbrev p1 : Plan
  p1 = rose m1 o1 us1

  abbrev p2 : Plan
  p2 = rose m2 o2 us2

  abbrev q1 : Plan
  q1 = rose n1 k1 ts1

  abbrev q2 : Plan
  q2 = rose n2 k2 ts2

  abbrev wanted : List Name
  wanted = a0 ∷ asked

  abbrev s : Columns
  s = schema q1

  abbrev t : Columns
  t = schema q2

  abbrev r1 : Columns
  r1 = schema p1

  abbrev r2 : Columns
  r2 = schema p2

  abbrev lk : List Name
  lk = column_keys left_on

  abbrev rk : List Name
  rk = column_keys right_on

  abbrev args : JoinArgs
  args = narrowed_args told.args wanted right_on s

  abbrev by : Name → Option (Side × Name)
  by = origin_of left_on right_on told s t

  abbrev now : Name → Name
  now = called_now args lk r1 by

  abbrev columns : Columns
  columns = join_columns args lk rk r1 r2

  abbrev wide : Columns
  wide = join_columns told.args lk rk s t

  abbrev q : Plan
  q = rose tt (join left_on right_on columns (narrowed_told now args told)) (more p1 (more p2 no_roses))

  abbrev p : Plan
  p = rose tt (join left_on right_on stored told) (more q1 (more q2 no_roses))

  module _ (v : IsValid p) (fair : Fair wanted wide) (h1 : Narrows p1 q1 (set_of (left_asked left_on right_on told wanted s t))) (h2 : Narrows p2 q2 (set_of (right_asked left_on right_on told wanted s t))) (once1 : HasDistinctNames r1) (once2 : HasDistinctNames r2) where
    g : JoinGood left_on right_on stored told s t
    g = join_good left_on right_on stored told s t v.0

    hl : Holding (left_asked left_on right_on told wanted s t) r1 s
    hl = held_of (left_asked left_on right_on told wanted s t) r1 s h1.schema

    hr : Holding (right_asked left_on right_on told wanted s t) r2 t
    hr = held_of (right_asked left_on right_on told wanted s t) r2 t h2.schema

    known : (a : Name) → has (needed_of told wanted) a ≡ true → is_some (type_of wide a) ≡ true
    known = needed_known left_on right_on stored told wanted s t g fair

    kept : Kept told.args args right_on by (needed_of told wanted)
    kept = kept_args left_on right_on stored told wanted s t g

    needed_renamed : IsRenamed now (needed_of told wanted) q p
    needed_renamed =
        relates_node View SeeColumns SeeFrames (join left_on right_on columns (narrowed_told now args told)) (join left_on right_on stored told)
        (seen (set_of (left_asked left_on right_on told wanted s t)) ∷ seen (set_of (right_asked left_on right_on told wanted s t)) ∷ []) (renamed now (needed_of told wanted))
        (more p1 (more p2 no_roses)) (more q1 (more q2 no_roses)) v (h1, (h2, tt))
        (λ k. join_local left_on right_on stored told wanted s t r1 r2 g hl hr once1 once2 known)

    asked_renamed : IsRenamed now wanted q p
    asked_renamed = renamed_fewer now (needed_of told wanted) wanted q p (λ a i. has_back (all_leaves (conditions told.options)) wanted a i) needed_renamed

    -- no name comes twice among its columns, so that they are the first of each
    columns_first : first_of_each columns ≡ columns
    columns_first = first-distinct columns (differ_distinct (names_of columns) (join_good left_on right_on columns (narrowed_told now args told) r1 r2 needed_renamed.valid.0).differ)

    -- a join that puts out left columns alone calls them as they were
    module _ (hides : has_right told.args.how ≡ false) where
      not_right : (args' : JoinArgs) (keys : List Name) (u : Columns) (b : Name) → has_right args'.how ≡ false → has (names_of (right_rest args' keys u)) b ≡ true → ⊥
      not_right args' keys u b e i = both_ways (has [] b) refl (ap (λ (x : Columns). has (names_of x) b) (sym (no_right args' keys u e)) ∙ i)

      alike : (a : Name) → has wanted a ≡ true → now a ≡ a
      alike a i =
          let x = origin_some told.args lk rk s t a (sym (some-type_of wide a) ∙ fair.known a i) in
          at x.0 x.1
        where
          at : (x : Side × Name) → by a ≡ Some x → now a ≡ a
          at (sides.Left, b) e = now-is left_on right_on told args wanted s t r1 r2 kept hl hr a (sides.Left, b) e ∙ origin_called told.args lk rk s t a (sides.Left, b) e
          at (sides.Right, b) e = absurd (not_right told.args rk t b hides (origin_out told.args lk rk s t a (sides.Right, b) e))

      within : (a : Name) → is_some (type_of columns a) ≡ true → is_some (type_of wide a) ≡ true
      within a i =
          let x = origin_some args lk rk r1 r2 a (sym (some-type_of columns a) ∙ i) in
          at x.0 x.1
        where
          at : (x : Side × Name) → origin args lk rk r1 r2 a ≡ Some x → is_some (type_of wide a) ≡ true
          at (sides.Left, b) e =
              let out = lefts_less left_on right_on told args wanted s t r1 r2 kept hl hr b (origin_out args lk rk r1 r2 a (sides.Left, b) e) in
              some-type_of wide a ∙ ap (has (names_of wide)) (sym (origin_called args lk rk r1 r2 a (sides.Left, b) e)) ∙ out_named told.args lk rk s t (sides.Left, b) out
          at (sides.Right, b) e = absurd (not_right args rk r2 b (ap has_right kept.how ∙ hides) (origin_out args lk rk r1 r2 a (sides.Right, b) e))

      bare_narrows : Narrows q p (names wanted)
      bare_narrows = bare_top now wanted q p v fair asked_renamed alike within

    all_columns : Narrows (topped_if (has_right told.args.how) now wanted columns q) p (names wanted)
    all_columns = at (has_right told.args.how) refl
      where
        at : (b : Bool) → has_right told.args.how ≡ b → Narrows (topped_if b now wanted columns q) p (names wanted)
        at true e = topped_narrows now wanted q p v fair asked_renamed
        at false e = bare_narrows e

    some_narrows : Narrows (topped_if (has_right told.args.how) now wanted (first_of_each columns) (rose tt (join left_on right_on (first_of_each columns) (narrowed_told now args told)) (more p1 (more p2 no_roses)))) p (names wanted)
    some_narrows = subst (λ (cs : Columns). Narrows (topped_if (has_right told.args.how) now wanted cs (rose tt (join left_on right_on cs (narrowed_told now args told)) (more p1 (more p2 no_roses)))) p (names wanted)) (sym columns_first) all_columns

-- asked everything

all_narrows : (left_on right_on : List Named) (stored : Columns) (told : Told) (m1 m2 n1 n2 : Unit {0}) (o1 o2 k1 k2 : Op) (us1 us2 ts1 ts2 : Roses (Unit {0}) Op) → IsValid (rose tt (join left_on right_on stored told) (more (rose n1 k1 ts1) (more (rose n2 k2 ts2) no_roses))) → Narrows (rose m1 o1 us1) (rose n1 k1 ts1) all → Narrows (rose m2 o2 us2) (rose n2 k2 ts2) (set_of (unasked_right (has_right told.args.how) right_on)) → HasDistinctNames (schema (rose m2 o2 us2)) → Narrows (rose tt (join left_on right_on stored told) (more (rose m1 o1 us1) (more (rose m2 o2 us2) no_roses))) (rose tt (join left_on right_on stored told) (more (rose n1 k1 ts1) (more (rose n2 k2 ts2) no_roses))) all
all_narrows left_on right_on stored told m1 m2 n1 n2 o1 o2 k1 k2 us1 us2 ts1 ts2 v h1 h2 once2 = at (has_right told.args.how) refl h2
  where
    op : Op
    op = join left_on right_on stored told

    s : Columns
    s = schema (rose n1 k1 ts1)

    t : Columns
    t = schema (rose n2 k2 ts2)

    r2 : Columns
    r2 = schema (rose m2 o2 us2)

    good : JoinGood left_on right_on stored told s t
    good = join_good left_on right_on stored told s t v.0

    at : (b : Bool) → has_right told.args.how ≡ b → Narrows (rose m2 o2 us2) (rose n2 k2 ts2) (set_of (unasked_right b right_on)) → Narrows (rose tt op (more (rose m1 o1 us1) (more (rose m2 o2 us2) no_roses))) (rose tt op (more (rose n1 k1 ts1) (more (rose n2 k2 ts2) no_roses))) all
    at true e h =
        relates_node Asked NarrowColumns AgreeOn op op (all ∷ all ∷ []) all (more (rose m1 o1 us1) (more (rose m2 o2 us2) no_roses)) (more (rose n1 k1 ts1) (more (rose n2 k2 ts2) no_roses)) v (h1, (h, tt))
        (λ k. subst (λ (u : Columns). LocalTo Asked NarrowColumns AgreeOn op op (all ∷ all ∷ []) all (u ∷ r2 ∷ []) (s ∷ t ∷ [])) (sym k.0)
        (subst (λ (u : Columns). LocalTo Asked NarrowColumns AgreeOn op op (all ∷ all ∷ []) all (s ∷ u ∷ []) (s ∷ t ∷ [])) (sym k.1.0) (same_local left_on right_on stored told s t good)))
    at false e h =
        relates_node Asked NarrowColumns AgreeOn op op (all ∷ set_of (with_names [] (all_leaves right_on)) ∷ []) all (more (rose m1 o1 us1) (more (rose m2 o2 us2) no_roses)) (more (rose n1 k1 ts1) (more (rose n2 k2 ts2) no_roses)) v (h1, (h, tt))
        (λ k. subst (λ (u : Columns). LocalTo Asked NarrowColumns AgreeOn op op (all ∷ set_of (with_names [] (all_leaves right_on)) ∷ []) all (u ∷ r2 ∷ []) (s ∷ t ∷ [])) (sym k.0)
        (left_local left_on right_on stored told s t r2 good once2 e (held_of (with_names [] (all_leaves right_on)) r2 t k.1.0)))

-- a join over sides that narrow at what it asks narrows at what it is asked
pub join_narrows : (l : List Name) (left_on right_on : List Named) (stored : Columns) (told : Told) (r1 r2 q1 q2 : Plan) → IsValid (rose tt (join left_on right_on stored told) (more q1 (more q2 no_roses))) → IsFair (set_of l) (schema (rose tt (join left_on right_on stored told) (more q1 (more q2 no_roses)))) → Narrows r1 q1 (set_of (left_names l left_on right_on told (schema q1) (schema q2))) → Narrows r2 q2 (set_of (right_names l left_on right_on told (schema q1) (schema q2))) → Narrows (pruned_join l left_on right_on stored told (schema q1) (schema q2) (more r1 (more r2 no_roses))) (rose tt (join left_on right_on stored told) (more q1 (more q2 no_roses))) (set_of l)
join_narrows [] left_on right_on stored told (rose m1 o1 us1) (rose m2 o2 us2) (rose n1 k1 ts1) (rose n2 k2 ts2) v fair h1 h2 =
    all_narrows left_on right_on stored told m1 m2 n1 n2 o1 o2 k1 k2 us1 us2 ts1 ts2 v h1 h2 (valid_once (rose m2 o2 us2) h2.valid)
join_narrows (a ∷ l) left_on right_on stored told (rose m1 o1 us1) (rose m2 o2 us2) (rose n1 k1 ts1) (rose n2 k2 ts2) v fair h1 h2 =
    let rs = more (rose m1 o1 us1) (more (rose m2 o2 us2) no_roses) in
    let s = schema_by k1 (schemas ts1) in
    let args = narrowed_args told.args (a ∷ l) right_on s in
    let by = origin_of left_on right_on told s (schema_by k2 (schemas ts2)) in
    let valid : AllValid rs = (h1.valid.0, h1.valid.1, (h2.valid.0, h2.valid.1, tt)) in
    subst (λ (us : List Columns). Narrows
    (topped_if (has_right told.args.how) (called_now args (column_keys left_on) (first_schema us) by) (a ∷ l) (first_of_each (join_columns args (column_keys left_on) (column_keys right_on) (first_schema us) (first_schema (rest_schemas us))))
    (rose tt (join left_on right_on (first_of_each (join_columns args (column_keys left_on) (column_keys right_on) (first_schema us) (first_schema (rest_schemas us)))) (narrowed_told (called_now args (column_keys left_on) (first_schema us) by) args told)) rs))
    (rose tt (join left_on right_on stored told) (more (rose n1 k1 ts1) (more (rose n2 k2 ts2) no_roses))) (names (a ∷ l)))
    (sym (stored-schemas rs valid))
    (some_narrows left_on right_on stored told a l m1 m2 n1 n2 o1 o2 k1 k2 us1 us2 ts1 ts2 v fair h1 h2 (valid_once (rose m1 o1 us1) h1.valid) (valid_once (rose m2 o2 us2) h2.valid))
