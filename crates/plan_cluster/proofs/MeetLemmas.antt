-- What a meeting of two additions makes of them, read as additions.
use Rattle.std.proofs.Common.{◌≡◌, ◌∙◌, ◌+◌, ℕ, Bool, true, false, cond, List, [], ◌∷◌, ◌++◌, length, Option, Some, None, option_map, unwrap_or, refl, sym, ap, ap₂, subst, arith}
use Rattle.std.proofs.lemmas.List.{map-append}
use Rattle.std.proofs.lemmas.List.Elements.{filter_map-append}
use Rattle.std.proofs.lemmas.List.Sums.{fold-append}
use Rattle.plan_tree.specs.Rose.{rose, no_roses, more}
use Rattle.plan_core.specs.declared.data_type.DataType.{DataType}
use Rattle.plan_core.specs.Columns.{Columns, with_type, with_types}
use Rattle.plan_core.specs.Names.{AreDistinct}
use Rattle.plan_core.specs.Options.{merged}
use Rattle.plan_expr.specs.declared.aexpr.AExpr.{AExpr}
use Rattle.plan_expr.specs.declared.expr_ir.ExprIR.{ExprIR}
use Rattle.plan_expr.specs.Exprs.{Named, all_named_at, named_at}
use Rattle.plan_expr.specs.Leaves.{Name}
use Rattle.plan_expr.specs.Naming.{name_of}
use Rattle.plan_frame.specs.ExprLists.{out_names}
use Rattle.plan_ir.specs.Plans.{Plan}
use Rattle.plan_meaning.specs.Checks.{is_empty}
use Rattle.plan_pruned.specs.Pruned.{typed_name, typed_names}
use Rattle.plan_collapse_laws.specs.Additions.{Addition, as_op}
use Rattle.plan_collapse_laws.specs.Counts.{additions, placing_in}
use Rattle.plan_collapse_laws.specs.Meeting.{as_one, leaves_order, left_above, moving, replaced, restored_if, stayed, sunk_into, taking, takes_place}
use Rattle.plan_collapse_laws.specs.Runs.{Link, adds, linked, linked_in, looked_at, looked_under, projected_if}
use Rattle.plan_collapse_laws.specs.Staying.{stays}
use Rattle.plan_collapse_laws.proofs.Counted.{one_strict, some_left, some_strict}
use Rattle.plan_collapse_laws.proofs.Links.{linked-restored, under_lighter, under_some}
use Rattle.plan_collapse_laws.proofs.PairColumns.{filter_distinct, once_sunk}
use Rattle.plan_cluster.specs.ExprNames.{expr_name, expr_named, expr_names, exprs_replaced}
use Rattle.plan_cluster.specs.Layers.{addition_at}
use Rattle.plan_cluster.specs.Meetings.{exprs_sunk, left_in_order, left_out_of_order, merged_into, sunk_to}
use Rattle.plan_cluster.specs.Parts.{AreParts}
use Rattle.plan_cluster.specs.declared.layer.Addition.{Addition as Taken}
use Rattle.plan_cluster.specs.declared.parts.Parts.{Parts}
use Rattle.plan_cluster.proofs.NameLemmas.{named-read, names-read}

-- what meets, as a look makes it of a run

module _ (u l : Addition) (ks : List Link) where
  abbrev below : Addition → List Link
  below x = looked_under ks x

  abbrev met_by : Bool → Bool → Bool → List Link
  met_by b c d = cond b (below (as_one u l)) (cond c (adds u ∷ below l) (projected_if d u.schema (adds (left_above u l) ∷ below (sunk_into u l))))

  pub look-one : is_empty (stayed u l) ≡ true → looked_at (adds u ∷ adds l ∷ ks) ≡ looked_at (adds (as_one u l) ∷ ks)
  look-one e = ap (λ (b : Bool). met_by b (is_empty (taking u l ++ moving u l)) (leaves_order u l)) e

  pub look-rests : is_empty (stayed u l) ≡ false → is_empty (taking u l ++ moving u l) ≡ true → looked_at (adds u ∷ adds l ∷ ks) ≡ adds u ∷ looked_at (adds l ∷ ks)
  look-rests e f = ap₂ (λ (b c : Bool). met_by b c (leaves_order u l)) e f

  pub look-some : is_empty (stayed u l) ≡ false → is_empty (taking u l ++ moving u l) ≡ false → looked_at (adds u ∷ adds l ∷ ks) ≡ projected_if (leaves_order u l) u.schema (adds (left_above u l) ∷ looked_at (adds (sunk_into u l) ∷ ks))
  look-some e f = ap₂ (λ (b c : Bool). met_by b c (leaves_order u l)) e f

  abbrev given : Plan
  given = linked (adds u ∷ adds l ∷ ks) no_roses

  abbrev weight : Plan → ℕ
  weight p = placing_in (more p no_roses) + additions (more p no_roses)

  pub changes-one : is_empty (stayed u l) ≡ true → looked_at (adds u ∷ adds l ∷ ks) ≡ adds u ∷ adds l ∷ ks → ⊥
  changes-one e same =
      let less = one_strict u l (linked_in ks no_roses) (λ x. linked (below x) no_roses) (λ x. under_lighter ks no_roses x) in
      let is : linked (below (as_one u l)) no_roses ≡ given = ap (λ (js : List Link). linked js no_roses) (sym (look-one e) ∙ same) in
      let s : weight (linked (below (as_one u l)) no_roses) ≡ weight given = ap weight is in
      absurd (omega (arith, less, s))

  pub changes-some : is_empty (stayed u l) ≡ false → is_empty (taking u l ++ moving u l) ≡ false → looked_at (adds u ∷ adds l ∷ ks) ≡ adds u ∷ adds l ∷ ks → ⊥
  changes-some e f same =
      let d = leaves_order u l in
      let after = restored_if d u.schema (rose tt (as_op (left_above u l)) (more (linked (below (sunk_into u l)) no_roses) no_roses)) in
      let less = some_strict u l (linked_in ks no_roses) (λ x. linked (below x) no_roses) (λ x. under_lighter ks no_roses x) d u.schema (some_left (taking u l) (moving u l) f) in
      let is : after ≡ given = sym (linked-restored u l below no_roses (λ x. under_some ks x) d) ∙ ap (λ (js : List Link). linked js no_roses) (sym (look-some e f) ∙ same) in
      let s : weight after ≡ weight given = ap weight is in
      absurd (omega (arith, less, s))

-- reading expressions at their numbers

read-replaced : (ex : List AExpr) (takes ls : List ExprIR) → all_named_at ex (exprs_replaced takes ls) ≡ replaced (all_named_at ex takes) (all_named_at ex ls)
read-replaced ex takes [] = refl
read-replaced ex takes (l ∷ ls) = ap₂ (λ (d : Named) (ds : List Named). d ∷ ds) (at (expr_named takes (expr_name l)) ∙ ap (λ (o : Option Named). unwrap_or o (named_at ex l)) (sym (named-read ex takes (expr_name l)))) (read-replaced ex takes ls)
  where
    at : (o : Option ExprIR) → named_at ex (unwrap_or o l) ≡ unwrap_or (option_map (named_at ex) o) (named_at ex l)
    at None = refl
    at (Some e) = refl

pub none-read : (ex : List AExpr) (es : List ExprIR) → is_empty (all_named_at ex es) ≡ is_empty es
none-read ex [] = refl
none-read ex (e ∷ es) = refl

pub none-length : {X : Type 0} (xs : List X) → length xs ≡ 0 → is_empty xs ≡ true
none-length [] h = refl
none-length (x ∷ xs) h = absurd (omega arith)

pub some-length : {X : Type 0} (xs : List X) → (length xs ≡ 0 → ⊥) → is_empty xs ≡ false
some-length [] h = absurd (h refl)
some-length (x ∷ xs) h = refl

pub none-both : {X : Type 0} (xs ys : List X) → is_empty xs ≡ true → is_empty ys ≡ true → is_empty (xs ++ ys) ≡ true
none-both [] ys e f = f
none-both (x ∷ xs) ys e f = cc

pub some-first : {X : Type 0} (xs ys : List X) → is_empty xs ≡ false → is_empty (xs ++ ys) ≡ false
some-first [] ys e = cc
some-first (x ∷ xs) ys e = refl

pub some-last : {X : Type 0} (xs ys : List X) → is_empty ys ≡ false → is_empty (xs ++ ys) ≡ false
some-last [] ys e = e
some-last (x ∷ xs) ys e = refl

names-append : (xs ys : List Named) → out_names (xs ++ ys) ≡ out_names xs ++ out_names ys
names-append xs ys = map-append (λ (e : Named). name_of e.name) xs ys

types-append : (to s : Columns) (xs ys : List Name) → with_types to (typed_names s (xs ++ ys)) ≡ with_types (with_types to (typed_names s xs)) (typed_names s ys)
types-append to s xs ys = ap (with_types to) (filter_map-append (typed_name s) xs ys) ∙ fold-append (λ (done : Columns) (c : Name × DataType). with_type done c.0 c.1) to (typed_names s xs) (typed_names s ys)

module _ (ex : List AExpr) (u l : Taken) (p : Parts) (are : AreParts ex u.exprs (expr_names l.exprs) p) where
  abbrev U : Addition
  U = addition_at ex u

  abbrev L : Addition
  L = addition_at ex l

  -- the lower names as those that expressions have
  are-read : AreParts ex u.exprs (out_names (all_named_at ex l.exprs)) p
  are-read = subst (λ (names : List Name). AreParts ex u.exprs names p) (sym (names-read ex l.exprs)) are

  exprs-sunk : all_named_at ex (exprs_sunk p l.exprs) ≡ (sunk_into U L).exprs
  exprs-sunk =
      map-append (named_at ex) (exprs_replaced p.takes l.exprs) p.moves
      ∙ ap₂ (λ (xs ys : List Named). xs ++ ys) (read-replaced ex p.takes l.exprs ∙ ap (λ (ts : List Named). replaced ts (all_named_at ex l.exprs)) are-read.placed) are-read.moved

  pub merged-read : addition_at ex (merged_into p u l) ≡ as_one U L
  merged-read = ap (λ (es : List Named). record { exprs = es; schema = u.schema; options = merged u.options l.options }) exprs-sunk

  schema-sunk : (sunk_to p u l).schema ≡ (sunk_into U L).schema
  schema-sunk =
      sym (types-append l.schema u.schema (expr_names p.takes) (expr_names p.moves))
      ∙ ap (λ (names : List Name). with_types l.schema (typed_names u.schema names))
      (ap₂ (λ (xs ys : List Name). xs ++ ys) (sym (names-read ex p.takes) ∙ ap out_names are-read.placed) (sym (names-read ex p.moves) ∙ ap out_names are-read.moved) ∙ sym (names-append (taking U L) (moving U L)))

  pub sunk-read : addition_at ex (sunk_to p u l) ≡ sunk_into U L
  sunk-read = ap₂ (λ (es : List Named) (s : Columns). record { exprs = es; schema = s; options = merged u.options l.options }) exprs-sunk schema-sunk

  pub order-read : p.from_behind ≡ leaves_order U L
  order-read = are-read.behind

  pub in_order-read : p.from_behind ≡ false → addition_at ex (left_in_order p u l) ≡ left_above U L
  in_order-read h =
      ap₂ (λ (es : List Named) (b : Bool). record { exprs = es; schema = cond b (with_types (sunk_into U L).schema (typed_names u.schema (out_names (stayed U L)))) u.schema; options = merged u.options l.options }) are-read.above (sym h ∙ order-read)

  pub out_of_order-read : p.from_behind ≡ true → addition_at ex (left_out_of_order p u l) ≡ left_above U L
  out_of_order-read h =
      ap₂ (λ (es : List Named) (s : Columns). record { exprs = es; schema = s; options = merged u.options l.options }) are-read.above
      (ap₂ (λ (s : Columns) (names : List Name). with_types s (typed_names u.schema names)) schema-sunk (sym (names-read ex p.stays) ∙ ap out_names are-read.above))
      ∙ ap (λ (b : Bool). record { exprs = stayed U L; schema = cond b (with_types (sunk_into U L).schema (typed_names u.schema (out_names (stayed U L)))) u.schema; options = merged u.options l.options }) (sym h ∙ order-read)

  pub stays-none : is_empty (stayed U L) ≡ is_empty p.stays
  stays-none = ap is_empty (sym are-read.above) ∙ none-read ex p.stays

  pub moves-none : is_empty (taking U L ++ moving U L) ≡ is_empty (p.takes ++ p.moves)
  moves-none = ap is_empty (ap₂ (λ (xs ys : List Named). xs ++ ys) (sym are-read.placed) (sym are-read.moved) ∙ sym (map-append (named_at ex) p.takes p.moves)) ∙ none-read ex (p.takes ++ p.moves)

  module _ (once : AreDistinct (expr_names u.exprs)) (once_lower : AreDistinct (expr_names l.exprs)) where
    once-read : AreDistinct (out_names U.exprs)
    once-read = subst AreDistinct (sym (names-read ex u.exprs)) once

    lower-read : AreDistinct (out_names L.exprs)
    lower-read = subst AreDistinct (sym (names-read ex l.exprs)) once_lower

    distinct-read : (es : List ExprIR) (ds : List Named) → all_named_at ex es ≡ ds → AreDistinct (out_names ds) → AreDistinct (expr_names es)
    distinct-read es ds e h = subst AreDistinct (ap out_names (sym e) ∙ names-read ex es) h

    pub once-takes : AreDistinct (expr_names p.takes)
    once-takes = distinct-read p.takes (taking U L) are-read.placed (filter_distinct (takes_place (out_names L.exprs) (stays U.exprs (out_names L.exprs))) U.exprs once-read)

    pub once-stays : AreDistinct (expr_names p.stays)
    once-stays = distinct-read p.stays (stayed U L) are-read.above (filter_distinct (stays U.exprs (out_names L.exprs)) U.exprs once-read)

    pub once-sunk : AreDistinct (expr_names (exprs_sunk p l.exprs))
    once-sunk = distinct-read (exprs_sunk p l.exprs) (sunk_into U L).exprs exprs-sunk (once_sunk U.exprs L.exprs (stays U.exprs (out_names L.exprs)) once-read lower-read)
