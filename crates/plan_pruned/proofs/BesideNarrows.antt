-- A concatenation over inputs that narrow at what it asks of them.
use Rattle.std.proofs.Common.{◌≡◌, ℕ, max, Bool, true, false, not, List, [], ◌∷◌, ◌++◌, map, fold, Option, Some, None, option_map, is_some, refl, sym, ap, ap₂, ◌∙◌, subst, ⊎_elim, ◌⊎◌, inl, inr}
use Rattle.std.specs.List.{list_all, range_with_len}
use Rattle.std.proofs.lemmas.Bool.{and_parts, and_from, both_ways, false_from_ne_true}
use Rattle.plan_core.specs.Columns.{Columns, names_of, type_of}
use Rattle.plan_core.specs.Names.{has}
use Rattle.plan_tree.specs.Rose.{Roses, rose, no_roses, more}
use Rattle.plan_expr.specs.Leaves.{Name}
use Rattle.plan_ir.specs.Plans.{Op, hconcat}
use Rattle.plan_options.specs.declared.union.HConcatOptions.{HConcatOptions}
use Rattle.plan_frame.specs.Beside.{are_apart, in_a_row, share_no_name, side_by_side}
use Rattle.plan_meaning.specs.Checks.{is_empty, stored_checks}
use Rattle.plan_meaning.specs.Typing.{schemas, checks, AllHold, AllValid}
use Rattle.plan_frame.specs.Frames.{Frame, HasSchema, found, highest, levelled, beside, picked, picked_columns, Agree}
use Rattle.plan_meaning.specs.Steps.{IsValid}
use Rattle.plan_meaning.specs.Relating.{Asked, all, names, NarrowColumns, AgreeOn, Narrows}
use Rattle.plan_meaning.specs.Asked.{set_of, Fair, IsFair}
use Rattle.plan_frame.proofs.NameSets.{has_cons, has_first, has_later, some-type_of}
use Rattle.plan_frame.proofs.FrameLemmas.{found-picked}
use Rattle.plan_frame.proofs.MadeColumns.{some-found}
use Rattle.plan_meaning.proofs.KeptExprs.{has_where}
use Rattle.plan_frame.proofs.TurnLemmas.{HaveSchemas}
use Rattle.plan_frame.proofs.BesideLemmas.{or_else, type_of-join, found-join, type_of-beside, found-beside}
use Rattle.plan_meaning.proofs.Related.{SchemasRelated, FramesRelated, AllRelate, relates_node}
use Rattle.plan_pruned.specs.Pruned.{held_names, pruned_hconcat}
use Rattle.plan_schema.specs.Stored.{stored_all}
use Rattle.plan_schema.proofs.StoredLemmas.{is_same, stored-schemas}
use Rattle.plan_pruned.proofs.AskedNames.{each_asked, sets_of}
use Rattle.plan_pruned.proofs.NarrowLemmas.{Local}
use Rattle.plan_pruned.proofs.MadeNarrows.{set_types, set_within, set_frames}
use Rattle.plan_pruned.proofs.ProjectionNarrows.{some_is}
use Rattle.plan_pruned.proofs.StackNarrows.{none_is}
use Rattle.plan_pruned.proofs.UnionNarrows.{same_all}

-- columns that are apart

all_names : (test : Name → Bool) (l : List Name) → list_all test l ≡ true → (a : Name) → has l a ≡ true → test a ≡ true
all_names test [] h a i = cc
all_names test (b ∷ l) h a i =
    let p = and_parts (test b) (list_all test l) h in
    ⊎_elim (λ (e : a ≡ b). ap test e ∙ p.0) (λ (j : has l a ≡ true). all_names test l p.1 a j) (has_cons b l a i)

names_all : (test : Name → Bool) (l : List Name) → ((a : Name) → has l a ≡ true → test a ≡ true) → list_all test l ≡ true
names_all test [] h = refl
names_all test (b ∷ l) h = and_from (test b) (list_all test l) (h b (has_first b l)) (names_all test l (λ a i. h a (has_later b l a i)))

-- columns whose names lie within those of others
abbrev Within : Columns → Columns → Type 0
Within r s = (a : Name) → is_some (type_of r a) ≡ true → is_some (type_of s a) ≡ true

some_cases : {A : Type 0} (o p : Option A) → is_some (or_else o p) ≡ true → (is_some o ≡ true) ⊎ (is_some p ≡ true)
some_cases None p h = inr h
some_cases (Some x) p h = inl refl

some_first : {A : Type 0} (o p : Option A) → is_some o ≡ true → is_some (or_else o p) ≡ true
some_first None p h = cc
some_first (Some x) p h = refl

some_second : {A : Type 0} (o p : Option A) → is_some p ≡ true → is_some (or_else o p) ≡ true
some_second None p h = h
some_second (Some x) p h = refl

within_join : (r r' s s' : Columns) → Within r s → Within r' s' → Within (r ++ r') (s ++ s')
within_join r r' s s' h k a e =
    ap is_some (type_of-join s s' a)
    ∙ ⊎_elim
    (λ (q : is_some (type_of r a) ≡ true). some_first (type_of s a) (type_of s' a) (h a q))
    (λ (q : is_some (type_of r' a) ≡ true). some_second (type_of s a) (type_of s' a) (k a q))
    (some_cases (type_of r a) (type_of r' a) (sym (ap is_some (type_of-join r r' a)) ∙ e))

-- no name is shared where none was
share_less : (r r' s s' : Columns) → Within r s → Within r' s' → share_no_name s s' ≡ true → share_no_name r r' ≡ true
share_less r r' s s' h k e = names_all (λ (a : Name). not (has (names_of r') a)) (names_of r) (λ a i.
    let there : has (names_of s) a ≡ true = sym (some-type_of s a) ∙ h a (some-type_of r a ∙ i) in
    let free : not (has (names_of s') a) ≡ true = all_names (λ (x : Name). not (has (names_of s') x)) (names_of s) e a there in
    turned (has (names_of r') a) (has (names_of s') a) free (λ q. sym (some-type_of s' a) ∙ k a (some-type_of r' a ∙ q)))
  where
    turned : (b c : Bool) → not c ≡ true → (b ≡ true → c ≡ true) → not b ≡ true
    turned false c n f = refl
    turned true false n f = f refl
    turned true true n f = n

-- one input

module _ (wanted : List Name) (r s : Columns) (h : NarrowColumns (set_of (held_names wanted s)) r s) where
  one_within : Within r s
  one_within b i = set_within (held_names wanted s) r s h b i

  unknown : (b : Name) → has (names_of s) b ≡ false → is_some (type_of r b) ≡ false
  unknown b n = false_from_ne_true (is_some (type_of r b)) (λ q. both_ways (is_some (type_of s b)) (some-type_of s b ∙ n) (one_within b q))

  one-type : (b : Name) → has wanted b ≡ true → type_of r b ≡ type_of s b
  one-type b i = at (has (names_of s) b) refl
    where
      at : (t : Bool) → has (names_of s) b ≡ t → type_of r b ≡ type_of s b
      at true e = set_types (held_names wanted s) r s h b (has_where (has (names_of s)) wanted b e i)
      at false e = none_is (type_of r b) (unknown b e) ∙ sym (none_is (type_of s b) (some-type_of s b ∙ e))

  one-found : (f g : Frame) → HasSchema f r → HasSchema g s → AgreeOn (set_of (held_names wanted s)) f g → (b : Name) → has wanted b ≡ true → found f.columns b ≡ found g.columns b
  one-found f g hf hg ag b i = at (has (names_of s) b) refl
    where
      at : (t : Bool) → has (names_of s) b ≡ t → found f.columns b ≡ found g.columns b
      at true e = (set_frames (held_names wanted s) f g ag).same b (has_where (has (names_of s)) wanted b e i)
      at false e =
          none_is (found f.columns b) (some-found f.height f.columns r b hf ∙ unknown b e)
          ∙ sym (none_is (found g.columns b) (some-found g.height g.columns s b hg ∙ some-type_of s b ∙ e))

-- all inputs

module _ (wanted : List Name) where
  abbrev views : List Columns → List Asked
  views ss = sets_of (map (held_names wanted) ss)

  abbrev NarrowAll : List Columns → List Columns → Type 0
  NarrowAll rs ss = SchemasRelated Asked NarrowColumns AgreeOn (sets_of (map (held_names wanted) ss)) rs ss

  row_within : (rs ss : List Columns) → SchemasRelated Asked NarrowColumns AgreeOn (sets_of (map (held_names wanted) ss)) rs ss → Within (in_a_row rs) (in_a_row ss)
  row_within [] [] h = λ a e. e
  row_within (r ∷ rs) (s ∷ ss) h = within_join r (in_a_row rs) s (in_a_row ss) (one_within wanted r s h.0) (row_within rs ss h.1)
  row_within [] (s ∷ ss) h = absurd h
  row_within (r ∷ rs) [] h = absurd h

  row-type : (rs ss : List Columns) → SchemasRelated Asked NarrowColumns AgreeOn (sets_of (map (held_names wanted) ss)) rs ss → (b : Name) → has wanted b ≡ true → type_of (in_a_row rs) b ≡ type_of (in_a_row ss) b
  row-type [] [] h b i = refl
  row-type (r ∷ rs) (s ∷ ss) h b i =
      type_of-join r (in_a_row rs) b
      ∙ ap₂ or_else (one-type wanted r s h.0 b i) (row-type rs ss h.1 b i)
      ∙ sym (type_of-join s (in_a_row ss) b)
  row-type [] (s ∷ ss) h b i = absurd h
  row-type (r ∷ rs) [] h b i = absurd h

  left_apart : (rs ss : List Columns) → SchemasRelated Asked NarrowColumns AgreeOn (sets_of (map (held_names wanted) ss)) rs ss → are_apart ss ≡ true → are_apart rs ≡ true
  unfolding are_apart
  left_apart [] [] h e = refl
  left_apart (r ∷ rs) (s ∷ ss) h e =
      let p = and_parts (share_no_name s (in_a_row ss)) (are_apart ss) e in
      and_from (share_no_name r (in_a_row rs)) (are_apart rs) (share_less r (in_a_row rs) s (in_a_row ss) (one_within wanted r s h.0) (row_within rs ss h.1) p.0) (left_apart rs ss h.1 p.1)
  left_apart [] (s ∷ ss) h e = absurd h
  left_apart (r ∷ rs) [] h e = absurd h

  heights : (ss : List Columns) (fs gs : List Frame) → FramesRelated Asked NarrowColumns AgreeOn (sets_of (map (held_names wanted) ss)) fs gs → map (λ (f : Frame). f.height) fs ≡ map (λ (f : Frame). f.height) gs
  heights [] [] [] ag = refl
  heights (s ∷ ss) (f ∷ fs) (g ∷ gs) ag = ap₂ (λ (n : ℕ) (ns : List ℕ). n ∷ ns) (set_frames (held_names wanted s) f g ag.0).height (heights ss fs gs ag.1)
  heights ss fs gs ag = absurd (first_of (search ag))

  level-found : (h : ℕ) (rs ss : List Columns) (fs gs : List Frame) → SchemasRelated Asked NarrowColumns AgreeOn (sets_of (map (held_names wanted) ss)) rs ss → HaveSchemas fs rs → HaveSchemas gs ss → FramesRelated Asked NarrowColumns AgreeOn (sets_of (map (held_names wanted) ss)) fs gs → (b : Name) → has wanted b ≡ true → found (levelled h fs) b ≡ found (levelled h gs) b
  level-found h [] [] [] [] k hr hs ag b i = refl
  level-found h (r ∷ rs) (s ∷ ss) (f ∷ fs) (g ∷ gs) k hr hs ag b i =
      let rows = range_with_len 0 h in
      found-join (picked_columns rows f.columns) (levelled h fs) b
      ∙ ap₂ or_else
      (found-picked rows f.columns b ∙ ap (option_map (picked rows)) (one-found wanted r s k.0 f g hr.0 hs.0 ag.0 b i) ∙ sym (found-picked rows g.columns b))
      (level-found h rs ss fs gs k.1 hr.1 hs.1 ag.1 b i)
      ∙ sym (found-join (picked_columns rows g.columns) (levelled h gs) b)
  level-found h rs ss fs gs k hr hs ag b i = absurd (first_of (search k, search hr, search hs, search ag))

  not-empty : (rs ss : List Columns) → SchemasRelated Asked NarrowColumns AgreeOn (sets_of (map (held_names wanted) ss)) rs ss → not (is_empty ss) ≡ true → not (is_empty rs) ≡ true
  not-empty (r ∷ rs) (s ∷ ss) h e = refl
  not-empty [] [] h e = e
  not-empty [] (s ∷ ss) h e = absurd h
  not-empty (r ∷ rs) [] h e = absurd h

  left_stored : (rs : List Columns) → AllHold (stored_checks (side_by_side rs) (side_by_side rs))
  unfolding stored_checks
  left_stored rs = (is_same (side_by_side rs) (side_by_side rs) refl, tt)

  module _ (schema : Columns) (options : HConcatOptions) (ss : List Columns) (good : AllHold (checks (hconcat schema options) ss)) (fair : Fair wanted (side_by_side ss)) (rs : List Columns) (h : SchemasRelated Asked NarrowColumns AgreeOn (sets_of (map (held_names wanted) ss)) rs ss) where
    beside-type : (b : Name) → has wanted b ≡ true → type_of (side_by_side rs) b ≡ type_of (side_by_side ss) b
    beside-type b i = type_of-beside rs b ∙ row-type rs ss h b i ∙ sym (type_of-beside ss b)

    agrees : (fs gs : List Frame) → HaveSchemas fs rs → HaveSchemas gs ss → FramesRelated Asked NarrowColumns AgreeOn (sets_of (map (held_names wanted) ss)) fs gs → Agree wanted (beside fs) (beside gs)
    agrees fs gs hr hs ag =
        let high : highest fs ≡ highest gs = ap (fold max 0) (heights ss fs gs ag) in
        record {
          height = high;
          same = λ b i.
              found-beside fs b
              ∙ ap (λ (n : ℕ). found (levelled n fs) b) high
              ∙ level-found (highest gs) rs ss fs gs h hr hs ag b i
              ∙ sym (found-beside gs b);
        }

    -- a concatenation over inputs that narrow at the asked names that they have
    beside_local : Local (hconcat (side_by_side rs) options) (hconcat schema options) (sets_of (map (held_names wanted) ss)) (names wanted) rs ss
    beside_local = record {
      good = (not-empty rs ss h good.0, (left_apart rs ss h good.1.0, left_stored rs));
      schema = record {
        held = λ b i. let t = some_is (type_of (side_by_side ss) b) (fair.known b i) in (t.0, beside-type b i ∙ t.1, t.1);
        within = λ b e. ap is_some (type_of-beside ss b) ∙ row_within rs ss h b (sym (ap is_some (type_of-beside rs b)) ∙ e);
      };
      fits = λ c k. k;
      step = λ c fs gs f k hr hs ag st. (beside gs, refl, subst (λ (x : Frame). Agree wanted x (beside gs)) (sym st) (agrees fs gs hr hs ag));
    }

-- plans that narrow others are valid
left_valid : (views : List Asked) (rs ts : Roses (Unit {0}) Op) → AllRelate Asked NarrowColumns AgreeOn views rs ts → AllValid rs
left_valid [] no_roses no_roses h = tt
left_valid (a ∷ views) (more (rose m o us) rs) (more t ts) h = let v = h.0.valid in (v.0, v.1, left_valid views rs ts h.1)
left_valid views rs ts h = absurd (first_of (search h))

-- of nothing everything is asked of each input
none_held : (ts : Roses (Unit {0}) Op) → sets_of (map (held_names []) (schemas ts)) ≡ each_asked all ts
none_held no_roses = refl
none_held (more (rose n op us) ts) = ap (λ (x : List Asked). all ∷ x) (none_held ts)

-- a concatenation over inputs that narrow at what it asks of them, with their columns, narrows at what it is asked
pub hconcat_narrows : (schema : Columns) (options : HConcatOptions) (l : List Name) (rs ts : Roses (Unit {0}) Op) → IsValid (rose tt (hconcat schema options) ts) → IsFair (set_of l) (side_by_side (schemas ts)) → AllRelate Asked NarrowColumns AgreeOn (sets_of (map (held_names l) (schemas ts))) rs ts → Narrows (pruned_hconcat l schema options rs) (rose tt (hconcat schema options) ts) (set_of l)
hconcat_narrows schema options [] rs ts v fair h =
    let op = hconcat schema options in
    let k : AllRelate Asked NarrowColumns AgreeOn (each_asked all ts) rs ts = subst (λ (x : List Asked). AllRelate Asked NarrowColumns AgreeOn x rs ts) (none_held ts) h in
    relates_node Asked NarrowColumns AgreeOn op op (each_asked all ts) all rs ts v k (λ q. same_all op ts (schemas rs) v.0 q)
hconcat_narrows schema options (a ∷ l) rs ts v fair h =
    let wanted = a ∷ l in
    let op = hconcat schema options in
    let is : side_by_side (stored_all rs) ≡ side_by_side (schemas rs) = ap side_by_side (stored-schemas rs (left_valid (sets_of (map (held_names wanted) (schemas ts))) rs ts h)) in
    subst (λ (x : Columns). Narrows (rose tt (hconcat x options) rs) (rose tt op ts) (names wanted)) (sym is)
    (relates_node Asked NarrowColumns AgreeOn (hconcat (side_by_side (schemas rs)) options) op (sets_of (map (held_names wanted) (schemas ts))) (names wanted) rs ts v h
    (λ q. beside_local wanted schema options (schemas ts) v.0 fair (schemas rs) q))
