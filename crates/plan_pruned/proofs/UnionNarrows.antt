-- A union over inputs that narrow at what it is asked.
use Rattle.std.proofs.Common.{◌≡◌, ℕ, zero, suc, ◌+◌, zero-add, suc-add, Bool, true, false, cond, List, [], ◌∷◌, ◌++◌, Some, unwrap_or, replicate, refl, sym, ap, ap₂, ◌∙◌, subst}
use Rattle.std.specs.Str.{bytes_eq}
use Rattle.plan_core.specs.Columns.{Columns}
use Rattle.plan_options.specs.declared.union.UnionOptions.{UnionOptions}
use Rattle.plan_tree.specs.Rose.{Roses, rose, no_roses, more}
use Rattle.plan_expr.specs.Leaves.{Name}
use Rattle.plan_ir.specs.Plans.{Op, union}
use Rattle.plan_frame.specs.Values.{Value, null}
use Rattle.plan_meaning.specs.Typing.{first_schema, schema_by, schemas, checks, AllHold, AllValid}
use Rattle.plan_frame.specs.Frames.{Frame, Column, found, column_or, HaveTypes, HasSchema, rows_at, table_columns, cut, appended_columns, appended, in_turn, Agree}
use Rattle.plan_frame.specs.Orders.{AreAll}
use Rattle.plan_meaning.specs.Contents.{Contents}
use Rattle.plan_meaning.specs.Steps.{Step, IsValid}
use Rattle.plan_meaning.specs.Relating.{Asked, all, names, Holding, NarrowColumns, AgreeOn, Narrows}
use Rattle.plan_meaning.specs.Asked.{set_of, Fair, IsFair}
use Rattle.plan_frame.proofs.FrameLemmas.{agree_rows}
use Rattle.plan_frame.proofs.TurnLemmas.{HaveSchemas, AllAre, in_turn_has}
use Rattle.plan_meaning.proofs.UnionLemmas.{union_inputs, union_whole, union_good, never_built}
use Rattle.plan_meaning.proofs.Related.{SchemasRelated, FramesRelated, AllRelate, LocalTo, relates_node}
use Rattle.plan_pruned.specs.Pruned.{covered_each, covered_if, are_several, typed_names}
use Rattle.plan_pruned.proofs.AskedNames.{each_asked}
use Rattle.plan_pruned.proofs.NarrowLemmas.{Local, one_step}
use Rattle.plan_pruned.proofs.CoverNarrows.{View, seen, exactly, SeeColumns, SeeFrames, typed_holds, cut_agrees, covered_exact}

-- columns that follow each other

replicate-add : (h i : ℕ) → replicate (h + i) null ≡ replicate h null ++ replicate i null
replicate-add zero i = rw (zero-add i) refl
replicate-add (suc h) i = rw (suc-add h i) (ap (λ (x : List Value). null ∷ x) (replicate-add h i))

or_append : (h i : ℕ) (s : Columns) (a : Name) (cs ds : List Column) → HaveTypes h cs s → HaveTypes i ds s → (j k : ℕ) → unwrap_or (found (appended_columns cs ds) a) (replicate (j + k) null) ≡ unwrap_or (found cs a) (replicate j null) ++ unwrap_or (found ds a) (replicate k null)
or_append h i [] a [] [] p q j k = replicate-add j k
or_append h i (x ∷ s) a (c ∷ cs) (d ∷ ds) p q j k = at (bytes_eq a c.name) (bytes_eq a d.name) (ap (bytes_eq a) (p.0 ∙ sym q.0)) (or_append h i s a cs ds p.3 q.3 j k)
  where
    at : (t u : Bool) → t ≡ u → unwrap_or (found (appended_columns cs ds) a) (replicate (j + k) null) ≡ unwrap_or (found cs a) (replicate j null) ++ unwrap_or (found ds a) (replicate k null) → unwrap_or (cond t (Some (c.values ++ d.values)) (found (appended_columns cs ds) a)) (replicate (j + k) null) ≡ unwrap_or (cond t (Some c.values) (found cs a)) (replicate j null) ++ unwrap_or (cond u (Some d.values) (found ds a)) (replicate k null)
    at true true e r = refl
    at false false e r = r
    at true false e r = cc
    at false true e r = cc
or_append h i s a cs ds p q j k = absurd (first_of (search p, search q))

-- frames that are cut follow each other as the frames do
append_cut : (wanted : List Name) (s : Columns) (f g : Frame) → HasSchema f s → HasSchema g s → appended_columns (table_columns wanted (column_or f)) (table_columns wanted (column_or g)) ≡ table_columns wanted (column_or (appended f g))
append_cut [] s f g p q = refl
append_cut (a ∷ wanted) s f g p q =
    ap₂ (λ (vs : List Value) (cs : List Column). record { name = a; values = vs } ∷ cs) (sym (or_append f.height g.height s a f.columns g.columns p q f.height g.height)) (append_cut wanted s f g p q)

appended_cut : (wanted : List Name) (s : Columns) (f g : Frame) → HasSchema f s → HasSchema g s → appended (cut wanted f) (cut wanted g) ≡ cut wanted (appended f g)
appended_cut wanted s f g p q = ap (λ (cs : List Column). record { height = f.height + g.height; columns = cs }) (append_cut wanted s f g p q)

-- the same view of each of some columns
abbrev views : List Name → List Columns → List View
views wanted [] = []
views wanted (s ∷ ss) = exactly wanted ∷ views wanted ss

abbrev SeeSchemas : List View → List Columns → List Columns → Type 0
SeeSchemas = SchemasRelated View SeeColumns SeeFrames

abbrev SeeAll : List View → List Frame → List Frame → Type 0
SeeAll = FramesRelated View SeeColumns SeeFrames

cut_in_turn : (wanted : List Name) (s t : Columns) (ss : List Columns) (fs gs : List Frame) → AllAre s (t ∷ ss) → HaveSchemas gs (t ∷ ss) → SeeAll (views wanted (t ∷ ss)) fs gs → in_turn fs ≡ cut wanted (in_turn gs)
cut_in_turn wanted s t [] (f ∷ []) (g ∷ []) e h ag = ag.0
cut_in_turn wanted s t (u ∷ ss) (f ∷ f1 ∷ fs) (g ∷ g1 ∷ gs) e h ag =
    ap₂ appended ag.0 (cut_in_turn wanted s u ss (f1 ∷ fs) (g1 ∷ gs) e.1 h.1 ag.1)
    ∙ appended_cut wanted s g (in_turn (g1 ∷ gs)) (subst (HasSchema g) e.0 h.0) (in_turn_has s u ss (g1 ∷ gs) e.1 h.1)
cut_in_turn wanted s t ss fs [] e h ag = absurd h
cut_in_turn wanted s t ss [] (g ∷ gs) e h ag = absurd ag
cut_in_turn wanted s t [] (f ∷ f1 ∷ fs) (g ∷ gs) e h ag = absurd ag.1
cut_in_turn wanted s t [] (f ∷ []) (g ∷ g1 ∷ gs) e h ag = absurd h.1
cut_in_turn wanted s t (u ∷ ss) (f ∷ []) (g ∷ gs) e h ag = absurd ag.1
cut_in_turn wanted s t (u ∷ ss) (f ∷ f1 ∷ fs) (g ∷ []) e h ag = absurd h.1

-- inputs that have the asked columns alone

exact_are : (wanted : List Name) (s : Columns) (ss rs : List Columns) → AllAre s ss → SeeSchemas (views wanted ss) rs ss → AllAre (typed_names s wanted) rs
exact_are wanted s [] [] e h = tt
exact_are wanted s (t ∷ ss) (r ∷ rs) e h = (h.0 ∙ ap (λ (x : Columns). typed_names x wanted) e.0, exact_are wanted s ss rs e.1 h.1)
exact_are wanted s [] (r ∷ rs) e h = absurd h
exact_are wanted s (t ∷ ss) [] e h = absurd h

module _ (options : UnionOptions) (wanted : List Name) (s : Columns) (ss : List Columns) (good : AllHold (checks (union options) (s ∷ ss))) (fair : Fair wanted s) where
  same : AllAre s (s ∷ ss)
  same = union_inputs options (s ∷ ss) good

  union_step : (c : Contents) (fs gs : List Frame) (f : Frame) → HaveSchemas gs (s ∷ ss) → SeeAll (views wanted (s ∷ ss)) fs gs → Step c (union options) fs f → (g : Frame) × Step c (union options) gs g × Agree wanted f g
  union_step c fs gs f has ag st =
      let whole = in_turn gs in
      let is : in_turn fs ≡ cut wanted whole = cut_in_turn wanted s s ss fs gs same has ag in
      let rows = st.0 in
      let agree = agree_rows (λ a. a) wanted rows (cut wanted whole) whole (cut_agrees wanted s fair whole (in_turn_has s s ss gs same has)) in
      (rows_at rows whole, (rows, subst (λ (n : ℕ). AreAll options.maintain_order n rows) (ap (λ (x : Frame). x.height) is) st.1, refl), subst (λ (x : Frame). Agree wanted x (rows_at rows whole)) (sym (st.2 ∙ ap (rows_at rows) is)) agree)

  union_local : (rs : List Columns) → SeeSchemas (views wanted (s ∷ ss)) rs (s ∷ ss) → LocalTo View SeeColumns SeeFrames (union options) (union options) (views wanted (s ∷ ss)) (seen (names wanted)) rs (s ∷ ss)
  union_local [] h = absurd h
  union_local (r ∷ rs) h =
      let are = exact_are wanted s (s ∷ ss) (r ∷ rs) same h in
      record {
        good = union_good options r rs (union_whole options (s ∷ ss) good) (subst (λ (x : Columns). AllAre x (r ∷ rs)) (sym are.0) are);
        schema = subst (λ (x : Columns). Holding wanted x s) (sym are.0) (typed_holds wanted s fair);
        fits = λ c k. k;
        step = λ c fs gs f k hr has ag st. union_step c fs gs f has ag st;
      }

-- each input that narrows has under its projection the asked columns alone
covered_relate : (a : Name) (l : List Name) (s : Columns) (rs ts : Roses (Unit {0}) Op) → AllValid ts → AllAre s (schemas ts) → Fair (a ∷ l) s → AllRelate Asked NarrowColumns AgreeOn (each_asked (names (a ∷ l)) ts) rs ts → AllRelate View SeeColumns SeeFrames (views (a ∷ l) (schemas ts)) (covered_each (a ∷ l) rs) ts
covered_relate a l s no_roses no_roses v e fair h = tt
covered_relate a l s (more r rs) (more (rose n op us) ts) v e fair h =
    (covered_exact a l (rose n op us) (v.0, v.1) (subst (Fair (a ∷ l)) (sym e.0) fair) r h.0, covered_relate a l s rs ts v.2 e.1 fair h.1)
covered_relate a l s no_roses (more t ts) v e fair h = absurd h
covered_relate a l s (more r rs) no_roses v e fair h = absurd h

-- one input alone

single_step : (c : Contents) (options : UnionOptions) (wanted : List Name) (f0 g0 f : Frame) → Agree wanted f0 g0 → Step c (union options) (f0 ∷ []) f → (g : Frame) × Step c (union options) (g0 ∷ []) g × Agree wanted f g
single_step c options wanted f0 g0 f ag st =
    let rows = st.0 in
    (rows_at rows g0, (rows, subst (λ (n : ℕ). AreAll options.maintain_order n rows) ag.height st.1, refl), subst (λ (x : Frame). Agree wanted x (rows_at rows g0)) (sym st.2) (agree_rows (λ a. a) wanted rows f0 g0 ag))

single_local : (options : UnionOptions) (wanted : List Name) (r s : Columns) → AllHold (checks (union options) (s ∷ [])) → Holding wanted r s → Local (union options) (union options) (names wanted ∷ []) (names wanted) (r ∷ []) (s ∷ [])
single_local options wanted r s good h = record {
  good = union_good options r [] (union_whole options (s ∷ []) good) (refl, tt);
  schema = h;
  fits = λ c k. k;
  step = λ c fs gs f k hr has ag st. one_step c (union options) (union options) (names wanted) (names wanted) r s (λ f0 g0 f hr hs ag st. single_step c options wanted f0 g0 f ag st) fs gs f hr has ag st;
}

-- everything asked

schemas_equal : (ts : Roses (Unit {0}) Op) (rs : List Columns) → SchemasRelated Asked NarrowColumns AgreeOn (each_asked all ts) rs (schemas ts) → rs ≡ schemas ts
schemas_equal no_roses [] h = refl
schemas_equal (more (rose n op us) ts) (r ∷ rs) h = ap₂ (λ (x : Columns) (y : List Columns). x ∷ y) h.0 (schemas_equal ts rs h.1)
schemas_equal no_roses (r ∷ rs) h = absurd h
schemas_equal (more (rose n op us) ts) [] h = absurd h

frames_equal : (ts : Roses (Unit {0}) Op) (fs gs : List Frame) → FramesRelated Asked NarrowColumns AgreeOn (each_asked all ts) fs gs → fs ≡ gs
frames_equal no_roses [] [] h = refl
frames_equal (more t ts) (f ∷ fs) (g ∷ gs) h = ap₂ (λ (x : Frame) (y : List Frame). x ∷ y) h.0 (frames_equal ts fs gs h.1)
frames_equal no_roses [] (g ∷ gs) h = absurd h
frames_equal no_roses (f ∷ fs) gs h = absurd h
frames_equal (more t ts) [] gs h = absurd h
frames_equal (more t ts) (f ∷ fs) [] h = absurd h

pub same_all : (op : Op) (ts : Roses (Unit {0}) Op) (rs : List Columns) → AllHold (checks op (schemas ts)) → SchemasRelated Asked NarrowColumns AgreeOn (each_asked all ts) rs (schemas ts) → Local op op (each_asked all ts) all rs (schemas ts)
same_all op ts rs good h = record {
  good = subst (λ (x : List Columns). AllHold (checks op x)) (sym (schemas_equal ts rs h)) good;
  schema = ap (schema_by op) (schemas_equal ts rs h);
  fits = λ c k. k;
  step = λ c fs gs f k hr has ag st. (f, subst (λ (x : List Frame). Step c op x f) (frames_equal ts fs gs ag) st, refl);
}

pub covered_none : (rs : Roses (Unit {0}) Op) → covered_each [] rs ≡ rs
covered_none no_roses = refl
covered_none (more r rs) = ap (λ (x : Roses (Unit {0}) Op). more r x) (covered_none rs)

covered_if_none : (b : Bool) (rs : Roses (Unit {0}) Op) → covered_if b [] rs ≡ rs
covered_if_none true rs = covered_none rs
covered_if_none false rs = refl

-- a union over inputs that narrow at what it is asked, each of more than one under a projection to that, narrows at it
pub union_narrows : (options : UnionOptions) (l : List Name) (rs ts : Roses (Unit {0}) Op) → IsValid (rose tt (union options) ts) → IsFair (set_of l) (first_schema (schemas ts)) → AllRelate Asked NarrowColumns AgreeOn (each_asked (set_of l) ts) rs ts → Narrows (rose tt (union options) (covered_if (are_several rs) l rs)) (rose tt (union options) ts) (set_of l)
union_narrows options [] rs ts v fair h =
    subst (λ (x : Roses (Unit {0}) Op). Narrows (rose tt (union options) x) (rose tt (union options) ts) all) (sym (covered_if_none (are_several rs) rs))
    (relates_node Asked NarrowColumns AgreeOn (union options) (union options) (each_asked all ts) all rs ts v h (λ k. same_all (union options) ts (schemas rs) v.0 k))
union_narrows options (a ∷ l) (more (rose m o us) no_roses) (more (rose n op vs) no_roses) v fair h =
    relates_node Asked NarrowColumns AgreeOn (union options) (union options) (names (a ∷ l) ∷ []) (names (a ∷ l)) (more (rose m o us) no_roses) (more (rose n op vs) no_roses) v h
    (λ k. single_local options (a ∷ l) (schema_by o (schemas us)) (schema_by op (schemas vs)) v.0 k.0)
union_narrows options (a ∷ l) (more r (more r1 rs)) (more (rose n op vs) (more t1 ts)) v fair h =
    let all_of = more (rose n op vs) (more t1 ts) in
    let s = schema_by op (schemas vs) in
    relates_node View SeeColumns SeeFrames (union options) (union options) (views (a ∷ l) (schemas all_of)) (seen (names (a ∷ l))) (covered_each (a ∷ l) (more r (more r1 rs))) all_of v
    (covered_relate a l s (more r (more r1 rs)) all_of v.1 (union_inputs options (schemas all_of) v.0) fair h)
    (λ k. union_local options (a ∷ l) s (schemas (more t1 ts)) v.0 fair (schemas (covered_each (a ∷ l) (more r (more r1 rs)))) k)
union_narrows options (a ∷ l) rs no_roses v fair h = absurd (never_built options [] refl v.0.0)
union_narrows options (a ∷ l) no_roses (more t ts) v fair h = absurd h
union_narrows options (a ∷ l) (more r no_roses) (more t (more t1 ts)) v fair h = absurd h.1
union_narrows options (a ∷ l) (more r (more r1 rs)) (more t no_roses) v fair h = absurd h.1
