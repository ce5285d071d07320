-- A projection to the asked names on top of a plan that narrows at them.
use Rattle.std.proofs.Common.{◌≡◌, true, false, List, [], ◌∷◌, Option, Some, unwrap_or, replicate, option_map, refl, sym, ap, ap₂, ◌∙◌, subst}
use Rattle.std.specs.List.{AllByRecursion, cons_option}
use Rattle.plan_core.specs.declared.data_type.DataType.{DataType}
use Rattle.plan_core.specs.Columns.{Columns, names_of, type_of}
use Rattle.plan_core.specs.Names.{has, AreDistinct}
use Rattle.plan_tree.specs.Rose.{rose, no_roses, more}
use Rattle.plan_expr.specs.Leaves.{Name}
use Rattle.plan_ir.specs.Plans.{simple_projection, Plan}
use Rattle.plan_frame.specs.Exprs.{is_type}
use Rattle.plan_frame.specs.Values.{Value, null}
use Rattle.plan_meaning.specs.Checks.{is_column, is_empty}
use Rattle.plan_meaning.specs.Typing.{first_schema, schema, checks, AllHold}
use Rattle.plan_frame.specs.Frames.{Frame, HasSchema, column_or, cut, Agree}
use Rattle.plan_meaning.specs.Steps.{IsValid}
use Rattle.plan_meaning.specs.Relating.{Asked, all, names, Holding, NarrowColumns, AgreeOn, Narrows, Relates}
use Rattle.plan_meaning.specs.Asked.{Fair}
use Rattle.plan_frame.proofs.NameSets.{has_first, has_later, some-type_of}
use Rattle.plan_frame.proofs.FrameLemmas.{cut_same, found-table, schema_holds, some_type_is}
use Rattle.plan_meaning.proofs.Runs.{valid_runs}
use Rattle.plan_meaning.proofs.Related.{relates_top}
use Rattle.plan_pruned.specs.Pruned.{covered, typed_names}
use Rattle.plan_schema.specs.Stored.{stored_all}
use Rattle.plan_pruned.proofs.NarrowLemmas.{holding_same}
use Rattle.plan_pruned.proofs.ProjectionNarrows.{some_is}
use Rattle.plan_meaning.proofs.AskedSets.{columns_good}
use Rattle.plan_pruned.proofs.TypedNames.{type_or, columns_at, some_or, typed-known, names-columns_at, type_of-columns_at, each_column}
use Rattle.plan_schema.proofs.StoredLemmas.{stored-schemas}

-- how much of a plan is seen: what is asked, or these columns alone
pub data View : Type 0 where
  seen : Asked → View
  exactly : List Name → View

-- columns are the same as far as they are seen
abbrev pub SeeColumns : View → Columns → Columns → Type 0
SeeColumns (seen a) r s = NarrowColumns a r s
SeeColumns (exactly wanted) r s = r ≡ typed_names s wanted

-- frames are the same as far as they are seen
abbrev pub SeeFrames : View → Frame → Frame → Type 0
SeeFrames (seen a) f g = AgreeOn a f g
SeeFrames (exactly wanted) f g = f ≡ cut wanted g

-- names with their types, where these are the same
typed_same : (r s : Columns) (wanted : List Name) → ((a : Name) → has wanted a ≡ true → type_of r a ≡ type_of s a) → typed_names r wanted ≡ typed_names s wanted
typed_same r s [] same = refl
typed_same r s (a ∷ wanted) same =
    ap₂ (λ (o : Option DataType) (cs : Columns). cons_option (option_map (λ (d : DataType). (a, d)) o) cs) (same a (has_first a wanted)) (typed_same r s wanted (λ b i. same b (has_later a wanted b i)))

module _ (wanted : List Name) (s : Columns) (fair : Fair wanted s) where
  cols-are : typed_names s wanted ≡ columns_at wanted s
  cols-are = typed-known s wanted fair.known

  pub names-are : names_of (typed_names s wanted) ≡ wanted
  names-are = ap names_of cols-are ∙ names-columns_at wanted s

  type-is : (a : Name) → has wanted a ≡ true → type_of (typed_names s wanted) a ≡ type_of s a
  type-is a i = ap (λ (x : Columns). type_of x a) cols-are ∙ type_of-columns_at s wanted a i ∙ sym (some_or (type_of s a) (fair.known a i))

  -- the asked columns narrow the columns
  pub typed_holds : Holding wanted (typed_names s wanted) s
  typed_holds = record {
    held = λ a i. let t = some_is (type_of s a) (fair.known a i) in (t.0, type-is a i ∙ t.1, t.1);
    within = λ a e.
        let i : has wanted a ≡ true = ap (λ (l : List Name). has l a) (sym names-are) ∙ sym (some-type_of (typed_names s wanted) a) ∙ e in
        fair.known a i;
  }

  -- a frame that is cut to the asked names agrees on them
  pub cut_agrees : (g : Frame) → HasSchema g s → Agree wanted (cut wanted g) g
  cut_agrees g has' = record {
    height = refl;
    same = λ a i.
        let t = some_is (type_of s a) (fair.known a i) in
        let held = schema_holds g s a t.0 has' t.1 in
        let here : column_or g a ≡ held.0 = ap (λ (o : Option (List Value)). unwrap_or o (replicate g.height null)) held.1 in
        found-table (column_or g) wanted a i ∙ ap (λ (x : List Value). Some x) here ∙ sym held.1;
  }

  some_left : is_empty (typed_names s wanted) ≡ false
  some_left = at wanted fair.some (typed_names s wanted) names-are
    where
      at : (l : List Name) → is_empty l ≡ false → (cs : Columns) → names_of cs ≡ l → is_empty cs ≡ false
      at [] e cs q = cc
      at (a ∷ l) e [] q = cc
      at (a ∷ l) e (c ∷ cs) q = refl

  -- over columns that narrow these at the asked names
  module _ (r : Columns) (h : Holding wanted r s) where
    pub typed_are : typed_names r wanted ≡ typed_names s wanted
    typed_are = typed_same r s wanted (λ a i. holding_same wanted r s h a i)

    -- a projection to them is valid
    pub typed_good : AllHold (checks (simple_projection (typed_names r wanted)) (r ∷ []))
    typed_good =
        subst (λ (cs : Columns). AllHold (checks (simple_projection cs) (r ∷ []))) (sym typed_are)
        (columns_good r (typed_names s wanted) some_left (subst AreDistinct (sym names-are) fair.once)
        (subst (AllByRecursion (λ (c : Name × DataType). is_column r c ≡ true)) (sym cols-are)
        (each_column (λ (c : Name × DataType). is_column r c ≡ true) s wanted (λ a i.
        ap (λ (o : Option DataType). is_type o (type_or s a)) (holding_same wanted r s h a i ∙ some_or (type_of s a) (fair.known a i)) ∙ some_type_is (type_or s a)))))

-- columns narrow themselves at names that can be asked of them
own_holds : (wanted : List Name) (s : Columns) → Fair wanted s → Holding wanted s s
own_holds wanted s fair = record { held = λ b i. let t = some_is (type_of s b) (fair.known b i) in (t.0, t.1, t.1); within = λ b e. e }

-- the columns that a valid plan says it has
stored_is : (r : Plan) → IsValid r → first_schema (stored_all (more r no_roses)) ≡ schema r
stored_is (rose m o us) v = ap first_schema (stored-schemas (more (rose m o us) no_roses) (v.0, v.1, tt))

module _ (a : Name) (l : List Name) (p : Plan) (v : IsValid p) (fair : Fair (a ∷ l) (schema p)) where
  abbrev wanted : List Name
  wanted = a ∷ l

  -- under a projection to the asked names a plan that narrows has these columns alone
  pub covered_exact : (r : Plan) → Narrows r p (names (a ∷ l)) → Relates (SeeColumns (exactly (a ∷ l))) (SeeFrames (exactly (a ∷ l))) (covered (a ∷ l) r) p
  covered_exact r h =
      let s = schema p in
      let cs = typed_names (schema r) wanted in
      let are : cs ≡ typed_names s wanted = typed_are wanted s fair (schema r) h.schema in
      let named : names_of cs ≡ wanted = ap names_of are ∙ names-are wanted s fair in
      subst (λ (x : Columns). Relates (SeeColumns (exactly wanted)) (SeeFrames (exactly wanted)) (rose tt (simple_projection (typed_names x wanted)) (more r no_roses)) p) (sym (stored_is r h.valid))
      (relates_top View SeeColumns SeeFrames (simple_projection cs) (seen (names wanted)) (exactly wanted) r p (typed_good wanted s fair (schema r) h.schema) are (λ c. tt)
      (λ c f g x has' ag st. st ∙ ap (λ (n : List Name). cut n f) named ∙ cut_same wanted f g ag) v h)

  -- a plan under a projection to the asked names narrows itself
  pub covered_narrows : Narrows (covered (a ∷ l) p) p (names (a ∷ l))
  covered_narrows =
      let s = schema p in
      let cs = typed_names s wanted in
      let own : Holding wanted s s = own_holds wanted s fair in
      subst (λ (x : Columns). Narrows (rose tt (simple_projection (typed_names x wanted)) (more p no_roses)) p (names wanted)) (sym (stored_is p v))
      (relates_top View SeeColumns SeeFrames (simple_projection cs) (seen all) (seen (names wanted)) p p (typed_good wanted s fair s own) (typed_holds wanted s fair) (λ c. tt)
      (λ c f g x has' ag st. subst (λ (y : Frame). Agree wanted y g) (sym (st ∙ ap (λ (n : List Name). cut n f) (names-are wanted s fair) ∙ ap (cut wanted) ag)) (cut_agrees wanted s fair g has'.0)) v
      (record { valid = v; schema = refl; fits = λ c k. k; run = λ c k. valid_runs c p v k; may = λ c f k m. (f, m, refl) }))

-- a plan narrows itself where everything is asked
pub narrows_self : (p : Plan) → IsValid p → Narrows p p all
narrows_self p v = record { valid = v; schema = refl; fits = λ c k. k; run = λ c k. valid_runs c p v k; may = λ c f k m. (f, m, refl) }
