-- A scan of a frame that puts out the asked names alone narrows.
use Rattle.std.proofs.Common.{◌≡◌, ℕ, true, List, [], ◌∷◌, Option, Some, None, refl, sym, ap, ◌∙◌, subst, is_some}
use Rattle.std.specs.List.{AllByRecursion}
use Rattle.plan_core.specs.declared.data_type.DataType.{DataType}
use Rattle.plan_core.specs.Columns.{Columns, names_of, type_of}
use Rattle.plan_core.specs.Names.{has, AreDistinct}
use Rattle.plan_ir.specs.Plans.{frame_scan}
use Rattle.plan_expr.specs.Leaves.{Name}
use Rattle.plan_frame.specs.Exprs.{is_type}
use Rattle.plan_meaning.specs.Checks.{is_known, is_column}
use Rattle.plan_meaning.specs.Typing.{columns_or, checks, AllHold}
use Rattle.plan_frame.specs.Frames.{Frame, cut, column_or, Agree}
use Rattle.plan_meaning.specs.Contents.{Contents, handed_in}
use Rattle.plan_meaning.specs.Steps.{Step}
use Rattle.plan_meaning.specs.Relating.{names, Holding}
use Rattle.plan_meaning.specs.Asked.{Fair}
use Rattle.plan_frame.proofs.NameSets.{some-type_of}
use Rattle.plan_frame.proofs.FrameLemmas.{agree_tables, some_type_is}
use Rattle.plan_meaning.proofs.CheckParts.{FrameGood, frame_good, good_frame}
use Rattle.plan_meaning.proofs.JoinLemmas.{distinct_differ}
use Rattle.plan_pruned.specs.Pruned.{typed_names}
use Rattle.plan_pruned.proofs.NarrowLemmas.{Local, AgreeOnAll}
use Rattle.plan_pruned.proofs.ProjectionNarrows.{some_is}
use Rattle.plan_pruned.proofs.TypedNames.{type_or, columns_at, some_or, typed-known, names-columns_at, type_of-columns_at, each_column, all_typed}

-- what is put out has the frame's types
out_type : (df : Option ℕ) (schema : Columns) (output : Option Columns) (a : Name) (t : DataType) → FrameGood df schema output → type_of (columns_or output schema) a ≡ Some t → type_of schema a ≡ Some t
out_type df schema None a t g e = e
out_type df schema (Some out) a t g e = all_typed schema out a t g.typed e

module _ (df : Option ℕ) (schema : Columns) (output : Option Columns) (wanted : List Name) (good : AllHold (checks (frame_scan df schema output) [])) (fair : Fair wanted (columns_or output schema)) where
  parts : FrameGood df schema output
  parts = frame_good df schema output good

  -- an asked name has one type in what is put out and in the frame
  typed : (a : Name) → has wanted a ≡ true → (t : DataType) × (type_of (columns_or output schema) a ≡ Some t) × (type_of schema a ≡ Some t)
  typed a i =
      let t = some_is (type_of (columns_or output schema) a) (fair.known a i) in
      (t.0, t.1, out_type df schema output a t.0 parts t.1)

  known : (a : Name) → has wanted a ≡ true → is_some (type_of schema a) ≡ true
  known a i = ap is_some (typed a i).2

  cols-are : typed_names schema wanted ≡ columns_at wanted schema
  cols-are = typed-known schema wanted known

  names-are : names_of (typed_names schema wanted) ≡ wanted
  names-are = ap names_of cols-are ∙ names-columns_at wanted schema

  type-is : (a : Name) → has wanted a ≡ true → type_of (typed_names schema wanted) a ≡ type_of schema a
  type-is a i = ap (λ (s : Columns). type_of s a) cols-are ∙ type_of-columns_at schema wanted a i ∙ sym (some_or (type_of schema a) (known a i))

  frame-column : (a : Name) → has wanted a ≡ true → is_column schema (a, type_or schema a) ≡ true
  frame-column a i = ap (λ (o : Option DataType). is_type o (type_or schema a)) (some_or (type_of schema a) (known a i)) ∙ some_type_is (type_or schema a)

  each-col : (P : Name × DataType → Type 0) → ((a : Name) → has wanted a ≡ true → P (a, type_or schema a)) → AllByRecursion P (typed_names schema wanted)
  each-col P h = subst (AllByRecursion P) (sym cols-are) (each_column P schema wanted h)

  left_good : AllHold (checks (frame_scan df schema (Some (typed_names schema wanted))) [])
  left_good = good_frame df schema (Some (typed_names schema wanted)) (record {
    known = each-col (λ (c : Name × DataType). is_known schema c.0 ≡ true) known;
    number = parts.number;
    typed = each-col (λ (c : Name × DataType). is_column schema c ≡ true) frame-column;
    differ = distinct_differ (names_of (typed_names schema wanted)) (subst AreDistinct (sym names-are) fair.once);
  })

  left_holds : Holding wanted (typed_names schema wanted) (columns_or output schema)
  left_holds = record {
    held = λ a i. let t = typed a i in (t.0, type-is a i ∙ t.2, t.1);
    within = λ a e.
        let i : has wanted a ≡ true = ap (λ (l : List Name). has l a) (sym names-are) ∙ sym (some-type_of (typed_names schema wanted) a) ∙ e in
        fair.known a i;
  }

  out-name : (a : Name) → has wanted a ≡ true → has (names_of (columns_or output schema)) a ≡ true
  out-name a i = sym (some-type_of (columns_or output schema) a) ∙ fair.known a i

  left-name : (a : Name) → has wanted a ≡ true → has (names_of (typed_names schema wanted)) a ≡ true
  left-name a i = ap (λ (l : List Name). has l a) names-are ∙ i

  left-step : (c : Contents) (fs gs : List Frame) (f : Frame) → AgreeOnAll [] fs gs → Step c (frame_scan df schema (Some (typed_names schema wanted))) fs f → (g : Frame) × Step c (frame_scan df schema output) gs g × Agree wanted f g
  left-step c [] [] f ag st =
      let h = handed_in c df in
      let agree = agree_tables wanted h.height h.height (names_of (typed_names schema wanted)) (names_of (columns_or output schema)) (column_or h) (column_or h) refl (λ b i. (left-name b i, out-name b i, refl)) in
      let g : Frame = cut (names_of (columns_or output schema)) h in
      (g, refl, subst (λ (x : Frame). Agree wanted x g) (sym st) agree)
  left-step c (f0 ∷ fs) gs f ag st = absurd ag
  left-step c [] (g0 ∷ gs) f ag st = absurd ag

  -- the narrowed scan narrows at the asked names
  pub local_frame : Local (frame_scan df schema (Some (typed_names schema wanted))) (frame_scan df schema output) [] (names wanted) [] []
  local_frame = record {
    good = left_good;
    schema = left_holds;
    fits = λ c k. k;
    step = λ c fs gs f k hr has ag st. left-step c fs gs f ag st;
  }
