-- From nodes to plans, for any family of relations of columns and of frames.
use Rattle.std.proofs.Common.{List, [], ◌∷◌}
use Rattle.plan_core.specs.Columns.{Columns}
use Rattle.plan_tree.specs.Rose.{Roses, rose, no_roses, more}
use Rattle.plan_ir.specs.Plans.{Op, Plan}
use Rattle.plan_meaning.specs.Typing.{schema_by, schema, schemas, checks, AllHold, AllValid}
use Rattle.plan_frame.specs.Frames.{Frame}
use Rattle.plan_meaning.specs.Contents.{Contents, FitsAt, FitsAll, Fits}
use Rattle.plan_meaning.specs.Steps.{Step, MayAll, May, IsValid}
use Rattle.plan_meaning.specs.Relating.{Relates}
use Rattle.plan_meaning.proofs.Runs.{valid_runs, may_have_all}
use Rattle.plan_frame.proofs.TurnLemmas.{HaveSchemas}

-- another relation of columns that is at hand, and a weaker one of frames
pub relates_to : (S T : Columns → Columns → Type 0) (F G : Frame → Frame → Type 0) (r p : Plan) → T (schema r) (schema p) → ((f g : Frame) → F f g → G f g) → Relates S F r p → Relates T G r p
relates_to S T F G r p s fg a = record {
  valid = a.valid;
  schema = s;
  fits = a.fits;
  run = a.run;
  may = λ c f k m. let x = a.may c f k m in (x.0, x.1, fg f x.0 x.2);
}

module _ (V : Type 0) (S : V → Columns → Columns → Type 0) (F : V → Frame → Frame → Type 0) where
  -- columns are related, one for one, each pair at its view
  abbrev pub SchemasRelated : List V → List Columns → List Columns → Type 0
  SchemasRelated [] [] [] = Unit {0}
  SchemasRelated (a ∷ views) (r ∷ rs) (s ∷ ss) = S a r s × SchemasRelated views rs ss
  SchemasRelated _ _ _ = ⊥

  -- frames are related, one for one, each pair at its view
  abbrev pub FramesRelated : List V → List Frame → List Frame → Type 0
  FramesRelated [] [] [] = Unit {0}
  FramesRelated (a ∷ views) (f ∷ fs) (g ∷ gs) = F a f g × FramesRelated views fs gs
  FramesRelated _ _ _ = ⊥

  -- plans are related, one for one, each pair at its view
  abbrev pub AllRelate : List V → Roses (Unit {0}) Op → Roses (Unit {0}) Op → Type 0
  AllRelate [] no_roses no_roses = Unit {0}
  AllRelate (a ∷ views) (more r rs) (more p ps) = Relates (S a) (F a) r p × AllRelate views rs ps
  AllRelate _ _ _ = ⊥

  -- what has to be shown of a node, without trees
  pub record LocalTo (o op : Op) (views : List V) (a : V) (rs ss : List Columns) : Type 0 where
    pub good : AllHold (checks o rs)
    pub schema : S a (schema_by o rs) (schema_by op ss)
    pub fits : (c : Contents) → FitsAt c op → FitsAt c o
    pub step : (c : Contents) (fs gs : List Frame) (f : Frame) → FitsAt c op → HaveSchemas fs rs → HaveSchemas gs ss → FramesRelated views fs gs → Step c o fs f → (g : Frame) × Step c op gs g × F a f g

  relate_schemas : (views : List V) (rs ps : Roses (Unit {0}) Op) → AllRelate views rs ps → SchemasRelated views (schemas rs) (schemas ps)
  relate_schemas [] no_roses no_roses h = tt
  relate_schemas (a ∷ views) (more (rose m o us) rs) (more (rose n op ts) ps) h = (h.0.schema, relate_schemas views rs ps h.1)
  relate_schemas _ _ _ h = absurd h

  relate_valid : (views : List V) (rs ps : Roses (Unit {0}) Op) → AllRelate views rs ps → AllValid rs
  relate_valid [] no_roses no_roses h = tt
  relate_valid (a ∷ views) (more (rose m o us) rs) (more p ps) h = let v = h.0.valid in (v.0, v.1, relate_valid views rs ps h.1)
  relate_valid _ _ _ h = absurd h

  relate_fits : (c : Contents) (views : List V) (rs ps : Roses (Unit {0}) Op) → AllRelate views rs ps → FitsAll c ps → FitsAll c rs
  relate_fits c [] no_roses no_roses h k = tt
  relate_fits c (a ∷ views) (more (rose m o us) rs) (more (rose n op ts) ps) h k = let x = h.0.fits c (k.0, k.1) in (x.0, x.1, relate_fits c views rs ps h.1 k.2)
  relate_fits c _ _ _ h k = absurd h

  relate_may : (c : Contents) (views : List V) (rs ps : Roses (Unit {0}) Op) (fs : List Frame) → AllRelate views rs ps → FitsAll c ps → MayAll c rs fs → (gs : List Frame) × MayAll c ps gs × FramesRelated views fs gs
  relate_may c [] no_roses no_roses [] h k m = ([], tt, tt)
  relate_may c [] no_roses no_roses (f ∷ fs) h k m = absurd m
  relate_may c (a ∷ views) (more (rose m o us) rs) (more (rose n op ts) ps) [] h k r = absurd r
  relate_may c (a ∷ views) (more (rose m o us) rs) (more (rose n op ts) ps) (f ∷ fs) h k r =
      let x = h.0.may c f (k.0, k.1) r.0 in
      let xs = relate_may c views rs ps fs h.1 k.2 r.1 in
      (x.0 ∷ xs.0, (x.1, xs.1), (x.2, xs.2))
  relate_may c _ _ _ fs h k m = absurd h

  -- a node over related inputs is related to a node, where that is shown without trees
  pub relates_node : (o op : Op) (views : List V) (a : V) (rs ps : Roses (Unit {0}) Op) → IsValid (rose tt op ps) → AllRelate views rs ps → (SchemasRelated views (schemas rs) (schemas ps) → LocalTo o op views a (schemas rs) (schemas ps)) → Relates (S a) (F a) (rose tt o rs) (rose tt op ps)
  relates_node o op views a rs ps v h by =
      let l = by (relate_schemas views rs ps h) in
      let vr : IsValid (rose tt o rs) = (l.good, relate_valid views rs ps h) in
      record {
        valid = vr;
        schema = l.schema;
        fits = λ c k. (l.fits c k.0, relate_fits c views rs ps h k.1);
        run = λ c k. valid_runs c (rose tt o rs) vr (l.fits c k.0, relate_fits c views rs ps h k.1);
        may = λ c f k r.
            let x = relate_may c views rs ps r.0 h k.1 r.1 in
            let y = l.step c r.0 x.0 f k.0 (may_have_all c rs r.0 vr.1 (relate_fits c views rs ps h k.1) r.1) (may_have_all c ps x.0 v.1 k.1 x.1) x.2 r.2 in
            (y.0, (x.0, x.1, y.1), y.2);
      }

  -- one node more on top of a plan, related to what the plan is related to
  pub relates_top : (o : Op) (a b : V) (r p : Plan) → AllHold (checks o (schema r ∷ [])) → S b (schema_by o (schema r ∷ [])) (schema p) → ((c : Contents) → FitsAt c o) → ((c : Contents) (f g h : Frame) → HaveSchemas (g ∷ []) (schema p ∷ []) → F a f g → Step c o (f ∷ []) h → F b h g) → IsValid p → Relates (S a) (F a) r p → Relates (S b) (F b) (rose tt o (more r no_roses)) p
  relates_top o a b (rose m o' us) (rose n op ts) good s fit by v h =
      let r : Plan = rose m o' us in
      let p : Plan = rose n op ts in
      let vr : IsValid (rose tt o (more r no_roses)) = (good, (h.valid.0, h.valid.1, tt)) in
      let down : (c : Contents) → Fits c p → Fits c (rose tt o (more r no_roses)) = λ c k. let x = h.fits c k in (fit c, (x.0, x.1, tt)) in
      record {
        valid = vr;
        schema = s;
        fits = down;
        run = λ c k. valid_runs c (rose tt o (more r no_roses)) vr (down c k);
        may = λ c f k m. on_top c f k m.0 m.1 m.2;
      }
    where
      on_top : (c : Contents) (f : Frame) → Fits c (rose n op ts) → (fs : List Frame) → MayAll c (more (rose m o' us) no_roses) fs → Step c o fs f → (g : Frame) × May c (rose n op ts) g × F b f g
      on_top c f k [] r st = absurd r
      on_top c f k (f0 ∷ f1 ∷ fs) r st = absurd r.1
      on_top c f k (f0 ∷ []) r st =
          let x = h.may c f0 k r.0 in
          let has = may_have_all c (more (rose n op ts) no_roses) (x.0 ∷ []) (v.0, v.1, tt) (k.0, k.1, tt) (x.1, tt) in
          (x.0, x.1, by c f0 x.0 f has x.2 st)

  -- a node left out: what is related to its input is related to it
  pub relates_drop : (op : Op) (a b : V) (r p : Plan) → IsValid (rose tt op (more p no_roses)) → S b (schema r) (schema_by op (schema p ∷ [])) → ((c : Contents) (f g : Frame) → FitsAt c op → HaveSchemas (g ∷ []) (schema p ∷ []) → F a f g → (h : Frame) × Step c op (g ∷ []) h × F b f h) → Relates (S a) (F a) r p → Relates (S b) (F b) r (rose tt op (more p no_roses))
  relates_drop op a b r (rose n o ts) v s by h = record {
    valid = h.valid;
    schema = s;
    fits = λ c k. h.fits c (k.1.0, k.1.1);
    run = λ c k. h.run c (k.1.0, k.1.1);
    may = λ c f k m.
        let x = h.may c f (k.1.0, k.1.1) m in
        let has = may_have_all c (more (rose n o ts) no_roses) (x.0 ∷ []) v.1 k.1 (x.1, tt) in
        let y = by c f x.0 k.0 has x.2 in
        (y.0, (x.0 ∷ [], (x.1, tt), y.1), y.2);
  }
