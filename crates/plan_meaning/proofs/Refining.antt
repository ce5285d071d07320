-- The laws of refinement.
use Rattle.std.proofs.Common.{◌≡◌, List, [], ◌∷◌, refl, sym, ap, ap₂, ◌∙◌, subst, inl, inr, ◌⊎◌}
use Rattle.plan_core.specs.Columns.{Columns}
use Rattle.plan_tree.specs.Rose.{Roses, rose, no_roses, more}
use Rattle.plan_ir.specs.Plans.{Op, Plan}
use Rattle.plan_meaning.specs.Typing.{schema_by, schemas, checks, AllHold, AllValid}
use Rattle.plan_frame.specs.Frames.{Frame}
use Rattle.plan_meaning.specs.Contents.{Contents, FitsAll}
use Rattle.plan_meaning.specs.Steps.{MayAll, May, IsValid}
use Rattle.plan_meaning.specs.Relating.{Refines, EachRefines, Relates, Replaced, ReplacedAll}
use Rattle.plan_meaning.proofs.Runs.{valid_runs}

pub refines_refl : (p : Plan) → IsValid p → Refines p p
refines_refl p v = record {
  valid = v;
  schema = refl;
  fits = λ c h. h;
  run = λ c h. valid_runs c p v h;
  may = λ c f h m. m;
}

pub refines_trans : (r q p : Plan) → Refines r q → Refines q p → Refines r p
refines_trans r q p a b = record {
  valid = a.valid;
  schema = a.schema ∙ b.schema;
  fits = λ c h. a.fits c (b.fits c h);
  run = λ c h. a.run c (b.fits c h);
  may = λ c f h m. b.may c f h (a.may c f (b.fits c h) m);
}

schemas_same : (qs ps : Roses (Unit {0}) Op) → EachRefines qs ps → schemas qs ≡ schemas ps
schemas_same no_roses no_roses h = refl
schemas_same (more (rose m o us) qs) (more (rose n op ts) ps) h = ap₂ (λ (s : Columns) (ss : List Columns). s ∷ ss) h.0.schema (schemas_same qs ps h.1)
schemas_same no_roses (more p ps) h = absurd h
schemas_same (more q qs) no_roses h = absurd h

valid_all : (qs ps : Roses (Unit {0}) Op) → EachRefines qs ps → AllValid qs
valid_all no_roses no_roses h = tt
valid_all (more (rose m o us) qs) (more (rose n op ts) ps) h = let v = h.0.valid in (v.0, v.1, valid_all qs ps h.1)
valid_all no_roses (more p ps) h = absurd h
valid_all (more (rose m o us) qs) no_roses h = absurd h

fits_all : (c : Contents) (qs ps : Roses (Unit {0}) Op) → EachRefines qs ps → FitsAll c ps → FitsAll c qs
fits_all c no_roses no_roses h k = tt
fits_all c (more (rose m o us) qs) (more (rose n op ts) ps) h k = let a = h.0.fits c (k.0, k.1) in (a.0, a.1, fits_all c qs ps h.1 k.2)
fits_all c no_roses (more p ps) h k = absurd h
fits_all c (more (rose m o us) qs) no_roses h k = absurd h

may_all : (c : Contents) (qs ps : Roses (Unit {0}) Op) (fs : List Frame) → EachRefines qs ps → FitsAll c ps → MayAll c qs fs → MayAll c ps fs
may_all c no_roses no_roses [] h k m = tt
may_all c no_roses no_roses (f ∷ fs) h k m = absurd m
may_all c (more (rose m o us) qs) (more (rose n op ts) ps) [] h k r = absurd r
may_all c (more (rose m o us) qs) (more (rose n op ts) ps) (f ∷ fs) h k r = (h.0.may c f (k.0, k.1) r.0, may_all c qs ps fs h.1 k.2 r.1)
may_all c no_roses (more p ps) fs h k m = absurd h
may_all c (more (rose m o us) qs) no_roses fs h k r = absurd h

-- a node over inputs that refine others refines it over those
pub refines_node : (op : Op) (qs ps : Roses (Unit {0}) Op) → IsValid (rose tt op ps) → EachRefines qs ps → Refines (rose tt op qs) (rose tt op ps)
refines_node op qs ps v h =
    let e = schemas_same qs ps h in
    let vq : IsValid (rose tt op qs) = (subst (λ (ss : List Columns). AllHold (checks op ss)) (sym e) v.0, valid_all qs ps h) in
    record {
      valid = vq;
      schema = ap (schema_by op) e;
      fits = λ c k. (k.0, fits_all c qs ps h k.1);
      run = λ c k. valid_runs c (rose tt op qs) vq (k.0, fits_all c qs ps h k.1);
      may = λ c f k r. (r.0, may_all c qs ps r.0 h k.1 r.1, r.2);
    }

-- plans with one of them in the place of one that it refines
pub replaced_refine : (q p : Plan) → Refines q p → (us ts : Roses (Unit {0}) Op) → AllValid ts → ReplacedAll q p us ts → EachRefines us ts
replaced_refine q p h no_roses no_roses v r = tt
replaced_refine q p h no_roses (more t ts) v r = absurd r
replaced_refine q p h (more u us) no_roses v r = absurd r
replaced_refine q p h (more (rose m o us) others) (more (rose n op ts) rest) v r = (
  here r.0 (λ x. replaced_refine q p h us ts v.1 x),
  replaced_refine q p h others rest v.2 r.1,
)
  where
    under : o ≡ op → EachRefines us ts → Refines (rose tt o us) (rose tt op ts)
    under e below = subst (λ (x : Op). Refines (rose tt x us) (rose tt op ts)) (sym e) (refines_node op us ts (v.0, v.1) below)

    here : ((rose m o us ≡ q) × (rose n op ts ≡ p)) ⊎ ((o ≡ op) × ReplacedAll q p us ts) → (ReplacedAll q p us ts → EachRefines us ts) → Refines (rose m o us) (rose n op ts)
    here (inl e) below = subst (λ (x : Plan). Refines x (rose n op ts)) (sym e.0) (subst (λ (x : Plan). Refines q x) (sym e.1) h)
    here (inr e) below = under e.0 (below e.1)

-- a plan with a subplan replaced by one that refines it refines the plan
pub refines_replaced : (q p u t : Plan) → Refines q p → IsValid t → Replaced q p u t → Refines u t
refines_replaced q p (rose m o us) (rose n op ts) h v r = (replaced_refine q p h (more (rose m o us) no_roses) (more (rose n op ts) no_roses) (v.0, v.1, tt) r).0

-- what is related by equality of columns and frames refines
pub relates_refines : (r p : Plan) → Relates (λ s t. s ≡ t) (λ f g. f ≡ g) r p → Refines r p
relates_refines r p h = record {
  valid = h.valid;
  schema = h.schema;
  fits = h.fits;
  run = h.run;
  may = λ c f k m. let x = h.may c f k m in subst (May c p) (sym x.2) x.1;
}
