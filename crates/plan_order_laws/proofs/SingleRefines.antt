-- Joins and unions over caches without their marks: the plan refines, and keeps its scans.
use Rattle.std.proofs.Common.{◌≡◌, Bool, List, [], ◌∷◌, ◌++◌, refl, sym, ap₂, subst}
use Rattle.plan_core.specs.Columns.{Columns}
use Rattle.plan_tree.specs.Rose.{Roses, rose, no_roses, more}
use Rattle.plan_frame.specs.Frames.{Frame}
use Rattle.plan_ir.specs.Plans.{Op, union, join, Plan}
use Rattle.plan_meaning.specs.Contents.{Contents, FitsAt}
use Rattle.plan_meaning.specs.Relating.{Refines, EachRefines}
use Rattle.plan_meaning.specs.Scans.{KeepScans, Keeps, own_scan, scans, scans_in}
use Rattle.plan_meaning.specs.Steps.{IsValid, Step}
use Rattle.plan_meaning.specs.JoinChecks.{is_built_join, join_form_checks, join_leaf_checks, join_type_checks}
use Rattle.plan_meaning.specs.Typing.{AllHold, AllValid, checks, is_built_union, schema_by, schemas}
use Rattle.plan_meaning.proofs.Keeping.{keeps_refl}
use Rattle.plan_meaning.proofs.Refining.{refines_node, refines_trans}
use Rattle.plan_meaning.proofs.Runs.{valid_runs}
use Rattle.plan_order_laws.specs.SideBySide.{hold_cache, single, single_in, single_op}

abbrev Plans : Type 0
Plans = Roses (Unit {0}) Op

-- A node without its mark

checked : (op : Op) (b : Bool) (ss : List Columns) → AllHold (checks op ss) → AllHold (checks (single_op op b) ss)
unfolding is_built_union is_built_join join_form_checks join_leaf_checks join_type_checks
checked (join left_on right_on schema told) b ss good = good
checked (union options) b ss good = good
checked op b ss good = good

same_schema : (op : Op) (b : Bool) (ss : List Columns) → schema_by (single_op op b) ss ≡ schema_by op ss
same_schema (join left_on right_on schema told) b ss = refl
same_schema (union options) b ss = refl
same_schema op b ss = refl

same_fits : (c : Contents) (op : Op) (b : Bool) → FitsAt c op → FitsAt c (single_op op b)
same_fits c (join left_on right_on schema told) b f = tt
same_fits c (union options) b f = tt
same_fits c op b f = f

same_step : (c : Contents) (op : Op) (b : Bool) (fs : List Frame) (f : Frame) → Step c (single_op op b) fs f → Step c op fs f
same_step c (join left_on right_on schema told) b [] f st = st
same_step c (join left_on right_on schema told) b (g ∷ []) f st = st
same_step c (join left_on right_on schema told) b (g ∷ h ∷ []) f st = st
same_step c (join left_on right_on schema told) b (g ∷ h ∷ k ∷ fs) f st = st
same_step c (union options) b fs f st = st
same_step c op b fs f st = st

mark_refines : (op : Op) (b : Bool) (ts : Plans) → IsValid (rose tt op ts) → Refines (rose tt (single_op op b) ts) (rose tt op ts)
mark_refines op b ts v =
    let valid : IsValid (rose tt (single_op op b) ts) = (checked op b (schemas ts) v.0, v.1) in
    record {
      valid = valid;
      schema = same_schema op b (schemas ts);
      fits = λ c f. (same_fits c op b f.0, f.1);
      run = λ c f. valid_runs c (rose tt (single_op op b) ts) valid (same_fits c op b f.0, f.1);
      may = λ c f k r. (r.0, r.1, same_step c op b r.0 f r.2);
    }

mutual
  pub single_refines : (p : Plan) → IsValid p → Refines (single p) p
  single_refines (rose n op ts) v =
      let below = refines_node op (single_in ts) ts v (single_all ts v.1) in
      refines_trans (rose tt (single_op op (hold_cache ts)) (single_in ts)) (rose tt op (single_in ts)) (rose n op ts) (mark_refines op (hold_cache ts) (single_in ts) below.valid) below

  single_all : (ts : Plans) → AllValid ts → EachRefines (single_in ts) ts
  single_all no_roses v = tt
  single_all (more (rose n op us) rest) v = (single_refines (rose n op us) (v.0, v.1), single_all rest v.2)

-- Scans

same_scan : (op : Op) (b : Bool) → own_scan (single_op op b) ≡ own_scan op
same_scan (join left_on right_on schema told) b = refl
same_scan (union options) b = refl
same_scan op b = refl

mutual
  single_scans : (p : Plan) → scans (single p) ≡ scans p
  single_scans (rose n op ts) = ap₂ (λ (x y : List Op). x ++ y) (same_scan op (hold_cache ts)) (single_scans_in ts)

  single_scans_in : (ts : Plans) → scans_in (single_in ts) ≡ scans_in ts
  single_scans_in no_roses = refl
  single_scans_in (more p rest) = ap₂ (λ (x y : List Op). x ++ y) (single_scans p) (single_scans_in rest)

pub single_keeps : (p : Plan) → Keeps (single p) p
single_keeps p = subst (λ (l : List Op). KeepScans l (scans p)) (sym (single_scans p)) (keeps_refl p)
