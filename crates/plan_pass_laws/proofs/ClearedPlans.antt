-- A cleared rechunk mark changes no meaning, no scan and no weight.
use Rattle.std.proofs.Common.{◌≡◌, ℕ, ◌+◌, inl, inr, List, ◌++◌, refl, sym, ap, ap₂, ◌∙◌, subst}
use Rattle.plan_core.specs.Columns.{Columns}
use Rattle.plan_tree.specs.Rose.{Roses, rose, no_roses, more}
use Rattle.plan_ir.specs.Plans.{Op, scan, union, Plan}
use Rattle.plan_frame.specs.Frames.{Frame}
use Rattle.plan_meaning.specs.Contents.{Contents, FitsAt}
use Rattle.plan_meaning.specs.Marks.{unmarked, unmarked_all, unmarked_op}
use Rattle.plan_meaning.specs.Relating.{EachRefines, Refines}
use Rattle.plan_meaning.specs.Scans.{own_scan, scans_in, KeepScans, Keeps}
use Rattle.plan_meaning.specs.Steps.{IsValid, Step}
use Rattle.plan_meaning.specs.Typing.{AllHold, AllValid, checks, is_built_scan, is_built_union, schema_by, schemas}
use Rattle.plan_meaning.proofs.Refining.{refines_node, refines_trans}
use Rattle.plan_pass_laws.proofs.ScanLists.{keep_join, own_keeps}
use Rattle.plan_meaning.proofs.Runs.{valid_runs}
use Rattle.plan_pass_laws.specs.Clearing.{AreCleared, Cleared, IsCleared}
use Rattle.plan_pass_laws.specs.Weights.{bulk, bulk_in, own_bulk, own_weight, weight, weight_in}

abbrev pub Plans : Type 0
Plans = Roses (Unit {0}) Op

-- A node without its mark

schema_unmarked : (op : Op) (ss : List Columns) → schema_by (unmarked_op op) ss ≡ schema_by op ss
schema_unmarked (scan sources info hive predicate output kind options) ss = refl
schema_unmarked (union options) ss = refl
schema_unmarked op ss = refl

checks_unmarked : (op : Op) (ss : List Columns) → checks (unmarked_op op) ss ≡ checks op ss
unfolding is_built_scan is_built_union
checks_unmarked (scan sources info hive predicate output kind options) ss = refl
checks_unmarked (union options) ss = refl
checks_unmarked op ss = refl

fits_unmarked : (c : Contents) (op : Op) → FitsAt c op → FitsAt c (unmarked_op op)
fits_unmarked c (scan sources info hive predicate output kind options) h = h
fits_unmarked c (union options) h = h
fits_unmarked c op h = h

step_unmarked : (c : Contents) (op : Op) (fs : List Frame) (f : Frame) → Step c (unmarked_op op) fs f → Step c op fs f
step_unmarked c (scan sources info hive predicate output kind options) fs f h = h
step_unmarked c (union options) fs f h = h
step_unmarked c op fs f h = h

weight_unmarked : (op : Op) → own_weight (unmarked_op op) ≡ own_weight op
weight_unmarked (scan sources info hive predicate output kind options) = refl
weight_unmarked (union options) = refl
weight_unmarked op = refl

bulk_unmarked : (op : Op) → own_bulk (unmarked_op op) ≡ own_bulk op
bulk_unmarked (scan sources info hive predicate output kind options) = refl
bulk_unmarked (union options) = refl
bulk_unmarked op = refl

pub twice_unmarked : (op : Op) → unmarked_op (unmarked_op op) ≡ unmarked_op op
twice_unmarked (scan sources info hive predicate output kind options) = refl
twice_unmarked (union options) = refl
twice_unmarked op = refl

-- what a function of nodes that looks at no mark gives is the same
pub by_op : {A : Type 0} (f : Op → A) (o op : Op) → f (unmarked_op op) ≡ f op → IsCleared o op → f o ≡ f op
by_op f o op e (inl h) = ap f h
by_op f o op e (inr h) = ap f h ∙ e

pub schema_cleared : (o op : Op) (ss : List Columns) → IsCleared o op → schema_by o ss ≡ schema_by op ss
schema_cleared o op ss h = by_op (λ (x : Op). schema_by x ss) o op (schema_unmarked op ss) h

checks_cleared : (o op : Op) (ss : List Columns) → IsCleared o op → checks o ss ≡ checks op ss
checks_cleared o op ss h = by_op (λ (x : Op). checks x ss) o op (checks_unmarked op ss) h

fits_cleared : (c : Contents) (o op : Op) → IsCleared o op → FitsAt c op → FitsAt c o
fits_cleared c o op (inl e) h = subst (FitsAt c) (sym e) h
fits_cleared c o op (inr e) h = subst (FitsAt c) (sym e) (fits_unmarked c op h)

step_cleared : (c : Contents) (o op : Op) (fs : List Frame) (f : Frame) → IsCleared o op → Step c o fs f → Step c op fs f
step_cleared c o op fs f (inl e) h = subst (λ (x : Op). Step c x fs f) e h
step_cleared c o op fs f (inr e) h = step_unmarked c op fs f (subst (λ (x : Op). Step c x fs f) e h)

-- Refinement

node_cleared : (o op : Op) (ts : Plans) → IsCleared o op → IsValid (rose tt op ts) → Refines (rose tt o ts) (rose tt op ts)
node_cleared o op ts h v =
    let vo : IsValid (rose tt o ts) = (subst AllHold (sym (checks_cleared o op (schemas ts) h)) v.0, v.1) in
    record {
      valid = vo;
      schema = schema_cleared o op (schemas ts) h;
      fits = λ c k. (fits_cleared c o op h k.0, k.1);
      run = λ c k. valid_runs c (rose tt o ts) vo (fits_cleared c o op h k.0, k.1);
      may = λ c f k m. (m.0, m.1, step_cleared c o op m.0 f h m.2);
    }

over_refine : (o op : Op) (us ts : Plans) → IsCleared o op → IsValid (rose tt op ts) → EachRefines us ts → Refines (rose tt o us) (rose tt op ts)
over_refine o op us ts h v below =
    let r = refines_node op us ts v below in
    refines_trans (rose tt o us) (rose tt op us) (rose tt op ts) (node_cleared o op us h r.valid) r

pub cleared_all : (qs ps : Plans) → AllValid ps → AreCleared qs ps → EachRefines qs ps
cleared_all no_roses no_roses v h = tt
cleared_all no_roses (more p ps) v h = absurd h
cleared_all (more q qs) no_roses v h = absurd h
cleared_all (more (rose m o us) qs) (more (rose n op ts) ps) v h = (over_refine o op us ts h.0 (v.0, v.1) (cleared_all us ts v.1 h.1), cleared_all qs ps v.2 h.2)

-- a plan with marks cleared refines the plan
pub cleared_refines : (q p : Plan) → IsValid p → Cleared q p → Refines q p
cleared_refines (rose m o us) (rose n op ts) v h = over_refine o op us ts h.0 v (cleared_all us ts v.1 h.1)

-- Marks

unmarked_cleared : (o op : Op) → IsCleared o op → unmarked_op o ≡ unmarked_op op
unmarked_cleared o op h = by_op unmarked_op o op (twice_unmarked op) h

pub cleared_alike_all : (qs ps : Plans) → AreCleared qs ps → unmarked_all qs ≡ unmarked_all ps
cleared_alike_all no_roses no_roses h = refl
cleared_alike_all no_roses (more p ps) h = absurd h
cleared_alike_all (more q qs) no_roses h = absurd h
cleared_alike_all (more (rose m o us) qs) (more (rose n op ts) ps) h =
    ap₂ (λ (p : Plan) (rest : Plans). more p rest) (ap₂ (λ (x : Op) (xs : Plans). rose tt x xs) (unmarked_cleared o op h.0) (cleared_alike_all us ts h.1)) (cleared_alike_all qs ps h.2)

pub cleared_alike : (q p : Plan) → Cleared q p → unmarked q ≡ unmarked p
cleared_alike (rose m o us) (rose n op ts) h = ap₂ (λ (x : Op) (xs : Plans). rose tt x xs) (unmarked_cleared o op h.0) (cleared_alike_all us ts h.1)

pub are_cleared_refl : (ps : Plans) → AreCleared ps ps
are_cleared_refl no_roses = tt
are_cleared_refl (more (rose n op ts) ps) = (inl refl, are_cleared_refl ts, are_cleared_refl ps)

pub cleared_refl : (p : Plan) → Cleared p p
cleared_refl (rose n op ts) = (inl refl, are_cleared_refl ts)

op_trans : (x o op : Op) → IsCleared x o → IsCleared o op → IsCleared x op
op_trans x o op (inl e) k = subst (λ (y : Op). IsCleared y op) (sym e) k
op_trans x o op (inr e) (inl f) = inr (e ∙ ap unmarked_op f)
op_trans x o op (inr e) (inr f) = inr (e ∙ ap unmarked_op f ∙ twice_unmarked op)

pub are_cleared_trans : (rs qs ps : Plans) → AreCleared rs qs → AreCleared qs ps → AreCleared rs ps
are_cleared_trans no_roses no_roses no_roses h k = tt
are_cleared_trans (more (rose l x vs) rs) (more (rose m o us) qs) (more (rose n op ts) ps) h k =
    (op_trans x o op h.0 k.0, are_cleared_trans vs us ts h.1 k.1, are_cleared_trans rs qs ps h.2 k.2)
are_cleared_trans rs no_roses (more p ps) h k = absurd k
are_cleared_trans rs (more q qs) no_roses h k = absurd k
are_cleared_trans no_roses (more q qs) ps h k = absurd h
are_cleared_trans (more r rs) no_roses ps h k = absurd h

pub cleared_trans : (r q p : Plan) → Cleared r q → Cleared q p → Cleared r p
cleared_trans (rose l x vs) (rose m o us) (rose n op ts) h k = (op_trans x o op h.0 k.0, are_cleared_trans vs us ts h.1 k.1)

-- Weights

pub bulk_all : (qs ps : Plans) → AreCleared qs ps → bulk_in qs ≡ bulk_in ps
bulk_all no_roses no_roses h = refl
bulk_all no_roses (more p ps) h = absurd h
bulk_all (more q qs) no_roses h = absurd h
bulk_all (more (rose m o us) qs) (more (rose n op ts) ps) h =
    ap₂ (λ (x y : ℕ). x + y) (ap₂ (λ (x y : ℕ). x + y) (by_op own_bulk o op (bulk_unmarked op) h.0) (bulk_all us ts h.1)) (bulk_all qs ps h.2)

pub cleared_bulk : (q p : Plan) → Cleared q p → bulk q ≡ bulk p
cleared_bulk (rose m o us) (rose n op ts) h = ap₂ (λ (x y : ℕ). x + y) (by_op own_bulk o op (bulk_unmarked op) h.0) (bulk_all us ts h.1)

pub weight_all : (qs ps : Plans) → AreCleared qs ps → weight_in qs ≡ weight_in ps
weight_all no_roses no_roses h = refl
weight_all no_roses (more p ps) h = absurd h
weight_all (more q qs) no_roses h = absurd h
weight_all (more (rose m o us) qs) (more (rose n op ts) ps) h =
    ap₂ (λ (x y : ℕ). x + y) (ap₂ (λ (x y : ℕ). x + y) (by_op own_weight o op (weight_unmarked op) h.0) (weight_all us ts h.1)) (weight_all qs ps h.2)

pub cleared_weight : (q p : Plan) → Cleared q p → weight q ≡ weight p
cleared_weight (rose m o us) (rose n op ts) h = ap₂ (λ (x y : ℕ). x + y) (by_op own_weight o op (weight_unmarked op) h.0) (weight_all us ts h.1)

-- Scans

bare_keeps : (op : Op) → KeepScans (own_scan (unmarked_op op)) (own_scan op)
bare_keeps (scan sources info hive predicate output kind options) = ((refl, refl), (λ a i. i), tt)
bare_keeps (union options) = tt
bare_keeps op = own_keeps op

own_keep : (o op : Op) → IsCleared o op → KeepScans (own_scan o) (own_scan op)
own_keep o op (inl e) = subst (λ (x : Op). KeepScans (own_scan x) (own_scan op)) (sym e) (own_keeps op)
own_keep o op (inr e) = subst (λ (x : Op). KeepScans (own_scan x) (own_scan op)) (sym e) (bare_keeps op)

pub keep_all : (qs ps : Plans) → AreCleared qs ps → KeepScans (scans_in qs) (scans_in ps)
keep_all no_roses no_roses h = tt
keep_all no_roses (more p ps) h = absurd h
keep_all (more q qs) no_roses h = absurd h
keep_all (more (rose m o us) qs) (more (rose n op ts) ps) h =
    keep_join (own_scan o ++ scans_in us) (scans_in qs) (own_scan op ++ scans_in ts) (scans_in ps) (keep_join (own_scan o) (scans_in us) (own_scan op) (scans_in ts) (own_keep o op h.0) (keep_all us ts h.1)) (keep_all qs ps h.2)

pub cleared_keeps : (q p : Plan) → Cleared q p → Keeps q p
cleared_keeps (rose m o us) (rose n op ts) h = keep_join (own_scan o) (scans_in us) (own_scan op) (scans_in ts) (own_keep o op h.0) (keep_all us ts h.1)
