-- What narrowing needs of each kind of node.
use Rattle.std.proofs.Common.{◌≡◌, ℕ, ℤ, true, List, [], ◌∷◌, Option, refl, sym, ap, ap₂, ◌∙◌, subst}
use Rattle.plan_core.specs.declared.data_type.DataType.{DataType}
use Rattle.plan_core.specs.Columns.{Columns, type_of}
use Rattle.plan_core.specs.Names.{has, with_names}
use Rattle.plan_expr.specs.Exprs.{Named, Expr}
use Rattle.plan_ir.specs.Plans.{Op, slice, filter}
use Rattle.plan_expr.specs.Leaves.{Name, leaves}
use Rattle.plan_frame.specs.Exprs.{is_type}
use Rattle.plan_meaning.specs.Typing.{checks, AllHold}
use Rattle.plan_frame.specs.Frames.{Frame, HasSchema, rows_at, Agree}
use Rattle.plan_frame.specs.Meaning.{val}
use Rattle.plan_meaning.specs.Contents.{Contents}
use Rattle.plan_meaning.specs.Steps.{Step}
use Rattle.plan_frame.specs.Rows.{slice_rows, true_rows, filtered}
use Rattle.plan_meaning.specs.Relating.{Asked, all, names, cached, Holding, NarrowColumns, AgreeOn}
use Rattle.plan_meaning.specs.Asked.{with_more}
use Rattle.plan_frame.proofs.NameSets.{keeps_names, adds_names}
use Rattle.plan_frame.proofs.FrameLemmas.{agree_fewer, agree_rows}
use Rattle.plan_frame.proofs.Depends.{val_depends, type_within}
use Rattle.plan_frame.proofs.TurnLemmas.{HaveSchemas}
use Rattle.plan_meaning.proofs.Related.{LocalTo, FramesRelated}
use Rattle.plan_core.specs.declared.data_type.DataType.TheVariants as types
pub use Rattle.plan_pruned.proofs.SideLemmas.{holding_same, known_within}

-- what has to be shown of a node that narrows another
abbrev pub Local : Op → Op → List Asked → Asked → List Columns → List Columns → Type 0
Local = LocalTo Asked NarrowColumns AgreeOn

abbrev pub AgreeOnAll : List Asked → List Frame → List Frame → Type 0
AgreeOnAll = FramesRelated Asked NarrowColumns AgreeOn

pub holding_fewer : (l m : List Name) (r s : Columns) → ((a : Name) → has l a ≡ true → has m a ≡ true) → Holding m r s → Holding l r s
holding_fewer l m r s sub h = record { held = λ a i. h.held a (sub a i); within = h.within }

-- one input

pub one_step : (c : Contents) (o op : Op) (a b : Asked) (r s : Columns) → ((f0 g0 f : Frame) → HasSchema f0 r → HasSchema g0 s → AgreeOn a f0 g0 → Step c o (f0 ∷ []) f → (g : Frame) × Step c op (g0 ∷ []) g × AgreeOn b f g) → (fs gs : List Frame) (f : Frame) → HaveSchemas fs (r ∷ []) → HaveSchemas gs (s ∷ []) → AgreeOnAll (a ∷ []) fs gs → Step c o fs f → (g : Frame) × Step c op gs g × AgreeOn b f g
one_step c o op a b r s by (f0 ∷ []) (g0 ∷ []) f hr has ag st = by f0 g0 f hr.0 has.0 ag.0 st
one_step c o op a b r s by [] gs f hr has ag st = absurd hr
one_step c o op a b r s by (f0 ∷ f1 ∷ fs) gs f hr has ag st = absurd hr.1
one_step c o op a b r s by (f0 ∷ []) [] f hr has ag st = absurd has
one_step c o op a b r s by (f0 ∷ []) (g0 ∷ g1 ∷ gs) f hr has ag st = absurd has.1

-- the same node over the same input, where all of it is asked of all of the input
pub same_one : (op : Op) (s : Columns) → AllHold (checks op (s ∷ [])) → Local op op (all ∷ []) all (s ∷ []) (s ∷ [])
same_one op s good = record {
  good = good;
  schema = refl;
  fits = λ c k. k;
  step = λ c fs gs f k hr has ag st. one_step c op op all all s s (λ f0 g0 f hr h e t. (f, subst (λ (x : Frame). Step c op (x ∷ []) f) e t, refl)) fs gs f hr has ag st;
}

pub same_cached : (op : Op) (s : Columns) → AllHold (checks op (s ∷ [])) → Local op op (cached ∷ []) cached (s ∷ []) (s ∷ [])
same_cached op s good = record {
  good = good;
  schema = refl;
  fits = λ c k. k;
  step = λ c fs gs f k hr has ag st. one_step c op op cached cached s s (λ f0 g0 f hr h e t. (f, subst (λ (x : Frame). Step c op (x ∷ []) f) e t, refl)) fs gs f hr has ag st;
}

-- the same node without inputs
no_inputs : (op : Op) (c : Contents) (fs gs : List Frame) (f : Frame) → AgreeOnAll [] fs gs → Step c op fs f → (g : Frame) × Step c op gs g × (f ≡ g)
no_inputs op c [] [] f ag st = (f, st, refl)
no_inputs op c (f0 ∷ fs) gs f ag st = absurd ag
no_inputs op c [] (g0 ∷ gs) f ag st = absurd ag

pub same_none : (op : Op) → AllHold (checks op []) → Local op op [] all [] []
same_none op good = record { good = good; schema = refl; fits = λ c k. k; step = λ c fs gs f k hr has ag st. no_inputs op c fs gs f ag st }

-- filters

filter_agrees : (e : Expr) (wanted : List Name) (f g : Frame) → Agree (with_names wanted (leaves e)) f g → Agree wanted (filtered e f) (filtered e g)
filter_agrees e wanted f g h =
    let all_of = with_names wanted (leaves e) in
    let v = val_depends e f g (agree_fewer (leaves e) all_of f g (λ a i. adds_names wanted (leaves e) a i) h) in
    let rows : true_rows (val e f) f.height ≡ true_rows (val e g) g.height = ap₂ true_rows v h.height in
    subst (λ (ps : List ℕ). Agree wanted (filtered e f) (rows_at ps g)) rows (agree_rows (λ a. a) wanted (true_rows (val e f) f.height) f g (agree_fewer wanted all_of f g (λ a i. keeps_names wanted (leaves e) a i) h))

filter_names : (p : Named) (wanted : List Name) (r s : Columns) → AllHold (checks (filter p) (s ∷ [])) → Holding (with_names wanted (leaves p.expr)) r s → Local (filter p) (filter p) (names (with_names wanted (leaves p.expr)) ∷ []) (names wanted) (r ∷ []) (s ∷ [])
filter_names p wanted r s good h =
    let all_of = with_names wanted (leaves p.expr) in
    let same : (a : Name) → has (leaves p.expr) a ≡ true → type_of r a ≡ type_of s a = λ a i. holding_same all_of r s h a (adds_names wanted (leaves p.expr) a i) in
    record {
      good = (good.0, (known_within (leaves p.expr) r s same ∙ good.1.0, (ap (λ (o : Option DataType). is_type o types.Boolean) (type_within p.expr r s same) ∙ good.1.1.0, good.1.1.1)));
      schema = holding_fewer wanted all_of r s (λ a i. keeps_names wanted (leaves p.expr) a i) h;
      fits = λ c k. k;
      step = λ c fs gs f k hr has ag st. one_step c (filter p) (filter p) (names all_of) (names wanted) r s
          (λ f0 g0 f hr hs ag st. (filtered p.expr g0, refl, subst (λ (x : Frame). Agree wanted x (filtered p.expr g0)) (sym st) (filter_agrees p.expr wanted f0 g0 ag))) fs gs f hr has ag st;
    }

-- a filter over an input that narrows at what it asks narrows at what it is asked
pub local_filter : (p : Named) (a : Asked) (r s : Columns) → AllHold (checks (filter p) (s ∷ [])) → NarrowColumns (with_more (leaves p.expr) a) r s → Local (filter p) (filter p) (with_more (leaves p.expr) a ∷ []) a (r ∷ []) (s ∷ [])
local_filter p all r s good h = subst (λ (x : Columns). Local (filter p) (filter p) (all ∷ []) all (x ∷ []) (s ∷ [])) (sym h) (same_one (filter p) s good)
local_filter p (names wanted) r s good h = filter_names p wanted r s good h
local_filter p cached r s good h = subst (λ (x : Columns). Local (filter p) (filter p) (cached ∷ []) cached (x ∷ []) (s ∷ [])) (sym h) (same_cached (filter p) s good)

-- slices

slice_agrees : (offset : ℤ) (len : ℕ) (wanted : List Name) (f g : Frame) → Agree wanted f g → Agree wanted (rows_at (slice_rows offset len f.height) f) (rows_at (slice_rows offset len g.height) g)
slice_agrees offset len wanted f g h =
    subst (λ (n : ℕ). Agree wanted (rows_at (slice_rows offset len f.height) f) (rows_at (slice_rows offset len n) g)) h.height (agree_rows (λ a. a) wanted (slice_rows offset len f.height) f g h)

slice_names : (offset : ℤ) (len : ℕ) (wanted : List Name) (r s : Columns) → Holding wanted r s → Local (slice offset len) (slice offset len) (names wanted ∷ []) (names wanted) (r ∷ []) (s ∷ [])
slice_names offset len wanted r s h = record {
  good = tt;
  schema = h;
  fits = λ c k. k;
  step = λ c fs gs f k hr has ag st. one_step c (slice offset len) (slice offset len) (names wanted) (names wanted) r s
      (λ f0 g0 f hr hs ag st. (rows_at (slice_rows offset len g0.height) g0, refl, subst (λ (x : Frame). Agree wanted x (rows_at (slice_rows offset len g0.height) g0)) (sym st) (slice_agrees offset len wanted f0 g0 ag))) fs gs f hr has ag st;
}

-- a slice over an input that narrows at what the slice is asked narrows at that
pub local_slice : (offset : ℤ) (len : ℕ) (a : Asked) (r s : Columns) → NarrowColumns a r s → Local (slice offset len) (slice offset len) (a ∷ []) a (r ∷ []) (s ∷ [])
local_slice offset len all r s h = subst (λ (x : Columns). Local (slice offset len) (slice offset len) (all ∷ []) all (x ∷ []) (s ∷ [])) (sym h) (same_one (slice offset len) s tt)
local_slice offset len (names wanted) r s h = slice_names offset len wanted r s h
local_slice offset len cached r s h = subst (λ (x : Columns). Local (slice offset len) (slice offset len) (cached ∷ []) cached (x ∷ []) (s ∷ [])) (sym h) (same_cached (slice offset len) s tt)
