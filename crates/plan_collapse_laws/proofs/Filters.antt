-- Filters over a plan, topmost first: their checks, what they give, and refinement under them.
use Rattle.std.proofs.Common.{◌≡◌, ◌∙◌, ◌++◌, List, [], ◌∷◌, refl, sym, ap, subst}
use Rattle.std.specs.List.{AllByRecursion}
use Rattle.plan_core.specs.Columns.{Columns}
use Rattle.plan_tree.specs.Rose.{Roses, rose, no_roses, more}
use Rattle.plan_expr.specs.Exprs.{Named}
use Rattle.plan_ir.specs.Plans.{Op, filter, Plan}
use Rattle.plan_frame.specs.Frames.{Frame}
use Rattle.plan_frame.specs.Rows.{filtered}
use Rattle.plan_meaning.specs.Typing.{AllHold, AllValid, checks, filter_checks, first_schema, schema, schemas}
use Rattle.plan_meaning.specs.Contents.{Contents, Fits, FitsAll}
use Rattle.plan_meaning.specs.Steps.{IsValid, May, MayAll, Step}
use Rattle.plan_meaning.specs.Relating.{Refines}
use Rattle.plan_meaning.proofs.Refining.{refines_node}
use Rattle.plan_collapse_laws.specs.Collapsed.{under}
use Rattle.plan_collapse_laws.specs.FilteredFrames.{chain}
use Rattle.plan_collapse_laws.specs.TakenKeys.{exprs_of}

abbrev pub one : Plan → Roses (Unit {0}) Op
one q = more q no_roses

-- a plan alone

pub one_schema : (q : Plan) → schemas (one q) ≡ schema q ∷ []
one_schema (rose n op ts) = refl

pub one_valid : (q : Plan) → AllValid (one q) → IsValid q
one_valid (rose n op ts) v = (v.0, v.1)

pub valid_one : (q : Plan) → IsValid q → AllValid (one q)
valid_one (rose n op ts) v = (v.0, v.1, tt)

pub one_fits : (c : Contents) (q : Plan) → FitsAll c (one q) → Fits c q
one_fits c (rose n op ts) k = (k.0, k.1)

pub fits_one : (c : Contents) (q : Plan) → Fits c q → FitsAll c (one q)
fits_one c (rose n op ts) k = (k.0, k.1, tt)

pub one_gives : (c : Contents) (q : Plan) (gs : List Frame) → MayAll c (one q) gs → (g : Frame) × May c q g × (gs ≡ g ∷ [])
one_gives c (rose n op ts) [] a = absurd a
one_gives c (rose n op ts) (g ∷ []) a = (g, a.0, refl)
one_gives c (rose n op ts) (g ∷ h ∷ gs) a = absurd a.1

pub gives_one : (c : Contents) (q : Plan) (g : Frame) → May c q g → MayAll c (one q) (g ∷ [])
gives_one c (rose n op ts) g a = (a, tt)

-- a plan under filters

pub under_schema : (run : List Named) (p : Plan) → schema (under run p) ≡ schema p
under_schema [] p = refl
under_schema (e ∷ run) p = ap first_schema (one_schema (under run p)) ∙ under_schema run p

under_schemas : (run : List Named) (p : Plan) → schemas (one (under run p)) ≡ schema p ∷ []
under_schemas run p = one_schema (under run p) ∙ ap (λ (s : Columns). s ∷ []) (under_schema run p)

-- each filter passes its checks over some columns
abbrev pub FiltersGood : Columns → List Named → Type 0
FiltersGood s run = AllByRecursion (λ (e : Named). AllHold (filter_checks e s)) run

pub under_valid : (run : List Named) (p : Plan) → IsValid (under run p) → IsValid p × FiltersGood (schema p) run
under_valid [] p v = (v, tt)
under_valid (e ∷ run) p v =
    let below = under_valid run p (one_valid (under run p) v.1) in
    (below.0, (subst (λ (ss : List Columns). AllHold (checks (filter e) ss)) (under_schemas run p) v.0, below.1))

pub valid_under : (run : List Named) (p : Plan) → IsValid p → FiltersGood (schema p) run → IsValid (under run p)
valid_under [] p v h = v
valid_under (e ∷ run) p v h = (subst (λ (ss : List Columns). AllHold (checks (filter e) ss)) (sym (under_schemas run p)) h.0, valid_one (under run p) (valid_under run p v h.1))

pub under_fits : (c : Contents) (run : List Named) (p : Plan) → Fits c (under run p) → Fits c p
under_fits c [] p k = k
under_fits c (e ∷ run) p k = under_fits c run p (one_fits c (under run p) k.1)

pub fits_under : (c : Contents) (run : List Named) (p : Plan) → Fits c p → Fits c (under run p)
fits_under c [] p k = k
fits_under c (e ∷ run) p k = (tt, fits_one c (under run p) (fits_under c run p k))

-- filters give what a chain of them makes of what the plan gives

pub under_may : (c : Contents) (run : List Named) (p : Plan) (f : Frame) → May c (under run p) f → (g : Frame) × May c p g × (f ≡ chain (exprs_of run) g)
under_may c [] p f a = (f, a, refl)
under_may c (e ∷ run) p f a =
    let x = one_gives c (under run p) a.0 a.1 in
    let st : f ≡ filtered e.expr x.0 = subst (λ (gs : List Frame). Step c (filter e) gs f) x.2 a.2 in
    let y = under_may c run p x.0 x.1 in
    (y.0, y.1, st ∙ ap (filtered e.expr) y.2)

pub may_under : (c : Contents) (run : List Named) (p : Plan) (g : Frame) → May c p g → May c (under run p) (chain (exprs_of run) g)
may_under c [] p g a = a
may_under c (e ∷ run) p g a = (chain (exprs_of run) g ∷ [], gives_one c (under run p) (chain (exprs_of run) g) (may_under c run p g a), refl)

-- what refines a plan refines it under filters
pub under_refines : (run : List Named) (q p : Plan) → (IsValid p → Refines q p) → IsValid (under run p) → Refines (under run q) (under run p)
under_refines [] q p r v = r v
under_refines (e ∷ run) q p r v = refines_node (filter e) (one (under run q)) (one (under run p)) v (under_refines run q p r (one_valid (under run p) v.1), tt)

pub under_last : (run : List Named) (e : Named) (p : Plan) → under (run ++ e ∷ []) p ≡ under run (rose tt (filter e) (one p))
under_last [] e p = refl
under_last (d ∷ run) e p = ap (λ (q : Plan). rose tt (filter d) (one q)) (under_last run e p)
