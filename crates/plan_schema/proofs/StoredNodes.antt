-- What a plan says it has, by its node.
use Rattle.std.proofs.Common.{◌≡◌, List, [], ◌∷◌, Some, None, Ok, Err, Result, IfOk, refl, sym, ap, ◌∙◌}
use Rattle.std.specs.List.{slice_get}
use Rattle.plan_core.specs.declared.arena.Node.{Node}
use Rattle.plan_tree.specs.Rose.{rose, no_roses, more, join}
use Rattle.plan_tree.specs.Stands.{Trees, StandsOnce}
use Rattle.plan_tree.specs.Read.{trees_at}
use Rattle.plan_tree.proofs.ReadLemmas.{trees_at-is, tree_at-is}
use Rattle.plan_tree.proofs.TreeLemmas.{opened}
use Rattle.plan_expr.specs.declared.aexpr.AExpr.{AExpr}
use Rattle.plan_ir.specs.declared.ir.IR.{IR}
use Rattle.plan_ir.specs.Parts.{IsPlan, plan_shape, inputs_of}
use Rattle.plan_ir.specs.Plans.{op_at, plans_of, plans_at, bare}
use Rattle.plan_meaning.specs.PlanAt.{plan_at}
use Rattle.plan_meaning.specs.Steps.{IsValid}
use Rattle.plan_meaning.specs.Typing.{first_schema, schema}
use Rattle.plan_schema.specs.declared.stored.StoredSchema.{StoredSchema}
use Rattle.plan_schema.specs.Stored.{columns_told, stored_by, stored_all}
use Rattle.plan_schema.proofs.StoredLemmas.{stored-is}

-- what is told is what the plan at a number says it has
abbrev pub Tells : List IR → Node → StoredSchema → Type 0
Tells lp n told = (ex : List AExpr) → columns_told told ≡ first_schema (stored_all (bare (plans_at lp ex (n ∷ []))))

-- what is told of one plan is told of another that says the same
pub tells_up : {E : Type 0} (r : Result StoredSchema E) (lp : List IR) (n m : Node) → ((ex : List AExpr) → first_schema (stored_all (bare (plans_at lp ex (m ∷ [])))) ≡ first_schema (stored_all (bare (plans_at lp ex (n ∷ []))))) → IfOk r (Tells lp m) → IfOk r (Tells lp n)
tells_up (Ok told) lp n m same h = λ ex. h ex ∙ same ex
tells_up (Err e) lp n m same h = tt

-- of a valid plan they are its columns
pub tells_valid : {E : Type 0} (r : Result StoredSchema E) (lp : List IR) (n : Node) → IfOk r (Tells lp n) → IfOk r (λ (told : StoredSchema). (ex : List AExpr) → IsPlan lp ex n → IsValid (plan_at lp ex n) → columns_told told ≡ schema (plan_at lp ex n))
tells_valid (Ok told) lp n h = λ ex plan valid. h ex ∙ stored-is lp ex n plan valid
tells_valid (Err e) lp n h = tt

-- what a plan says it has, by what its inputs say
pub stored_open : (lp : List IR) (ex : List AExpr) (n : Node) (p : IR) → ((t : Trees IR) × StandsOnce plan_shape lp (n ∷ []) t) → slice_get lp n.0 ≡ Some p → stored_by (op_at ex p) (stored_all (bare (plans_at lp ex (inputs_of p)))) ≡ first_schema (stored_all (bare (plans_at lp ex (n ∷ []))))
stored_open lp ex n p h e =
    let o = opened plan_shape lp n p h.0 h.1 e in
    let here : trees_at plan_shape lp (n ∷ []) ≡ more (rose n p o.kids) no_roses = trees_at-is plan_shape lp (n ∷ []) h.0 h.1 ∙ o.is in
    let below : trees_at plan_shape lp (inputs_of p) ≡ o.kids = trees_at-is plan_shape lp (inputs_of p) o.kids o.inputs in
    ap (λ (t : Trees IR). stored_by (op_at ex p) (stored_all (bare (plans_of ex t)))) below
    ∙ ap (λ (t : Trees IR). first_schema (stored_all (bare (plans_of ex t)))) (sym here)

-- what the first of some plans says it has
pub stored_first : (lp : List IR) (ex : List AExpr) (i : Node) (ns : List Node) → ((t : Trees IR) × StandsOnce plan_shape lp (i ∷ []) t) → slice_get ns 0 ≡ Some i → first_schema (stored_all (bare (plans_at lp ex (i ∷ [])))) ≡ first_schema (stored_all (bare (plans_at lp ex ns)))
stored_first lp ex i [] h e = cc
stored_first lp ex i (j ∷ ns) h e = let same : j ≡ i = cc in rw same (go h.0 h.1)
  where
    go : (t : Trees IR) → StandsOnce plan_shape lp (i ∷ []) t → first_schema (stored_all (bare (plans_at lp ex (i ∷ [])))) ≡ first_schema (stored_all (bare (plans_at lp ex (i ∷ ns))))
    go no_roses h = absurd h.stands
    go (more (rose m p kids) no_roses) h =
        let is = tree_at-is plan_shape lp i (more (rose m p kids) no_roses) h in
        ap (λ (u : Trees IR). first_schema (stored_all (bare (plans_of ex (join u no_roses))))) is
        ∙ sym (ap (λ (u : Trees IR). first_schema (stored_all (bare (plans_of ex (join u (trees_at plan_shape lp ns)))))) is)
    go (more (rose m p kids) (more (rose k q below) rest)) h = absurd h.stands.4

-- and where there is none
pub stored_none : (lp : List IR) (ex : List AExpr) (ns : List Node) → slice_get ns 0 ≡ None → [] ≡ first_schema (stored_all (bare (plans_at lp ex ns)))
stored_none lp ex [] e = refl
stored_none lp ex (n ∷ ns) e = cc
