-- Plans without faults are valid, with numbers and without.
use Rattle.std.proofs.Common.{◌≡◌, Bool, true, false, cond, List, [], ◌∷◌, Option, Some, None, Ok, refl, sym, ap, ap₂, ◌∙◌, subst}
use Rattle.plan_core.specs.declared.arena.Node.{Node}
use Rattle.plan_core.specs.declared.error.PolarsError.{PolarsError}
use Rattle.plan_core.specs.Columns.{Columns}
use Rattle.plan_tree.specs.Rose.{Roses, rose, no_roses, more}
use Rattle.plan_expr.specs.declared.aexpr.AExpr.{AExpr}
use Rattle.plan_ir.specs.declared.ir.IR.{IR}
use Rattle.plan_tree.specs.Stands.{Trees, Stands}
use Rattle.plan_tree.specs.Read.{trees_at}
use Rattle.plan_tree.proofs.ReadLemmas.{trees_at-is}
use Rattle.plan_ir.specs.Parts.{plan_shape, IsPlan}
use Rattle.plan_ir.specs.Plans.{Op, op_at, plans_of, plans_at, bare}
use Rattle.plan_meaning.specs.Checks.{Check}
use Rattle.plan_meaning.specs.Typing.{at, first_fault, or_fault, faults, schema_by, schema, schemas, first_schema, checks, AllHold, AllValid}
use Rattle.plan_meaning.specs.TreeFaults.{tree_fault}
use Rattle.plan_meaning.specs.Typed.{typed, schema_or}
use Rattle.plan_meaning.specs.Steps.{IsValid}
use Rattle.plan_meaning.specs.PlanAt.{one_plan, plan_at}

fault_at : (n : Node) (c : Check) (cs : List Check) (b : Bool) → c.holds ≡ b → (first_fault n cs ≡ None → AllHold cs) → cond b (first_fault n cs) (Some (c.fault (at n c.place))) ≡ None → (c.holds ≡ true) × AllHold cs
fault_at n c cs true h r e = (h, r e)
fault_at n c cs false h r e = cc

pub all_hold_unless : (n : Node) (cs : List Check) → first_fault n cs ≡ None → AllHold cs
all_hold_unless n [] e = tt
all_hold_unless n (c ∷ cs) e = fault_at n c cs c.holds refl (all_hold_unless n cs) e

both_none : (o p : Option PolarsError) → or_fault o p ≡ None → (o ≡ None) × (p ≡ None)
both_none None p e = (refl, e)
both_none (Some f) p e = cc

-- plans without a fault are valid
pub valid_unless : (ts : Roses Node Op) → faults ts ≡ None → AllValid ts
valid_unless no_roses e = tt
valid_unless (more (rose n op ts) rest) e =
    let a = both_none (or_fault (faults ts) (first_fault n (checks op (schemas ts)))) (faults rest) e in
    let b = both_none (faults ts) (first_fault n (checks op (schemas ts))) a.0 in
    (all_hold_unless n (checks op (schemas ts)) b.1, valid_unless ts b.0, valid_unless rest a.1)

no_fault_at : (n : Node) (cs : List Check) → AllHold cs → first_fault n cs ≡ None
no_fault_at n [] h = refl
no_fault_at n (c ∷ cs) h = rw (h.0) (no_fault_at n cs h.1)

-- valid plans have no fault
pub no_faults : (ts : Roses Node Op) → AllValid ts → faults ts ≡ None
no_faults no_roses v = refl
no_faults (more (rose n op ts) rest) v = ap₂ or_fault (ap₂ or_fault (no_faults ts v.1) (no_fault_at n (checks op (schemas ts)) v.0)) (no_faults rest v.2)

-- numbers say nothing of columns
pub schemas-bare : {N : Type 0} (ts : Roses N Op) → schemas (bare ts) ≡ schemas ts
schemas-bare no_roses = refl
schemas-bare (more (rose n op ts) rest) = ap₂ (λ (ss : List Columns) (rs : List Columns). schema_by op ss ∷ rs) (schemas-bare ts) (schemas-bare rest)

-- nor of validity
pub valid-bare : {N : Type 0} (ts : Roses N Op) → AllValid ts → AllValid (bare ts)
valid-bare no_roses v = tt
valid-bare (more (rose n op ts) rest) v = (subst (λ (ss : List Columns). AllHold (checks op ss)) (sym (schemas-bare ts)) v.0, valid-bare ts v.1, valid-bare rest v.2)

pub bare-valid : {N : Type 0} (ts : Roses N Op) → AllValid (bare ts) → AllValid ts
bare-valid no_roses v = tt
bare-valid (more (rose n op ts) rest) v = (subst (λ (ss : List Columns). AllHold (checks op ss)) (schemas-bare ts) v.0, bare-valid ts v.1, bare-valid rest v.2)

schema_found : (o : Option PolarsError) (s t : Columns) → schema_or o s ≡ Ok t → (o ≡ None) × (s ≡ t)
schema_found None s t e = (refl, cc)
schema_found (Some f) s t e = cc

one_valid : (ts : Roses Node Op) (n : Node) (op : Op) (kids : Roses Node Op) → ts ≡ more (rose n op kids) no_roses → AllValid ts → IsValid (rose tt op (bare kids)) × (schema (rose tt op (bare kids)) ≡ first_schema (schemas ts))
one_valid ts n op kids is v =
    let w : AllValid (more (rose n op kids) no_roses) = subst (λ (x : Roses Node Op). AllValid x) is v in
    let b = valid-bare (more (rose n op kids) no_roses) w in
    ((b.0, b.1), ap (schema_by op) (schemas-bare kids) ∙ ap (λ (x : Roses Node Op). first_schema (schemas x)) (sym is))

-- what stands at one number is one tree
one_tree : (lp : List IR) (root : Node) (t : Trees IR) → Stands plan_shape lp (root ∷ []) t → (m : Node) × (p : IR) × (kids : Trees IR) × (t ≡ more (rose m p kids) no_roses)
one_tree lp root no_roses h = absurd h
one_tree lp root (more (rose m p kids) no_roses) h = (m, p, kids, refl)
one_tree lp root (more (rose m p kids) (more (rose m' p' kids') rest)) h = absurd h.4

-- a plan that stands at a number is one plan
pub one_stands : (lp : List IR) (ex : List AExpr) (root : Node) → IsPlan lp ex root → (n : Node) × (op : Op) × (kids : Roses Node Op) × (plans_at lp ex (root ∷ []) ≡ more (rose n op kids) no_roses)
one_stands lp ex root h =
    let t = one_tree lp root h.nodes h.stands.nodes.stands in
    let is : trees_at plan_shape lp (root ∷ []) ≡ more (rose t.0 t.1 t.2) no_roses = trees_at-is plan_shape lp (root ∷ []) h.nodes h.stands.nodes ∙ t.3 in
    (t.0, op_at ex t.1, plans_of ex t.2, ap (plans_of ex) is)

module _ (lp : List IR) (ex : List AExpr) (root : Node) (h : IsPlan lp ex root) where
  abbrev ps : Roses Node Op
  ps = plans_at lp ex (root ∷ [])

  -- the plan at a number, by what stands there
  here : plan_at lp ex root ≡ rose tt (one_stands lp ex root h).1 (bare (one_stands lp ex root h).2)
  here = ap (λ (x : Roses Node Op). one_plan (bare x)) (one_stands lp ex root h).3

  -- a plan that `typed` accepts is valid, with the columns that it tells
  pub typed_valid : (s : Columns) → typed lp ex root ≡ Ok s → IsValid (plan_at lp ex root) × (schema (plan_at lp ex root) ≡ s)
  typed_valid s e =
      let t = one_stands lp ex root h in
      let a = schema_found (or_fault (tree_fault lp ex root) (faults ps)) (first_schema (schemas ps)) s e in
      let b = both_none (tree_fault lp ex root) (faults ps) a.0 in
      let v = one_valid ps t.0 t.1 t.2 t.3 (valid_unless ps b.1) in
      (subst IsValid (sym here) v.0, ap schema here ∙ v.1 ∙ a.1)

  -- a valid plan whose numbers are good is accepted
  pub valid_typed : tree_fault lp ex root ≡ None → IsValid (plan_at lp ex root) → typed lp ex root ≡ Ok (schema (plan_at lp ex root))
  valid_typed good v =
      let t = one_stands lp ex root h in
      let w : IsValid (rose tt t.1 (bare t.2)) = subst IsValid here v in
      let all : AllValid (more (rose t.0 t.1 t.2) no_roses) = bare-valid (more (rose t.0 t.1 t.2) no_roses) (w.0, w.1, tt) in
      let none : faults ps ≡ None = no_faults ps (subst (λ (x : Roses Node Op). AllValid x) (sym t.3) all) in
      let told : first_schema (schemas ps) ≡ schema (plan_at lp ex root) =
      ap (λ (x : Roses Node Op). first_schema (schemas x)) t.3 ∙ ap (schema_by t.1) (sym (schemas-bare t.2)) ∙ sym (ap schema here) in
      ap₂ (λ (o : Option PolarsError) (x : Columns). schema_or o x) (ap₂ or_fault good none) told
