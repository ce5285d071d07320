-- From what is said of a node, and of the plans that are its inputs, to what is said of the plan.
use Rattle.std.proofs.Common.{◌≡◌, List, [], ◌∷◌, Option, Some, None, Result, Ok, Err, refl, ap, ap₂, ◌∙◌}
use Rattle.std.specs.List.{slice_get}
use Rattle.plan_core.specs.declared.arena.Node.{Node}
use Rattle.plan_core.specs.declared.error.PolarsError.{PolarsError}
use Rattle.plan_core.specs.Columns.{Columns}
use Rattle.plan_expr.specs.declared.aexpr.AExpr.{AExpr}
use Rattle.plan_ir.specs.declared.ir.IR.{IR}
use Rattle.plan_ir.specs.Parts.{inputs_of, IsPlan}
use Rattle.plan_ir.specs.Plans.{op_at, plans_at}
use Rattle.plan_ir.proofs.PlanLemmas.{plan_open}
use Rattle.plan_meaning.specs.Typing.{Says, faults, schemas, checks, first_fault, or_fault, schema_by, first_schema}
use Rattle.plan_meaning.specs.TreeFaults.{tree_fault}
use Rattle.plan_meaning.specs.Typed.{IsPlanTyped, IsNodeTyped, IsTyped, typed, schema_or}
use Rattle.plan_core.specs.declared.error.PolarsError.TheVariants.{SchemaFieldNotFound, Duplicate, SchemaMismatch, InvalidOperation, ComputeError, OutOfMemory}

or_none : (e : Option PolarsError) → or_fault e None ≡ e
or_none None = refl
or_none (Some f) = refl

first_is : (x y : Option PolarsError) (f : PolarsError) → x ≡ Some f → or_fault x y ≡ Some f
first_is x y f e = ap (λ (o : Option PolarsError). or_fault o y) e

refuses : (x y : Option PolarsError) (s : Columns) (f : PolarsError) → x ≡ Some f → schema_or (or_fault x y) s ≡ Err f
refuses x y s f e = ap (λ (o : Option PolarsError). schema_or (or_fault o y) s) e

refuses_later : (x y : Option PolarsError) (s : Columns) (f : PolarsError) → x ≡ None → y ≡ Some f → schema_or (or_fault x y) s ≡ Err f
refuses_later x y s f e g = ap₂ (λ (o q : Option PolarsError). schema_or (or_fault o q) s) e g

accepts : (x y : Option PolarsError) (s : Columns) → x ≡ None → y ≡ None → schema_or (or_fault x y) s ≡ Ok s
accepts x y s e g = ap₂ (λ (o q : Option PolarsError). schema_or (or_fault o q) s) e g

module _ (lp : List IR) (ex : List AExpr) (n : Node) (p : IR) (h : IsPlan lp ex n) (entry : slice_get lp n.0 ≡ Some p) where
  plan_faults : faults (plans_at lp ex (n ∷ [])) ≡ or_fault (faults (plans_at lp ex (inputs_of p))) (first_fault n (checks (op_at ex p) (schemas (plans_at lp ex (inputs_of p)))))
  plan_faults = ap faults (plan_open lp ex n p h entry) ∙ or_none _

  plan_schemas : schemas (plans_at lp ex (n ∷ [])) ≡ schema_by (op_at ex p) (schemas (plans_at lp ex (inputs_of p))) ∷ []
  plan_schemas = ap schemas (plan_open lp ex n p h entry)

  -- a fault of an input is the plan's
  pub input_fault : (e : PolarsError) → IsPlanTyped (Err e) (plans_at lp ex (inputs_of p)) → IsPlanTyped (Err e) (plans_at lp ex (n ∷ []))
  input_fault OutOfMemory f = tt
  input_fault (SchemaFieldNotFound a) f = plan_faults ∙ first_is _ _ _ f
  input_fault (Duplicate a) f = plan_faults ∙ first_is _ _ _ f
  input_fault (SchemaMismatch a) f = plan_faults ∙ first_is _ _ _ f
  input_fault (InvalidOperation a) f = plan_faults ∙ first_is _ _ _ f
  input_fault (ComputeError a) f = plan_faults ∙ first_is _ _ _ f

  -- where the inputs have no fault, the node's answer is the plan's
  module _ (ss : List Columns) (good : faults (plans_at lp ex (inputs_of p)) ≡ None) (are : schemas (plans_at lp ex (inputs_of p)) ≡ ss) where
    node_faults : faults (plans_at lp ex (n ∷ [])) ≡ first_fault n (checks (op_at ex p) ss)
    node_faults = plan_faults ∙ ap₂ (λ (x : Option PolarsError) (y : List Columns). or_fault x (first_fault n (checks (op_at ex p) y))) good are

    pub node_answer : (r : Result Columns PolarsError) → IsNodeTyped r n (op_at ex p) ss → IsPlanTyped r (plans_at lp ex (n ∷ []))
    node_answer (Ok s) a = (node_faults ∙ a.0, plan_schemas ∙ ap (λ (y : List Columns). schema_by (op_at ex p) y ∷ []) are ∙ ap (λ (x : Columns). x ∷ []) a.1)
    node_answer (Err OutOfMemory) a = tt
    node_answer (Err (SchemaFieldNotFound b)) a = node_faults ∙ a
    node_answer (Err (Duplicate b)) a = node_faults ∙ a
    node_answer (Err (SchemaMismatch b)) a = node_faults ∙ a
    node_answer (Err (InvalidOperation b)) a = node_faults ∙ a
    node_answer (Err (ComputeError b)) a = node_faults ∙ a

-- the answer of the walk over numbers, where it refuses
pub tree_answer : (lp : List IR) (ex : List AExpr) (root : Node) (e : PolarsError) → Says {A = Unit {0}} (Err e) (tree_fault lp ex root) → IsTyped (Err e) (typed lp ex root)
tree_answer lp ex root OutOfMemory f = tt
tree_answer lp ex root (SchemaFieldNotFound a) f = refuses _ _ _ _ f
tree_answer lp ex root (Duplicate a) f = refuses _ _ _ _ f
tree_answer lp ex root (SchemaMismatch a) f = refuses _ _ _ _ f
tree_answer lp ex root (InvalidOperation a) f = refuses _ _ _ _ f
tree_answer lp ex root (ComputeError a) f = refuses _ _ _ _ f

-- where the numbers lead to a plan, the answer of its nodes is the answer
pub plan_answer : (lp : List IR) (ex : List AExpr) (root : Node) → tree_fault lp ex root ≡ None → (r : Result Columns PolarsError) → IsPlanTyped r (plans_at lp ex (root ∷ [])) → IsTyped r (typed lp ex root)
plan_answer lp ex root good (Ok s) a = accepts _ _ _ good a.0 ∙ ap (λ (y : List Columns). Ok (first_schema y)) a.1
plan_answer lp ex root good (Err OutOfMemory) a = tt
plan_answer lp ex root good (Err (SchemaFieldNotFound b)) a = refuses_later _ _ _ _ good a
plan_answer lp ex root good (Err (Duplicate b)) a = refuses_later _ _ _ _ good a
plan_answer lp ex root good (Err (SchemaMismatch b)) a = refuses_later _ _ _ _ good a
plan_answer lp ex root good (Err (InvalidOperation b)) a = refuses_later _ _ _ _ good a
plan_answer lp ex root good (Err (ComputeError b)) a = refuses_later _ _ _ _ good a
