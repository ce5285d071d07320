-- The schema of a plan in two arenas, or its first fault.
use Rattle.std.specs.Prelude.{◌≡◌, List, [], ◌∷◌, Option, Some, None, Result, Ok, Err}
use Rattle.plan_core.specs.declared.arena.Node.{Node}
use Rattle.plan_core.specs.declared.error.PolarsError.{PolarsError}
use Rattle.plan_core.specs.declared.error.PolarsError.TheVariants.{SchemaFieldNotFound, Duplicate, SchemaMismatch, InvalidOperation, ComputeError, OutOfMemory}
use Rattle.plan_core.specs.Columns.{Columns}
use Rattle.plan_expr.specs.declared.aexpr.AExpr.{AExpr}
use Rattle.plan_ir.specs.declared.ir.IR.{IR}
use Rattle.plan_tree.specs.Rose.{Roses}
use Rattle.plan_ir.specs.Plans.{Op, plans_at}
use Rattle.plan_meaning.specs.Typing.{schemas, first_schema, faults, or_fault, checks, first_fault, schema_by, Says}
use Rattle.plan_meaning.specs.TreeFaults.{tree_fault}

-- the fault where there is one, else the schema
abbrev pub schema_or : Option PolarsError → Columns → Result Columns PolarsError
schema_or None s = Ok s
schema_or (Some fault) s = Err fault

-- the schema, or the first fault: bad numbers first, and then the faults of the nodes
abbrev pub typed : List IR → List AExpr → Node → Result Columns PolarsError
typed lp ex root =
    let plan = plans_at lp ex (root ∷ []) in
    schema_or (or_fault (tree_fault lp ex root) (faults plan)) (first_schema (schemas plan))

-- the answer is this one; want of memory says nothing
abbrev pub IsTyped : Result Columns PolarsError → Result Columns PolarsError → Type 0
IsTyped (Ok s) answer = answer ≡ Ok s
IsTyped (Err OutOfMemory) answer = Unit {0}
IsTyped (Err (SchemaFieldNotFound a)) answer = answer ≡ Err (SchemaFieldNotFound a)
IsTyped (Err (Duplicate a)) answer = answer ≡ Err (Duplicate a)
IsTyped (Err (SchemaMismatch a)) answer = answer ≡ Err (SchemaMismatch a)
IsTyped (Err (InvalidOperation a)) answer = answer ≡ Err (InvalidOperation a)
IsTyped (Err (ComputeError a)) answer = answer ≡ Err (ComputeError a)

-- the answer is the columns of one plan, or the first fault of its nodes; want of memory says nothing
abbrev pub IsPlanTyped : Result Columns PolarsError → Roses Node Op → Type 0
IsPlanTyped (Ok s) plans = (faults plans ≡ None) × (schemas plans ≡ s ∷ [])
IsPlanTyped (Err e) plans = Says {A = Columns} (Err e) (faults plans)

-- the answer is the columns of a node over those of its inputs, or the first fault of the node
abbrev pub IsNodeTyped : Result Columns PolarsError → Node → Op → List Columns → Type 0
IsNodeTyped (Ok s) n op ss = (first_fault n (checks op ss) ≡ None) × (schema_by op ss ≡ s)
IsNodeTyped (Err e) n op ss = Says {A = Columns} (Err e) (first_fault n (checks op ss))
