-- What the checks say, from what each of them found.
use Rattle.std.proofs.Common.{◌≡◌, ◌∙◌, ◌<◌, ◌≤◌, ◌⊎◌, ℕ, Bool, true, false, List, Err, inl, inr, sym}
use Rattle.std.proofs.lemmas.Bool.{cases_lt}
use Rattle.plan_core.specs.declared.arena.Node.{Node}
use Rattle.plan_core.specs.declared.error.PolarsError.{PolarsError}
use Rattle.plan_core.specs.declared.error.PolarsError.TheVariants.{SchemaFieldNotFound, Duplicate, SchemaMismatch, InvalidOperation, ComputeError, OutOfMemory}
use Rattle.plan_tree.specs.Rose.{levels}
use Rattle.plan_tree.specs.Stands.{Shape, Trees, StandsOnce}
use Rattle.plan_tree.proofs.ReadLemmas.{trees_at-is}
use Rattle.plan_expr.specs.declared.aexpr.AExpr.{AExpr}
use Rattle.plan_expr.specs.Operands.{expr_shape}
use Rattle.plan_ir.specs.declared.ir.IR.{IR}
use Rattle.plan_ir.specs.Parts.{roots_in, IsPlan}
use Rattle.plan_meaning.specs.Typed.{typed, IsTyped}
use Rattle.plan_tool.specs.Limits.{IsShallow, IsDeep}
use Rattle.plan_tool.specs.Checked.{Checks}
use Rattle.plan_tool.specs.Stops.{stop_of_fault}

-- there is one forest at most over numbers
pub alike : {P : Type 0} (S : Shape P) (lp : List P) (ns : List Node) (f g : Trees P) → StandsOnce S lp ns f → StandsOnce S lp ns g → f ≡ g
alike S lp ns f g a b = sym (trees_at-is S lp ns f a) ∙ trees_at-is S lp ns g b

-- what is found not to be above a limit is at most the limit
pub not_more : (limit d : ℕ) (b : Bool) → ((b ≡ true → limit < d) × (limit < d → b ≡ true)) → b ≡ false → d ≤ limit
not_more limit d b h off = elim (cases_lt limit d) as (λ _. d ≤ limit) [
  | inl a ↦ absurd (let u : true ≡ false = sym (h.1 a) ∙ off in cc)
  | inr x ↦ x
]

module _ (lp : List IR) (ex : List AExpr) (root : Node) where
  -- trees of expressions stand over the numbers that were listed
  pub exprs_stand : (roots : List Node) (p : IsPlan lp ex root) → roots ≡ roots_in p.nodes → StandsOnce expr_shape ex roots p.exprs
  exprs_stand roots p are = rw are p.stands.exprs

  -- no expression is too deep, nor is the plan
  pub shallow : (p : IsPlan lp ex root) → levels p.nodes ≤ 256 → levels p.exprs ≤ 128 → IsShallow lp ex root
  shallow p plan expr = record { nodes = p.nodes; exprs = p.exprs; stands = p.stands; plan = plan; expr = expr }

  -- the plan is too deep, or an expression is
  pub deep : (p : IsPlan lp ex root) → (256 < levels p.nodes) ⊎ (128 < levels p.exprs) → IsDeep lp ex root
  deep p above = record { nodes = p.nodes; exprs = p.exprs; stands = p.stands; deep = above }

  pub nodes_refused : (e : PolarsError) → IsTyped (Err e) (typed lp ex root) → IsShallow lp ex root → Checks (Err (stop_of_fault e)) lp ex root
  nodes_refused OutOfMemory t s = tt
  nodes_refused (SchemaFieldNotFound a) t s = record { typed = t; first = inr s }
  nodes_refused (Duplicate a) t s = record { typed = t; first = inr s }
  nodes_refused (SchemaMismatch a) t s = record { typed = t; first = inr s }
  nodes_refused (InvalidOperation a) t s = record { typed = t; first = inr s }
  nodes_refused (ComputeError a) t s = record { typed = t; first = inr s }
