-- Plans that JSON values stand for.
use Rattle.std.specs.Prelude.{◌≡◌, List, [], ◌∷◌, true, Option, Some, codes}
use Rattle.std.specs.List.{AllByRecursion}
use Rattle.serde_json.specs.Data.{Data}
use Rattle.serde_json.specs.Find.{get}
use Rattle.plan_core.specs.declared.arena.Node.{Node}
use Rattle.plan_expr.specs.declared.aexpr.AExpr.{AExpr}
use Rattle.plan_ir.specs.declared.ir.IR.{IR}
use Rattle.plan_doc_parts.specs.Parts.{◌>>=◌, link_of}
use Rattle.plan_doc_parts.specs.Members.{object_of, at}
use Rattle.plan_doc.specs.Exprs.{expr_of}
use Rattle.plan_doc_nodes.specs.Nodes.{node_of}
use Rattle.plan_doc.specs.Document.{nodes_of, exprs_of}
use Rattle.plan_round_trip.specs.Canonical.{is_canonical}

-- the nodes, the expressions and the root of the plan that a value stands for, read as those of a document are
unfoldable pub plan_of : Data → Option (List IR × List AExpr × Node)
plan_of d = do
  o ← object_of (codes "exprs" ∷ codes "nodes" ∷ codes "root" ∷ []) d
  nodes ← get (codes "nodes") o
  lp ← nodes_of nodes
  exprs ← get (codes "exprs") o
  ex ← exprs_of exprs
  root ← at (codes "root") link_of o
  Some (lp, ex, root)

-- a JSON value stands for it
pub record IsSaid {A : Type 0} (reads : Data → Option A) (x : A) : Type 0 where
  pub value : Data
  pub canonical : is_canonical value ≡ true
  pub stands : reads value ≡ Some x

-- JSON values stand for the parts of a plan: for each of its nodes, for each of its expressions and for its root
pub record AreSaid (lp : List IR) (ex : List AExpr) (top : Node) : Type 0 where
  pub nodes : AllByRecursion (IsSaid node_of) lp
  pub exprs : AllByRecursion (IsSaid expr_of) ex
  pub root : IsSaid link_of top
