-- What is listed for a document.
use Rattle.std.specs.Prelude.{◌≡◌, ◌≤◌, ◌^◌, ℕ, true, false, List, length, Option}
use Rattle.plan_core.specs.declared.arena.Node.{Node}
use Rattle.plan_core.specs.declared.flags.OptFlags.{OptFlags}
use Rattle.plan_doc.specs.declared.document.Document.{Document}
use Rattle.plan_ir.specs.declared.copy.PlanCopy.{PlanCopy}
use Rattle.plan_expr.specs.declared.aexpr.AExpr.{AExpr}
use Rattle.plan_ir.specs.declared.ir.IR.{IR}
use Rattle.plan_ir.specs.Copies.{IsRenumbered}
use Rattle.plan_ir.specs.Plans.{Plan}
use Rattle.plan_ir.specs.Reads.{scan_reads_of}
use Rattle.plan_meaning.specs.Caches.{AreShared}
use Rattle.plan_meaning.specs.PlanAt.{plan_at}
use Rattle.plan_meaning.specs.Relating.{Refines}
use Rattle.plan_meaning.specs.Scans.{Keeps}
use Rattle.plan_table.specs.declared.table.Table.{Table}
use Rattle.plan_text.specs.Written.{listing_text}
use Rattle.plan_tool.specs.Rows.{AreRows}
use Rattle.plan_top.specs.Chains.{Boxes, Chain, Left, ReadsAsked, is_pruning, passes}

-- what is promised of the plan that is answered for a plan: it can give a frame over all contents that fit, and gives only frames that the given plan may give; its caches of one number stand over alike plans where the given ones do, if each box holds a rule that is its kind's own; where pushdown is asked, it is a bare count, or its scans are the given ones, one for one, each reading only what it may for what is asked of it; else they are the given ones, and none reads what it didn't read
pub record IsAnswer (flags : OptFlags) (boxes : Boxes) (answer given : Plan) : Type 0 where
  pub refines : Refines answer given
  pub shared : boxes.own ≡ true → AreShared given → AreShared answer
  pub reads : is_pruning flags ≡ true → ReadsAsked flags given answer
  pub keeps : is_pruning flags ≡ false → Keeps answer given

-- the text lists the plan at a number, numbered from 0, with no more nodes and expressions than a document can lead to, what its scans read, and these rows
pub record IsListOf (lp : List IR) (ex : List AExpr) (root : Node) (rows : Option Table) (text : List ℕ) : Type 0 where
  pub plan : PlanCopy
  pub renumbered : IsRenumbered lp ex root plan
  pub few_nodes : length plan.lp ≤ 2 ^ 32
  pub few_exprs : length plan.ex ≤ 2 ^ 32
  pub is : text ≡ listing_text plan.lp plan.ex plan.root (scan_reads_of plan.lp) rows

-- the text lists the optimised plan of a document, the last of the plans that the passes of its flags leave one after another, with the rules in boxes among theirs; and the rows of a frame that this plan, and so the given one, may give over the document's tables
pub record IsListing (boxes : Boxes) (d : Document) (text : List ℕ) : Type 0 where
  pub nodes : List IR
  pub exprs : List AExpr
  pub steps : List Left
  pub chain : Chain d.flags boxes (plan_at d.lp d.ex d.root) (passes d.flags (plan_at d.lp d.ex d.root)) steps (plan_at nodes exprs d.root)
  pub promised : IsAnswer d.flags boxes (plan_at nodes exprs d.root) (plan_at d.lp d.ex d.root)
  pub rows : Option Table
  pub answered_rows : AreRows d.tables (plan_at nodes exprs d.root) rows
  pub given_rows : AreRows d.tables (plan_at d.lp d.ex d.root) rows
  pub lists : IsListOf nodes exprs d.root rows text
