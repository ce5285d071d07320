-- The loop over rules leaves a count of the rows of files as it is.
use Rattle.std.proofs.Common.{◌≡◌, ◌≤◌, ℕ, ◌+◌, inl, inr, List, [], ◌∷◌, ◌++◌, Option, None, Some, refl, ap₂, ◌∙◌, arith}
use Rattle.plan_core.specs.Columns.{Columns}
use Rattle.plan_core.specs.declared.data_type.DataType.{DataType}
use Rattle.plan_tree.specs.Rose.{Roses, rose, no_roses, more}
use Rattle.plan_scan.specs.declared.file_scan.FileScan.{FileScan}
use Rattle.plan_scan.specs.declared.sources.ScanSources.{ScanSources}
use Rattle.plan_expr.specs.Leaves.{Name}
use Rattle.plan_ir.specs.Plans.{Op, scan, frame_scan, select, Plan}
use Rattle.plan_meaning.specs.Marks.{unmarked_op}
use Rattle.plan_meaning.specs.Scans.{KeepScans, own_scan}
use Rattle.plan_meaning.specs.Steps.{IsValid}
use Rattle.plan_meaning.specs.Typing.{columns_or, schema_by}
use Rattle.plan_meaning.proofs.CheckParts.{FrameGood, frame_good}
use Rattle.plan_pass_laws.specs.Clearing.{Cleared, IsCleared}
use Rattle.plan_pass_laws.specs.declared.kind.RuleKind.{RuleKind}
use Rattle.plan_pass_laws.specs.Settling.{Settles}
use Rattle.plan_pass_laws.specs.Weights.{own_weight, weight}
use Rattle.plan_order_laws.specs.Counted.{count_plan}

-- Marks

-- a node without a mark has none to lose
unmarked_stays : (o op : Op) → unmarked_op op ≡ op → IsCleared o op → o ≡ op
unmarked_stays o op e (inl h) = h
unmarked_stays o op e (inr h) = h ∙ e

-- a count with marks cleared is itself, since it has none
cleared_count : (x : ScanSources × FileScan) (alias : Option Name) (q : Plan) → Cleared q (count_plan x alias) → q ≡ count_plan x alias
cleared_count x alias (rose m o (more (rose k p no_roses) no_roses)) h =
    ap₂ (λ (a b : Op). rose tt a (more (rose tt b no_roses) no_roses)) (unmarked_stays o _ refl h.0) (unmarked_stays p _ refl h.1.0)
cleared_count x alias (rose m o (more (rose k p (more t ts)) no_roses)) h = absurd h.1.1
cleared_count x alias (rose m o (more (rose k p ts) (more r rest))) h = absurd h.1.2
cleared_count x alias (rose m o no_roses) h = absurd h.1

-- Weights

-- each node weighs something
own_weighs : (op : Op) → 1 ≤ own_weight op
own_weighs (select exprs schema options) = omega arith
own_weighs op = omega arith

-- a node over another weighs no less than a count
two_weigh : (m k : Unit {0}) (o p : Op) (us ts : Roses (Unit {0}) Op) → 2 ≤ weight (rose m o (more (rose k p us) ts))
two_weigh m k o p us ts = let a = own_weighs o in let b = own_weighs p in omega (arith, a, b)

-- what weighs no less than a count and no more weighs as much
at_most : (n w : ℕ) → n + w ≤ 2 → 2 ≤ w → w ≡ 2
at_most n w a b = omega (arith, a, b)

-- A node without inputs

-- the frame without a number has no columns
no_columns : (df : Option ℕ) (schema : Columns) (output : Option Columns) → FrameGood df schema output → df ≡ None → columns_or output schema ≡ []
no_columns None [] None g e = refl
no_columns None [] (Some []) g e = refl
no_columns None [] (Some (c ∷ cs)) g e = let k = g.known.0 in cc
no_columns None (c ∷ cs) output g e = let k = g.number in cc
no_columns (Some n) schema output g e = cc

-- no node that scans it alone has a column
no_scan : (m : Unit {0}) (o : Op) (c : Name × DataType) → IsValid (rose m o no_roses) → schema_by o [] ≡ c ∷ [] → KeepScans (own_scan o ++ []) (frame_scan None [] None ∷ []) → ⊥
no_scan m (frame_scan df schema output) c v e h = let f = no_columns df schema output (frame_good df schema output v.0) h.0 in cc
no_scan m (scan sources info hive predicate output kind options) c v e h = h.0
no_scan m o c v e h = h

-- the loop over rules leaves a count as it is
pub count_stays : (ks : List RuleKind) (x : ScanSources × FileScan) (alias : Option Name) (q : Plan) (n : ℕ) → IsValid (count_plan x alias) → Settles ks (count_plan x alias) q n → q ≡ count_plan x alias
count_stays ks x alias (rose m o no_roses) n v s = absurd (no_scan m o _ s.refines.valid s.refines.schema s.keeps)
count_stays ks x alias (rose m o (more (rose k p us) ts)) n v s =
    let q : Plan = rose m o (more (rose k p us) ts) in
    cleared_count x alias q (s.same (at_most n (weight q) s.counted (two_weigh m k o p us ts)))
