use Rattle.std.proofs.Common.{◌∙◌, subst, sym}
use Rattle.plan_ir.specs.Plans.{Plan}
use Rattle.plan_ir.specs.declared.functions.FunctionIR.TheVariants.{FastCount}
use Rattle.plan_meaning.specs.Caches.{AreShared}
use Rattle.plan_meaning.specs.PlanAt.{plan_at}
use Rattle.plan_meaning.specs.Relating.{Refines}
use Rattle.plan_scan.specs.declared.file_scan.FileScan.{FileScan}
use Rattle.plan_scan.specs.declared.sources.ScanSources.{ScanSources}
use Rattle.plan_order_laws.specs.Counted.{count_alias, count_of}
use Rattle.plan_order_laws.proofs.CountRefines.{counted_refines, not_countable}
use Rattle.plan_order.proofs.CountLemmas.{entry-within}
use Rattle.plan_order.proofs.CountStarLemmas.{counted-by, counted-shared, none-of, put-here, put-in-place, put-plan, put-stands, some-of}
use Rattle.plan_order.proofs.count_star.CountStar.optimize_plan.Goals as goal

pub put-requires : goal.put-requires
put-requires c = entry-within c.args.lp.now c.args.node (c.requires.plan.nodes, c.requires.plan.stands.nodes)

pub returns-in_ok-put-in-Some-clause-some : goal.returns-in_ok-put-in-Some-clause-some
returns-in_ok-put-in-Some-clause-some c =
    let p : Plan = plan_at c.args.lp.now c.args.ex.now c.args.node in
    some-of (λ (x : ScanSources × FileScan). FastCount x.0 x.1 (count_alias p)) (count_of p) c.in-Some.function (sym c.in-Some.is ∙ c.in_ok-function.ensures)

pub returns-in_ok-put-in-Some-clause-answered : goal.returns-in_ok-put-in-Some-clause-answered
returns-in_ok-put-in-Some-clause-answered c =
    let placed = c.in_ok-put-in-Some.ensures.placed in
    put-here c.args.lp.now c.put.new.lp c.args.ex.now c.args.node c.in-Some.function placed.0 c.in_ok-put-in-Some.field-0 placed.1 placed.2 placed.3 c.requires.plan

pub returns-in_ok-put-in-Some-clause-in_place : goal.returns-in_ok-put-in-Some-clause-in_place
returns-in_ok-put-in-Some-clause-in_place c = λ t e h.
    let placed = c.in_ok-put-in-Some.ensures.placed in
    put-in-place c.args.lp.now c.put.new.lp c.args.ex.now c.args.node c.in-Some.function placed.0 c.in_ok-put-in-Some.field-0 placed.1 placed.2 placed.3 t e h

pub returns-in_ok-put-in-Some-clause-is_plan : goal.returns-in_ok-put-in-Some-clause-is_plan
returns-in_ok-put-in-Some-clause-is_plan c =
    let placed = c.in_ok-put-in-Some.ensures.placed in
    put-stands c.args.lp.now c.put.new.lp c.args.ex.now c.args.node c.in-Some.function placed.0 c.in_ok-put-in-Some.field-0 placed.1 placed.2 placed.3 c.requires.plan

pub returns-in_ok-put-in-Some-clause-counted : goal.returns-in_ok-put-in-Some-clause-counted
returns-in_ok-put-in-Some-clause-counted c =
    let placed = c.in_ok-put-in-Some.ensures.placed in
    put-plan c.args.lp.now c.put.new.lp c.args.ex.now c.args.node c.in-Some.function placed.0 c.in_ok-put-in-Some.field-0 placed.1 placed.2 placed.3 c.requires.plan
    ∙ counted-by (plan_at c.args.lp.now c.args.ex.now c.args.node) c.in-Some.function (sym c.in-Some.is ∙ c.in_ok-function.ensures)

pub returns-in_ok-put-in-Some-clause-shared : goal.returns-in_ok-put-in-Some-clause-shared
returns-in_ok-put-in-Some-clause-shared c = λ s.
    subst AreShared (sym (returns-in_ok-put-in-Some-clause-counted c)) (counted-shared (plan_at c.args.lp.now c.args.ex.now c.args.node) s)

pub returns-in_ok-put-in-Some-clause-refines : goal.returns-in_ok-put-in-Some-clause-refines
returns-in_ok-put-in-Some-clause-refines c =
    let p : Plan = plan_at c.args.lp.now c.args.ex.now c.args.node in
    subst (λ (q : Plan). Refines q p) (sym (returns-in_ok-put-in-Some-clause-counted c)) (counted_refines p c.requires.valid)

pub returns-in-None-clause-some : goal.returns-in-None-clause-some
returns-in-None-clause-some c =
    let p : Plan = plan_at c.args.lp.now c.args.ex.now c.args.node in
    none-of (λ (x : ScanSources × FileScan). FastCount x.0 x.1 (count_alias p)) (count_of p) (sym c.in-None.is ∙ c.in_ok-function.ensures)

pub returns-in-None-clause-refines : goal.returns-in-None-clause-refines
returns-in-None-clause-refines c =
    let p : Plan = plan_at c.args.lp.now c.args.ex.now c.args.node in
    subst (λ (q : Plan). Refines q p) (not_countable p (sym (returns-in-None-clause-some c))) (counted_refines p c.requires.valid)
