use Rattle.std.proofs.Common.{◌≡◌, ◌∙◌, Bool, sym, arith, rules, None, Some}
use Rattle.std.specs.List.{slice_get}
use Rattle.std.proofs.lemmas.Option.{slice_get_within}
use Rattle.plan_core.specs.declared.arena.Node.{Node}
use Rattle.plan_expr.specs.Exprs.{expr_at}
use Rattle.plan_expr.specs.Leaves.{leaves}
use Rattle.plan_expr.specs.Operands.{operands_of}
use Rattle.plan_expr.proofs.ExprLemmas.{expr_down}
use Rattle.plan_expr.proofs.ListLemmas.{past}
use Rattle.plan_expr.proofs.ScalarLemmas.{tests_fail, tests_more, tests_end}
use Rattle.plan_frame.specs.Exprs.{all_known}
use Rattle.plan_frame.proofs.ExprSteps.{known-column, known-below}
use Rattle.plan_frame.proofs.exprs.+reads_only.Goals as goal

pub returns-in-Some : goal.returns-in-Some
returns-in-Some t c =
    let is : c.is_some.result ≡ _ = search rules in
    is ∙ known-column c.args.ex.now c.args.node c.requires c.get-expr.result.now c.in-Some.name.now c.args.schema.now c.get-expr.ensures.entry c.in-Some.ensures.some

pub reads_only-requires : goal.reads_only-requires
reads_only-requires t c =
    let p = c.get-expr.result.now in
    let there : slice_get (operands_of p) c.loop-operand.place ≡ Some c.in-Some-operand.operand = sym c.operand.ensures.there ∙ c.in-Some-operand.is in
    let down = expr_down c.args.ex.now c.args.node c.in-Some-operand.operand p c.loop-operand.place c.requires c.get-expr.ensures.entry there in
    (omega (arith, down.0, c.decreases), down.1)

pub returns-then-not-reads_only : goal.returns-then-not-reads_only
returns-then-not-reads_only t c =
    let p = c.get-expr.result.now in
    let test : Node → Bool = λ k. all_known (leaves (expr_at c.args.ex.now k)) c.args.schema.now in
    let there : slice_get (operands_of p) c.loop-operand.place ≡ Some c.in-Some-operand.operand = sym c.operand.ensures.there ∙ c.in-Some-operand.is in
    sym (tests_fail test (operands_of p) c.loop-operand.place c.in-Some-operand.operand there (sym c.if-not-reads_only.ensures))
    ∙ known-below c.args.ex.now c.args.node c.requires p c.args.schema.now c.get-expr.ensures.entry c.in_default.ensures.none

pub loop-operand-smaller : goal.loop-operand-smaller
loop-operand-smaller t c =
    let p = c.get-expr.result.now in
    let there : slice_get (operands_of p) c.loop-operand.place ≡ Some c.in-Some-operand.operand = sym c.operand.ensures.there ∙ c.in-Some-operand.is in
    let within = slice_get_within (operands_of p) c.loop-operand.place c.in-Some-operand.operand there in
    omega (arith, within)

pub loop-operand-preserved : goal.loop-operand-preserved
loop-operand-preserved t c =
    let p = c.get-expr.result.now in
    let test : Node → Bool = λ k. all_known (leaves (expr_at c.args.ex.now k)) c.args.schema.now in
    let there : slice_get (operands_of p) c.loop-operand.place ≡ Some c.in-Some-operand.operand = sym c.operand.ensures.there ∙ c.in-Some-operand.is in
    tests_more test (operands_of p) c.loop-operand.place c.in-Some-operand.operand there c.loop-operand.invariant (sym c.if-not-reads_only.ensures)

pub returns : goal.returns
returns t c =
    let p = c.get-expr.result.now in
    let test : Node → Bool = λ k. all_known (leaves (expr_at c.args.ex.now k)) c.args.schema.now in
    let none : slice_get (operands_of p) c.loop-operand.place ≡ None = sym c.operand.ensures.there ∙ c.in_default-operand.is in
    sym (tests_end test (operands_of p) c.loop-operand.place (past (operands_of p) c.loop-operand.place none) c.loop-operand.invariant)
    ∙ known-below c.args.ex.now c.args.node c.requires p c.args.schema.now c.get-expr.ensures.entry c.in_default.ensures.none
