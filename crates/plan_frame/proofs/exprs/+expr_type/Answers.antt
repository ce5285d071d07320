use Rattle.std.proofs.Common.{◌≡◌, ◌∙◌, sym, arith, rules, None, Some}
use Rattle.std.specs.List.{slice_get}
use Rattle.std.proofs.lemmas.Option.{slice_get_within}
use Rattle.plan_expr.specs.Operands.{operands_of}
use Rattle.plan_expr.proofs.ExprLemmas.{expr_down}
use Rattle.plan_expr.proofs.ListLemmas.{past}
use Rattle.plan_frame.proofs.ExprSteps.{typed-none, typed-next, typed-bad, typed-end}
use Rattle.plan_frame.proofs.exprs.+expr_type.Goals as goal

pub loop-operand-init : goal.loop-operand-init
loop-operand-init t c = typed-none c.args.ex.now c.args.schema.now (operands_of c.get-expr.result.now)

pub expr_type-requires : goal.expr_type-requires
expr_type-requires t c =
    let p = c.get-expr.result.now in
    let there : slice_get (operands_of p) c.loop-operand.place ≡ Some c.in-Some.operand = sym c.operand.ensures.there ∙ c.in-Some.is in
    let down = expr_down c.args.ex.now c.args.node c.in-Some.operand p c.loop-operand.place c.requires c.get-expr.ensures.entry there in
    (omega (arith, down.0, c.decreases), down.1)

pub returns-in_err-expr_type : goal.returns-in_err-expr_type
returns-in_err-expr_type t c =
    let p = c.get-expr.result.now in
    let there : slice_get (operands_of p) c.loop-operand.place ≡ Some c.in-Some.operand = sym c.operand.ensures.there ∙ c.in-Some.is in
    let none : c.expr_type.result ≡ None = search rules in
    let gives : c.from_residual.result ≡ None = search rules in
    gives ∙ typed-bad c.args.ex.now c.args.node c.in-Some.operand p c.loop-operand.place c.args.schema.now c.requires c.get-expr.ensures.entry there (sym c.expr_type.ensures ∙ none)

pub loop-operand-smaller : goal.loop-operand-smaller
loop-operand-smaller t c =
    let p = c.get-expr.result.now in
    let there : slice_get (operands_of p) c.loop-operand.place ≡ Some c.in-Some.operand = sym c.operand.ensures.there ∙ c.in-Some.is in
    let within = slice_get_within (operands_of p) c.loop-operand.place c.in-Some.operand there in
    omega (arith, within)

pub loop-operand-preserved : goal.loop-operand-preserved
loop-operand-preserved t c =
    let p = c.get-expr.result.now in
    let there : slice_get (operands_of p) c.loop-operand.place ≡ Some c.in-Some.operand = sym c.operand.ensures.there ∙ c.in-Some.is in
    let some : c.expr_type.result ≡ Some c.in_ok-expr_type.field-0 = search rules in
    typed-next c.args.ex.now c.args.schema.now (operands_of p) c.loop-operand.place c.in-Some.operand c.in_ok-expr_type.field-0 c.loop-operand.types c.with_one-types.result there (sym c.expr_type.ensures ∙ some) c.loop-operand.invariant c.with_one-types.ensures

pub returns : goal.returns
returns t c =
    let p = c.get-expr.result.now in
    let none : slice_get (operands_of p) c.loop-operand.place ≡ None = sym c.operand.ensures.there ∙ c.in_default.is in
    typed-end c.args.ex.now c.args.node p c.loop-operand.place c.args.schema.now c.loop-operand.types c.type_over.result c.requires c.get-expr.ensures.entry (past (operands_of p) c.loop-operand.place none) c.loop-operand.invariant c.type_over.ensures
