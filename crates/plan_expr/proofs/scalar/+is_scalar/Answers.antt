use Rattle.std.proofs.Common.{◌≡◌, ◌∙◌, Bool, true, false, sym, arith, None, Some}
use Rattle.std.specs.List.{slice_get, list_all}
use Rattle.std.proofs.lemmas.Option.{slice_get_within}
use Rattle.plan_core.specs.declared.arena.Node.{Node}
use Rattle.plan_expr.specs.Exprs.{expr_at}
use Rattle.plan_expr.specs.Operands.{operands_of}
use Rattle.plan_expr.specs.Scalars.{is_scalar}
use Rattle.plan_expr.proofs.ExprLemmas.{expr_down}
use Rattle.plan_expr.proofs.ListLemmas.{past}
use Rattle.plan_expr.proofs.ScalarLemmas.{scalar-open, tests_fail, tests_more, tests_end}
use Rattle.plan_expr.proofs.scalar.+is_scalar.Goals as goal

pub returns-in-Some : goal.returns-in-Some
returns-in-Some t c =
    let p = c.get-expr.result.now in
    let test : Node → Bool = λ k. is_scalar (expr_at c.args.ex.now k) in
    sym (scalar-open c.args.ex.now c.args.node p c.requires c.get-expr.ensures.entry ∙ c.in-Some.ensures.settled (list_all test (operands_of p)))

pub is_scalar-requires : goal.is_scalar-requires
is_scalar-requires t c =
    let p = c.get-expr.result.now in
    let there : slice_get (operands_of p) c.loop-operand.place ≡ Some c.in-Some-operand.operand = sym c.operand.ensures.there ∙ c.in-Some-operand.is in
    let down = expr_down c.args.ex.now c.args.node c.in-Some-operand.operand p c.loop-operand.place c.requires c.get-expr.ensures.entry there in
    (omega (arith, down.0, c.decreases), down.1)

pub returns-then-not-is_scalar : goal.returns-then-not-is_scalar
returns-then-not-is_scalar t c =
    let p = c.get-expr.result.now in
    let test : Node → Bool = λ k. is_scalar (expr_at c.args.ex.now k) in
    let there : slice_get (operands_of p) c.loop-operand.place ≡ Some c.in-Some-operand.operand = sym c.operand.ensures.there ∙ c.in-Some-operand.is in
    let fails : list_all test (operands_of p) ≡ false = tests_fail test (operands_of p) c.loop-operand.place c.in-Some-operand.operand there (sym c.if-not-is_scalar.ensures) in
    sym (scalar-open c.args.ex.now c.args.node p c.requires c.get-expr.ensures.entry ∙ c.in_default.ensures.open (list_all test (operands_of p)) ∙ fails)

pub loop-operand-smaller : goal.loop-operand-smaller
loop-operand-smaller t c =
    let p = c.get-expr.result.now in
    let there : slice_get (operands_of p) c.loop-operand.place ≡ Some c.in-Some-operand.operand = sym c.operand.ensures.there ∙ c.in-Some-operand.is in
    let within = slice_get_within (operands_of p) c.loop-operand.place c.in-Some-operand.operand there in
    omega (arith, within)

pub loop-operand-preserved : goal.loop-operand-preserved
loop-operand-preserved t c =
    let p = c.get-expr.result.now in
    let test : Node → Bool = λ k. is_scalar (expr_at c.args.ex.now k) in
    let there : slice_get (operands_of p) c.loop-operand.place ≡ Some c.in-Some-operand.operand = sym c.operand.ensures.there ∙ c.in-Some-operand.is in
    tests_more test (operands_of p) c.loop-operand.place c.in-Some-operand.operand there c.loop-operand.invariant (sym c.if-not-is_scalar.ensures)

pub returns : goal.returns
returns t c =
    let p = c.get-expr.result.now in
    let test : Node → Bool = λ k. is_scalar (expr_at c.args.ex.now k) in
    let none : slice_get (operands_of p) c.loop-operand.place ≡ None = sym c.operand.ensures.there ∙ c.in_default-operand.is in
    let all : list_all test (operands_of p) ≡ true = tests_end test (operands_of p) c.loop-operand.place (past (operands_of p) c.loop-operand.place none) c.loop-operand.invariant in
    sym (scalar-open c.args.ex.now c.args.node p c.requires c.get-expr.ensures.entry ∙ c.in_default.ensures.open (list_all test (operands_of p)) ∙ all)
