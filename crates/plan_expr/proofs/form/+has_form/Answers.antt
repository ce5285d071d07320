use Rattle.std.proofs.Common.{◌≡◌, ◌∙◌, ◌&&◌, Bool, true, false, ap, ap₂, sym, arith, None, Some}
use Rattle.std.specs.List.{slice_get, list_all}
use Rattle.std.proofs.lemmas.Option.{slice_get_within}
use Rattle.plan_core.specs.declared.arena.Node.{Node}
use Rattle.plan_expr.specs.Exprs.{expr_at}
use Rattle.plan_expr.specs.Forms.{has_form}
use Rattle.plan_expr.specs.Operands.{operands_of}
use Rattle.plan_expr.proofs.ExprLemmas.{expr_down, exprs_down}
use Rattle.plan_expr.proofs.FormLemmas.{form-open, and-false}
use Rattle.plan_expr.proofs.ListLemmas.{past}
use Rattle.plan_expr.proofs.ScalarLemmas.{tests_fail, tests_more, tests_end}
use Rattle.plan_expr.proofs.form.+has_form.Goals as goal

pub has_own_form-requires : goal.has_own_form-requires
has_own_form-requires t c = exprs_down c.args.ex.now c.args.node c.get-expr.result.now c.requires c.get-expr.ensures.entry

pub returns-then-not-has_own_form : goal.returns-then-not-has_own_form
returns-then-not-has_own_form t c =
    let p = c.get-expr.result.now in
    let test : Node → Bool = λ k. has_form (expr_at c.args.ex.now k) in
    sym (form-open c.args.ex.now c.args.node p c.requires c.get-expr.ensures.entry
    ∙ ap (λ (b : Bool). b && list_all test (operands_of p)) (sym c.if-not-has_own_form.ensures))

pub has_form-requires : goal.has_form-requires
has_form-requires t c =
    let p = c.get-expr.result.now in
    let there : slice_get (operands_of p) c.loop-operand.place ≡ Some c.in-Some.operand = sym c.operand.ensures.there ∙ c.in-Some.is in
    let down = expr_down c.args.ex.now c.args.node c.in-Some.operand p c.loop-operand.place c.requires c.get-expr.ensures.entry there in
    (omega (arith, down.0, c.decreases), down.1)

pub returns-then-not-has_form : goal.returns-then-not-has_form
returns-then-not-has_form t c =
    let p = c.get-expr.result.now in
    let test : Node → Bool = λ k. has_form (expr_at c.args.ex.now k) in
    let there : slice_get (operands_of p) c.loop-operand.place ≡ Some c.in-Some.operand = sym c.operand.ensures.there ∙ c.in-Some.is in
    let fails : list_all test (operands_of p) ≡ false = tests_fail test (operands_of p) c.loop-operand.place c.in-Some.operand there (sym c.if-not-has_form.ensures) in
    sym (form-open c.args.ex.now c.args.node p c.requires c.get-expr.ensures.entry ∙ and-false _ (list_all test (operands_of p)) fails)

pub loop-operand-smaller : goal.loop-operand-smaller
loop-operand-smaller t c =
    let p = c.get-expr.result.now in
    let there : slice_get (operands_of p) c.loop-operand.place ≡ Some c.in-Some.operand = sym c.operand.ensures.there ∙ c.in-Some.is in
    let within = slice_get_within (operands_of p) c.loop-operand.place c.in-Some.operand there in
    omega (arith, within)

pub loop-operand-preserved : goal.loop-operand-preserved
loop-operand-preserved t c =
    let p = c.get-expr.result.now in
    let test : Node → Bool = λ k. has_form (expr_at c.args.ex.now k) in
    let there : slice_get (operands_of p) c.loop-operand.place ≡ Some c.in-Some.operand = sym c.operand.ensures.there ∙ c.in-Some.is in
    tests_more test (operands_of p) c.loop-operand.place c.in-Some.operand there c.loop-operand.invariant (sym c.if-not-has_form.ensures)

pub returns : goal.returns
returns t c =
    let p = c.get-expr.result.now in
    let test : Node → Bool = λ k. has_form (expr_at c.args.ex.now k) in
    let none : slice_get (operands_of p) c.loop-operand.place ≡ None = sym c.operand.ensures.there ∙ c.in_default.is in
    let all : list_all test (operands_of p) ≡ true = tests_end test (operands_of p) c.loop-operand.place (past (operands_of p) c.loop-operand.place none) c.loop-operand.invariant in
    sym (form-open c.args.ex.now c.args.node p c.requires c.get-expr.ensures.entry ∙ ap₂ (λ (a b : Bool). a && b) (sym c.has_own_form.ensures ∙ c.if-not-has_own_form.false) all)
