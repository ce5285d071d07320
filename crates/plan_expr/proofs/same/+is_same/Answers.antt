use Rattle.std.proofs.Common.{◌≡◌, ◌∙◌, ◌&&◌, Bool, Some, ap, sym, arith, rules, is_none}
use Rattle.std.specs.List.{slice_get}
use Rattle.std.proofs.lemmas.Option.{slice_get_within}
use Rattle.plan_expr.specs.Exprs.{expr_op, exprs_at}
use Rattle.plan_expr.specs.Operands.{operands_of}
use Rattle.plan_expr.proofs.ExprLemmas.{expr_down}
use Rattle.plan_expr.specs.Same.{same_op, same_trees}
use Rattle.plan_expr.proofs.SameTrees.{differ_behind, differ_there, not_both, not_second, same_last, same_next, same_open}
use Rattle.plan_expr.proofs.same.+is_same.Goals as goal

pub returns-then-not-same_operator : goal.returns-then-not-same_operator
returns-then-not-same_operator t c =
    let ex = c.args.ex.now in
    let p = c.get-own.result.now in
    let q = c.get-other.result.now in
    sym (same_open ex c.args.left c.args.right p q c.requires.left c.requires.right c.get-own.ensures.entry c.get-other.ensures.entry
    ∙ not_both (same_op (expr_op p) (expr_op q)) (same_trees (exprs_at ex (operands_of p)) (exprs_at ex (operands_of q))) (sym c.if-not-same_operator.ensures))

pub returns-in_default-operand : goal.returns-in_default-operand
returns-in_default-operand t c =
    let ex = c.args.ex.now in
    let p = c.get-own.result.now in
    let q = c.get-other.result.now in
    sym (same_open ex c.args.left c.args.right p q c.requires.left c.requires.right c.get-own.ensures.entry c.get-other.ensures.entry
    ∙ not_second (same_op (expr_op p) (expr_op q)) (same_trees (exprs_at ex (operands_of p)) (exprs_at ex (operands_of q)))
    (differ_behind ex (operands_of p) (operands_of q) c.loop-operand.place c.in-Some.operand (sym c.operand.ensures.there ∙ c.in-Some.is) (sym c.operand-in-Some.ensures.there ∙ c.in_default-operand.is)))

pub is_same-requires : goal.is_same-requires
is_same-requires t c =
    let ex = c.args.ex.now in
    let there : slice_get (operands_of c.get-own.result.now) c.loop-operand.place ≡ Some c.in-Some.operand = sym c.operand.ensures.there ∙ c.in-Some.is in
    let beside : slice_get (operands_of c.get-other.result.now) c.loop-operand.place ≡ Some c.in-Some-operand.partner = sym c.operand-in-Some.ensures.there ∙ c.in-Some-operand.is in
    let down = expr_down ex c.args.left c.in-Some.operand c.get-own.result.now c.loop-operand.place c.requires.left c.get-own.ensures.entry there in
    let over = expr_down ex c.args.right c.in-Some-operand.partner c.get-other.result.now c.loop-operand.place c.requires.right c.get-other.ensures.entry beside in
    (omega (arith, down.0, c.decreases), (down.1, over.1))

pub returns-then-not-is_same : goal.returns-then-not-is_same
returns-then-not-is_same t c =
    let ex = c.args.ex.now in
    let p = c.get-own.result.now in
    let q = c.get-other.result.now in
    sym (same_open ex c.args.left c.args.right p q c.requires.left c.requires.right c.get-own.ensures.entry c.get-other.ensures.entry
    ∙ not_second (same_op (expr_op p) (expr_op q)) (same_trees (exprs_at ex (operands_of p)) (exprs_at ex (operands_of q)))
    (differ_there ex (operands_of p) (operands_of q) c.loop-operand.place c.in-Some.operand c.in-Some-operand.partner (sym c.operand.ensures.there ∙ c.in-Some.is) (sym c.operand-in-Some.ensures.there ∙ c.in-Some-operand.is) (sym c.if-not-is_same.ensures)))

pub loop-operand-smaller : goal.loop-operand-smaller
loop-operand-smaller t c =
    let p = c.get-own.result.now in
    let there : slice_get (operands_of p) c.loop-operand.place ≡ Some c.in-Some.operand = sym c.operand.ensures.there ∙ c.in-Some.is in
    let within = slice_get_within (operands_of p) c.loop-operand.place c.in-Some.operand there in
    omega (arith, within)

pub loop-operand-preserved : goal.loop-operand-preserved
loop-operand-preserved t c =
    same_next c.args.ex.now (operands_of c.get-own.result.now) (operands_of c.get-other.result.now) c.loop-operand.place c.in-Some.operand c.in-Some-operand.partner
    (sym c.operand.ensures.there ∙ c.in-Some.is) (sym c.operand-in-Some.ensures.there ∙ c.in-Some-operand.is) (sym c.if-not-is_same.ensures) c.loop-operand.invariant

pub returns : goal.returns
returns t c =
    let ex = c.args.ex.now in
    let p = c.get-own.result.now in
    let q = c.get-other.result.now in
    let is : c.is_none.result ≡ is_none c.operand-2.result = search rules in
    is
    ∙ same_last ex (operands_of p) (operands_of q) c.loop-operand.place (sym c.operand.ensures.there ∙ c.in_default.is) c.loop-operand.invariant c.operand-2.result (sym c.operand-2.ensures.there)
    ∙ sym (same_open ex c.args.left c.args.right p q c.requires.left c.requires.right c.get-own.ensures.entry c.get-other.ensures.entry
    ∙ ap (λ (b : Bool). b && same_trees (exprs_at ex (operands_of p)) (exprs_at ex (operands_of q))) (sym c.if-not-same_operator.ensures))
