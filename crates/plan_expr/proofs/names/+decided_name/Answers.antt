use Rattle.std.proofs.Common.{◌≡◌, ◌∙◌, sym, arith, None, Some}
use Rattle.std.specs.List.{slice_get}
use Rattle.std.proofs.lemmas.Option.{slice_get_within}
use Rattle.plan_core.specs.declared.arena.Node.{Node}
use Rattle.plan_expr.specs.Exprs.{expr_at, expr_op}
use Rattle.plan_expr.specs.Naming.{Naming, naming, named_part}
use Rattle.plan_expr.specs.Operands.{operands_of}
use Rattle.plan_expr.proofs.ExprLemmas.{expr_down}
use Rattle.plan_expr.proofs.ListLemmas.{past}
use Rattle.plan_expr.proofs.NameLemmas.{first_found, first_more, first_end, naming_own, naming_below, part_operand}
use Rattle.plan_expr.proofs.names.+decided_name.Goals as goal

pub returns-in-Some : goal.returns-in-Some
returns-in-Some t c = naming_own c.args.ex.now c.args.node c.get-expr.result.now c.in-Some.own c.requires c.get-expr.ensures.entry c.in-Some.ensures

pub decided_name-requires : goal.decided_name-requires
decided_name-requires t c =
    let p = c.get-expr.result.now in
    let m = c.in-Some-named_operand.operand in
    let there : slice_get (named_part (expr_op p) (operands_of p)) c.loop-operand.place ≡ Some m = sym c.named_operand.ensures.there ∙ c.in-Some-named_operand.is in
    let down = expr_down c.args.ex.now c.args.node m p c.loop-operand.place c.requires c.get-expr.ensures.entry (part_operand (expr_op p) (operands_of p) c.loop-operand.place m there) in
    (omega (arith, down.0, c.decreases), down.1)

pub returns-in-Some-decided_name : goal.returns-in-Some-decided_name
returns-in-Some-decided_name t c =
    let p = c.get-expr.result.now in
    let m = c.in-Some-named_operand.operand in
    let name : Node → Naming = λ k. naming (expr_at c.args.ex.now k) in
    let there : slice_get (named_part (expr_op p) (operands_of p)) c.loop-operand.place ≡ Some m = sym c.named_operand.ensures.there ∙ c.in-Some-named_operand.is in
    first_found name (named_part (expr_op p) (operands_of p)) c.loop-operand.place m c.in-Some-decided_name.name there c.loop-operand.invariant c.in-Some-decided_name.ensures
    ∙ naming_below c.args.ex.now c.args.node p c.requires c.get-expr.ensures.entry c.in_default.ensures

pub loop-operand-smaller : goal.loop-operand-smaller
loop-operand-smaller t c =
    let p = c.get-expr.result.now in
    let m = c.in-Some-named_operand.operand in
    let there : slice_get (named_part (expr_op p) (operands_of p)) c.loop-operand.place ≡ Some m = sym c.named_operand.ensures.there ∙ c.in-Some-named_operand.is in
    let within = slice_get_within (operands_of p) c.loop-operand.place m (part_operand (expr_op p) (operands_of p) c.loop-operand.place m there) in
    omega (arith, within)

pub loop-operand-preserved : goal.loop-operand-preserved
loop-operand-preserved t c =
    let p = c.get-expr.result.now in
    let m = c.in-Some-named_operand.operand in
    let name : Node → Naming = λ k. naming (expr_at c.args.ex.now k) in
    let there : slice_get (named_part (expr_op p) (operands_of p)) c.loop-operand.place ≡ Some m = sym c.named_operand.ensures.there ∙ c.in-Some-named_operand.is in
    first_more name (named_part (expr_op p) (operands_of p)) c.loop-operand.place m there c.loop-operand.invariant c.in_default-decided_name.ensures

pub returns : goal.returns
returns t c =
    let p = c.get-expr.result.now in
    let name : Node → Naming = λ k. naming (expr_at c.args.ex.now k) in
    let none : slice_get (named_part (expr_op p) (operands_of p)) c.loop-operand.place ≡ None = sym c.named_operand.ensures.there ∙ c.in_default-named_operand.is in
    first_end name (named_part (expr_op p) (operands_of p)) c.loop-operand.place (past (named_part (expr_op p) (operands_of p)) c.loop-operand.place none) c.loop-operand.invariant
    ∙ naming_below c.args.ex.now c.args.node p c.requires c.get-expr.ensures.entry c.in_default.ensures
