use Rattle.std.proofs.Common.{◌≡◌, ◌∙◌, ap, sym, arith, None, Some, List}
use Rattle.std.specs.List.{slice_get, flat_map}
use Rattle.std.proofs.lemmas.List.{take_all}
use Rattle.std.proofs.lemmas.Option.{slice_get_within}
use Rattle.plan_core.specs.declared.arena.Node.{Node}
use Rattle.plan_core.specs.Names.{with_names}
use Rattle.plan_expr.specs.Exprs.{expr_at}
use Rattle.plan_expr.specs.Leaves.{Name, leaves}
use Rattle.plan_expr.specs.Operands.{operands_of}
use Rattle.plan_expr.proofs.ExprLemmas.{expr_down}
use Rattle.plan_expr.proofs.ListLemmas.{past}
use Rattle.plan_prune_parts.proofs.ExprWalks.{adds-column, adds-below, adds_next}
use Rattle.plan_prune_parts.proofs.exprs.+add_names.Goals as goal

pub add_names-requires : goal.add_names-requires
add_names-requires t c =
    let p = c.get-expr.result.now in
    let there : slice_get (operands_of p) c.loop-operand.place ≡ Some c.in-Some-operand.operand = sym c.operand.ensures.there ∙ c.in-Some-operand.is in
    let down = expr_down c.args.ex.now c.args.node c.in-Some-operand.operand p c.loop-operand.place c.requires c.get-expr.ensures.entry there in
    (omega (arith, down.0, c.decreases), down.1)

pub returns-in-Some : goal.returns-in-Some
returns-in-Some t c =
    c.in_ok-add.ensures.after
    ∙ adds-column c.args.ex.now c.args.node c.requires c.args.names.now c.get-expr.result.now c.in-Some.name.now c.get-expr.ensures.entry c.in-Some.ensures.some

pub loop-operand-smaller : goal.loop-operand-smaller
loop-operand-smaller t c =
    let p = c.get-expr.result.now in
    let there : slice_get (operands_of p) c.loop-operand.place ≡ Some c.in-Some-operand.operand = sym c.operand.ensures.there ∙ c.in-Some-operand.is in
    let within = slice_get_within (operands_of p) c.loop-operand.place c.in-Some-operand.operand there in
    omega (arith, within)

pub loop-operand-preserved : goal.loop-operand-preserved
loop-operand-preserved t c =
    let p = c.get-expr.result.now in
    let f : Node → List Name = λ k. leaves (expr_at c.args.ex.now k) in
    let m = c.in-Some-operand.operand in
    let there : slice_get (operands_of p) c.loop-operand.place ≡ Some m = sym c.operand.ensures.there ∙ c.in-Some-operand.is in
    c.in_ok-add_names.ensures
    ∙ ap (λ (l : List Name). with_names l (f m)) c.loop-operand.invariant
    ∙ adds_next c.args.names.now f (operands_of p) c.loop-operand.place m there

pub returns : goal.returns
returns t c =
    let p = c.get-expr.result.now in
    let f : Node → List Name = λ k. leaves (expr_at c.args.ex.now k) in
    let none : slice_get (operands_of p) c.loop-operand.place ≡ None = sym c.operand.ensures.there ∙ c.in_default-operand.is in
    c.loop-operand.invariant
    ∙ ap (λ (ns : List Node). with_names c.args.names.now (flat_map f ns)) (take_all c.loop-operand.place (operands_of p) (past (operands_of p) c.loop-operand.place none))
    ∙ adds-below c.args.ex.now c.args.node c.requires c.args.names.now p c.get-expr.ensures.entry c.in_default.ensures.none
