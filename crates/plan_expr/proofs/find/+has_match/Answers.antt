use Rattle.std.proofs.Common.{◌≡◌, ◌∙◌, true, false, refl, sym, arith, None, Some}
use Rattle.std.specs.List.{slice_get}
use Rattle.std.specs.Fn.{FnReturnsAt}
use Rattle.plan_expr.specs.Operands.{operands_of}
use Rattle.plan_expr.proofs.ExprLemmas.{expr_down}
use Rattle.plan_expr.proofs.ListLemmas.{past}
use Rattle.std.proofs.lemmas.Option.{slice_get_within}
use Rattle.plan_expr.proofs.ReachLemmas.{any_here, any_below, all_next, all_end}
use Rattle.plan_expr.proofs.find.+has_match.Goals as goal

pub returns-then-matches-clause-found : goal.returns-then-matches-clause-found
returns-then-matches-clause-found g t c =
    any_here c.args.ex.now c.args.node c.get-expr.result.now c.requires.stands c.get-expr.ensures.entry (λ e. FnReturnsAt g.F.Fn c.args.matches.now e true) (record { shown = c.get-expr.result; shows = refl; says = record { met = c.if-matches.ensures } })

pub has_match-requires : goal.has_match-requires
has_match-requires g t c κs within =
    let there : slice_get (operands_of c.get-expr.result.now) c.loop-operand.place ≡ Some c.in-Some.operand = sym c.operand.ensures.there ∙ c.in-Some.is in
    let down = expr_down c.args.ex.now c.args.node c.in-Some.operand c.get-expr.result.now c.loop-operand.place c.requires.stands c.get-expr.ensures.entry there in
    (omega (arith, down.0, c.decreases), (within, (down.1, c.requires.callable)))

pub returns-then-has_match-clause-found : goal.returns-then-has_match-clause-found
returns-then-has_match-clause-found g t c =
    let there : slice_get (operands_of c.get-expr.result.now) c.loop-operand.place ≡ Some c.in-Some.operand = sym c.operand.ensures.there ∙ c.in-Some.is in
    any_below c.args.ex.now c.args.node c.get-expr.result.now c.requires.stands c.get-expr.ensures.entry (λ e. FnReturnsAt g.F.Fn c.args.matches.now e true) c.in-Some.operand c.loop-operand.place there c.if-has_match.ensures.found

pub loop-operand-preserved : goal.loop-operand-preserved
loop-operand-preserved g t c =
    let there : slice_get (operands_of c.get-expr.result.now) c.loop-operand.place ≡ Some c.in-Some.operand = sym c.operand.ensures.there ∙ c.in-Some.is in
    all_next c.args.ex.now (λ e. FnReturnsAt g.F.Fn c.args.matches.now e false) c.get-expr.result.now c.in-Some.operand c.loop-operand.place there c.loop-operand.invariant c.if-has_match.ensures.absent

pub returns-clause-absent : goal.returns-clause-absent
returns-clause-absent g t c =
    let none : slice_get (operands_of c.get-expr.result.now) c.loop-operand.place ≡ None = sym c.operand.ensures.there ∙ c.in_default.is in
    all_end c.args.ex.now c.args.node c.get-expr.result.now c.requires.stands c.get-expr.ensures.entry (λ e. FnReturnsAt g.F.Fn c.args.matches.now e false) c.loop-operand.place (past (operands_of c.get-expr.result.now) c.loop-operand.place none) c.loop-operand.invariant

pub loop-operand-smaller : goal.loop-operand-smaller
loop-operand-smaller g t c =
    let there : slice_get (operands_of c.get-expr.result.now) c.loop-operand.place ≡ Some c.in-Some.operand = sym c.operand.ensures.there ∙ c.in-Some.is in
    let within = slice_get_within (operands_of c.get-expr.result.now) c.loop-operand.place c.in-Some.operand there in
    omega (arith, within)
