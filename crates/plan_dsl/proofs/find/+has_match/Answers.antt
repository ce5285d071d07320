use Rattle.std.proofs.Common.{◌≡◌, ◌≤◌, [], length, true, false, refl, ap, sym, arith, Some}
use Rattle.std.specs.List.{slice_get}
use Rattle.std.specs.Fn.{FnReturnsAt}
use Rattle.std.proofs.lemmas.List.Elements.{All-cons, All-nil}
use Rattle.plan_dsl.specs.Parts.{children}
use Rattle.plan_dsl.proofs.SizeLemmas.{child_below}
use Rattle.plan_dsl.proofs.WalkLemmas.{any_here, any_below, all_next, all_end}
use Rattle.plan_dsl.proofs.find.+has_match.Goals as goal

pub returns-then-matches-clause-found : goal.returns-then-matches-clause-found
returns-then-matches-clause-found g t c =
    any_here (λ e. FnReturnsAt g.F.Fn c.args.matches.now e true) c.args.expr.now (record { shown = c.args.expr; shows = refl; says = record { met = c.if-matches.ensures } })

pub loop-index-init : goal.loop-index-init
loop-index-init g t c =
    All-cons (λ e. FnReturnsAt g.F.Fn c.args.matches.now e false) c.args.expr.now [] (record { shown = c.args.expr; shows = refl; says = record { met = c.if-matches.ensures } }) (All-nil (λ e. FnReturnsAt g.F.Fn c.args.matches.now e false))

pub has_match-requires : goal.has_match-requires
has_match-requires g t c κs within =
    let there : slice_get (children c.args.expr.now) c.loop-index.index ≡ Some c.at.result.now = rw (sym c.children-children.ensures) c.at.ensures in
    (omega (arith, child_below c.args.expr.now c.at.result.now c.loop-index.index there, c.decreases), (within, c.requires))

pub returns-then-has_match-clause-found : goal.returns-then-has_match-clause-found
returns-then-has_match-clause-found g t c =
    let there : slice_get (children c.args.expr.now) c.loop-index.index ≡ Some c.at.result.now = rw (sym c.children-children.ensures) c.at.ensures in
    any_below (λ e. FnReturnsAt g.F.Fn c.args.matches.now e true) c.args.expr.now c.at.result.now c.loop-index.index there c.if-has_match.ensures.found

pub loop-index-preserved : goal.loop-index-preserved
loop-index-preserved g t c =
    let there : slice_get (children c.args.expr.now) c.loop-index.index ≡ Some c.at.result.now = rw (sym c.children-children.ensures) c.at.ensures in
    all_next (λ e. FnReturnsAt g.F.Fn c.args.matches.now e false) c.args.expr.now c.at.result.now c.loop-index.index there c.loop-index.invariant c.if-has_match.ensures.absent

pub returns-clause-absent : goal.returns-clause-absent
returns-clause-absent g t c =
    let past : length (children c.args.expr.now) ≤ c.loop-index.index = omega (arith, ap length c.children-children.ensures) in
    all_end (λ e. FnReturnsAt g.F.Fn c.args.matches.now e false) c.args.expr.now c.loop-index.index past c.loop-index.invariant
