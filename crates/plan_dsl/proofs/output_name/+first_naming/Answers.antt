use Rattle.std.proofs.Common.{◌≡◌, ◌≤◌, length, ap, sym, ◌∙◌, arith, Some}
use Rattle.std.specs.List.{slice_get}
use Rattle.plan_dsl.specs.Names.{named_parts}
use Rattle.plan_dsl.proofs.SizeLemmas.{part_below}
use Rattle.plan_dsl.proofs.NameLemmas.{named_below, naming_decides, decided_here, decided_next, undecided_next, undecided_end}
use Rattle.plan_dsl.proofs.output_name.+first_naming.Goals as goal

pub returns-in_default : goal.returns-in_default
returns-in_default t c =
    let d = naming_decides c.naming.result c.in_default.not-Open in
    d.1 ∙ sym (decided_here c.args.expr.now d.0 (sym c.naming.ensures ∙ d.1))

pub first_naming-requires : goal.first_naming-requires
first_naming-requires t c =
    let there : slice_get (named_parts c.args.expr.now) c.loop-index.index ≡ Some c.at.result.now = rw (sym c.named_parts-parts.ensures) c.at.ensures in
    (omega (arith, part_below named_parts named_below c.args.expr.now c.at.result.now c.loop-index.index there, c.decreases), tt)

pub returns-in_default-first_naming : goal.returns-in_default-first_naming
returns-in_default-first_naming t c =
    let there : slice_get (named_parts c.args.expr.now) c.loop-index.index ≡ Some c.at.result.now = rw (sym c.named_parts-parts.ensures) c.at.ensures in
    let d = naming_decides c.first_naming.result c.in_default-first_naming.not-Open in
    d.1 ∙ sym (decided_next c.args.expr.now c.at.result.now c.loop-index.index d.0 there c.loop-index.invariant (sym c.first_naming.ensures ∙ d.1))

pub loop-index-preserved : goal.loop-index-preserved
loop-index-preserved t c =
    let there : slice_get (named_parts c.args.expr.now) c.loop-index.index ≡ Some c.at.result.now = rw (sym c.named_parts-parts.ensures) c.at.ensures in
    undecided_next c.args.expr.now c.at.result.now c.loop-index.index there c.loop-index.invariant (sym c.in-Open-first_naming.ensures)

pub returns : goal.returns
returns t c =
    let past : length (named_parts c.args.expr.now) ≤ c.loop-index.index = omega (arith, ap length c.named_parts-parts.ensures) in
    sym (undecided_end c.args.expr.now c.loop-index.index past c.loop-index.invariant)
