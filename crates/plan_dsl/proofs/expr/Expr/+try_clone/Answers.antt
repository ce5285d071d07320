use Rattle.std.proofs.Common.{◌≡◌, ◌≤◌, length, ap, sym, ◌∙◌, arith, Some}
use Rattle.std.specs.List.{slice_get}
use Rattle.plan_dsl.specs.Parts.{children}
use Rattle.plan_dsl.proofs.SizeLemmas.{child_below}
use Rattle.plan_dsl.proofs.CopyLemmas.{copied_none, copied_next, copied_end, copied_takes}
use Rattle.plan_dsl.proofs.MapLemmas.{takes_children}
use Rattle.plan_dsl.proofs.expr.Expr.+try_clone.Goals as goal

pub loop-index-init : goal.loop-index-init
loop-index-init t c = copied_none c.args.self.now c.new-parts.result.items c.new-parts.ensures.items

pub try_clone-requires : goal.try_clone-requires
try_clone-requires t c =
    let there : slice_get (children c.args.self.now) c.loop-index.index ≡ Some c.at.result.now = rw (sym c.children-children.ensures) c.at.ensures in
    (omega (arith, child_below c.args.self.now c.at.result.now c.loop-index.index there, c.decreases), tt)

pub loop-index-preserved : goal.loop-index-preserved
loop-index-preserved t c =
    let there : slice_get (children c.args.self.now) c.loop-index.index ≡ Some c.at.result.now = rw (sym c.children-children.ensures) c.at.ensures in
    copied_next c.args.self.now c.at.result.now c.in_ok-part.part c.loop-index.index _ _ c.loop-index.invariant there c.in_ok-part.ensures c.in_ok-append.ensures

pub over-requires : goal.over-requires
over-requires t c =
    let past : length (children c.args.self.now) ≤ c.loop-index.index = omega (arith, ap length c.children-children.ensures) in
    let many : length c.loop-index.parts.items ≡ length (children c.args.self.now) = copied_takes c.args.self.now c.loop-index.index c.loop-index.parts.items c.loop-index.invariant past in
    rw (c.in_ok-head.ensures, many) (takes_children c.args.self.now)

pub returns : goal.returns
returns t c =
    let past : length (children c.args.self.now) ≤ c.loop-index.index = omega (arith, ap length c.children-children.ensures) in
    copied_end c.args.self.now c.in_ok-over.field-0 c.loop-index.index c.loop-index.parts.items c.loop-index.invariant past (c.in_ok-over.ensures.head ∙ c.in_ok-head.ensures) c.in_ok-over.ensures.parts
