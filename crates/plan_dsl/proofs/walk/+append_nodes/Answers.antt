use Rattle.std.proofs.Common.{◌≡◌, ◌≤◌, [], ◌∷◌, length, refl, ap, sym, arith, Some}
use Rattle.std.specs.List.{slice_get}
use Rattle.plan_dsl.specs.Parts.{children}
use Rattle.plan_dsl.proofs.SizeLemmas.{child_below}
use Rattle.plan_dsl.proofs.WalkLemmas.{preorder-next, preorder-end}
use Rattle.plan_dsl.proofs.AppendLemmas.{appends_none, appends_next}
use Rattle.plan_dsl.proofs.walk.+append_nodes.Goals as goal

pub append_nodes-requires : goal.append_nodes-requires
append_nodes-requires t c =
    let there : slice_get (children c.args.expr.now) c.loop-index.index ≡ Some c.at.result.now = rw (sym c.children-children.ensures) c.at.ensures in
    (omega (arith, child_below c.args.expr.now c.at.result.now c.loop-index.index there, c.decreases), tt)

pub loop-index-init : goal.loop-index-init
loop-index-init t c = appends_next (λ r. r.now) _ _ _ c.args.expr _ _ _ (appends_none (λ r. r.now) c.args.nodes.now.items (c.args.expr.now ∷ [])) refl c.in_ok-push.ensures.items

pub loop-index-preserved : goal.loop-index-preserved
loop-index-preserved t c =
    let there : slice_get (children c.args.expr.now) c.loop-index.index ≡ Some c.at.result.now = rw (sym c.children-children.ensures) c.at.ensures in
    preorder-next c.args.expr.now c.at.result.now c.loop-index.index _ _ _ there c.loop-index.invariant c.in_ok-append_nodes.ensures

pub returns : goal.returns
returns t c =
    let past : length (children c.args.expr.now) ≤ c.loop-index.index = omega (arith, ap length c.children-children.ensures) in
    preorder-end c.args.expr.now c.loop-index.index _ _ past c.loop-index.invariant
