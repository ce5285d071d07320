use Rattle.std.proofs.Common.{◌∙◌, inl, inr}
use Rattle.plan_tree.specs.Rose.{levels}
use Rattle.plan_tool.proofs.CheckLemmas.{deep, exprs_stand, not_more, shallow}
use Rattle.plan_tool.proofs.check.check_levels.Goals as goal

pub is_deeper-requires : goal.is_deeper-requires
is_deeper-requires c = (c.requires.nodes, c.requires.stands.nodes)

pub returns-then-branch : goal.returns-then-branch
returns-then-branch c =
    deep c.args.lp.now c.args.ex.now c.args.root c.requires
    (inl ((c.in_ok-is_deeper.ensures c.requires.nodes c.requires.stands.nodes).0 c.if-branch.true))

pub is_deeper-requires-2 : goal.is_deeper-requires-2
is_deeper-requires-2 c =
    (c.requires.exprs, exprs_stand c.args.lp.now c.args.ex.now c.args.root c.as_slice.result.now c.requires (c.as_slice.ensures ∙ c.in_ok-roots.ensures c.requires.nodes c.requires.stands.nodes))

pub returns-then-branch-2 : goal.returns-then-branch-2
returns-then-branch-2 c =
    let stand = exprs_stand c.args.lp.now c.args.ex.now c.args.root c.as_slice.result.now c.requires (c.as_slice.ensures ∙ c.in_ok-roots.ensures c.requires.nodes c.requires.stands.nodes) in
    deep c.args.lp.now c.args.ex.now c.args.root c.requires
    (inr ((c.in_ok-is_deeper-2.ensures c.requires.exprs stand).0 c.if-branch-2.true))

pub returns : goal.returns
returns c =
    let stand = exprs_stand c.args.lp.now c.args.ex.now c.args.root c.as_slice.result.now c.requires (c.as_slice.ensures ∙ c.in_ok-roots.ensures c.requires.nodes c.requires.stands.nodes) in
    shallow c.args.lp.now c.args.ex.now c.args.root c.requires
    (not_more 256 (levels c.requires.nodes) c.in_ok-is_deeper.field-0 (c.in_ok-is_deeper.ensures c.requires.nodes c.requires.stands.nodes) c.if-branch.false)
    (not_more 128 (levels c.requires.exprs) c.in_ok-is_deeper-2.field-0 (c.in_ok-is_deeper-2.ensures c.requires.exprs stand) c.if-branch-2.false)
