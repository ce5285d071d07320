use Rattle.std.proofs.Common.{length, refl}
use Rattle.plan_copy.proofs.CopyLemmas.{copied, nodes-within, nodes-distinct, exprs-within}
use Rattle.plan_copy.proofs.moving.take_plan.Goals as goal

pub moved_exprs-requires : goal.moved_exprs-requires
moved_exprs-requires c = exprs-within c.args.lp.now c.args.ex.now c.args.root c.args.found.now.listed c.requires.listed (length c.args.ex.now) refl c.as_slice.result.now c.as_slice.ensures

pub taken_nodes-requires-clause-within : goal.taken_nodes-requires-clause-within
taken_nodes-requires-clause-within c = nodes-within c.args.lp.now c.args.ex.now c.args.root c.args.found.now.listed c.requires.listed (length c.args.lp.now) refl c.as_slice-2.result.now c.as_slice-2.ensures

pub taken_nodes-requires-clause-distinct : goal.taken_nodes-requires-clause-distinct
taken_nodes-requires-clause-distinct c = nodes-distinct c.args.lp.now c.args.ex.now c.args.root c.args.found.now.listed c.requires.listed c.as_slice-2.result.now c.as_slice-2.ensures

pub returns : goal.returns
returns c =
    let found = c.args.found.now in
    let h = c.requires in
    rw (c.new_number.ensures, c.in_ok-own_lp.ensures, c.in_ok-own_ex.ensures, c.as_slice.ensures, c.as_slice-2.ensures)
    (copied c.args.lp.now c.args.ex.now c.args.root found.listed found.nodes found.exprs h.listed h.nodes h.exprs)
