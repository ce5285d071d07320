use Rattle.std.proofs.Common.{length, refl}
use Rattle.plan_copy.proofs.CopyLemmas.{copied, nodes-within, exprs-within}
use Rattle.plan_copy.proofs.copy.copy_plan.Goals as goal

pub moved_nodes-requires : goal.moved_nodes-requires
moved_nodes-requires c = nodes-within c.args.lp.now c.args.ex.now c.args.root c.args.found.now.listed c.requires.listed (length c.args.lp.now) refl c.as_slice.result.now c.as_slice.ensures

pub moved_exprs-requires : goal.moved_exprs-requires
moved_exprs-requires c = exprs-within c.args.lp.now c.args.ex.now c.args.root c.args.found.now.listed c.requires.listed (length c.args.ex.now) refl c.as_slice-2.result.now c.as_slice-2.ensures

pub returns : goal.returns
returns c =
    let found = c.args.found.now in
    let h = c.requires in
    rw (c.new_number.ensures, c.in_ok-own_lp.ensures, c.in_ok-own_ex.ensures, c.as_slice.ensures, c.as_slice-2.ensures)
    (copied c.args.lp.now c.args.ex.now c.args.root found.listed found.nodes found.exprs h.listed h.nodes h.exprs)
