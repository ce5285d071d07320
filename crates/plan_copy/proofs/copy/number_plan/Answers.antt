use Rattle.plan_copy.proofs.CopyLemmas.{nodes-within, nodes-distinct, exprs-within, exprs-distinct}
use Rattle.plan_copy.proofs.copy.number_plan.Goals as goal

pub in_order-requires-clause-within : goal.in_order-requires-clause-within
in_order-requires-clause-within c = nodes-within c.args.lp.now c.args.ex.now c.args.root c.in_ok-listed.listed c.in_ok-listed.ensures c.len.result c.len.ensures.value c.as_slice.result.now c.as_slice.ensures

pub in_order-requires-clause-distinct : goal.in_order-requires-clause-distinct
in_order-requires-clause-distinct c = nodes-distinct c.args.lp.now c.args.ex.now c.args.root c.in_ok-listed.listed c.in_ok-listed.ensures c.as_slice.result.now c.as_slice.ensures

pub in_order-requires-2-clause-within : goal.in_order-requires-2-clause-within
in_order-requires-2-clause-within c = exprs-within c.args.lp.now c.args.ex.now c.args.root c.in_ok-listed.listed c.in_ok-listed.ensures c.len-2.result c.len-2.ensures.value c.as_slice-2.result.now c.as_slice-2.ensures

pub in_order-requires-2-clause-distinct : goal.in_order-requires-2-clause-distinct
in_order-requires-2-clause-distinct c = exprs-distinct c.args.lp.now c.args.ex.now c.args.root c.in_ok-listed.listed c.in_ok-listed.ensures c.as_slice-2.result.now c.as_slice-2.ensures

pub returns : goal.returns
returns c = record {
  listed = c.in_ok-listed.ensures;
  nodes = rw c.as_slice.ensures at c.in_ok-nodes.ensures;
  exprs = rw c.as_slice-2.ensures at c.in_ok-exprs.ensures;
}
