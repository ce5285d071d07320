use Rattle.std.proofs.Common.{◌≡◌, None, rules}
use Rattle.plan_check.proofs.TreeFaultLemmas.{plan_found}
use Rattle.plan_check.proofs.tree.check_tree.Goals as goal

pub returns-clause-stands : goal.returns-clause-stands
returns-clause-stands c =
    let nodes : c.in_ok-nodes.nodes.fault ≡ None = search rules in
    let exprs : c.in_ok-exprs.exprs.fault ≡ None = search rules in
    plan_found c.args.lp.now c.args.ex.now c.args.root c.in_ok-nodes.nodes.listed c.in_ok-roots.roots (c.in_ok-nodes.ensures.stands.0 nodes) c.in_ok-nodes.ensures.in_order (search rules) (search rules)
