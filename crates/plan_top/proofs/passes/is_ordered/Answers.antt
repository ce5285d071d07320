use Rattle.std.proofs.Common.{◌≡◌, true, ◌∙◌, rules}
use Rattle.plan_core.specs.Flags.{bits_of, has_bits}
use Rattle.plan_meaning.specs.PlanAt.{plan_at}
use Rattle.plan_top.specs.Chains.{asks_members}
use Rattle.plan_top.proofs.Members.{order_found, ordering_is}
use Rattle.plan_top.proofs.passes.is_ordered.Goals as goal

pub returns : goal.returns
returns c = λ ex plan.
    let checked : has_bits (bits_of c.args.flags) 65536 ≡ true = search rules in
    let asked : asks_members c.args.flags ≡ true = search rules in
    let e = c.in_ok-collect.ensures in
    ordering_is c.args.flags (plan_at c.args.lp.now ex c.args.root) c.has_order.result checked asked
    (c.has_order.ensures ∙ order_found c.args.lp.now ex c.args.root plan c.collect.new.self.has_group_by c.collect.new.self.has_sort c.collect.new.self.has_distinct
    (rw c.new-members.ensures at e.group_by ex) (rw c.new-members.ensures at e.sort ex) (rw c.new-members.ensures at e.distinct ex))
