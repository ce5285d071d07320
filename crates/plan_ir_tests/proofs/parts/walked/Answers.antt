use Rattle.std.proofs.Common.{◌≡◌, None, rules}
use Rattle.plan_ir_tests.proofs.parts.walked.Goals as goal

pub iter-requires : goal.iter-requires
iter-requires c =
    let none : c.in_ok-nodes.nodes.fault ≡ None = search rules in
    c.in_ok-nodes.ensures.stands.0 none
