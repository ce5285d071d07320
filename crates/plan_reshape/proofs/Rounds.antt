-- Walks of rules keep sharing, however many there are.
use Rattle.std.proofs.Common.{List}
use Rattle.plan_ir.specs.Plans.{Plan}
use Rattle.plan_meaning.specs.Caches.{AreShared}
use Rattle.plan_pass_laws.specs.declared.kind.RuleKind.{RuleKind}
use Rattle.plan_pass_laws.proofs.WalkCaches.{walk_shared}
use Rattle.plan_reshape.specs.Walking.{Rounds, no_round, one_more_round}

pub rounds_share : (ks : List RuleKind) (p q : Plan) → Rounds ks p q → AreShared p → AreShared q
rounds_share ks p _ no_round h = h
rounds_share ks p q (one_more_round {r = r} s w) h = walk_shared ks r q w (rounds_share ks p r s h)
