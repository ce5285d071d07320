use Rattle.plan_pass_laws.proofs.Reworked.{settles}
use Rattle.plan_pass_laws.proofs.rule_laws.loops_end_settled.Goals as goal

pub returns : goal.returns
returns c = λ kinds r q p d e h w still. settles kinds r q p d e h w still
