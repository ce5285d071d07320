use Rattle.plan_pass_laws.proofs.ScanLists.{keep_join}
use Rattle.plan_pass_laws.proofs.laws.scans_are_kept_side_by_side.Goals as goal

pub returns : goal.returns
returns c = λ os us ss zs h k. keep_join os us ss zs h k
