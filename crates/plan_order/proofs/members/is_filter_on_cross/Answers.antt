use Rattle.std.proofs.Common.{ap}
use Rattle.plan_order.specs.Members.{filtered}
use Rattle.plan_order.proofs.members.is_filter_on_cross.Goals as goal

pub get-requires : goal.get-requires
get-requires c = c.requires c.in-Filter.input (ap filtered c.in-Filter.is)
