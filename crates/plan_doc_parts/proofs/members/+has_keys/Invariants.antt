use Rattle.std.proofs.Common.{length}
use Rattle.plan_doc_parts.proofs.members.+has_keys.Given as goal

abbrev pub decreases-has_keys : goal.decreases-has_keys
decreases-has_keys l = length l.keys.now
