use Rattle.std.proofs.Common.{◌≡◌, ◌++◌, length}
use Rattle.std.specs.List.{filter_map}
use denote.Shadow.{shadow}
use denote.Text.{Utf8}
use Rattle.plan_hive.specs.Parts.{folders, hive_part, hive_parts}
use Rattle.plan_hive.proofs.hive_parts.hive_parts.Given as goal

-- the columns so far, and then those of what is left, are all
abbrev pub invariant-loop-folder : goal.invariant-loop-folder
invariant-loop-folder l = (l.parts ++ filter_map hive_part (folders l.rest) ≡ hive_parts l.start l.path) × shadow (Utf8 l.rest)

abbrev pub decreases-loop-folder : goal.decreases-loop-folder
decreases-loop-folder l = length l.rest
