use Rattle.std.proofs.Common.{◌≡◌, ◌++◌, length}
use Rattle.plan_file_scan.specs.FileFrames.{parts_of}
use Rattle.plan_scan.specs.Sources.{sources_of}
use Rattle.plan_file_tables.specs.Parts.{frames_found, parts_shown}
use Rattle.plan_file_tables.proofs.PartLemmas.{parts_from}
use Rattle.plan_file_tables.proofs.parts.parts.Given as goal

-- the sources so far, and then those that are left, are all
abbrev pub invariant-loop-source : goal.invariant-loop-source
invariant-loop-source l = parts_shown l.parts ++ parts_from l.hive (frames_found l.tables) (length l.parts) l.source-iterator ≡ parts_of l.hive (sources_of l.sources) (frames_found l.tables)
