use Rattle.std.proofs.Common.{◌≡◌, ◌++◌}
use Rattle.plan_file_tables.specs.Parts.{frames_found}
use Rattle.plan_scan.specs.Sources.{sources_of}
use Rattle.plan_function_tables.proofs.ScanLemmas.{own_frames}
use Rattle.plan_function_tables.proofs.file_scan.own_tables.Given as goal

-- the frames of the sources so far, and then of those that are left, are those of all
abbrev pub invariant-loop-source : goal.invariant-loop-source
invariant-loop-source l = frames_found l.found ++ own_frames l.tables l.source-iterator ≡ own_frames l.tables (sources_of l.sources)
