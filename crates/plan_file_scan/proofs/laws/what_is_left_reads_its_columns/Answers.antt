use Rattle.plan_file_scan.proofs.ScanReads.{reads_are_left}
use Rattle.plan_file_scan.proofs.laws.what_is_left_reads_its_columns.Goals as goal

pub returns : goal.returns
returns c = λ kind wanted told reader hive options once among differ found were. reads_are_left kind wanted told reader hive options once among differ found were
