use Rattle.plan_file_scan.proofs.ScanColumns.{columns_are_left}
use Rattle.plan_file_scan.proofs.laws.columns_left_are_those_that_were.Goals as goal

pub returns : goal.returns
returns c = λ wanted reads reader hive options d. columns_are_left wanted reader hive reads options d
