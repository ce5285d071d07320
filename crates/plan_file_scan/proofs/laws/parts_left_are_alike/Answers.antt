use Rattle.std.proofs.Common.{◌∙◌}
use Rattle.plan_file_scan.proofs.ScanColumns.{alike-left, hive-left, one_each-left}
use Rattle.plan_file_scan.proofs.laws.parts_left_are_alike.Goals as goal

pub returns : goal.returns
returns c = λ wanted hive sources alike one_each. record {
  columns = hive-left wanted hive;
  alike = alike-left wanted hive alike;
  one_each = one_each-left wanted hive sources ∙ one_each;
}
