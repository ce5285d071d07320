use Rattle.plan_file_scan.proofs.LeftOutput.{left_puts_out}
use Rattle.plan_file_scan.proofs.laws.what_is_left_puts_out_what_is_asked.Goals as goal

pub returns : goal.returns
returns c = λ kind wanted reads reader hive options once among differ. left_puts_out kind wanted reads reader hive options once among differ
