use Rattle.plan_files.proofs.FileLemmas.{path_apart}
use Rattle.plan_file_scan.proofs.ScanFrames.{scan_has}
use Rattle.plan_file_scan.proofs.laws.scan_frames_have_their_columns.Goals as goal

pub returns : goal.returns
returns c = λ reader hive options ps out d fits typed. scan_has reader hive options ps out (path_apart reader hive options d) fits typed
