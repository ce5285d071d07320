use Rattle.plan_file_scan.proofs.LeftFrames.{frames_agree}
use Rattle.plan_file_scan.proofs.laws.frames_agree_where_asked.Goals as goal

pub returns : goal.returns
returns c = λ wanted reads few given hive options sources tables in_few in_given. frames_agree wanted reads few given hive options sources tables in_few in_given
