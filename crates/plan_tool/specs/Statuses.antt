-- The exit statuses.
use Rattle.std.specs.Prelude.{ℕ}
use Rattle.plan_tool.specs.declared.status.Status.{Status}
use Rattle.plan_tool.specs.declared.status.Status.TheVariants as statuses

-- the exit status, as a number
abbrev pub code_of : Status → ℕ
code_of statuses.Done = 0
code_of statuses.Usage = 2
code_of statuses.NotJson = 3
code_of statuses.Form = 4
code_of statuses.Refused = 5
code_of statuses.Unfit = 6
code_of statuses.Limit = 7
code_of statuses.ReadFault = 8
code_of statuses.WriteFault = 9
code_of statuses.OutOfMemory = 10
