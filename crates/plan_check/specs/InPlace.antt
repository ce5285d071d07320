-- Columns that a function changes in place.
use Rattle.std.specs.Prelude.{◌≡◌, Bool, true, false}
use Rattle.plan_core.specs.Columns.{Columns}
use Rattle.plan_ir.specs.declared.functions.FunctionIR.{FunctionIR}
use Rattle.plan_meaning.specs.Functions.{function_schema}
use Rattle.plan_meaning.specs.Typing.{AllHold, function_checks}

-- where a function changes columns, no check on it fails over them, and they become those that it gives; else they stay
abbrev pub IsChanged : Bool → FunctionIR → Columns → Columns → Type 0
IsChanged true function old new = AllHold (function_checks function old) × (new ≡ function_schema function old)
IsChanged false function old new = new ≡ old
