-- Which refusal below stops the program how.
use Rattle.plan_core.specs.declared.error.PolarsError.{PolarsError}
use Rattle.plan_core.specs.declared.error.PolarsError.TheVariants as faults
use Rattle.plan_doc.specs.declared.document.ReadError.{ReadError}
use Rattle.plan_doc.specs.declared.document.ReadError.TheVariants as errors
use Rattle.plan_tool.specs.declared.stop.Stop.{Stop}
use Rattle.plan_tool.specs.declared.stop.Stop.TheVariants as stops

-- how the program stops where reading a document refuses
abbrev pub stop_of_reading : ReadError → Stop
stop_of_reading errors.NotJson = stops.NotJson
stop_of_reading errors.Form = stops.Form
stop_of_reading errors.OutOfMemory = stops.OutOfMemory

-- how it stops where a plan has this fault
abbrev pub stop_of_fault : PolarsError → Stop
stop_of_fault faults.OutOfMemory = stops.OutOfMemory
stop_of_fault (faults.SchemaFieldNotFound a) = stops.Fault (faults.SchemaFieldNotFound a)
stop_of_fault (faults.Duplicate a) = stops.Fault (faults.Duplicate a)
stop_of_fault (faults.SchemaMismatch a) = stops.Fault (faults.SchemaMismatch a)
stop_of_fault (faults.InvalidOperation a) = stops.Fault (faults.InvalidOperation a)
stop_of_fault (faults.ComputeError a) = stops.Fault (faults.ComputeError a)
