-- What a command writes for a document, or why it writes nothing of it; and what is said of the bytes of a document.
use Rattle.std.specs.Prelude.{◌≡◌, ℕ, List, [], ◌∷◌, Result, Ok, Err, String, string_bytes}
use Rattle.std.specs.declared.alloc.Global.{Global}
use Rattle.plan_core.specs.declared.error.PolarsError.{PolarsError}
use Rattle.plan_core.specs.Columns.{Columns}
use Rattle.plan_doc.specs.declared.document.Document.{Document}
use Rattle.plan_doc.specs.Document.{doc_of, not_json, form, document}
use Rattle.plan_ir.specs.Plans.{plans_at}
use Rattle.plan_text.specs.Written.{schema_text}
use Rattle.plan_tool.specs.declared.command.Command.{Command}
use Rattle.plan_tool.specs.declared.command.Command.TheVariants as commands
use Rattle.plan_tool.specs.declared.stop.Stop.{Stop}
use Rattle.plan_tool.specs.declared.stop.Stop.TheVariants as stops
use Rattle.plan_tool.specs.Checked.{IsChecked, IsRefused, IsTooDeep}
use Rattle.plan_tool.specs.Listings.{IsListing}
use Rattle.plan_tool.specs.Rows.{DontFit, Fit}
use Rattle.plan_top.specs.Chains.{Boxes}

-- the tables of a document fit its plan, where the command reads tables
abbrev pub FitFor : Command → Document → Type 0
FitFor commands.Optimize d = Fit d.tables (plans_at d.lp d.ex (d.root ∷ []))
FitFor commands.Check d = Unit {0}

-- the command reads tables, and those of the document don't fit its plan
abbrev pub UnfitFor : Command → Document → Type 0
UnfitFor commands.Optimize d = DontFit d.tables (plans_at d.lp d.ex (d.root ∷ []))
UnfitFor commands.Check d = ⊥

-- the text that the command writes for a document, whose plan has these columns; `optimize` calls rules in boxes too
abbrev pub IsTextOf : Boxes → Command → Document → Columns → List ℕ → Type 0
IsTextOf boxes commands.Optimize d columns text = IsListing boxes d text
IsTextOf boxes commands.Check d columns text = text ≡ schema_text columns

-- the plan of a document has no fault, its tables don't keep the command from its answer, and the text is that answer
pub record Answers (boxes : Boxes) (command : Command) (d : Document) (text : List ℕ) : Type 0 where
  pub columns : Columns
  pub checked : IsChecked d.lp d.ex d.root columns
  pub fit : FitFor command d
  pub is : IsTextOf boxes command d columns text

-- the plan of a document has no fault, and its tables keep the command from its answer
pub record IsUnfit (command : Command) (d : Document) : Type 0 where
  pub columns : Columns
  pub checked : IsChecked d.lp d.ex d.root columns
  pub unfit : UnfitFor command d

-- the text that a command writes for a document, or why there is none
abbrev pub SaysOfDocument : Boxes → Command → Result (String Global) Stop → Document → Type 0
SaysOfDocument boxes command (Ok text) d = Answers boxes command d (string_bytes text)
SaysOfDocument boxes command (Err stops.NotJson) d = ⊥
SaysOfDocument boxes command (Err stops.Form) d = ⊥
SaysOfDocument boxes command (Err stops.Limit) d = IsTooDeep d.lp d.ex d.root
SaysOfDocument boxes command (Err stops.Unfit) d = IsUnfit command d
SaysOfDocument boxes command (Err (stops.Fault fault)) d = IsRefused d.lp d.ex d.root fault
SaysOfDocument boxes command (Err stops.OutOfMemory) d = Unit {0}

-- the bytes are a document, and the text is the command's answer
pub record AnswersBytes (boxes : Boxes) (command : Command) (bytes text : List ℕ) : Type 0 where
  pub asked : Document
  pub read : doc_of bytes ≡ document asked
  pub answers : Answers boxes command asked text

-- the bytes are a document whose plan is refused with this fault
pub record Refuses (bytes : List ℕ) (fault : PolarsError) : Type 0 where
  pub asked : Document
  pub read : doc_of bytes ≡ document asked
  pub refused : IsRefused asked.lp asked.ex asked.root fault

-- the bytes are a document whose plan is too deep
pub record TooDeep (bytes : List ℕ) : Type 0 where
  pub asked : Document
  pub read : doc_of bytes ≡ document asked
  pub deep : IsTooDeep asked.lp asked.ex asked.root

-- the bytes are a document whose tables keep the command from its answer
pub record Unfits (command : Command) (bytes : List ℕ) : Type 0 where
  pub asked : Document
  pub read : doc_of bytes ≡ document asked
  pub unfit : IsUnfit command asked

-- the text that a command writes for bytes, or why there is none
abbrev pub SaysOf : Boxes → Command → Result (String Global) Stop → List ℕ → Type 0
SaysOf boxes command (Ok text) bytes = AnswersBytes boxes command bytes (string_bytes text)
SaysOf boxes command (Err stops.NotJson) bytes = doc_of bytes ≡ not_json
SaysOf boxes command (Err stops.Form) bytes = doc_of bytes ≡ form
SaysOf boxes command (Err stops.Limit) bytes = TooDeep bytes
SaysOf boxes command (Err stops.Unfit) bytes = Unfits command bytes
SaysOf boxes command (Err (stops.Fault fault)) bytes = Refuses bytes fault
SaysOf boxes command (Err stops.OutOfMemory) bytes = Unit {0}
