-- The one status that bytes leave open to a command, in the order of its checks; want of memory aside.
use Rattle.std.specs.Prelude.{◌≡◌, ◌⊎◌, ◌<◌, ◌≤◌, ℕ, List, length}
use Rattle.plan_core.specs.declared.error.PolarsError.{PolarsError}
use Rattle.plan_core.specs.Columns.{Columns}
use Rattle.plan_doc.specs.declared.document.Document.{Document}
use Rattle.plan_doc.specs.Document.{doc_of, document, not_json, form}
use Rattle.plan_tool.specs.declared.command.Command.{Command}
use Rattle.plan_tool.specs.declared.status.Status.{Status}
use Rattle.plan_tool.specs.declared.status.Status.TheVariants as answers
use Rattle.plan_tool.specs.Answers.{FitFor, Refuses, TooDeep, Unfits}
use Rattle.plan_tool.specs.Checked.{IsChecked}

-- the bytes are a document whose plan has no fault, and whose tables don't keep the command from its answer
pub record IsGood (command : Command) (bytes : List ℕ) : Type 0 where
  pub asked : Document
  pub read : doc_of bytes ≡ document asked
  pub columns : Columns
  pub checked : IsChecked asked.lp asked.ex asked.root columns
  pub fit : FitFor command asked

-- what the bytes are, where there are not too many, for each status that this leaves open
abbrev pub Judges : Command → List ℕ → Status → Type 0
Judges command bytes answers.Done = IsGood command bytes
Judges command bytes answers.Usage = ⊥
Judges command bytes answers.NotJson = doc_of bytes ≡ not_json
Judges command bytes answers.Form = doc_of bytes ≡ form
Judges command bytes answers.Refused = (fault : PolarsError) × Refuses bytes fault
Judges command bytes answers.Unfit = Unfits command bytes
Judges command bytes answers.Limit = TooDeep bytes
Judges command bytes answers.ReadFault = ⊥
Judges command bytes answers.WriteFault = ⊥
Judges command bytes answers.OutOfMemory = ⊥

-- the bytes settle the status: too many of them settle Limit, and else what they are does
abbrev pub Settles : ℕ → Command → List ℕ → Status → Type 0
Settles limit command bytes status = ((limit < length bytes) × (status ≡ answers.Limit)) ⊎ ((length bytes ≤ limit) × Judges command bytes status)
