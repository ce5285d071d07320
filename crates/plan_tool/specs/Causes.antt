-- When each answer of the program comes, and what it leaves.
use Rattle.std.specs.Prelude.{◌≡◌, ◌⊎◌, ℕ, ◌≤◌, List, length, Bool, true, IfSome, Some}
use Rattle.std.specs.declared.option.Option.{Option}
use Rattle.std.specs.Io.KnownBytes.{Appends, Keeps, IsAtEnd}
use Rattle.plan_core.specs.declared.error.PolarsError.{PolarsError}
use Rattle.plan_stream.specs.Causes.{Rose}
use Rattle.plan_stream.specs.Texts.{GrowsByFront}
use Rattle.plan_text.specs.Written.{error_text}
use Rattle.plan_tool.specs.declared.status.Status.{Status}
use Rattle.plan_tool.specs.declared.status.Status.TheVariants as answers
use Rattle.plan_tool.specs.declared.command.Command.{Command}
use Rattle.plan_tool.specs.Answers.{AnswersBytes, Refuses}
use Rattle.plan_tool.specs.Commands.{Asks, IsUsage}
use Rattle.plan_tool.specs.Verdicts.{Settles}
use Rattle.plan_top.specs.Chains.{Boxes}

-- what a call was given and left: rules in boxes, the bytes that the source had and has left, the bytes that the sink held and holds, whether it is clean, and the counts of faults before and after
pub record Call : Type 0 where
  pub boxes : Boxes
  pub given : Option (List ℕ)
  pub left : Option (List ℕ)
  pub held : Option (List ℕ)
  pub holds : Option (List ℕ)
  pub clean : Bool
  pub read_faults : ℕ
  pub read_faults_now : ℕ
  pub write_faults : ℕ
  pub write_faults_now : ℕ

-- no byte was read, and no read failed
abbrev pub IsUnread : Call → Type 0
IsUnread c = Keeps c.given c.left × (c.read_faults_now ≡ c.read_faults)

-- the source was read to its end, and no read failed
abbrev pub IsReadWhole : Call → Type 0
IsReadWhole c = IsAtEnd c.left × (c.read_faults_now ≡ c.read_faults)

-- no byte was written, and no write failed
abbrev pub IsUnwritten : Call → Type 0
IsUnwritten c = Keeps c.held c.holds × (c.write_faults_now ≡ c.write_faults)

-- no write failed, and the sink was flushed
abbrev pub IsFlushed : Call → Type 0
IsFlushed c = (c.clean ≡ true) × (c.write_faults_now ≡ c.write_faults)

-- the bytes are a document for which the command has an answer, and its text was written whole
pub record Written (limit : ℕ) (command : Command) (c : Call) (bytes : List ℕ) : Type 0 where
  pub small : length bytes ≤ limit
  pub text : List ℕ
  pub answers : AnswersBytes c.boxes command bytes text
  pub written : Appends c.held c.holds text

-- the bytes are a document whose plan is refused, and the text of its fault was written whole
pub record Told (limit : ℕ) (c : Call) (bytes : List ℕ) : Type 0 where
  pub small : length bytes ≤ limit
  pub fault : PolarsError
  pub refuses : Refuses bytes fault
  pub written : Appends c.held c.holds (error_text fault)

-- a front of the command's answer or of the text of the fault was written
pub record Cut (limit : ℕ) (command : Command) (c : Call) (bytes : List ℕ) : Type 0 where
  pub small : length bytes ≤ limit
  pub text : List ℕ
  pub says : AnswersBytes c.boxes command bytes text ⊎ ((fault : PolarsError) × Refuses bytes fault × (text ≡ error_text fault))
  pub written : GrowsByFront c.held c.holds text

-- when each answer of a command comes, and what it leaves; the bytes are spoken of where the source tells them
abbrev pub Follows : ℕ → Command → Call → Status → Type 0
Follows limit command c answers.Done = IsFlushed c × IsReadWhole c × IfSome c.given (Written limit command c)
Follows limit command c answers.Usage = ⊥
Follows limit command c answers.NotJson = IsUnwritten c × IsReadWhole c × IfSome c.given (λ bytes. Settles limit command bytes answers.NotJson)
Follows limit command c answers.Form = IsUnwritten c × IsReadWhole c × IfSome c.given (λ bytes. Settles limit command bytes answers.Form)
Follows limit command c answers.Refused = IsFlushed c × IsReadWhole c × IfSome c.given (Told limit c)
Follows limit command c answers.Unfit = IsUnwritten c × IsReadWhole c × IfSome c.given (λ bytes. Settles limit command bytes answers.Unfit)
Follows limit command c answers.Limit = IsUnwritten c × (c.read_faults_now ≡ c.read_faults) × IfSome c.given (λ bytes. Settles limit command bytes answers.Limit)
Follows limit command c answers.ReadFault = IsUnwritten c × Rose c.read_faults c.read_faults_now
Follows limit command c answers.WriteFault = Rose c.write_faults c.write_faults_now × IsReadWhole c × IfSome c.given (Cut limit command c)
Follows limit command c answers.OutOfMemory = IsUnwritten c × (c.read_faults_now ≡ c.read_faults)

-- when each answer comes: the words ask for no command, or for one whose answer it is
abbrev pub Comes : ℕ → List (List ℕ) → Call → Status → Type 0
Comes limit words c result = (IsUsage words × (result ≡ answers.Usage) × IsUnwritten c × IsUnread c) ⊎ ((command : Command) × Asks words command × Follows limit command c result)

-- and each comes: words that ask for no command are told so; else, where no count of faults rose and memory sufficed, the answer is what the bytes settle
pub record Completes (limit : ℕ) (words : List (List ℕ)) (c : Call) (result : Status) : Type 0 where
  pub usage : IsUsage words → result ≡ answers.Usage
  pub settled : (command : Command) (bytes : List ℕ) (settled : Status) → Asks words command → c.given ≡ Some bytes → (Rose c.read_faults c.read_faults_now → ⊥) → (Rose c.write_faults c.write_faults_now → ⊥) → Settles limit command bytes settled → (result ≡ settled) ⊎ (result ≡ answers.OutOfMemory)

-- the text was written whole and flushed, and the answer stands
pub record Finished (text : List ℕ) (held holds : Option (List ℕ)) (clean : Bool) (before now : ℕ) (answer result : Status) : Type 0 where
  pub is : result ≡ answer
  pub unfailed : now ≡ before
  pub flushed : clean ≡ true
  pub written : Appends held holds text

-- a write or the flush failed, and a front of the text was written
pub record Broke (text : List ℕ) (held holds : Option (List ℕ)) (before now : ℕ) (result : Status) : Type 0 where
  pub is : result ≡ answers.WriteFault
  pub cause : Rose before now
  pub written : GrowsByFront held holds text

-- the text is whole and the answer given, or it broke off
abbrev pub Finishes : List ℕ → Option (List ℕ) → Option (List ℕ) → Bool → ℕ → ℕ → Status → Status → Type 0
Finishes text held holds clean before now answer result = Finished text held holds clean before now answer result ⊎ Broke text held holds before now result
