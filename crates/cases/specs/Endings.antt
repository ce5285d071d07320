-- How a command may end on a document, and what it writes of rows.
use Rattle.std.specs.Prelude.{◌≡◌, ◌≢◌, ℕ, List, [], ◌∷◌, ◌++◌, Bool, Some, IsUtf8, codes}
use Rattle.std.specs.Str.Iter.{HasSubslice}
use Rattle.plan_tool.specs.declared.status.Status.{Status}
use Rattle.plan_tool.specs.declared.status.Status.TheVariants.{OutOfMemory, WriteFault}
use Rattle.plan_tool.specs.Statuses.{code_of}
use Rattle.plan_tool.specs.Limits.{byte_limit}
use Rattle.plan_tool.specs.Causes.{Call, Comes}
use Rattle.plan_top.specs.Chains.{boxes_of}

-- a call that was given no boxes, a document in memory and an empty sink, and left these bytes of the one and in the other
abbrev pub call_on : List ℕ → List ℕ → List ℕ → Bool → ℕ → Call
call_on document left bytes clean faults = record {
  boxes = boxes_of [] [];
  given = Some document;
  left = Some left;
  held = Some [];
  holds = Some bytes;
  clean = clean;
  read_faults = 0;
  read_faults_now = 0;
  write_faults = 0;
  write_faults_now = faults;
}

-- where neither memory nor room for what it writes runs out, the command may end on the document with this exit status, and these bytes written
pub record MayEnd (command document : List ℕ) (code : ℕ) (bytes : List ℕ) : Type 0 where
  pub status : Status
  pub is : code ≡ code_of status
  pub memory : status ≢ OutOfMemory
  pub room : status ≢ WriteFault
  pub left : List ℕ
  pub clean : Bool
  pub faults : ℕ
  pub comes : Comes byte_limit (command ∷ []) (call_on document left bytes clean faults) status

-- the command ended on the document as it may, and this holds of its exit status and of what it wrote
abbrev pub Ended : List ℕ → List ℕ → (ℕ → List ℕ → Type 0) → Type 0
Ended command document P = (code : ℕ) × (bytes : List ℕ) × MayEnd command document code bytes × P code bytes

-- the bytes are a text in which another one stands
pub record HasText (bytes text : List ℕ) : Type 0 where
  pub utf8 : IsUtf8 bytes
  pub stands : HasSubslice bytes text

-- what a listing has of rows of one column `r`, of a type and with values, up to their height
unfoldable pub rows_text : List ℕ → List ℕ → List ℕ
rows_text dtype values = codes "\"rows\":{\"columns\":[[\"r\",\"" ++ (dtype ++ (codes "\"," ++ (values ++ codes "]],\"height\":")))
