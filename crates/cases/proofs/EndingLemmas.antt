-- How a command that was tried may end.
use Rattle.std.proofs.Common.{◌≡◌, ◌≢◌, ℕ, List, [], ◌∷◌, Bool, Some, subst}
use Rattle.plan_tool.specs.declared.status.Status.{Status}
use Rattle.plan_tool.specs.declared.status.Status.TheVariants.{OutOfMemory, WriteFault}
use Rattle.plan_tool.specs.Statuses.{code_of}
use Rattle.plan_tool.specs.Limits.{byte_limit}
use Rattle.plan_tool.specs.Causes.{Call, Comes}
use Rattle.plan_top.specs.Chains.{Boxes, boxes_of}
use Rattle.cases.specs.Endings.{MayEnd}

-- a call in memory
abbrev call : Boxes → (given left held bytes : List ℕ) (clean : Bool) (before faults : ℕ) → Call
call boxes given left held bytes clean before faults = record {
  boxes = boxes;
  given = Some given;
  left = Some left;
  held = Some held;
  holds = Some bytes;
  clean = clean;
  read_faults = 0;
  read_faults_now = 0;
  write_faults = before;
  write_faults_now = faults;
}

-- what the contract of the program says of a call in memory is that it may end so
pub may_end : (boxes : Boxes) (command document : List ℕ) (status : Status) (code : ℕ) (words : List (List ℕ)) (given left held bytes : List ℕ) (clean : Bool) (before faults : ℕ) → code ≡ code_of status → status ≢ OutOfMemory → status ≢ WriteFault → words ≡ command ∷ [] → given ≡ document → held ≡ [] → before ≡ 0 → boxes ≡ boxes_of [] [] → Comes byte_limit words (call boxes given left held bytes clean before faults) status → MayEnd command document code bytes
may_end boxes command document status code words given left held bytes clean before faults coded memory room are is empty none no_box comes = record {
  status = status;
  is = coded;
  memory = memory;
  room = room;
  left = left;
  clean = clean;
  faults = faults;
  comes =
      subst (λ (n : ℕ). Comes byte_limit (command ∷ []) (call (boxes_of [] []) document left [] bytes clean n faults) status) none
      (subst (λ (l : List ℕ). Comes byte_limit (command ∷ []) (call (boxes_of [] []) document left l bytes clean before faults) status) empty
      (subst (λ (l : List ℕ). Comes byte_limit (command ∷ []) (call (boxes_of [] []) l left held bytes clean before faults) status) is
      (subst (λ (ws : List (List ℕ)). Comes byte_limit ws (call (boxes_of [] []) given left held bytes clean before faults) status) are
      (subst (λ (b : Boxes). Comes byte_limit words (call b given left held bytes clean before faults) status) no_box comes))));
}
