-- What a reader answers, by what the value stands for.
use Rattle.std.specs.Prelude.{◌≡◌, Option, Some, None, Result, Ok, Err}
use Rattle.plan_doc_parts.specs.declared.fault.Fault.{Fault}
use Rattle.plan_doc_parts.specs.declared.fault.Fault.TheVariants.{Form, Memory}

-- a fault of form says that the value stands for nothing
abbrev pub Fails : {X : Type 0} → Fault → Option X → Type 0
Fails Form read = read ≡ None
Fails Memory read = Unit {0}

-- what was read is what the value stands for
abbrev pub Gives : {X : Type 0} → Result X Fault → Option X → Type 0
Gives (Ok x) read = read ≡ Some x
Gives (Err e) read = Fails e read

-- the same, of what is seen of the thing that was read
abbrev pub Shows : {X Y : Type 0} → (X → Y) → Result X Fault → Option Y → Type 0
Shows see (Ok x) read = read ≡ Some (see x)
Shows see (Err e) read = Fails e read
