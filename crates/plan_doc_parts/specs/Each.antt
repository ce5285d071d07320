-- What a function that reads each entry of an array answers, by what its calls answered.
use Rattle.std.specs.Prelude.{◌≡◌, List, [], ◌∷◌, ◌++◌, Result, Ok, Err}
use Rattle.serde_json.specs.declared.value.Value.{Value}
use Rattle.plan_doc_parts.specs.declared.fault.Fault.{Fault}
use Rattle.plan_doc_parts.specs.declared.fault.Fault.TheVariants.{Form, Memory}

-- the call at each entry gave the item in its place
abbrev pub Pairs : {T : Type 0} → (Value → Result T Fault → Type 0) → List Value → List T → Type 0
Pairs calls [] [] = Unit {0}
Pairs calls [] (x ∷ xs) = ⊥
Pairs calls (v ∷ vs) [] = ⊥
Pairs calls (v ∷ vs) (x ∷ xs) = calls v (Ok x) × Pairs calls vs xs

-- the call at some entry refused it
pub record Stops {T : Type 0} (calls : Value → Result T Fault → Type 0) (vs : List Value) : Type 0 where
  pub before : List Value
  pub entry : Value
  pub after : List Value
  pub split : vs ≡ before ++ entry ∷ after
  pub refused : calls entry (Err Form)

-- all the items, or an entry that was refused
abbrev pub Answers : {T : Type 0} → (Value → Result T Fault → Type 0) → Result (List T) Fault → List Value → Type 0
Answers calls (Ok xs) vs = Pairs calls vs xs
Answers calls (Err Form) vs = Stops calls vs
Answers calls (Err Memory) vs = Unit {0}

-- the answer of a function that calls a reader at each entry
pub record ReadsEach {T : Type 0} (calls : Value → Result T Fault → Type 0) (result : Result (List T) Fault) (vs : List Value) : Type 0 where
  pub answers : Answers calls result vs
