-- What functions that write each of several values answer, by what their calls answered.
use Rattle.std.specs.Prelude.{List, [], ◌∷◌, Result, Ok, IfOk, Vec}
use Rattle.std.specs.declared.alloc.Global.{Global}
use Rattle.std.specs.declared.alloc.AllocError.{AllocError}
use Rattle.serde_json.specs.declared.value.Value.{Value}

-- the call at each value gave the written value at its place
abbrev pub Pairs : {T : Type 0} → (T → Result Value AllocError → Type 0) → List T → List Value → Type 0
Pairs calls [] [] = Unit {0}
Pairs calls [] (v ∷ vs) = ⊥
Pairs calls (x ∷ xs) [] = ⊥
Pairs calls (x ∷ xs) (v ∷ vs) = calls x (Ok v) × Pairs calls xs vs

-- where there is an answer, it has what the calls gave, in order
pub record WritesEach {T : Type 0} (calls : T → Result Value AllocError → Type 0) (result : Result (Vec Value Global) AllocError) (xs : List T) : Type 0 where
  pub answers : IfOk result (λ v. Pairs calls xs v.items)
