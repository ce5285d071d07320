-- Walks over what numbers of an arena reach: a number before its inputs, and those from first to last.
use Rattle.std.specs.Prelude.{ℕ, zero, suc, Bool, true, false, List, [], ◌∷◌, ◌++◌, Option, None, Some, slice_get, length, map, if◌then◌else◌}
use Rattle.std.specs.List.{list_any}
use Rattle.std.specs.Bool.{nat_eq}
use Rattle.plan_core.specs.declared.arena.Node.{Node}
use Rattle.plan_tree.specs.declared.walking.Step.{Step}
use Rattle.plan_tree.specs.declared.walking.Walked.{Walked}
use Rattle.plan_tree.specs.Stands.{Shape}

-- the numbers of steps
abbrev pub nodes_of : {W : Type 0} → List (Step W) → List Node
nodes_of steps = map (λ s. s.node) steps

-- steps to numbers, with one mark
abbrev pub steps_to : {W : Type 0} → W → List Node → List (Step W)
steps_to w ns = map (λ n. record { node = n; mark = w }) ns

-- an entry, unless it was met before or there is none or it is bad
abbrev pub if_new : {P : Type 0} → Shape P → Bool → Option P → Option P
if_new S met None = None
if_new S true (Some p) = None
if_new S false (Some p) = if S.bad p then None else Some p

-- the entry at a number, unless it was met before or there is none or it is bad
abbrev pub entry_if_new : {P : Type 0} → Shape P → List P → Bool → Node → Option P
entry_if_new S lp met n = if_new S met (slice_get lp n.0)

-- a walk that meets no number
abbrev pub ended : {W : Type 0} → Option (Step W) → Walked W
ended fault = record { listed = []; fault = fault }

-- a walk that met one number more before it
abbrev pub after : {W : Type 0} → Node → Walked W → Walked W
after n w = record { listed = n ∷ w.listed; fault = w.fault }

-- the walk over steps and what they reach, where some numbers were met before; at most `left` more can be met
unfoldable pub walk_on : {P W : Type 0} → Shape P → ℕ → List P → List ℕ → List (Step W) → Walked W
walk_on S left lp met [] = ended None
walk_on S zero lp met (s ∷ ss) = ended (Some s)
walk_on S (suc left) lp met (s ∷ ss) =
    elim (entry_if_new S lp (list_any (nat_eq s.node.0) met) s.node) [
      | None ↦ ended (Some s)
      | Some p ↦ after s.node (walk_on S left lp (s.node.0 ∷ met) (steps_to s.mark (S.inputs p) ++ ss))
    ]

-- the walk over steps and what they reach
abbrev pub walk_from : {P W : Type 0} → Shape P → List P → List (Step W) → Walked W
walk_from S lp roots = walk_on S (length lp) lp [] roots
