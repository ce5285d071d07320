-- Where the scans of plans are found.
use Rattle.std.specs.Prelude.{◌≡◌, ◌++◌, ℕ, List, [], ◌∷◌, Option, None, Some, option_map}
use Rattle.plan_core.specs.declared.arena.Node.{Node}
use Rattle.plan_scan.specs.declared.sources.ScanSources.{ScanSources}
use Rattle.plan_scan.specs.declared.sources.ScanSources.TheVariants.{Paths, Buffers}
use Rattle.plan_expr.specs.Leaves.{Name}
use Rattle.plan_ir.specs.declared.ir.IR.{IR}
use Rattle.plan_ir.specs.declared.ir.IR.TheVariants.{SimpleProjection}
use Rattle.plan_order_laws.specs.Counted.{Scans}

-- scans were added to others
abbrev pub Adds : Option Scans → (old new : Scans) → Type 0
Adds found old new = (xs : Scans) × (found ≡ Some xs) × (new ≡ old ++ xs)

-- the input of a projection, or the number itself
abbrev pub under_projection : Node → IR → Node
under_projection n (SimpleProjection input columns) = input
under_projection n p = n

-- paths with others behind them, if both are paths
abbrev pub all_paths : ScanSources → Option (List Name) → Option (List Name)
all_paths (Paths ps) rest = option_map (λ qs. ps ++ qs) rest
all_paths (Buffers ms) rest = None

-- the paths of scans, in order, if all are paths
abbrev pub paths_in : Scans → Option (List Name)
paths_in [] = Some []
paths_in (x ∷ xs) = all_paths x.0 (paths_in xs)

-- buffers with others behind them, if both are buffers
abbrev pub all_numbers : ScanSources → Option (List ℕ) → Option (List ℕ)
all_numbers (Paths ps) rest = None
all_numbers (Buffers ms) rest = option_map (λ ns. ms ++ ns) rest

-- the numbers of buffers of scans, in order, if all are buffers
abbrev pub numbers_in : Scans → Option (List ℕ)
numbers_in [] = Some []
numbers_in (x ∷ xs) = all_numbers x.0 (numbers_in xs)
