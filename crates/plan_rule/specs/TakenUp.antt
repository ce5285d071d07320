-- The inputs of unions, taken up by a union above them: over the nodes of an arena.
use Rattle.std.specs.Prelude.{Bool, true, false, not, ◌||◌, List, [], ◌∷◌, ◌++◌, slice_get}
use Rattle.std.specs.Option.{option_map_or}
use Rattle.plan_core.specs.declared.arena.Node.{Node}
use Rattle.plan_options.specs.declared.union.UnionOptions.{UnionOptions}
use Rattle.plan_ir.specs.declared.ir.IR.{IR}
use Rattle.plan_ir.specs.declared.ir.IR.TheVariants.{Union}

-- a union that isn't marked as flattened
abbrev pub is_unflattened_node : IR → Bool
is_unflattened_node (Union inputs options) = not options.flattened_by_opt
is_unflattened_node other = false

-- one of some numbers is that of such a union
abbrev pub has_unflattened_node : List IR → List Node → Bool
has_unflattened_node lp [] = false
has_unflattened_node lp (n ∷ ns) = option_map_or is_unflattened_node (slice_get lp n.0) false || has_unflattened_node lp ns

-- the numbers that come in the place of a node's: those of a union's inputs, or its own
abbrev pub numbers_for : Node → IR → List Node
numbers_for n (Union inputs options) = inputs
numbers_for n other = n ∷ []

-- numbers, with those of the inputs of unions in the place of these
abbrev pub numbers_taken_up : List IR → List Node → List Node
numbers_taken_up lp [] = []
numbers_taken_up lp (n ∷ ns) = option_map_or (numbers_for n) (slice_get lp n.0) (n ∷ []) ++ numbers_taken_up lp ns

-- the options of a union that took up the inputs of others
abbrev pub flattened_options : UnionOptions → UnionOptions
flattened_options options = record options { flattened_by_opt = true }
