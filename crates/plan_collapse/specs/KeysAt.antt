-- Minterms of an arena that are keys of a join in the place of a cross join.
use Rattle.std.specs.Prelude.{◌≡◌, ℕ, List, [], ◌∷◌, ◌++◌, map, Option, None, Some, is_some, true}
use Rattle.std.specs.Option.{option_map_or}
use Rattle.plan_core.specs.declared.arena.Node.{Node}
use Rattle.plan_expr.specs.declared.aexpr.AExpr.{AExpr}
use Rattle.plan_expr.specs.Exprs.{Expr, expr_at}
use Rattle.plan_expr.specs.Leaves.{Name}
use Rattle.plan_expr.specs.Naming.{naming, own_output_name}
use Rattle.plan_expr.specs.declared.operator.Operator.{Operator}
use Rattle.plan_join.specs.declared.origin.Side.{Side}
use Rattle.plan_join.specs.declared.origin.Side.TheVariants as sides
use Rattle.plan_meaning.specs.Minterms.{minterms}
use Rattle.plan_prune_parts.specs.Places.{TakePlace}
use Rattle.plan_prune_parts.specs.declared.origins.Origins.{Origins}
use Rattle.plan_prune_parts.specs.Origins.{origin_in}
use Rattle.plan_collapse_laws.specs.CrossKeys.{Crossed, KeyPair, own_expr, stands_for, turned_round}
use Rattle.plan_collapse_laws.specs.TakenKeys.{taken, untaken}
use Rattle.plan_collapse.specs.declared.keys.KeyNodes.{KeyNodes}
use Rattle.plan_collapse.specs.declared.split.Split.{Split}

-- these are the columns of the sides of a cross join, by the names under which it puts them out
abbrev pub AreOrigins : Crossed → Origins → Type 0
AreOrigins j origins = (a : Name) → origin_in origins a ≡ stands_for j a

-- the keys that operands of a minterm are: the right one under its own names
abbrev pub pair_at : List AExpr → Crossed → KeyNodes → KeyPair
pair_at ex j k = record { op = k.op; left_key = expr_at ex k.left; right_key = own_expr j (expr_at ex k.right) }

-- the keys of a comparison whose operands are from these sides: the left side's first, and the operator turned where they change places
abbrev pub keys_by : (first second : Option Side) → Node → Operator → Node → Option KeyNodes
keys_by (Some sides.Left) (Some sides.Right) l op r = Some (record { op = op; left = l; right = r })
keys_by (Some sides.Right) (Some sides.Left) l op r = Some (record { op = turned_round op; left = r; right = l })
keys_by first second l op r = None

-- the numbers of both operands
abbrev pub both_nodes : KeyNodes → List Node
both_nodes k = k.left ∷ k.right ∷ []

-- the numbers of what minterms are split into: the left keys, the right ones, and the other minterms
abbrev pub split_nodes : Split → List Node
split_nodes split = map (λ (k : KeyNodes). k.left) split.keys ++ (map (λ (k : KeyNodes). k.right) split.keys ++ split.rest)

-- minterms are split: into the keys that the first so many give that give some, and the other minterms
abbrev pub IsSplit : List AExpr → Crossed → ℕ → (Expr → Option KeyPair) → List Node → Split → Type 0
IsSplit ex j n keys minterms split =
    (map (pair_at ex j) split.keys ≡ taken n keys (map (expr_at ex) minterms))
    × (map (expr_at ex) split.rest ≡ untaken n keys (map (expr_at ex) minterms))

-- the name that a column of a cross join has on its own side; another name stays
abbrev pub own_in : Origins → Name → Name
own_in origins a = option_map_or (λ (x : Side × Name). x.1) (origin_in origins a) a

-- the numbers of the left keys
abbrev pub left_nodes : List KeyNodes → List Node
left_nodes keys = map (λ (k : KeyNodes). k.left) keys

-- the numbers of the right keys, under the names that the join puts out
abbrev pub right_nodes : List KeyNodes → List Node
right_nodes keys = map (λ (k : KeyNodes). k.right) keys

-- an expression gives itself an output name
abbrev pub NamesItself : Expr → Type 0
NamesItself e = is_some (own_output_name (naming e)) ≡ true

-- numbers were added behind others: of the minterms of an expression, in whose place they stand
pub record AddsMinterms (ex : List AExpr) (n : Node) (before after : List Node) : Type 0 where
  pub added : List Node
  pub is : after ≡ before ++ added
  pub exprs : map (expr_at ex) added ≡ minterms (expr_at ex n)
  pub place : TakePlace ex ex added (n ∷ [])
