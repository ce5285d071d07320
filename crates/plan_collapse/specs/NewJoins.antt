-- Joins in the place of a cross join under a run of filters.
use Rattle.std.specs.Prelude.{◌≡◌, List, ◌++◌, map, All, Option, option_map}
use Rattle.plan_core.specs.declared.arena.Node.{Node}
use Rattle.plan_core.specs.Columns.{Columns}
use Rattle.plan_tree.specs.Rose.{Roses, rose}
use Rattle.plan_expr.specs.declared.aexpr.AExpr.{AExpr}
use Rattle.plan_expr.specs.declared.expr_ir.ExprIR.{ExprIR}
use Rattle.plan_expr.specs.Exprs.{Expr, Named, all_named_at, expr_at}
use Rattle.plan_ir.specs.Parts.{condition_of, list_of}
use Rattle.plan_ir.specs.Plans.{Op, join, Plan}
use Rattle.plan_join.specs.declared.options.JoinOptions.{JoinOptions}
use Rattle.plan_join.specs.Told.{inequalities, told_at}
use Rattle.plan_meaning.specs.JoinChecks.{conditions}
use Rattle.plan_options.specs.declared.join.IEJoinOptions.{IEJoinOptions}
use Rattle.plan_options.specs.declared.join.JoinType.{JoinType}
use Rattle.plan_prune_parts.specs.declared.origins.Origins.{Origins}
use Rattle.plan_collapse_laws.specs.Collapsed.{by_condition, on_keys, under}
use Rattle.plan_collapse_laws.specs.CrossKeys.{Crossed, KeyPair}
use Rattle.plan_collapse_laws.specs.TakenKeys.{and_all}
use Rattle.plan_collapse.specs.declared.cross.NewJoin.{NewJoin}
use Rattle.plan_collapse.specs.declared.keys.KeyNodes.{KeyNodes}
use Rattle.plan_collapse.specs.declared.split.Split.{Split}
use Rattle.plan_collapse.specs.KeysAt.{AreOrigins, NamesItself, pair_at}

-- the numbers of the expressions of a new join: of the filter above it, of its keys, and of its condition
abbrev pub new_nodes : NewJoin → List Node
new_nodes made = map (λ (e : ExprIR). e.node) (list_of made.above ++ ((made.left_on ++ made.right_on) ++ list_of (condition_of made.options)))

-- the plan that it is over inputs, with these columns
abbrev pub plan_over : List AExpr → Columns → NewJoin → Roses (Unit {0}) Op → Plan
plan_over ex schema made inputs =
    under (all_named_at ex (list_of made.above)) (rose tt (join (all_named_at ex made.left_on) (all_named_at ex made.right_on) schema (told_at ex made.options)) inputs)

-- keys over a cross join name themselves, the right ones under the names of their own side
pub record MayBeKeys (ex : List AExpr) (origins : Origins) (keys : List KeyNodes) : Type 0 where
  pub crossed : Crossed
  pub by : AreOrigins crossed origins
  pub left : All (λ (k : KeyNodes). NamesItself (pair_at ex crossed k).left_key) keys
  pub right : All (λ (k : KeyNodes). NamesItself (pair_at ex crossed k).right_key) keys

-- a new join is one on keys: over any inputs the plan that these keys make, where what remains are these expressions and then its own condition
abbrev pub IsOnKeys : (ex grown : List AExpr) → JoinType → Option IEJoinOptions → List KeyPair → List Node → JoinOptions → NewJoin → Type 0
IsOnKeys ex grown how operators ks remaining options made =
    (rest : List Expr) (schema : Columns) (inputs : Roses (Unit {0}) Op)
    → map (expr_at ex) remaining ≡ rest ++ map (λ (e : Named). e.expr) (conditions (told_at ex options).options)
    → plan_over grown schema made inputs ≡ on_keys how (option_map inequalities operators) ks rest schema (told_at ex options) inputs

-- a new join is a cross join by a condition: over any inputs the plan that it makes with these expressions joined by And
abbrev pub IsByCondition : (ex grown : List AExpr) → List Node → JoinOptions → NewJoin → Type 0
IsByCondition ex grown remaining options made =
    (schema : Columns) (inputs : Roses (Unit {0}) Op)
    → plan_over grown schema made inputs ≡ by_condition (and_all (map (expr_at ex) remaining)) schema (told_at ex options) inputs

-- a new join is one on the keys that minterms are split into: over any inputs the plan that these keys and the other minterms make
abbrev pub IsByKeys : (ex grown : List AExpr) → Crossed → JoinType → Option IEJoinOptions → Split → JoinOptions → NewJoin → Type 0
IsByKeys ex grown j how operators split options made =
    (schema : Columns) (inputs : Roses (Unit {0}) Op)
    → plan_over grown schema made inputs ≡ on_keys how (option_map inequalities operators) (map (pair_at ex j) split.keys) (map (expr_at ex) split.rest) schema (told_at ex options) inputs
