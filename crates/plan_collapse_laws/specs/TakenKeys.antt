-- The minterms that become keys, and what is left of a run.
use Rattle.std.specs.Prelude.{ℕ, zero, suc, List, [], ◌∷◌, map, fold, Option, Some, None, unwrap_or}
use Rattle.std.specs.List.{filter_map}
use Rattle.plan_options.specs.declared.join.IEJoinOptions.{IEJoinOptions}
use Rattle.plan_options.specs.declared.join.InequalityOperator.{InequalityOperator}
use Rattle.plan_options.specs.declared.join.JoinArgs.{JoinArgs}
use Rattle.plan_tree.specs.Rose.{rose, no_roses, more}
use Rattle.plan_expr.specs.declared.expr_ir.OutputName.TheVariants as output
use Rattle.plan_expr.specs.declared.operator.Operator.TheVariants.{And}
use Rattle.plan_expr.specs.Exprs.{binary, Expr, Named}
use Rattle.plan_expr.specs.Naming.{naming, own_output_name}
use Rattle.plan_join.specs.Told.{KindOptions, Told}
use Rattle.plan_collapse_laws.specs.CrossKeys.{inequality_of, KeyPair}

-- the keys of the first so many expressions that have some
abbrev pub taken : ℕ → (Expr → Option KeyPair) → List Expr → List KeyPair
taken zero keys es = []
taken (suc n) keys [] = []
taken (suc n) keys (e ∷ es) = elim (keys e) as (λ _. List KeyPair) [ None ↦ taken (suc n) keys es | Some k ↦ k ∷ taken n keys es ]

-- the other expressions, in their order
abbrev pub untaken : ℕ → (Expr → Option KeyPair) → List Expr → List Expr
untaken zero keys es = es
untaken (suc n) keys [] = []
untaken (suc n) keys (e ∷ es) = elim (keys e) as (λ _. List Expr) [ None ↦ e ∷ untaken (suc n) keys es | Some k ↦ untaken n keys es ]

-- two expressions joined by And
abbrev pub and_expr : Expr → Expr → Expr
and_expr a b = rose tt (binary And) (more a (more b no_roses))

-- expressions joined by And, nested to the left; none where there is none
abbrev pub and_all : List Expr → Option Expr
and_all [] = None
and_all (e ∷ es) = Some (fold and_expr e es)

-- an expression under the output name that it gives itself
abbrev pub self_named : Expr → Named
self_named e = record { name = unwrap_or (own_output_name (naming e)) output.None; expr = e }

-- what a join is told with other arguments and options, as parallel as it was
abbrev pub told_now : JoinArgs → Option KindOptions → Told → Told
told_now args options told = record { allow_parallel = told.allow_parallel; force_parallel = told.force_parallel; args = args; options = options }

-- the inequalities by which keys are compared, one or two, as a join is told them
abbrev pub operators_of : List KeyPair → Option IEJoinOptions
operators_of ks = elim (filter_map (λ (k : KeyPair). inequality_of k.op) ks) as (λ _. Option IEJoinOptions) [ [] ↦ None | o ∷ os ↦ Some (record { operator1 = o; operator2 = elim os as (λ _. Option InequalityOperator) [ [] ↦ None | b ∷ bs ↦ Some b ] }) ]

-- the left keys of pairs, each under its own name
abbrev pub left_keys : List KeyPair → List Named
left_keys ks = map (λ (k : KeyPair). self_named k.left_key) ks

-- the right keys of pairs, each under its own name
abbrev pub right_keys : List KeyPair → List Named
right_keys ks = map (λ (k : KeyPair). self_named k.right_key) ks

-- an expression that there may be, as a list
abbrev pub some_expr : Option Expr → List Expr
some_expr None = []
some_expr (Some e) = e ∷ []

-- the expressions of named ones
abbrev pub exprs_of : List Named → List Expr
exprs_of run = map (λ (e : Named). e.expr) run
