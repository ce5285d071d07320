-- The plan that join collapse makes.
use Rattle.std.specs.Prelude.{◌++◌, Bool, true, false, List, [], ◌∷◌, map, length, Option, Some, None, option_map}
use Rattle.plan_core.specs.Columns.{Columns}
use Rattle.plan_options.specs.declared.join.JoinArgs.{JoinArgs}
use Rattle.plan_options.specs.declared.join.JoinCoalesce.TheVariants.{KeepColumns}
use Rattle.plan_options.specs.declared.join.JoinType.{JoinType}
use Rattle.plan_options.specs.declared.join.JoinType.TheVariants.{Inner, IEJoin}
use Rattle.plan_options.specs.declared.join.MaintainOrderJoin.{MaintainOrderJoin}
use Rattle.plan_options.specs.declared.join.MaintainOrderJoin.TheVariants as orders
use Rattle.plan_tree.specs.Rose.{Roses, rose, no_roses, more}
use Rattle.plan_expr.specs.Exprs.{Expr, Named}
use Rattle.plan_join.specs.Told.{KindOptions, inequalities, condition, Told}
use Rattle.plan_ir.specs.Plans.{Op, filter, invalid, join, Plan}
use Rattle.plan_meaning.specs.JoinChecks.{conditions, is_elementwise}
use Rattle.plan_meaning.specs.Typing.{first_schema, rest_schemas}
use Rattle.plan_schema.specs.Stored.{stored_all}
use Rattle.plan_collapse_laws.specs.CrossKeys.{all_minterms, Crossed, KeyPair, equality_keys, inequality_keys}
use Rattle.plan_collapse_laws.specs.TakenKeys.{taken, untaken, and_all, self_named, told_now, operators_of}
use Rattle.plan_collapse_laws.specs.Sites.{is_cross}

-- a filter over a plan, where there is a predicate
abbrev pub filtered_by : Option Expr → Plan → Plan
filtered_by None p = p
filtered_by (Some e) p = rose tt (filter (self_named e)) (more p no_roses)

-- a plan under a run of filters, topmost first
abbrev pub under : List Named → Plan → Plan
under [] p = p
under (e ∷ run) p = rose tt (filter e) (more (under run p) no_roses)

-- the arguments of a join on keys in the place of a cross join: it keeps both columns of each pair, null matches nothing, and the rest is as it was
abbrev pub keeping : JoinType → JoinArgs → JoinArgs
keeping how args = record args { how = how; coalesce = KeepColumns; join_nulls = false }

-- a join on keys, under a filter by what remains and its own condition
abbrev pub on_keys : JoinType → Option KindOptions → List KeyPair → List Expr → Columns → Told → Roses (Unit {0}) Op → Plan
on_keys how options ks rest schema told inputs =
    filtered_by (and_all (rest ++ map (λ (e : Named). e.expr) (conditions told.options)))
    (rose tt (join (map (λ (k : KeyPair). self_named k.left_key) ks) (map (λ (k : KeyPair). self_named k.right_key) ks) schema (told_now (keeping how told.args) options told)) inputs)

-- a cross join by a condition
abbrev pub by_condition : Option Expr → Columns → Told → Roses (Unit {0}) Op → Plan
by_condition e schema told inputs = rose tt (join [] [] schema (told_now (record told.args { coalesce = KeepColumns }) (option_map (λ (x : Expr). condition (self_named x)) e) told)) inputs

-- a cross join under a run none of whose minterms is eligible
abbrev pub free_join : MaintainOrderJoin → List Named → Columns → Told → Roses (Unit {0}) Op → Plan
free_join orders.None run schema told inputs = by_condition (and_all (all_minterms run ++ map (λ (e : Named). e.expr) (conditions told.options))) schema told inputs
free_join order run schema told inputs = under run (rose tt (join [] [] schema told) inputs)

-- a cross join under a run, by its eligible minterms
abbrev pub collapsed_by : (equal unequal : List KeyPair) → List Expr → List Expr → List Named → Columns → Told → Roses (Unit {0}) Op → Plan
collapsed_by (k ∷ ks) us rest others run schema told inputs = on_keys Inner None (k ∷ ks) rest schema told inputs
collapsed_by [] (k ∷ ks) rest others run schema told inputs = on_keys IEJoin (option_map inequalities (operators_of (k ∷ ks))) (k ∷ ks) others schema told inputs
collapsed_by [] [] rest others run schema told inputs = free_join told.args.maintain_order run schema told inputs

-- a cross join under a run, over inputs with these columns: without a run it stays
abbrev pub collapsed_cross : List Named → Columns → Told → List Columns → Roses (Unit {0}) Op → Plan
collapsed_cross [] schema told ss inputs = rose tt (join [] [] schema told) inputs
collapsed_cross (e ∷ run) schema told ss inputs =
    let j : Crossed = record { args = told.args; left = first_schema ss; right = first_schema (rest_schemas ss) } in
    let es = all_minterms (e ∷ run) in
    collapsed_by (taken (length es) (equality_keys j) es) (taken 2 (inequality_keys j) es) (untaken (length es) (equality_keys j) es) (untaken 2 (inequality_keys j) es) (e ∷ run) schema told inputs

-- a join under a run, over collapsed inputs: only a cross join takes the run up
abbrev pub at_join : Bool → List Named → List Named → List Named → Columns → Told → List Columns → Roses (Unit {0}) Op → Plan
at_join true run left_on right_on schema told ss inputs = collapsed_cross run schema told ss inputs
at_join false run left_on right_on schema told ss inputs = under run (rose tt (join left_on right_on schema told) inputs)

-- a filter under a run: an elementwise one goes on with the run, another ends it
abbrev pub at_filter : Bool → List Named → Named → Roses (Unit {0}) Op → (List Named → Plan) → Plan
at_filter true run e inputs into = into (run ++ e ∷ [])
at_filter false run e inputs into = under run (rose tt (filter e) inputs)

-- a node under a run, over collapsed inputs; the last is what the first input becomes under a run of its own
abbrev pub collapsed_at : Op → List Named → List Columns → Roses (Unit {0}) Op → (List Named → Plan) → Plan
collapsed_at (filter e) run ss inputs into = at_filter (is_elementwise e.expr) run e inputs into
collapsed_at (join left_on right_on schema told) run ss inputs into = at_join (is_cross told.args.how) run left_on right_on schema told ss inputs
collapsed_at op run ss inputs into = under run (rose tt op inputs)

-- a plan under a run of filters, collapsed; plans without a run, collapsed; and what the only input of a filter becomes under a run
abbrev mutual
  pub collapsed_under : Plan → List Named → Plan
  collapsed_under (rose n op ts) run = collapsed_at op run (stored_all ts) (collapsed_all ts) (λ more_run. first_under ts more_run)

  pub collapsed_all : Roses (Unit {0}) Op → Roses (Unit {0}) Op
  collapsed_all no_roses = no_roses
  collapsed_all (more p rest) = more (collapsed_under p []) (collapsed_all rest)

  pub first_under : Roses (Unit {0}) Op → List Named → Plan
  first_under no_roses run = under run (rose tt invalid no_roses)
  first_under (more p rest) run = collapsed_under p run

-- a collapsed plan
abbrev pub collapsed : Plan → Plan
collapsed p = collapsed_under p []
