-- The kinds of nodes that join collapse tells apart: filters, joins, and others, which it leaves as they are under their run; and what a cross join becomes.
use Rattle.std.proofs.Common.{◌≡◌, ◌++◌, List, [], ◌∷◌, map, length, Option, None, refl}
use Rattle.std.specs.Prelude.{option_map}
use Rattle.plan_options.specs.declared.join.JoinType.{JoinType}
use Rattle.plan_options.specs.declared.join.JoinType.TheVariants.{IEJoin, Inner}
use Rattle.plan_options.specs.declared.join.MaintainOrderJoin.{MaintainOrderJoin}
use Rattle.plan_options.specs.declared.join.MaintainOrderJoin.TheVariants as orders
use Rattle.plan_core.specs.Columns.{Columns}
use Rattle.plan_tree.specs.Rose.{Roses, rose}
use Rattle.plan_expr.specs.Exprs.{Expr, Named}
use Rattle.plan_join.specs.Told.{KindOptions, inequalities, Told}
use Rattle.plan_ir.specs.Plans.{Op, filter, join, Plan}
use Rattle.plan_meaning.specs.JoinChecks.{conditions}
use Rattle.plan_meaning.specs.Marks.{unmarked_op}
use Rattle.plan_meaning.specs.Typing.{first_schema, rest_schemas}
use Rattle.plan_collapse_laws.specs.CrossKeys.{Crossed, KeyPair, all_minterms, equality_keys, inequality_keys}
use Rattle.plan_collapse_laws.specs.TakenKeys.{and_all, operators_of, taken, untaken}
use Rattle.plan_collapse_laws.specs.Collapsed.{by_condition, collapsed_at, collapsed_by, collapsed_cross, free_join, on_keys, under}
use Rattle.plan_collapse_laws.specs.Sites.{own_site, run_below}

-- a node that is neither a filter nor a join
pub record IsOther (op : Op) : Type 0 where
  pub stays : (run : List Named) (ss : List Columns) (inputs : Roses (Unit {0}) Op) (into : List Named → Plan) → collapsed_at op run ss inputs into ≡ under run (rose tt op inputs)
  pub stays_bare : (run : List Named) (ss : List Columns) (inputs : Roses (Unit {0}) Op) (into : List Named → Plan) → collapsed_at (unmarked_op op) run ss inputs into ≡ under run (rose tt (unmarked_op op) inputs)
  pub below : (run : List Named) → run_below op run ≡ []
  pub no_site : (run : List Named) (ss : List Columns) → own_site op run ss ≡ []

pub data Kind : Op → Type 0 where
  a_filter : (e : Named) → Kind (filter e)
  a_join : (left_on right_on : List Named) (stored : Columns) (told : Told) → Kind (join left_on right_on stored told)
  another : (op : Op) → IsOther op → Kind op

pub kind_of : (op : Op) → Kind op
kind_of (filter e) = a_filter e
kind_of (join left_on right_on stored told) = a_join left_on right_on stored told
kind_of op = another op (record { stays = λ run ss inputs into. refl; stays_bare = λ run ss inputs into. refl; below = λ run. refl; no_site = λ run ss. refl })

-- what a cross join becomes: a join on keys, a cross join by a condition, or itself under its run

module _ (P : (Roses (Unit {0}) Op → Plan) → Type 0) (stored : Columns) (told : Told)
    (keyed : (how : JoinType) (options : Option KindOptions) (ks : List KeyPair) (rest : List Expr) → P (λ (inputs : Roses (Unit {0}) Op). on_keys how options ks rest stored told inputs))
    (conditioned : (e : Option Expr) → P (λ (inputs : Roses (Unit {0}) Op). by_condition e stored told inputs)) where
  abbrev Same : List Named → Type 0
  Same run = P (λ (inputs : Roses (Unit {0}) Op). under run (rose tt (join [] [] stored told) inputs))

  free_cases : (order : MaintainOrderJoin) (run : List Named) → Same run → P (λ (inputs : Roses (Unit {0}) Op). free_join order run stored told inputs)
  free_cases orders.None run same = conditioned (and_all (all_minterms run ++ map (λ (e : Named). e.expr) (conditions told.options)))
  free_cases orders.Left run same = same
  free_cases orders.Right run same = same
  free_cases orders.LeftRight run same = same
  free_cases orders.RightLeft run same = same

  by_cases : (equal unequal : List KeyPair) (rest others : List Expr) (run : List Named) → Same run → P (λ (inputs : Roses (Unit {0}) Op). collapsed_by equal unequal rest others run stored told inputs)
  by_cases (k ∷ ks) us rest others run same = keyed Inner None (k ∷ ks) rest
  by_cases [] (k ∷ ks) rest others run same = keyed IEJoin (option_map inequalities (operators_of (k ∷ ks))) (k ∷ ks) others
  by_cases [] [] rest others run same = free_cases told.args.maintain_order run same

  pub cross_cases : (run : List Named) (ss : List Columns) → Same run → P (λ (inputs : Roses (Unit {0}) Op). collapsed_cross run stored told ss inputs)
  cross_cases [] ss same = same
  cross_cases (e ∷ run) ss same =
      let j : Crossed = record { args = told.args; left = first_schema ss; right = first_schema (rest_schemas ss) } in
      let es = all_minterms (e ∷ run) in
      by_cases (taken (length es) (equality_keys j) es) (taken 2 (inequality_keys j) es) (untaken (length es) (equality_keys j) es) (untaken 2 (inequality_keys j) es) (e ∷ run) same
