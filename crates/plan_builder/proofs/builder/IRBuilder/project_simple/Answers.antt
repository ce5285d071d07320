use Rattle.std.proofs.Common.{◌≡◌, List, [], None, rules, subst, sym}
use Rattle.plan_core.specs.Columns.{Columns}
use Rattle.plan_ir.specs.declared.ir.IR.{IR}
use Rattle.plan_meaning.specs.Typing.{Says}
use Rattle.plan_builder.specs.Builds.{columns_at, IsBuilt}
use Rattle.plan_builder.specs.Picks.{first_item_fault, name_checks, Picks}
use Rattle.plan_builder.proofs.Follow.{picks_follow}
use Rattle.plan_builder.proofs.builder.IRBuilder.project_simple.Goals as goal

pub returns-in_err-columns-clause-fault : goal.returns-in_err-columns-clause-fault
returns-in_err-columns-clause-fault c =
    let told : Says c.from_residual-in_err-columns.result (first_item_fault (name_checks c.args.names.now c.in_ok-schema.schema)) = search rules in
    subst (λ (s : Columns). Says c.from_residual-in_err-columns.result (first_item_fault (name_checks c.args.names.now s))) c.in_ok-schema.ensures.columns told

pub returns-clause-added : goal.returns-clause-added
returns-clause-added c = λ some. (
  c.in_ok-columns.columns,
  subst (λ (s : Columns). Picks s c.args.names.now c.in_ok-columns.columns) c.in_ok-schema.ensures.columns c.in_ok-columns.ensures.picks,
  record { added = c.in_ok-self.ensures.added; last = c.in_ok-self.ensures.node },
)

pub returns-clause-fault : goal.returns-clause-fault
returns-clause-fault c =
    subst (λ (s : Columns). first_item_fault (name_checks c.args.names.now s) ≡ None) c.in_ok-schema.ensures.columns c.in_ok-columns.ensures.fault

pub returns-clause-built : goal.returns-clause-built
returns-clause-built c =
    let lp = c.args.self.now.lp_arena.now in
    let ex = c.args.self.now.expr_arena.now in
    let root = c.args.self.now.root in
    let some : c.args.names.now ≡ [] → ⊥ = λ none. search rules in
    let picks : Picks (columns_at lp ex root) c.args.names.now c.in_ok-columns.columns =
    subst (λ (s : Columns). Picks s c.args.names.now c.in_ok-columns.columns) c.in_ok-schema.ensures.columns c.in_ok-columns.ensures.picks
    in
    subst (λ (l : List IR). IsBuilt l ex c.in_ok-self.field-0) (sym c.in_ok-self.ensures.added)
    (picks_follow lp ex root c.requires c.args.names.now c.in_ok-columns.columns picks some (returns-clause-fault c) c.in_ok-self.field-0 c.in_ok-self.ensures.node)
