use Rattle.std.proofs.Common.{◌≡◌, ◌∙◌, ap, sym, subst, IfOk, Ok}
use Rattle.plan_core.specs.Columns.{Columns}
use Rattle.plan_meaning.specs.Typed.{typed}
use Rattle.plan_meaning.proofs.Validity.{valid_typed}
use Rattle.plan_builder.specs.Builds.{columns_at}
use Rattle.plan_builder.proofs.Standing.{no-tree_fault}
use Rattle.plan_builder.proofs.Follow.{if-ok}
use Rattle.plan_builder.proofs.builder.IRBuilder.schema.Goals as goal

pub returns-clause-columns : goal.returns-clause-columns
returns-clause-columns c =
    subst (λ (s : Columns). IfOk c.into_schema.result (λ columns. columns ≡ s)) (c.in_ok-stored_schema.ensures.valid c.args.self.now.expr_arena.now c.requires.plan c.requires.valid) c.into_schema.ensures

pub returns-clause-typed : goal.returns-clause-typed
returns-clause-typed c =
    let lp = c.args.self.now.lp_arena.now in
    let ex = c.args.self.now.expr_arena.now in
    let root = c.args.self.now.root in
    if-ok (λ (s : Columns). s ≡ columns_at lp ex root) (λ (s : Columns). typed lp ex root ≡ Ok s) c.into_schema.result
    (λ s e. valid_typed lp ex root c.requires.plan (no-tree_fault lp ex root c.requires.plan) c.requires.valid ∙ ap Ok (sym e))
    (subst (λ (s : Columns). IfOk c.into_schema.result (λ columns. columns ≡ s)) (c.in_ok-stored_schema.ensures.valid ex c.requires.plan c.requires.valid) c.into_schema.ensures)
