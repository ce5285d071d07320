use Rattle.std.proofs.Common.{◌∙◌, Bool, cond, None, Some, ap, subst, sym}
use Rattle.plan_core.specs.declared.error.At.{At}
use Rattle.plan_core.specs.declared.error.PolarsError.TheVariants.{Duplicate}
use Rattle.plan_options.specs.Schemas.{Refuses}
use Rattle.plan_meaning.specs.Typing.{at}
use Rattle.plan_check.proofs.ApartLemmas.{all_apart, beside-are, not_apart}
use Rattle.plan_check.proofs.hconcat.side_by_side.Goals as goal

pub returns-in-Ok-clause-fault : goal.returns-in-Ok-clause-fault
returns-in-Ok-clause-fault c = ap (λ (b : Bool). cond b None (Some (Duplicate (at c.args.node 0)))) (all_apart c.args.schemas.now c.in-Ok.ensures.distinct)

pub returns-in-Err-Duplicate-clause-fault : goal.returns-in-Err-Duplicate-clause-fault
returns-in-Err-Duplicate-clause-fault c =
    let first = subst (Refuses c.args.schemas.now) c.in-Err-Duplicate.field-0-is c.in-Err-Duplicate.ensures.refused in
    let no = not_apart c.args.schemas.now first.0 first.2.0 first.2.1 first.2.2 in
    ap (λ (b : Bool). cond b None (Some (Duplicate (at c.args.node 0)))) no ∙ ap (λ (a : At). Some (Duplicate a)) (sym c.at.ensures)

pub returns-in-Ok-clause-columns : goal.returns-in-Ok-clause-columns
returns-in-Ok-clause-columns c = c.in-Ok.ensures.columns ∙ beside-are c.args.schemas.now c.in-Ok.ensures.distinct
