use Rattle.std.proofs.Common.{◌≡◌, ◌∙◌, ◌∷◌, None, ap, sym}
use Rattle.plan_core.specs.declared.data_type.DataType.TheVariants.{Int64}
use Rattle.plan_core.specs.Columns.{type_of}
use Rattle.plan_expr.specs.Leaves.{Name}
use Rattle.plan_schema.proofs.RenameLemmas.{got_some}
use Rattle.plan_check.proofs.InPlaceLemmas.{none_there, number-holds}
use Rattle.plan_check.proofs.mapped.number.Goals as goal

pub returns : goal.returns
returns c = λ offset.
    let fresh : type_of c.args.columns.now c.args.name.now ≡ None = none_there (type_of c.args.columns.now c.args.name.now) (got_some c.args.columns.now c.args.name.now c.get.result (c.get.ensures ∙ ap (type_of c.args.columns.now) c.as_str.ensures) ∙ sym c.if-is_some.ensures) in
    (number-holds c.args.name.now c.args.columns.now fresh, c.in_ok-insert_at_index.ensures.after ∙ ap (λ (a : Name). (a, Int64) ∷ c.args.columns.now) c.in_ok-try_clone.ensures)
