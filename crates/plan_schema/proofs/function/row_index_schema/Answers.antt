use Rattle.std.proofs.Common.{◌≡◌, true, false, ◌∷◌, refl, sym, ap, ◌∙◌}
use Rattle.plan_core.specs.declared.data_type.DataType.TheVariants.{Int64}
use Rattle.plan_core.specs.Columns.{Columns, names_of, type_of}
use Rattle.plan_core.specs.Names.{has}
use Rattle.plan_expr.specs.Leaves.{Name}
use Rattle.plan_meaning.specs.Typing.{row_index_checks}
use Rattle.plan_frame.proofs.NameSets.{some-type_of}
use Rattle.plan_schema.proofs.RenameLemmas.{got_some}
use Rattle.plan_schema.proofs.function.row_index_schema.Goals as goal

pub returns-then-is_some : goal.returns-then-is_some
unfolding row_index_checks
returns-then-is_some c offset =
    let there : has (names_of c.args.schema.now) c.args.name.now ≡ true = sym (some-type_of c.args.schema.now c.args.name.now) ∙ got_some c.args.schema.now c.args.name.now c.get.result (c.get.ensures ∙ ap (type_of c.args.schema.now) c.as_str.ensures) ∙ sym c.if-is_some.ensures in
    rw (there, c.at.ensures) refl

pub returns : goal.returns
unfolding row_index_checks
returns c offset =
    let absent : has (names_of c.args.schema.now) c.args.name.now ≡ false = sym (some-type_of c.args.schema.now c.args.name.now) ∙ got_some c.args.schema.now c.args.name.now c.get.result (c.get.ensures ∙ ap (type_of c.args.schema.now) c.as_str.ensures) ∙ sym c.if-is_some.ensures in
    (rw absent refl, ap (λ (a : Name). (a, Int64) ∷ c.args.schema.now) (sym c.in_ok-try_clone.ensures) ∙ ap (λ (cs : Columns). (c.in_ok-try_clone.field-0, Int64) ∷ cs) (sym c.in_ok-numbered.ensures) ∙ sym c.in_ok-insert_at_index.ensures.after)
