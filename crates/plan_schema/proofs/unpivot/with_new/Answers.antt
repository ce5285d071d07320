use Rattle.std.proofs.Common.{◌≡◌, not, true, false, Option, is_some, sym, ap, ◌∙◌}
use Rattle.plan_core.specs.declared.data_type.DataType.{DataType}
use Rattle.plan_core.specs.Columns.{names_of}
use Rattle.plan_core.specs.Names.{has}
use Rattle.plan_frame.proofs.NameSets.{some-type_of}
use Rattle.plan_schema.proofs.RenameLemmas.{none_there, with_new}
use Rattle.plan_schema.proofs.unpivot.with_new.Goals as goal

pub returns-then-is_some-clause-some : goal.returns-then-is_some-clause-some
returns-then-is_some-clause-some c =
    let there : has (names_of c.args.columns) c.args.name ≡ true = sym (some-type_of c.args.columns c.args.name) ∙ ap (λ (o : Option DataType). is_some o) (sym c.in_ok-with_column.ensures.given) ∙ sym c.if-is_some.ensures in
    ap not (sym there)

pub returns-clause-columns : goal.returns-clause-columns
returns-clause-columns c =
    c.in_ok-with_column.ensures.after ∙ with_new c.args.columns c.args.name c.args.dtype (sym c.in_ok-with_column.ensures.given ∙ none_there c.in_ok-with_column.field-0 (sym c.if-is_some.ensures))

pub returns-clause-some : goal.returns-clause-some
returns-clause-some c =
    let absent : has (names_of c.args.columns) c.args.name ≡ false = sym (some-type_of c.args.columns c.args.name) ∙ ap (λ (o : Option DataType). is_some o) (sym c.in_ok-with_column.ensures.given) ∙ sym c.if-is_some.ensures in
    ap not (sym absent)
