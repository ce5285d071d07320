use Rattle.std.proofs.Common.{◌∙◌, ◌∷◌, [], ap}
use Rattle.std.proofs.lemmas.List.{map-append}
use Rattle.std.proofs.lemmas.Result.{on_ok_weaker}
use Rattle.plan_table.specs.declared.column.Column.{Column as Typed}
use Rattle.plan_table.specs.Tables.{types_of}
use Rattle.plan_value.specs.Shown.{column_shown, columns_shown}
use Rattle.plan_join_eval.proofs.AlongLemmas.{pushed}
use Rattle.plan_join_eval.proofs.joined.push_column.Goals as goal

pub returns-clause-shown : goal.returns-clause-shown
returns-clause-shown c = on_ok_weaker c.with_column.result (λ after. ap columns_shown (after ∙ pushed c.args.columns.now c.args.column c.requires) ∙ map-append column_shown c.args.columns.now (c.args.column ∷ [])) c.with_column.ensures.after

pub returns-clause-types : goal.returns-clause-types
returns-clause-types c = on_ok_weaker c.with_column.result (λ after. ap types_of (after ∙ pushed c.args.columns.now c.args.column c.requires) ∙ map-append (λ (d : Typed). (d.name, d.dtype)) c.args.columns.now (c.args.column ∷ [])) c.with_column.ensures.after
