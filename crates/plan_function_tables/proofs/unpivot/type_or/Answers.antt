use Rattle.std.proofs.Common.{◌∙◌, Option, option_map, unwrap_or, ap, sym}
use Rattle.plan_core.specs.declared.data_type.DataType.{DataType}
use Rattle.plan_core.specs.declared.data_type.DataType.TheVariants.{Int64}
use Rattle.plan_table.specs.declared.column.Column.{Column}
use Rattle.plan_fit.proofs.FitLemmas.{type-shown}
use Rattle.plan_function_tables.proofs.unpivot.type_or.Goals as goal

pub returns-in-Some : goal.returns-in-Some
returns-in-Some c = ap (λ (o : Option DataType). unwrap_or o Int64) (ap (option_map (λ (d : Column). d.dtype)) c.in-Some.ensures ∙ sym (type-shown c.args.table.now.columns c.args.name.now))

pub returns-in-None : goal.returns-in-None
returns-in-None c = ap (λ (o : Option DataType). unwrap_or o Int64) (ap (option_map (λ (d : Column). d.dtype)) c.in-None.ensures ∙ sym (type-shown c.args.table.now.columns c.args.name.now))
