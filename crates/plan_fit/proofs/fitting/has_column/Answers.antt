use Rattle.std.proofs.Common.{◌≡◌, ◌∙◌, Option, option_map, ap, sym, rules}
use Rattle.plan_core.specs.declared.data_type.DataType.{DataType}
use Rattle.plan_table.specs.declared.column.Column.{Column}
use Rattle.plan_frame.specs.Exprs.{is_type}
use Rattle.plan_expr.specs.Types.{same_type}
use Rattle.plan_fit.proofs.FitLemmas.{type-shown}
use Rattle.plan_fit.proofs.fitting.has_column.Goals as goal

pub returns-in-Some : goal.returns-in-Some
returns-in-Some c =
    let same : c.eq.result ≡ same_type c.in-Some.column.now.dtype c.args.dtype = search rules in
    same ∙ ap (λ (o : Option DataType). is_type o c.args.dtype) (ap (option_map (λ (d : Column). d.dtype)) c.in-Some.ensures ∙ sym (type-shown c.args.table.now.columns c.args.name.now))

pub returns-in-None : goal.returns-in-None
returns-in-None c = ap (λ (o : Option DataType). is_type o c.args.dtype) (ap (option_map (λ (d : Column). d.dtype)) c.in-None.ensures ∙ sym (type-shown c.args.table.now.columns c.args.name.now))
