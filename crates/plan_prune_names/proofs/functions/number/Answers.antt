use Rattle.std.proofs.Common.{◌≡◌, ◌∙◌, ap, cond, not, sym, None, Some}
use Rattle.std.specs.Str.{bytes_eq}
use Rattle.plan_core.specs.declared.data_type.DataType.TheVariants.{Int64}
use Rattle.plan_expr.specs.Leaves.{Name}
use Rattle.plan_prune_names.specs.Known.{type_in}
use Rattle.plan_prune_names.proofs.FunctionLemmas.{none_there, number-made}
use Rattle.plan_prune_names.proofs.functions.number.Goals as goal

pub returns-clause-made : goal.returns-clause-made
returns-clause-made c = λ yes offset.
    let fresh : type_in c.args.columns.now c.args.name.now ≡ None = ap (type_in c.args.columns.now) (sym c.as_str.ensures) ∙ sym c.in_ok-taken.ensures.given ∙ none_there c.in_ok-taken.taken (c.is_none.ensures ∙ ap not yes) in
    number-made c.args.columns.now c.set.new.self c.args.name.now offset fresh
    (λ a. c.in_ok-taken.ensures.after a ∙ ap (λ (n : Name). cond (bytes_eq a n) (Some Int64) (type_in c.args.columns.now a)) c.as_str.ensures)
