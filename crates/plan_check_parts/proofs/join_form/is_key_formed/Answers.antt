use Rattle.std.proofs.Common.{◌≡◌, ◌∙◌, true, Option, is_some, ap, sym}
use Rattle.plan_expr.specs.Exprs.{expr_at}
use Rattle.plan_expr.specs.Forms.{has_form}
use Rattle.plan_expr.specs.Leaves.{Name}
use Rattle.plan_join.specs.Told.{expr_column}
use Rattle.plan_check_parts.proofs.JoinLemmas.{column_here, column_some}
use Rattle.plan_check_parts.proofs.join_form.is_key_formed.Goals as goal

pub returns-else-not-plain : goal.returns-else-not-plain
returns-else-not-plain c =
    let n = c.args.key.now.node in
    let p = c.get.result.now in
    let form : has_form (expr_at c.args.ex.now n) ≡ true = sym c.has_form.ensures ∙ c.if-has_form.true in
    let column : c.is_some.result ≡ is_some (expr_column (expr_at c.args.ex.now n)) =
    c.is_some.ensures ∙ column_some p c.column_name.result c.column_name.ensures.some c.column_name.ensures.none ∙ ap (λ (x : Option Name). is_some x) (sym (column_here c.args.ex.now n p c.requires c.get.ensures.entry)) in
    rw (form, c.if-not-plain.false) column
