use Rattle.std.proofs.Common.{◌≡◌, ◌∙◌, sym, ap, subst}
use Rattle.plan_core.specs.Columns.{Columns, with_type}
use Rattle.plan_expr.specs.Leaves.{Name}
use Rattle.plan_join.proofs.ColumnLemmas.{Left, left-kept, left-out}
use Rattle.plan_join.proofs.schema.without_names.Goals as goal

pub loop-name-preserved-in_ok-with_column : goal.loop-name-preserved-in_ok-with_column
loop-name-preserved-in_ok-with_column c =
    let names = c.args.names.now in
    let all = c.args.columns.now in
    let left = subst (λ (left : Columns). Left names c.loop-name.rest left all) c.in-Some.ensures.steps c.loop-name.invariant in
    let is : c.with_column.new.self ≡ with_type c.loop-name.rest c.in-Some.name.now c.in-Some.dtype.now = c.in_ok-with_column.ensures.after ∙ ap (λ (a : Name). with_type c.loop-name.rest a c.in-Some.dtype.now) c.in_ok-new.ensures in
    subst (λ (rest : Columns). Left names rest c.next.new.self all) (sym is) (left-kept names c.loop-name.rest all c.in-Some.name.now c.in-Some.dtype.now c.next.new.self left (sym c.contains.ensures ∙ c.if-not-contains.true))

pub loop-name-preserved : goal.loop-name-preserved
loop-name-preserved c =
    let names = c.args.names.now in
    let all = c.args.columns.now in
    let left = subst (λ (left : Columns). Left names c.loop-name.rest left all) c.in-Some.ensures.steps c.loop-name.invariant in
    left-out names c.loop-name.rest all c.in-Some.name.now c.in-Some.dtype.now c.next.new.self left (sym c.contains.ensures ∙ c.if-not-contains.false)
