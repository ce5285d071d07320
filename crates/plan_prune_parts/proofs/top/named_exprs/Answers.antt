use Rattle.std.proofs.Common.{◌∙◌, ◌≤◌, [], ◌∷◌, ◌++◌, length, arith, cond, ap, subst}
use Rattle.std.specs.Str.{bytes_eq}
use Rattle.std.proofs.lemmas.List.{take_all}
use Rattle.plan_expr.specs.declared.aexpr.AExpr.TheVariants as exprs
use Rattle.plan_expr.specs.declared.expr_ir.ExprIR.{ExprIR}
use Rattle.plan_expr.specs.declared.expr_ir.OutputName.TheVariants as output
use Rattle.plan_expr.specs.Leaves.{Name}
use Rattle.plan_frame.proofs.ScalarExprs.{item_here}
use Rattle.plan_prune_parts.specs.Left.{name_now}
use Rattle.plan_prune_parts.proofs.TopLemmas.{columns-named, columns-next, columns_new, longer-length, longer-next, ColumnsAt}
use Rattle.plan_prune_parts.proofs.top.named_exprs.Goals as goal

pub loop-name-preserved : goal.loop-name-preserved
loop-name-preserved c =
    let now : Name → Name = name_now c.args.names.now in
    let a : Name = c.name-item.result in
    let here = item_here c.args.asked.now c.loop-name.name-index a c.loop-name-test.true c.name-item.is in
    let called = c.in_ok-now.ensures ∙ ap now c.as_str.ensures in
    let e : ExprIR = record { node = c.in_ok-node.node; output_name = c.in_ok-output_name.output_name } in (
      columns-next now (length c.args.ex.now) c.loop-name.ex c.add.new.self c.loop-name.exprs c.push.new.self c.args.asked.now c.loop-name.name-index a e c.loop-name.invariant.0 (longer-length c.args.ex.now c.loop-name.ex c.loop-name.invariant.1) here
          (c.in_ok-node.ensures.added ∙ ap (λ (b : Name). c.loop-name.ex ++ exprs.Column b ∷ []) called)
          c.in_ok-push.ensures.pushed c.in_ok-node.ensures.node
          (c.in_ok-output_name.ensures ∙ ap (λ (b : Name). cond (bytes_eq b a) (output.ColumnLhs a) (output.Alias a)) called),
      longer-next c.args.ex.now c.loop-name.ex c.add.new.self (exprs.Column c.in_ok-now.now) c.loop-name.invariant.1 c.in_ok-node.ensures.added,
    )

all_columns : (c : goal.After-loop-name) → ColumnsAt (name_now c.args.names.now) (length c.args.ex.now) c.loop-name.ex c.loop-name.exprs c.args.asked.now
all_columns c =
    let past = c.loop-name-test.false in
    let end : length c.args.asked.now ≤ c.loop-name.name-index = omega (arith, past) in
    subst (ColumnsAt (name_now c.args.names.now) (length c.args.ex.now) c.loop-name.ex c.loop-name.exprs) (take_all c.loop-name.name-index c.args.asked.now end) c.loop-name.invariant.0

pub returns-clause-place : goal.returns-clause-place
returns-clause-place c = columns_new (name_now c.args.names.now) c.args.ex.now c.loop-name.ex c.loop-name.exprs c.args.asked.now (all_columns c)

pub returns-clause-exprs : goal.returns-clause-exprs
returns-clause-exprs c = columns-named (name_now c.args.names.now) (length c.args.ex.now) c.loop-name.ex c.loop-name.exprs c.args.asked.now (all_columns c)
