use Rattle.std.proofs.Common.{◌≡◌, ◌∙◌, true, false, List, OnOk, ap, subst}
use Rattle.plan_core.specs.Names.{with_names}
use Rattle.plan_expr.specs.Leaves.{Name}
use Rattle.plan_join.proofs.ColumnLemmas.{found}
use Rattle.plan_meaning.specs.JoinAsked.{of_side, side_names}
use Rattle.plan_prune_parts.specs.Origins.{origin_in}
use Rattle.plan_prune_parts.proofs.AskLemmas.{asked-own, asked-there}
use Rattle.plan_prune_parts.proofs.sides.add_asked.Goals.{then-is_some+in_ok-add, else-is_some}
use Rattle.plan_prune_parts.proofs.sides.add_asked.Goals as goal

all_added : (c : goal.After-add_own) → with_names c.if-is_some.names (of_side c.args.side (origin_in c.args.origins.now c.args.name.now)) ≡ with_names c.args.names.now (side_names c.args.side (origin_in c.args.origins.now) c.args.columns.now c.args.name.now)
all_added c =
    let by = origin_in c.args.origins.now in
    let s = c.args.columns.now in
    elim c.if-is_some.branch [
      | then-is_some+in_ok-add w ↦
          ap (λ (l : List Name). with_names l (of_side c.args.side (by c.args.name.now))) (w.names-is ∙ w.in_ok-add.ensures.after)
          ∙ asked-there c.args.side by s c.args.names.now c.args.name.now (found s c.args.name.now c.get.result c.is_some.result true c.get.ensures c.is_some.ensures w.if-is_some.true)
      | else-is_some w ↦
          ap (λ (l : List Name). with_names l (of_side c.args.side (by c.args.name.now))) w.names-is
          ∙ asked-own c.args.side by s c.args.names.now c.args.name.now (found s c.args.name.now c.get.result c.is_some.result false c.get.ensures c.is_some.ensures w.if-is_some.false)
    ]

pub returns : goal.returns
returns c = subst (λ (l : List Name). OnOk c.add_own.result (c.add_own.new.names ≡ l)) (all_added c) c.add_own.ensures
