use Rattle.std.proofs.Common.{◌≡◌, ◌+◌, ◌*◌, [], ◌∷◌, map, take}
use Rattle.plan_tree.proofs.TreeLemmas.{height_at}
use Rattle.plan_expr.specs.Operands.{expr_shape}
use Rattle.plan_expr.specs.Exprs.{expr_at}
use Rattle.plan_frame.specs.Frames.{rows_at}
use Rattle.plan_frame.specs.Meaning.{only_value, val}
use Rattle.plan_value.specs.Cells.{cells_at, cells_of}
use Rattle.plan_value.specs.Shown.{frame_of, values_of}
use Rattle.plan_value.proofs.EvaluationLemmas.{above}
use Rattle.plan_value.proofs.exprs.+evaluation.Given as goal

abbrev pub decreases-evaluate_expr : goal.decreases-evaluate_expr
decreases-evaluate_expr l = 3 * height_at expr_shape l.ex.now l.node + 2

abbrev pub decreases-choice : goal.decreases-choice
decreases-choice l = 3 * above l.ex.now (l.truthy ∷ l.falsy ∷ l.predicate ∷ [])

abbrev pub decreases-call : goal.decreases-call
decreases-call l = 3 * above l.ex.now l.inputs.now

abbrev pub decreases-evaluate_all : goal.decreases-evaluate_all
decreases-evaluate_all l = 3 * above l.ex.now l.nodes.now

abbrev pub decreases-evaluate_over : goal.decreases-evaluate_over
decreases-evaluate_over l = 3 * height_at expr_shape l.ex.now l.node + 3

abbrev pub decreases-window : goal.decreases-window
decreases-window l = 3 * above l.ex.now (l.function ∷ l.keys.now) + 1

-- the values of the expressions up to here
abbrev pub invariant-evaluate_all-loop-node : goal.invariant-evaluate_all-loop-node
invariant-evaluate_all-loop-node l = cells_of l.all ≡ cells_at l.ex (take l.node-index l.nodes) (frame_of l.table)

-- the one value over each list of rows up to here
abbrev pub invariant-evaluate_over-loop-rows : goal.invariant-evaluate_over-loop-rows
invariant-evaluate_over-loop-rows l = values_of l.values ≡ map (λ rows. only_value (val (expr_at l.ex l.node) (rows_at rows (frame_of l.table)))) (take l.rows-index l.parts)
