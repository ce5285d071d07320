use Rattle.std.proofs.Common.{◌≡◌, ◌≤◌, ℕ, ◌∙◌, ap, refl, sym, subst, arith, not, Bool, List, [], ◌∷◌, length, min, rules, Some}
use Rattle.plan_pruned.specs.Pruned.{asked_columns}
use Rattle.plan_prune_parts.specs.Tops.{covered_at}
use Rattle.plan_prune_parts.specs.Said.{columns_at}
use Rattle.std.proofs.lemmas.List.{length_push}
use Rattle.std.proofs.lemmas.Slice.Zip.{zip_turn, zip_end}
use Rattle.plan_core.specs.declared.arena.Node.{Node}
use Rattle.std.proofs.lemmas.Result.{on_ok_weaker}
use Rattle.plan_ir.specs.Parts.{plan_shape}
use Rattle.plan_prune_steps.specs.Steps.{put_back, IsPutBack}
use Rattle.plan_prune.proofs.PruneLemmas.{input_asks, is_entry, entry_stays, stands_after}
use Rattle.plan_expr.specs.Leaves.{Name}
use Rattle.plan_prune.specs.Prunes.{AreInputs, InputsPruned, PrunesAt}
use Rattle.plan_prune.specs.Taken.{step_told}
use Rattle.plan_tree.proofs.TreeLemmas.{height, tallest}
use Rattle.plan_prune_names.specs.Known.{KnowsAt}
use Rattle.plan_prune_names.proofs.KnownLemmas.{knows-first, nothing-known}
use Rattle.plan_prune.proofs.KnownSteps.{known_inputs}
use Rattle.plan_prune.proofs.EachLemmas.{SoFar, each_marks, next_asks, places, so_far_all, so_far_next, so_far_none}
use Rattle.plan_prune_parts.proofs.LongerLemmas.{longer_trans, plan_trees}
use Rattle.plan_prune.proofs.ClosedPruned.{closed_step, closed_mark}
use Rattle.plan_prune.proofs.TakenSteps.{closed_taken, each_taken, kept_join, kept_taken, leaf_taken, marks_leaf, over_taken, none_some, some_same, is_each, is_over, top_marked}
use Rattle.plan_prune.proofs.StepLemmas.{each_exprs, each_falls, each_inputs, each_left, each_long, one_more, each_step, each_mark, over_stands, leaf_pruned, over_pruned}
use Rattle.plan_prune.proofs.HStackPruned.{some_len}
use Rattle.plan_ir.specs.Plans.{op_at}
use Rattle.plan_meaning.specs.Counting.{is_count}
use Rattle.plan_prune.proofs.push_down.ProjectionPushDown.+push.Goals as goal

-- Leaf

pub push_down-put_leaf-requires : goal.push_down-put_leaf-requires
push_down-put_leaf-requires t c = entry_stays c.args.lp.now c.take.new.lp c.take.new.lp c.args.node c.in_ok-columns.ensures.taken.entry c.in_ok-columns.ensures.taken.left c.in_ok-columns.ensures.taken.there c.in_ok-columns.ensures.taken.taken (omega arith)

pub push_down-returns-in-Leaf-clause-prunes : goal.push_down-returns-in-Leaf-clause-prunes
push_down-returns-in-Leaf-clause-prunes t c = on_ok_weaker c.put_leaf.result (λ back t' h.
    let top = not c.args.self.now.is_count_star in
    leaf_pruned top c.args.asked c.args.lp.now c.take.new.lp c.put_leaf.new.lp c.args.ex.now c.args.node c.in-Leaf.columns c.in-Leaf.entry.value c.in_ok-columns.ensures.taken.left t' h c.in_ok-columns.ensures.taken.taken
    back
    c.in_ok-columns.ensures.taken.entry c.in_ok-columns.ensures.taken.there (leaf_taken c.args.self.now.is_count_star c.take.new.self.is_count_star c.args.lp.now c.take.new.lp c.args.ex.now c.args.asked c.args.node (step_told c.in_ok-columns.field-0) c.in_ok-columns.ensures.taken c.in-Leaf.columns c.in-Leaf.entry.value (ap step_told c.in-Leaf.is))) c.put_leaf.ensures.placed

pub push_down-returns-in-Leaf-clause-marks : goal.push_down-returns-in-Leaf-clause-marks
push_down-returns-in-Leaf-clause-marks t c = on_ok_weaker c.put_leaf.result (λ back.
    marks_leaf c.args.self.now.is_count_star c.take.new.self.is_count_star c.args.lp.now c.take.new.lp c.args.ex.now c.args.asked c.args.node c.in-Leaf.columns c.in_ok-columns.ensures.taken.entry c.in-Leaf.entry.value c.in_ok-columns.ensures.taken.there
    (leaf_taken c.args.self.now.is_count_star c.take.new.self.is_count_star c.args.lp.now c.take.new.lp c.args.ex.now c.args.asked c.args.node (step_told c.in_ok-columns.field-0) c.in_ok-columns.ensures.taken c.in-Leaf.columns c.in-Leaf.entry.value (ap step_told c.in-Leaf.is)) c.in_ok-columns.ensures.taken.marked) c.put_leaf.ensures.placed

-- Over

pub push_down-push_down-requires : goal.push_down-push_down-requires
push_down-push_down-requires t c =
    let o = is_over c.take.new.lp c.args.ex.now c.args.asked c.in-Over.asked c.in_ok-columns.ensures.taken.entry c.in-Over.entry.value c.in-Over.input (over_taken c.args.self.now.is_count_star c.take.new.self.is_count_star c.args.lp.now c.take.new.lp c.args.ex.now c.args.asked c.args.node (step_told c.in_ok-columns.field-0) c.in_ok-columns.ensures.taken c.in-Over.input c.in-Over.asked c.in-Over.entry.value (ap step_told c.in-Over.is)) in
    let k = input_asks c.args.lp.now c.take.new.lp c.args.ex.now c.args.node c.in-Over.input c.in_ok-columns.ensures.taken.entry c.in_ok-columns.ensures.taken.left 0 c.requires.plan c.in_ok-columns.ensures.taken.there c.in_ok-columns.ensures.taken.taken o.first in
    (omega (arith, k.falls, c.decreases), (k.plan, known_inputs c.take.new.columns c.args.lp.now c.take.new.lp c.args.node c.in_ok-columns.ensures.taken.entry (c.in-Over.input ∷ []) c.in_ok-columns.ensures.known c.in_ok-columns.ensures.taken.there o.one))

pub push_down-put-requires-clause-node : goal.push_down-put-requires-clause-node
push_down-put-requires-clause-node t c = entry_stays c.args.lp.now c.take.new.lp c.push_down.new.lp c.args.node c.in_ok-columns.ensures.taken.entry c.in_ok-columns.ensures.taken.left c.in_ok-columns.ensures.taken.there c.in_ok-columns.ensures.taken.taken c.in-Ok.ensures.grows

pub push_down-put-requires-clause-inputs : goal.push_down-put-requires-clause-inputs
push_down-put-requires-clause-inputs t c =
    over_stands (not c.take.new.self.is_count_star) c.args.asked c.in-Over.asked c.args.lp.now c.take.new.lp c.push_down.new.lp c.args.ex.now c.push_down.new.ex c.args.node c.in-Over.input c.in_ok-columns.ensures.taken.entry c.in-Over.entry.value c.in_ok-columns.ensures.taken.left c.requires.plan.nodes c.requires.plan.stands.nodes
    c.in_ok-columns.ensures.taken.there c.in_ok-columns.ensures.taken.taken (over_taken c.args.self.now.is_count_star c.take.new.self.is_count_star c.args.lp.now c.take.new.lp c.args.ex.now c.args.asked c.args.node (step_told c.in_ok-columns.field-0) c.in_ok-columns.ensures.taken c.in-Over.input c.in-Over.asked c.in-Over.entry.value (ap step_told c.in-Over.is)) c.in-Ok.ensures.prunes

pub push_down-returns-in-Ok-clause-prunes : goal.push_down-returns-in-Ok-clause-prunes
push_down-returns-in-Ok-clause-prunes t c = on_ok_weaker c.put.result (λ back t' h.
    let top = not c.args.self.now.is_count_star in
    let is = c.in_ok-columns.ensures.taken.marked in
    over_pruned top (not c.take.new.self.is_count_star) c.args.asked c.in-Over.asked c.args.lp.now c.take.new.lp c.push_down.new.lp c.put.new.lp c.args.ex.now c.push_down.new.ex c.in-Ok.ensures.longer c.args.node c.in-Over.input c.in-Over.entry.value c.in_ok-columns.ensures.taken.left t' h (plan_trees c.args.lp.now c.args.ex.now c.args.node t' c.requires.plan h) c.in_ok-columns.ensures.taken.taken
    c.in-Ok.ensures.prunes
    (back c.push_down.new.ex ∙ ap (λ (some : Bool). put_back some c.push_down.new.lp c.push_down.new.ex c.args.node c.in-Over.entry.value) (some_len c.args.asked c.len-is_asked.result c.len-is_asked.ensures.value))
    c.in_ok-columns.ensures.taken.entry c.in_ok-columns.ensures.taken.there (top_marked c.args.self.now.is_count_star (is_count (op_at c.args.ex.now c.in_ok-columns.ensures.taken.entry)) c.take.new.self.is_count_star is) (over_taken c.args.self.now.is_count_star c.take.new.self.is_count_star c.args.lp.now c.take.new.lp c.args.ex.now c.args.asked c.args.node (step_told c.in_ok-columns.field-0) c.in_ok-columns.ensures.taken c.in-Over.input c.in-Over.asked c.in-Over.entry.value (ap step_told c.in-Over.is))) c.put.ensures.placed

pub push_down-returns-in-Ok-clause-marks : goal.push_down-returns-in-Ok-clause-marks
push_down-returns-in-Ok-clause-marks t c = on_ok_weaker c.put.result (λ back.
    let is = c.in_ok-columns.ensures.taken.marked in
    let o = is_over c.take.new.lp c.args.ex.now c.args.asked c.in-Over.asked c.in_ok-columns.ensures.taken.entry c.in-Over.entry.value c.in-Over.input (over_taken c.args.self.now.is_count_star c.take.new.self.is_count_star c.args.lp.now c.take.new.lp c.args.ex.now c.args.asked c.args.node (step_told c.in_ok-columns.field-0) c.in_ok-columns.ensures.taken c.in-Over.input c.in-Over.asked c.in-Over.entry.value (ap step_told c.in-Over.is)) in
    each_marks c.args.self.now.is_count_star c.take.new.self.is_count_star c.push_down.new.self.is_count_star c.args.lp.now c.take.new.lp c.args.ex.now c.args.node (c.in-Over.input ∷ []) c.in_ok-columns.ensures.taken.entry c.in_ok-columns.ensures.taken.left
    c.requires.plan c.in_ok-columns.ensures.taken.there c.in_ok-columns.ensures.taken.taken o.one (o.opens c.args.ex.now) is (λ kids under stand. c.in-Ok.ensures.marks kids under)) c.put.ensures.placed

-- Closed

pub push_down-put_closed-requires : goal.push_down-put_closed-requires
push_down-put_closed-requires t c = entry_stays c.args.lp.now c.take.new.lp c.take.new.lp c.args.node c.in_ok-columns.ensures.taken.entry c.in_ok-columns.ensures.taken.left c.in_ok-columns.ensures.taken.there c.in_ok-columns.ensures.taken.taken (omega arith)

pub push_down-returns-in-Closed-clause-prunes : goal.push_down-returns-in-Closed-clause-prunes
push_down-returns-in-Closed-clause-prunes t c = on_ok_weaker c.put_closed.result (λ back.
    closed_step c.args.asked c.args.lp.now c.take.new.lp c.args.ex.now c.args.node c.in_ok-columns.ensures.taken.entry c.in-Closed.entry.value c.in_ok-columns.ensures.taken.left c.in-Closed.columns c.in_ok-columns.ensures.taken.there c.in_ok-columns.ensures.taken.taken
    (closed_taken c.args.self.now.is_count_star c.take.new.self.is_count_star c.args.lp.now c.take.new.lp c.args.ex.now c.args.asked c.args.node (step_told c.in_ok-columns.field-0) c.in_ok-columns.ensures.taken c.in-Closed.columns c.in-Closed.entry.value (ap step_told c.in-Closed.is)) (not c.args.self.now.is_count_star) c.put_closed.new.lp back) c.put_closed.ensures.placed

pub push_down-returns-in-Closed-clause-marks : goal.push_down-returns-in-Closed-clause-marks
push_down-returns-in-Closed-clause-marks t c = on_ok_weaker c.put_closed.result (λ back.
    let is = c.in_ok-columns.ensures.taken.marked in
    closed_mark c.args.asked c.args.lp.now c.take.new.lp c.args.ex.now c.args.node c.in_ok-columns.ensures.taken.entry c.in-Closed.entry.value c.in_ok-columns.ensures.taken.left c.in-Closed.columns c.in_ok-columns.ensures.taken.there c.in_ok-columns.ensures.taken.taken
    (closed_taken c.args.self.now.is_count_star c.take.new.self.is_count_star c.args.lp.now c.take.new.lp c.args.ex.now c.args.asked c.args.node (step_told c.in_ok-columns.field-0) c.in_ok-columns.ensures.taken c.in-Closed.columns c.in-Closed.entry.value (ap step_told c.in-Closed.is)) c.args.self.now.is_count_star c.take.new.self.is_count_star is) c.put_closed.ensures.placed

-- Each

pub push_down-push_inputs-requires : goal.push_down-push_inputs-requires
push_down-push_inputs-requires t c =
    let own : c.as_slice-own.result.now ≡ c.in-Each.inputs = c.as_slice-own.ensures in
    let listed : c.as_slice-lists.result.now ≡ c.in-Each.asked = c.as_slice-lists.ensures in
    let low = each_falls c.args.asked c.args.lp.now c.take.new.lp c.args.ex.now c.args.node c.in-Each.inputs c.in-Each.asked c.in-Each.covered c.in_ok-columns.ensures.taken.entry c.in-Each.rest.value.entry c.in_ok-columns.ensures.taken.left c.requires.plan
    c.in_ok-columns.ensures.taken.there c.in_ok-columns.ensures.taken.taken (each_taken c.args.self.now.is_count_star c.take.new.self.is_count_star c.args.lp.now c.take.new.lp c.args.ex.now c.args.asked c.args.node (step_told c.in_ok-columns.field-0) c.in_ok-columns.ensures.taken c.in-Each.inputs c.in-Each.asked c.in-Each.covered c.in-Each.rest.value.kept c.in-Each.rest.value.entry (ap step_told c.in-Each.is)) in
    let same : tallest plan_shape (height plan_shape (length c.take.new.lp) c.take.new.lp) c.as_slice-own.result.now ≡ tallest plan_shape (height plan_shape (length c.take.new.lp) c.take.new.lp) c.in-Each.inputs = ap (tallest plan_shape (height plan_shape (length c.take.new.lp) c.take.new.lp)) own in (
      omega (arith, low, same, c.decreases),
      (
        subst (λ (ns : List Node). AreInputs c.take.new.lp c.args.ex.now ns) (sym own) (each_inputs c.args.asked c.args.lp.now c.take.new.lp c.args.ex.now c.args.node c.in-Each.inputs c.in-Each.asked c.in-Each.covered c.in_ok-columns.ensures.taken.entry c.in-Each.rest.value.entry c.in_ok-columns.ensures.taken.left c.requires.plan
            c.in_ok-columns.ensures.taken.there c.in_ok-columns.ensures.taken.taken (each_taken c.args.self.now.is_count_star c.take.new.self.is_count_star c.args.lp.now c.take.new.lp c.args.ex.now c.args.asked c.args.node (step_told c.in_ok-columns.field-0) c.in_ok-columns.ensures.taken c.in-Each.inputs c.in-Each.asked c.in-Each.covered c.in-Each.rest.value.kept c.in-Each.rest.value.entry (ap step_told c.in-Each.is))),
        (
          ap length listed ∙ each_long c.args.asked c.args.lp.now c.take.new.lp c.args.ex.now c.args.node c.in-Each.inputs c.in-Each.asked c.in-Each.covered c.in_ok-columns.ensures.taken.entry c.in-Each.rest.value.entry c.in_ok-columns.ensures.taken.left c.requires.plan
              c.in_ok-columns.ensures.taken.there c.in_ok-columns.ensures.taken.taken (each_taken c.args.self.now.is_count_star c.take.new.self.is_count_star c.args.lp.now c.take.new.lp c.args.ex.now c.args.asked c.args.node (step_told c.in_ok-columns.field-0) c.in_ok-columns.ensures.taken c.in-Each.inputs c.in-Each.asked c.in-Each.covered c.in-Each.rest.value.kept c.in-Each.rest.value.entry (ap step_told c.in-Each.is)) ∙ sym (ap length own),
          known_inputs c.take.new.columns c.args.lp.now c.take.new.lp c.args.node c.in_ok-columns.ensures.taken.entry c.as_slice-own.result.now c.in_ok-columns.ensures.known c.in_ok-columns.ensures.taken.there
              ((is_each c.take.new.lp c.args.ex.now c.args.asked c.in-Each.inputs c.in-Each.asked c.in-Each.covered c.in_ok-columns.ensures.taken.entry c.in-Each.rest.value.entry (each_taken c.args.self.now.is_count_star c.take.new.self.is_count_star c.args.lp.now c.take.new.lp c.args.ex.now c.args.asked c.args.node (step_told c.in_ok-columns.field-0) c.in_ok-columns.ensures.taken c.in-Each.inputs c.in-Each.asked c.in-Each.covered c.in-Each.rest.value.kept c.in-Each.rest.value.entry (ap step_told c.in-Each.is))).own ∙ sym own),
        ),
      ),
    )

pub push_down-put_over-requires-clause-node : goal.push_down-put_over-requires-clause-node
push_down-put_over-requires-clause-node t c = entry_stays c.args.lp.now c.take.new.lp c.push_inputs.new.lp c.args.node c.in_ok-columns.ensures.taken.entry c.in_ok-columns.ensures.taken.left c.in_ok-columns.ensures.taken.there c.in_ok-columns.ensures.taken.taken c.in-Ok-push_inputs.ensures.grows

pub push_down-put_over-requires-clause-inputs : goal.push_down-put_over-requires-clause-inputs
push_down-put_over-requires-clause-inputs t c =
    let own : c.as_slice-own.result.now ≡ c.in-Each.inputs = c.as_slice-own.ensures in
    let listed : c.as_slice-lists.result.now ≡ c.in-Each.asked = c.as_slice-lists.ensures in
    each_left c.args.asked c.args.lp.now c.take.new.lp c.args.ex.now c.args.node c.in-Each.inputs c.in-Each.asked c.in-Each.covered c.in_ok-columns.ensures.taken.entry c.in-Each.rest.value.entry c.in_ok-columns.ensures.taken.left c.requires.plan
    c.in_ok-columns.ensures.taken.there c.in_ok-columns.ensures.taken.taken (each_taken c.args.self.now.is_count_star c.take.new.self.is_count_star c.args.lp.now c.take.new.lp c.args.ex.now c.args.asked c.args.node (step_told c.in_ok-columns.field-0) c.in_ok-columns.ensures.taken c.in-Each.inputs c.in-Each.asked c.in-Each.covered c.in-Each.rest.value.kept c.in-Each.rest.value.entry (ap step_told c.in-Each.is))
    c.take.new.self.is_count_star c.push_inputs.new.self.is_count_star c.push_inputs.new.lp c.push_inputs.new.ex (subst (λ (l : List (List Name)). InputsPruned c.take.new.self.is_count_star c.push_inputs.new.self.is_count_star c.in-Each.covered l c.take.new.lp c.push_inputs.new.lp c.args.ex.now c.push_inputs.new.ex c.in-Each.inputs) listed (subst (λ (ns : List Node). InputsPruned c.take.new.self.is_count_star c.push_inputs.new.self.is_count_star c.in-Each.covered c.as_slice-lists.result.now c.take.new.lp c.push_inputs.new.lp c.args.ex.now c.push_inputs.new.ex ns) own c.in-Ok-push_inputs.ensures.pruned))

pub push_down-put_over-requires-clause-exprs : goal.push_down-put_over-requires-clause-exprs
push_down-put_over-requires-clause-exprs t c = each_exprs c.args.asked c.args.lp.now c.take.new.lp c.args.ex.now c.args.node c.in-Each.inputs c.in-Each.asked c.in-Each.covered c.in_ok-columns.ensures.taken.entry c.in-Each.rest.value.entry c.in_ok-columns.ensures.taken.left c.requires.plan
    c.in_ok-columns.ensures.taken.there c.in_ok-columns.ensures.taken.taken (each_taken c.args.self.now.is_count_star c.take.new.self.is_count_star c.args.lp.now c.take.new.lp c.args.ex.now c.args.asked c.args.node (step_told c.in_ok-columns.field-0) c.in_ok-columns.ensures.taken c.in-Each.inputs c.in-Each.asked c.in-Each.covered c.in-Each.rest.value.kept c.in-Each.rest.value.entry (ap step_told c.in-Each.is)) c.push_inputs.new.ex c.in-Ok-push_inputs.ensures.longer

pub push_down-put_over-requires-clause-kind : goal.push_down-put_over-requires-clause-kind
push_down-put_over-requires-clause-kind t c = λ k some.
    kept_join c.take.new.lp c.args.ex.now c.args.asked c.in-Each.inputs c.in-Each.asked c.in-Each.covered c.in-Each.rest.value.kept k c.in_ok-columns.ensures.taken.entry c.in-Each.rest.value.entry (kept_taken c.args.self.now.is_count_star c.take.new.self.is_count_star c.args.lp.now c.take.new.lp c.args.ex.now c.args.asked c.args.node (step_told c.in_ok-columns.field-0) c.in_ok-columns.ensures.taken c.in-Each.inputs c.in-Each.asked c.in-Each.covered c.in-Each.rest.value.kept c.in-Each.rest.value.entry (ap step_told c.in-Each.is)) some (each_taken c.args.self.now.is_count_star c.take.new.self.is_count_star c.args.lp.now c.take.new.lp c.args.ex.now c.args.asked c.args.node (step_told c.in_ok-columns.field-0) c.in_ok-columns.ensures.taken c.in-Each.inputs c.in-Each.asked c.in-Each.covered c.in-Each.rest.value.kept c.in-Each.rest.value.entry (ap step_told c.in-Each.is))

pub push_down-returns-in-Ok-push_inputs-clause-prunes : goal.push_down-returns-in-Ok-push_inputs-clause-prunes
push_down-returns-in-Ok-push_inputs-clause-prunes t c = on_ok_weaker c.put_over.result (λ back.
    let own : c.as_slice-own.result.now ≡ c.in-Each.inputs = c.as_slice-own.ensures in
    let listed : c.as_slice-lists.result.now ≡ c.in-Each.asked = c.as_slice-lists.ensures in
    let top = not c.args.self.now.is_count_star in
    each_step c.args.asked c.args.lp.now c.take.new.lp c.args.ex.now c.args.node c.in-Each.inputs c.in-Each.asked c.in-Each.covered c.in_ok-columns.ensures.taken.entry c.in-Each.rest.value.entry c.in_ok-columns.ensures.taken.left c.requires.plan
    c.in_ok-columns.ensures.taken.there c.in_ok-columns.ensures.taken.taken (each_taken c.args.self.now.is_count_star c.take.new.self.is_count_star c.args.lp.now c.take.new.lp c.args.ex.now c.args.asked c.args.node (step_told c.in_ok-columns.field-0) c.in_ok-columns.ensures.taken c.in-Each.inputs c.in-Each.asked c.in-Each.covered c.in-Each.rest.value.kept c.in-Each.rest.value.entry (ap step_told c.in-Each.is))
    top c.take.new.self.is_count_star c.push_inputs.new.self.is_count_star c.in-Each.rest.value.kept c.push_inputs.new.lp c.put_over.new.lp c.push_inputs.new.ex c.put_over.new.ex
    (top_marked c.args.self.now.is_count_star (is_count (op_at c.args.ex.now c.in_ok-columns.ensures.taken.entry)) c.take.new.self.is_count_star c.in_ok-columns.ensures.taken.marked) (kept_taken c.args.self.now.is_count_star c.take.new.self.is_count_star c.args.lp.now c.take.new.lp c.args.ex.now c.args.asked c.args.node (step_told c.in_ok-columns.field-0) c.in_ok-columns.ensures.taken c.in-Each.inputs c.in-Each.asked c.in-Each.covered c.in-Each.rest.value.kept c.in-Each.rest.value.entry (ap step_told c.in-Each.is)) (subst (λ (l : List (List Name)). InputsPruned c.take.new.self.is_count_star c.push_inputs.new.self.is_count_star c.in-Each.covered l c.take.new.lp c.push_inputs.new.lp c.args.ex.now c.push_inputs.new.ex c.in-Each.inputs) listed (subst (λ (ns : List Node). InputsPruned c.take.new.self.is_count_star c.push_inputs.new.self.is_count_star c.in-Each.covered c.as_slice-lists.result.now c.take.new.lp c.push_inputs.new.lp c.args.ex.now c.push_inputs.new.ex ns) own c.in-Ok-push_inputs.ensures.pruned)) c.in-Ok-push_inputs.ensures.longer c.put_over.ensures.longer
    (subst (λ (some : Bool). IsPutBack some c.in-Each.rest.value.kept c.push_inputs.new.lp c.put_over.new.lp c.push_inputs.new.ex c.put_over.new.ex c.args.node c.in-Each.rest.value.entry) (some_len c.args.asked c.len-is_asked.result c.len-is_asked.ensures.value) back)) c.put_over.ensures.placed

pub push_down-returns-in-Ok-push_inputs-clause-marks : goal.push_down-returns-in-Ok-push_inputs-clause-marks
push_down-returns-in-Ok-push_inputs-clause-marks t c = on_ok_weaker c.put_over.result (λ back.
    let own : c.as_slice-own.result.now ≡ c.in-Each.inputs = c.as_slice-own.ensures in
    let listed : c.as_slice-lists.result.now ≡ c.in-Each.asked = c.as_slice-lists.ensures in
    each_mark c.args.asked c.args.lp.now c.take.new.lp c.args.ex.now c.args.node c.in-Each.inputs c.in-Each.asked c.in-Each.covered c.in_ok-columns.ensures.taken.entry c.in-Each.rest.value.entry c.in_ok-columns.ensures.taken.left c.requires.plan
    c.in_ok-columns.ensures.taken.there c.in_ok-columns.ensures.taken.taken (each_taken c.args.self.now.is_count_star c.take.new.self.is_count_star c.args.lp.now c.take.new.lp c.args.ex.now c.args.asked c.args.node (step_told c.in_ok-columns.field-0) c.in_ok-columns.ensures.taken c.in-Each.inputs c.in-Each.asked c.in-Each.covered c.in-Each.rest.value.kept c.in-Each.rest.value.entry (ap step_told c.in-Each.is))
    c.args.self.now.is_count_star c.take.new.self.is_count_star c.push_inputs.new.self.is_count_star c.push_inputs.new.lp c.push_inputs.new.ex c.in_ok-columns.ensures.taken.marked (subst (λ (l : List (List Name)). InputsPruned c.take.new.self.is_count_star c.push_inputs.new.self.is_count_star c.in-Each.covered l c.take.new.lp c.push_inputs.new.lp c.args.ex.now c.push_inputs.new.ex c.in-Each.inputs) listed (subst (λ (ns : List Node). InputsPruned c.take.new.self.is_count_star c.push_inputs.new.self.is_count_star c.in-Each.covered c.as_slice-lists.result.now c.take.new.lp c.push_inputs.new.lp c.args.ex.now c.push_inputs.new.ex ns) own c.in-Ok-push_inputs.ensures.pruned))) c.put_over.ensures.placed

pub push_down-returns-in-Ok-push_inputs-clause-stays : goal.push_down-returns-in-Ok-push_inputs-clause-stays
push_down-returns-in-Ok-push_inputs-clause-stays t c = λ e. c.in-Ok-push_inputs.ensures.stays (c.take.ensures.stays e)

pub push_down-returns-in-Ok-push_inputs-clause-longer : goal.push_down-returns-in-Ok-push_inputs-clause-longer
push_down-returns-in-Ok-push_inputs-clause-longer t c = longer_trans c.args.ex.now c.push_inputs.new.ex c.put_over.new.ex c.in-Ok-push_inputs.ensures.longer c.put_over.ensures.longer

-- what is given back

pub push_down-given_back-requires : goal.push_down-given_back-requires
push_down-given_back-requires t c = entry_stays c.args.lp.now c.take.new.lp c.push_down.new.lp c.args.node c.in_ok-columns.ensures.taken.entry c.in_ok-columns.ensures.taken.left c.in_ok-columns.ensures.taken.there c.in_ok-columns.ensures.taken.taken c.in-Err.ensures.grows

pub push_down-rest_given_back-requires : goal.push_down-rest_given_back-requires
push_down-rest_given_back-requires t c = entry_stays c.args.lp.now c.take.new.lp c.push_inputs.new.lp c.args.node c.in_ok-columns.ensures.taken.entry c.in_ok-columns.ensures.taken.left c.in_ok-columns.ensures.taken.there c.in_ok-columns.ensures.taken.taken c.in-Err-push_inputs.ensures.grows

pub push_down-returns-in-Over-clause-stays : goal.push_down-returns-in-Over-clause-stays
push_down-returns-in-Over-clause-stays t c = λ e. c.in-Err.ensures.stays (c.take.ensures.stays e)

pub push_down-returns-clause-stays : goal.push_down-returns-clause-stays
push_down-returns-clause-stays t c = λ e. c.in-Err-push_inputs.ensures.stays (c.take.ensures.stays e)

-- the inputs

pub push_inputs-loop-input-init : goal.push_inputs-loop-input-init
push_inputs-loop-input-init t c =
    let s = c.into_iter-input-iterator.result in
    let own : s.a.rest.now ≡ c.args.inputs.now = search rules in
    let none = so_far_none c.args.self.now.is_count_star c.args.covered.now s.b.rest.now c.args.lp.now c.args.ex.now s.a.rest.now in (
      none,
      λ i e.
          (let k = next_asks c.args.self.now.is_count_star c.args.self.now.is_count_star c.args.covered.now s.b.rest.now c.args.lp.now c.args.lp.now c.args.ex.now c.args.ex.now s.a.rest.now i 0 (subst (λ (ns : List Node). AreInputs c.args.lp.now c.args.ex.now ns) (sym own) c.requires.inputs) e none in
          knows-first c.args.columns.now c.args.lp.now i s.a.rest.now (k.plan.nodes, k.plan.stands.nodes) e (subst (KnowsAt c.args.columns.now c.args.lp.now) (sym own) c.requires.known)),
    )

pub push_inputs-push_input-requires : goal.push_inputs-push_input-requires
push_inputs-push_input-requires t c =
    let s = c.into_iter-input-iterator.result in
    let own : s.a.rest.now ≡ c.args.inputs.now = search rules in
    let j = length c.loop-input.yielded in
    let turn = zip_turn s.a.rest.now s.b.rest.now c.loop-input.yielded s c.loop-input.input-iterator c.next.new.self c.next.result refl refl c.loop-input.yielded_by (c.in-Some.input, c.in-Some.names) c.in-Some.is c.next.ensures.steps in
    let here = places s.a.rest.now s.b.rest.now j c.in-Some.input.now c.in-Some.names.now turn in
    let k = next_asks c.args.self.now.is_count_star c.loop-input.self.is_count_star c.args.covered.now s.b.rest.now c.args.lp.now c.loop-input.lp c.args.ex.now c.loop-input.ex s.a.rest.now c.in-Some.input.now j (subst (λ (ns : List Node). AreInputs c.args.lp.now c.args.ex.now ns) (sym own) c.requires.inputs) here.0 c.loop-input.invariant.0 in
    let same : tallest plan_shape (height plan_shape (length c.args.lp.now) c.args.lp.now) s.a.rest.now ≡ tallest plan_shape (height plan_shape (length c.args.lp.now) c.args.lp.now) c.args.inputs.now = ap (tallest plan_shape (height plan_shape (length c.args.lp.now) c.args.lp.now)) own in
    (omega (arith, k.low, same, c.decreases), (k.plan, c.loop-input.invariant.1 c.in-Some.input.now here.0))

pub push_inputs-loop-input-preserved : goal.push_inputs-loop-input-preserved
push_inputs-loop-input-preserved t c =
    let s = c.into_iter-input-iterator.result in
    let j = length c.loop-input.yielded in
    let turn = zip_turn s.a.rest.now s.b.rest.now c.loop-input.yielded s c.loop-input.input-iterator c.next.new.self c.next.result refl refl c.loop-input.yielded_by (c.in-Some.input, c.in-Some.names) c.in-Some.is c.next.ensures.steps in
    let here = places s.a.rest.now s.b.rest.now j c.in-Some.input.now c.in-Some.names.now turn in
    let next = so_far_next c.args.self.now.is_count_star c.loop-input.self.is_count_star c.push_input.new.self.is_count_star c.args.covered.now s.b.rest.now c.in-Some.names.now c.args.lp.now c.loop-input.lp c.push_input.new.lp c.args.ex.now c.loop-input.ex c.push_input.new.ex s.a.rest.now c.in-Some.input.now j here.0 here.1 c.loop-input.invariant.0
    c.in_ok-push_input.ensures.prunes c.in_ok-push_input.ensures.marks c.in_ok-push_input.ensures.stays c.in_ok-push_input.ensures.grows c.in_ok-push_input.ensures.longer in (
      subst (λ (k : ℕ). SoFar c.args.self.now.is_count_star c.push_input.new.self.is_count_star c.args.covered.now s.b.rest.now c.args.lp.now c.push_input.new.lp c.args.ex.now c.push_input.new.ex s.a.rest.now k) (sym (length_push c.loop-input.yielded (c.in-Some.input, c.in-Some.names))) next,
      λ i e. nothing-known c.forget.new.self c.push_input.new.lp (i ∷ []) c.forget.ensures,
    )

pub push_inputs-returns-clause-pruned : goal.push_inputs-returns-clause-pruned
push_inputs-returns-clause-pruned t c =
    let s = c.into_iter-input-iterator.result in
    let own : s.a.rest.now ≡ c.args.inputs.now = search rules in
    let listed : s.b.rest.now ≡ c.args.lists.now = search rules in
    let j = length c.loop-input.yielded in
    let ended : j ≡ min (length s.a.rest.now) (length s.b.rest.now) = zip_end s.a.rest.now s.b.rest.now c.loop-input.yielded s c.loop-input.input-iterator c.next.new.self c.next.result refl refl c.loop-input.yielded_by c.in-None.is c.next.ensures.steps in
    let long : length s.b.rest.now ≡ length s.a.rest.now = ap length listed ∙ c.requires.lists ∙ sym (ap length own) in
    let past : length s.a.rest.now ≤ j = rw (ended, long) (omega arith) in
    let all = so_far_all c.args.self.now.is_count_star c.loop-input.self.is_count_star c.args.covered.now s.b.rest.now c.args.lp.now c.loop-input.lp c.args.ex.now c.loop-input.ex s.a.rest.now j past c.loop-input.invariant.0 in
    subst (λ (l : List (List Name)). InputsPruned c.args.self.now.is_count_star c.loop-input.self.is_count_star c.args.covered.now l c.args.lp.now c.loop-input.lp c.args.ex.now c.loop-input.ex c.args.inputs.now) listed
    (subst (λ (ns : List Node). InputsPruned c.args.self.now.is_count_star c.loop-input.self.is_count_star c.args.covered.now s.b.rest.now c.args.lp.now c.loop-input.lp c.args.ex.now c.loop-input.ex ns) own all)

pub push_inputs-returns-in_err-push_input-clause-longer : goal.push_inputs-returns-in_err-push_input-clause-longer
push_inputs-returns-in_err-push_input-clause-longer t c = longer_trans c.args.ex.now c.loop-input.ex c.push_input.new.ex c.loop-input.invariant.0.longer c.in_err-push_input.ensures.longer

-- an input

pub push_input-push_down-requires : goal.push_input-push_down-requires
push_input-push_down-requires t c = (omega (arith, c.decreases), (c.requires.plan, c.requires.known))

pub push_input-cover-requires : goal.push_input-cover-requires
push_input-cover-requires t c =
    stands_after (not c.args.self.now.is_count_star) c.in_ok-copied_names.field-0 c.args.lp.now c.push_down.new.lp c.args.ex.now c.push_down.new.ex c.args.input (c.requires.plan.nodes, c.requires.plan.stands.nodes) c.in_ok-push_down.ensures.prunes

pub push_input-returns-in-Some-clause-prunes : goal.push_input-returns-in-Some-clause-prunes
push_input-returns-in-Some-clause-prunes t c = on_ok_weaker c.cover.result (λ placed.
    let i = c.args.input in
    let u = c.push_down.new.lp in
    let covers = c.args.covered.now in
    let names = c.in-Some.names in
    let below = c.in_ok-push_down.ensures.prunes in
    let some : covers ≡ Some names = c.in-Some.is in
    one_more (not c.args.self.now.is_count_star) covers c.args.asked.now c.args.lp.now u c.cover.new.lp c.args.ex.now c.push_down.new.ex i
    (subst (λ (l : List Name). PrunesAt (not c.args.self.now.is_count_star) l c.args.lp.now u c.args.ex.now c.push_down.new.ex i) c.in_ok-copied_names.ensures below)
    (λ l e. placed c.push_down.new.ex ∙ ap (λ (m : List Name). covered_at (asked_columns m (columns_at u c.push_down.new.ex i)) u i) (some_same covers names l some e))
    (λ e. absurd (none_some covers names e some))
    (is_entry u i (stands_after (not c.args.self.now.is_count_star) c.in_ok-copied_names.field-0 c.args.lp.now u c.args.ex.now c.push_down.new.ex i (c.requires.plan.nodes, c.requires.plan.stands.nodes) below))) c.cover.ensures.placed

pub push_input-returns-in-None-clause-prunes : goal.push_input-returns-in-None-clause-prunes
push_input-returns-in-None-clause-prunes t c =
    let i = c.args.input in
    let u = c.push_down.new.lp in
    let covers = c.args.covered.now in
    let below = c.in_ok-push_down.ensures.prunes in
    one_more (not c.args.self.now.is_count_star) covers c.args.asked.now c.args.lp.now u u c.args.ex.now c.push_down.new.ex i
    (subst (λ (l : List Name). PrunesAt (not c.args.self.now.is_count_star) l c.args.lp.now u c.args.ex.now c.push_down.new.ex i) c.in_ok-copied_names.ensures below)
    (λ l e. absurd (none_some covers l c.in-None.is e))
    (λ e. refl)
    (is_entry u i (stands_after (not c.args.self.now.is_count_star) c.in_ok-copied_names.field-0 c.args.lp.now u c.args.ex.now c.push_down.new.ex i (c.requires.plan.nodes, c.requires.plan.stands.nodes) below))
