use Rattle.std.proofs.Common.{◌≡◌, ◌∙◌, ◌++◌, List, [], map, ap, ap₂, sym, false, true}
use Rattle.std.specs.List.{filter as only_where}
use Rattle.plan_core.specs.Columns.{Columns, names_of}
use Rattle.plan_core.specs.Names.{has}
use Rattle.plan_expr.specs.Leaves.{Name}
use Rattle.plan_frame.specs.Frames.{column_or}
use Rattle.plan_frame.specs.Values.{Value}
use Rattle.plan_value.specs.Shown.{frame_of, values_of}
use Rattle.plan_join_eval.specs.Reads.{is_named, is_read, left_along, read_column, read_type}
use Rattle.plan_join_eval.proofs.AlongLemmas.{along-same}
use Rattle.plan_join_eval.proofs.ReadLemmas.{taken}
use Rattle.plan_join_eval.proofs.reads.add_lefts.Goals as goal

pub loop-name-preserved-in_ok-push : goal.loop-name-preserved-in_ok-push
loop-name-preserved-in_ok-push c =
    let names = c.args.names.now in
    let f = frame_of c.args.left.now in
    let a = c.in-Some.name.now in
    let d = c.in-Some.dtype.now in
    let rest = c.next.new.self in
    let done = c.loop-name.reads in
    let steps = c.in-Some.ensures.steps in
    let passes : has names a ≡ true = sym c.contains.ensures ∙ c.if-contains.true in
    record {
      columns = λ ps. taken (read_column ps) (is_read names) done c.push.new.self _ (left_along f ps a) (map (left_along f ps) (names_of rest)) _ c.in_ok-push.ensures.pushed
          (ap₂ (λ (n : Name) (vs : List Value). record { name = n; values = vs }) c.in_ok-new.ensures (along-same false (values_of c.column_values.result.now) (column_or f a) [] ps c.column_values.ensures))
          passes
          (sym (ap (λ (cs : Columns). map (read_column ps) done ++ only_where (is_read names) (map (left_along f ps) (names_of cs))) steps) ∙ c.loop-name.invariant.columns ps);
      types = taken read_type (is_named names) done c.push.new.self _ (a, d) rest _ c.in_ok-push.ensures.pushed (ap (λ (n : Name). (n, d)) c.in_ok-new.ensures) passes
          (sym (ap (λ (cs : Columns). map read_type done ++ only_where (is_named names) cs) steps) ∙ c.loop-name.invariant.types);
    }
