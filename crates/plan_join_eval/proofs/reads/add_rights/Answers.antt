use Rattle.std.proofs.Common.{◌≡◌, ◌∙◌, ◌++◌, List, [], map, ap, ap₂, sym, true}
use Rattle.std.specs.List.{filter as only_where}
use Rattle.plan_core.specs.declared.data_type.DataType.{DataType}
use Rattle.plan_core.specs.Columns.{Columns, names_of}
use Rattle.plan_core.specs.Names.{has}
use Rattle.plan_expr.specs.Leaves.{Name}
use Rattle.plan_frame.specs.Frames.{column_or}
use Rattle.plan_frame.specs.Values.{Value}
use Rattle.plan_join.specs.Naming.{right_name}
use Rattle.plan_value.specs.Shown.{frame_of, values_of}
use Rattle.plan_join_eval.specs.Along.{right_column}
use Rattle.plan_join_eval.specs.Reads.{is_named, is_read, read_column, read_type}
use Rattle.plan_join_eval.proofs.AlongLemmas.{along-same}
use Rattle.plan_join_eval.proofs.ReadLemmas.{taken}
use Rattle.plan_join_eval.proofs.reads.add_rights.Goals as goal

pub loop-own-preserved-in-Continue-branch-2 : goal.loop-own-preserved-in-Continue-branch-2
loop-own-preserved-in-Continue-branch-2 c =
    let names = c.args.names.now in
    let call = right_name c.args.suffix.now (names_of c.args.lefts.now) in
    let g = frame_of c.args.right.now in
    let a = c.in-Some.own.now in
    let d = c.in-Some.dtype.now in
    let rest = c.next.new.self in
    let done = c.loop-own.reads in
    let steps = c.in-Some.ensures.steps in
    let under : Name × DataType → Name × DataType = λ (x : Name × DataType). (call x.0, x.1) in
    let passes : has names (call a) ≡ true = sym (ap (has names) (c.as_str.ensures ∙ c.in_ok-name.ensures)) ∙ sym c.contains.ensures ∙ c.if-contains.true in
    record {
      columns = λ ps. taken (read_column ps) (is_read names) done c.push.new.self _ (right_column call g ps a) (map (right_column call g ps) (names_of rest)) _ c.in_ok-push.ensures.pushed
          (ap₂ (λ (n : Name) (vs : List Value). record { name = n; values = vs }) c.in_ok-name.ensures (along-same true (values_of c.column_values.result.now) (column_or g a) [] ps c.column_values.ensures))
          passes
          (sym (ap (λ (cs : Columns). map (read_column ps) done ++ only_where (is_read names) (map (right_column call g ps) (names_of cs))) steps) ∙ c.loop-own.invariant.columns ps);
      types = taken read_type (is_named names) done c.push.new.self _ (call a, d) (map under rest) _ c.in_ok-push.ensures.pushed (ap (λ (n : Name). (n, d)) c.in_ok-name.ensures) passes
          (sym (ap (λ (cs : Columns). map read_type done ++ only_where (is_named names) (map under cs)) steps) ∙ c.loop-own.invariant.types);
    }
