use Rattle.std.proofs.Common.{List, sym, subst}
use Rattle.plan_core.specs.Columns.{Columns}
use Rattle.plan_check.specs.declared.renamed.TakenColumn.{TakenColumn}
use Rattle.plan_check.specs.Renamed.{put_back}
use Rattle.plan_check.proofs.RenamedLemmas.{ComeTo, put-new, put-next, put-within}
use Rattle.plan_check.proofs.renamed.put_columns.Goals as goal

pub insert_at_index-requires-clause-within : goal.insert_at_index-requires-clause-within
insert_at_index-requires-clause-within c =
    let made : Columns = put_back c.args.taken c.args.columns.now in
    put-within c.pop.new.self c.in-Some.column c.loop-column.columns made c.requires.distinct
    (subst (λ (l : List TakenColumn). ComeTo l c.loop-column.columns made) c.in-Some.ensures c.loop-column.invariant)

pub insert_at_index-requires-clause-absent : goal.insert_at_index-requires-clause-absent
insert_at_index-requires-clause-absent c =
    let made : Columns = put_back c.args.taken c.args.columns.now in
    put-new c.pop.new.self c.in-Some.column c.loop-column.columns made c.requires.distinct
    (subst (λ (l : List TakenColumn). ComeTo l c.loop-column.columns made) c.in-Some.ensures c.loop-column.invariant)

pub loop-column-preserved : goal.loop-column-preserved
loop-column-preserved c =
    let made : Columns = put_back c.args.taken c.args.columns.now in
    subst (λ (s : Columns). ComeTo c.pop.new.self s made) (sym c.in_ok-insert_at_index.ensures.after)
    (put-next c.pop.new.self c.in-Some.column c.loop-column.columns made c.requires.distinct
    (subst (λ (l : List TakenColumn). ComeTo l c.loop-column.columns made) c.in-Some.ensures c.loop-column.invariant))
