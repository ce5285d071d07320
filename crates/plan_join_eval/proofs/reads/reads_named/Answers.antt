use Rattle.std.proofs.Common.{[], refl, sym, subst}
use Rattle.plan_core.specs.Columns.{HasDistinctNames}
use Rattle.plan_join.specs.Naming.{join_columns}
use Rattle.plan_value.specs.Shown.{schema_of}
use Rattle.plan_join_eval.specs.Reads.{is_named}
use Rattle.plan_join_eval.proofs.ReadLemmas.{columns-read, distinct-where, types-read}
use Rattle.plan_join_eval.proofs.reads.reads_named.Goals as goal

pub returns-clause-columns : goal.returns-clause-columns
returns-clause-columns c = λ ps.
    columns-read c.args.args.now c.args.left.now c.args.right.now ps c.args.names.now _ c.in_ok-lefts.lefts c.in_ok-rights.rights c.suffix.result.now c.in_ok-reads_among.field-0
    refl c.in_ok-lefts.ensures c.in_ok-rights.ensures c.suffix.ensures (c.in_ok-reads_among.ensures.columns ps)

pub returns-clause-distinct : goal.returns-clause-distinct
returns-clause-distinct c =
    let args = c.args.args.now in
    let all = types-read args c.args.left.now c.args.right.now [] c.args.names.now _ c.in_ok-lefts.lefts c.in_ok-rights.rights c.suffix.result.now c.in_ok-reads_among.field-0
    refl c.in_ok-lefts.ensures c.in_ok-rights.ensures c.suffix.ensures c.in_ok-reads_among.ensures.types in
    subst HasDistinctNames (sym all) (distinct-where (is_named c.args.names.now) (join_columns args [] [] (schema_of c.args.left.now) (schema_of c.args.right.now)) c.requires.distinct)
