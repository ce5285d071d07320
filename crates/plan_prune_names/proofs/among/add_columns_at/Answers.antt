use Rattle.std.proofs.Common.{◌∙◌, ap, length, sym}
use Rattle.std.proofs.lemmas.Result.{on_ok_weaker}
use Rattle.plan_core.specs.Names.{with_names}
use Rattle.plan_prune_parts.specs.Said.{columns_at}
use Rattle.plan_prune_names.proofs.AmongLemmas.{columns-among}
use Rattle.plan_prune_names.proofs.among.add_columns_at.Goals as goal

pub names_at-requires-clause-hold : goal.names_at-requires-clause-hold
names_at-requires-clause-hold c = λ ex. (c.know.new.columns, length c.know.new.columns.changes.items, c.know.new.columns.marks.items, sym c.function_count.ensures, c.in_ok-know.ensures.known ex c.in_ok-know.ensures.is_known)

pub returns-clause-names : goal.returns-clause-names
returns-clause-names c = on_ok_weaker c.add_listed.result (λ added. λ ex.
    added ∙ ap (with_names c.args.names.now) (c.as_slice.ensures ∙ c.in_ok-ordered.ensures ex)) c.add_listed.ensures.added

pub returns-then-are_all_among-clause-names : goal.returns-then-are_all_among-clause-names
returns-then-are_all_among-clause-names c = λ ex.
    sym (columns-among c.args.names.now c.know.new.columns (columns_at c.args.lp.now ex c.args.input) (c.in_ok-know.ensures.shows ex) (c.are_all_among.ensures.all c.if-are_all_among.true))
