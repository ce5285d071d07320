use Rattle.std.proofs.Common.{◌∙◌}
use Rattle.cases.proofs.CaseLemmas.{refused}
use Rattle.cases.proofs.cases.fault.Goals as goal

pub returns-clause-right : goal.returns-clause-right
returns-clause-right c =
    refused c.args.words.now c.is_under.new.words c.args.told.now c.deref.result.now c.deref-2.result.now c.deref-3.result.now c.in_ok-checked.checked c.in_ok-unpruned.unpruned c.in_ok-pruned.pruned c.both.result c.both-2.result
    (c.deref.ensures ∙ c.in_ok-answer.ensures) (c.deref-2.ensures ∙ c.in_ok-answer.ensures) (c.deref-3.ensures ∙ c.in_ok-answer.ensures)
    c.in_ok-unpruned.ensures.words c.in_ok-checked.ensures c.in_ok-unpruned.ensures.right c.in_ok-pruned.ensures.right c.both.ensures c.both-2.ensures
