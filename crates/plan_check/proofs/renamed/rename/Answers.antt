use Rattle.std.proofs.Common.{◌≡◌, ◌∙◌, sym, subst, true}
use Rattle.plan_core.specs.Columns.{HasDistinctNames}
use Rattle.plan_check.specs.Renamed.{can_rename}
use Rattle.plan_check.proofs.RenamedLemmas.{rename-holds, renamed-distinct}
use Rattle.plan_check.proofs.renamed.rename.Goals as goal

pub put_columns-requires-clause-distinct : goal.put_columns-requires-clause-distinct
put_columns-requires-clause-distinct c =
    let can : can_rename c.args.existing.now c.args.new.now c.args.columns.now ≡ true = sym c.in_ok-fits.ensures ∙ c.if-not-branch.false in
    subst HasDistinctNames (sym c.in_ok-taken.ensures.made) (renamed-distinct c.args.existing.now c.args.new.now c.args.columns.now can c.len-len.ensures.distinct)

pub returns-clause-few : goal.returns-clause-few
returns-clause-few c = λ short. sym (sym c.in_ok-fits.ensures ∙ c.if-not-branch.false)

pub returns-clause-changed : goal.returns-clause-changed
returns-clause-changed c = λ swapping.
    let can : can_rename c.args.existing.now c.args.new.now c.args.columns.now ≡ true = sym c.in_ok-fits.ensures ∙ c.if-not-branch.false in
    (rename-holds c.args.existing.now c.args.new.now c.args.columns.now can, c.in_ok-put_columns.ensures ∙ c.in_ok-taken.ensures.made)
