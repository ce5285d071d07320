use Rattle.std.proofs.Common.{refl, take}
use Rattle.std.proofs.lemmas.Option.{slice_get_read}
use Rattle.plan_options.specs.Schemas.{all_columns, SharesName}
use Rattle.plan_options.proofs.SchemaLemmas.{repeats-distinct}
use Rattle.plan_options.proofs.schemas.merge_schemas.Goals as goal

pub returns-then-not-branch-clause-memory_aside : goal.returns-then-not-branch-clause-memory_aside
returns-then-not-branch-clause-memory_aside c = λ distinct.
    let schemas = c.args.schemas.now in
    let schema = c.index-schemas-place.result in
    let here = slice_get_read schemas _ c.loop-place.place schema refl c.loop-place-test.true c.index-schemas-place.is in
    let shares : SharesName schema (all_columns (take c.loop-place.place schemas)) =
    rw (c.if-not-branch.true, c.loop-place.invariant.columns) at c.in_ok-append_all.ensures.shares in
    absurd (repeats-distinct schemas c.loop-place.place schema here shares distinct)
