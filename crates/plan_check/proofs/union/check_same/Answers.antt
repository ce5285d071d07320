use Rattle.std.proofs.Common.{◌≡◌, ◌∙◌, true, false, ap, sym, arith, Some}
use Rattle.plan_core.specs.Columns.{Columns, same_columns}
use Rattle.plan_core.specs.declared.error.At.{At}
use Rattle.plan_core.specs.declared.error.PolarsError.TheVariants.{SchemaMismatch}
use Rattle.plan_meaning.specs.Typing.{first_fault, first_schema}
use Rattle.plan_schema.proofs.CheckLemmas.{left-next, left-bad, left-end}
use Rattle.plan_check_parts.proofs.MadeLemmas.{item_here}
use Rattle.plan_meaning.proofs.UnionLemmas.{checks_are, first_is, not_same, is_the_same}
use Rattle.plan_check.proofs.union.check_same.Goals as goal

pub returns-then-ne : goal.returns-then-ne
returns-then-ne c =
    let item = item_here c.args.schemas.now c.loop-i.i c.index-schemas-i.result c.loop-i-test.true c.index-schemas-i.is in
    let first = first_is c.args.schemas.now c.index-schemas-0.result (omega (arith, c.loop-i-test.true)) c.index-schemas-0.is in
    let bad : same_columns (first_schema c.args.schemas.now) c.index-schemas-i.result ≡ false =
    ap (λ (s : Columns). same_columns s c.index-schemas-i.result) first ∙ not_same (same_columns c.index-schemas-0.result c.index-schemas-i.result) c.ne.result c.ne.ensures c.if-ne.true in
    ap (first_fault c.args.node) (checks_are c.args.schemas.now)
    ∙ left-bad c.args.node SchemaMismatch 1 (same_columns (first_schema c.args.schemas.now)) c.args.schemas.now c.loop-i.i c.index-schemas-i.result c.loop-i.invariant item bad
    ∙ ap (λ (a : At). Some (SchemaMismatch a)) (sym c.at.ensures)

pub loop-i-preserved : goal.loop-i-preserved
loop-i-preserved c =
    let item = item_here c.args.schemas.now c.loop-i.i c.index-schemas-i.result c.loop-i-test.true c.index-schemas-i.is in
    let first = first_is c.args.schemas.now c.index-schemas-0.result (omega (arith, c.loop-i-test.true)) c.index-schemas-0.is in
    let good : same_columns (first_schema c.args.schemas.now) c.index-schemas-i.result ≡ true =
    ap (λ (s : Columns). same_columns s c.index-schemas-i.result) first ∙ is_the_same (same_columns c.index-schemas-0.result c.index-schemas-i.result) c.ne.result c.ne.ensures c.if-ne.false in
    left-next c.args.node SchemaMismatch 1 (same_columns (first_schema c.args.schemas.now)) c.args.schemas.now c.loop-i.i c.index-schemas-i.result c.loop-i.invariant item good

pub returns : goal.returns
returns c =
    ap (first_fault c.args.node) (checks_are c.args.schemas.now)
    ∙ left-end c.args.node SchemaMismatch 1 (same_columns (first_schema c.args.schemas.now)) c.args.schemas.now c.loop-i.i c.loop-i.invariant c.loop-i-test.false
