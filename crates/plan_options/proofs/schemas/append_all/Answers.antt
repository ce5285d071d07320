use Rattle.std.proofs.Common.{◌≡◌, ◌∙◌, true, false, is_some, ap, sym}
use Rattle.plan_core.specs.Columns.{type_of}
use Rattle.plan_core.proofs.MergeLemmas.{HasDistinctNames-with_type}
use Rattle.plan_options.proofs.SchemaLemmas.{found, added}
use Rattle.plan_options.proofs.schemas.append_all.Goals as goal

pub returns-then-is_some-clause-shares : goal.returns-then-is_some-clause-shares
returns-then-is_some-clause-shares c =
    let done = c.loop-name.invariant.added in
    let there : is_some (type_of c.loop-name.merged c.in-Some.name.now) ≡ true = sym (ap is_some (rw c.in_ok-new.ensures at c.in_ok-old.ensures.given)) ∙ sym c.if-is_some.ensures in
    found c.args.merged.now c.loop-name.merged done.0 c.loop-name.name-iterator c.args.schema.now c.next.new.self c.in-Some.name.now c.in-Some.dtype.now
    done.1 done.2 c.in-Some.ensures.steps c.iter-name-items.ensures.distinct there

pub loop-name-preserved : goal.loop-name-preserved
loop-name-preserved c =
    let done = c.loop-name.invariant.added in
    let absent : is_some (type_of c.loop-name.merged c.in-Some.name.now) ≡ false = sym (ap is_some (rw c.in_ok-new.ensures at c.in_ok-old.ensures.given)) ∙ sym c.if-is_some.ensures in
    record {
      added = added c.args.merged.now c.loop-name.merged c.with_column.new.self done.0 c.loop-name.name-iterator c.args.schema.now c.next.new.self c.in-Some.name.now c.in-Some.dtype.now
          done.1 done.2 c.in-Some.ensures.steps absent (rw c.in_ok-new.ensures at c.in_ok-old.ensures.after);
      distinct = rw c.in_ok-old.ensures.after (HasDistinctNames-with_type _ _ _ c.loop-name.invariant.distinct);
    }
