use Rattle.std.proofs.Common.{◌≡◌, ◌∙◌, ◌++◌, ◌+◌, ℕ, true, false, List, drop, sym, ap, arith}
use Rattle.plan_core.specs.Columns.{Columns}
use Rattle.plan_core.specs.Names.{has}
use Rattle.plan_scan.specs.Stats.{named_among, places_among}
use Rattle.plan_scan.proofs.StatLemmas.{among-done, is-within, kept-column, kept-place, passed-column, passed-place, places-done}
use Rattle.plan_scan.proofs.partitions.put_among.Goals.{in-Some+then-contains+in_ok-new+in_ok-with_column+in_ok-push, in-Some+else-contains, in_default}
use Rattle.plan_scan.proofs.partitions.put_among.Goals as goal

pub loop-i-preserved : goal.loop-i-preserved
loop-i-preserved c =
    let cs = c.args.columns.now in
    let names = c.args.wanted.now in
    elim c.match-get_at_index.branch [
      | in-Some+then-contains+in_ok-new+in_ok-with_column+in_ok-push w ↦
          let there : has names w.in-Some.name.now ≡ true = sym w.contains.ensures ∙ w.if-contains.true in (
            ap (λ (x : Columns). x ++ named_among names (drop (c.loop-i.i + 1) cs)) (w.schema-is ∙ w.in_ok-with_column.ensures.after) ∙ kept-column names cs c.loop-i.i w.in-Some.name.now w.in-Some.dtype.now w.in-Some.ensures.found c.loop-i.schema w.in_ok-new.field-0 c.len-i-end.ensures.distinct there w.in_ok-new.ensures c.loop-i.invariant.0,
            ap (λ (x : List ℕ). x ++ places_among names (c.loop-i.i + 1) (drop (c.loop-i.i + 1) cs)) (w.places-is ∙ w.in_ok-push.ensures.pushed) ∙ kept-place names cs c.loop-i.i w.in-Some.name.now w.in-Some.dtype.now w.in-Some.ensures.found c.loop-i.places there c.loop-i.invariant.1,
          )
      | in-Some+else-contains w ↦
          let absent : has names w.in-Some.name.now ≡ false = sym w.contains.ensures ∙ w.if-contains.false in (
            ap (λ (x : Columns). x ++ named_among names (drop (c.loop-i.i + 1) cs)) w.schema-is ∙ passed-column names cs c.loop-i.i w.in-Some.name.now w.in-Some.dtype.now w.in-Some.ensures.found c.loop-i.schema absent c.loop-i.invariant.0,
            ap (λ (x : List ℕ). x ++ places_among names (c.loop-i.i + 1) (drop (c.loop-i.i + 1) cs)) w.places-is ∙ passed-place names cs c.loop-i.i w.in-Some.name.now w.in-Some.dtype.now w.in-Some.ensures.found c.loop-i.places absent c.loop-i.invariant.1,
          )
      | in_default w ↦ absurd (is-within cs c.loop-i.i (omega (arith, c.len-i-end.ensures.value)) w.in_default.ensures.none)
    ]

pub returns-clause-schema : goal.returns-clause-schema
returns-clause-schema c = among-done c.args.wanted.now c.args.columns.now c.loop-i.i c.loop-i.schema (omega (arith, c.len-i-end.ensures.value)) c.loop-i.invariant.0

pub returns-clause-places : goal.returns-clause-places
returns-clause-places c = places-done c.args.wanted.now c.args.columns.now c.loop-i.i c.loop-i.places (omega (arith, c.len-i-end.ensures.value)) c.loop-i.invariant.1
