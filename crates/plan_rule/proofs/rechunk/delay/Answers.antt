use Rattle.std.proofs.Common.{◌∙◌, ap, arith, length, sym}
use Rattle.std.proofs.lemmas.List.{length-set}
use Rattle.plan_rule.proofs.Sought.{delays_none, delays_taken, sought_inside}
use Rattle.plan_rule.proofs.rechunk.delay.Goals as goal

pub take-entry-requires : goal.take-entry-requires
take-entry-requires c = sought_inside c.args.lp.now _ c.requires.0 c.in-Some.found c.requires.1 (sym c.in-Some.is ∙ c.in_ok-first_sought.ensures c.requires.0 c.requires.1)

pub put-requires : goal.put-requires
put-requires c =
    let lt = sought_inside c.args.lp.now _ c.requires.0 c.in-Some.found c.requires.1 (sym c.in-Some.is ∙ c.in_ok-first_sought.ensures c.requires.0 c.requires.1) in
    let same = ap length c.take-entry.ensures.after.2 ∙ length-set c.args.lp.now c.in-Some.found.0 c.take-entry.ensures.after.0 in
    omega (arith, lt, same)

pub returns-in-None-clause-delays : goal.returns-in-None-clause-delays
returns-in-None-clause-delays c = λ t h. delays_none c.args.lp.now _ t h (sym (c.in_ok-first_sought.ensures t h) ∙ c.in-None.is)

pub returns-in-Some-clause-delays : goal.returns-in-Some-clause-delays
returns-in-Some-clause-delays c = λ t h. rw (c.put.ensures, c.take-entry.ensures.after.2, c.unmark.ensures) (delays_taken c.args.lp.now _ t c.in-Some.found c.take-entry.result c.take-entry.ensures.after.0 h (sym c.in-Some.is ∙ c.in_ok-first_sought.ensures t h) c.take-entry.ensures.given)
