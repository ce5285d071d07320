use Rattle.plan_rule.proofs.rechunk.first_sought.Goals as goal

pub next_sought-requires : goal.next_sought-requires
next_sought-requires c = rw (c.in_ok-push.ensures.pushed, c.new-pending.ensures) c.requires

pub returns : goal.returns
returns c = rw (c.in_ok-push.ensures.pushed, c.new-pending.ensures) at c.next_sought.ensures
