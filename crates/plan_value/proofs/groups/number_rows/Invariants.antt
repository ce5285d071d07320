use Rattle.std.specs.Cmp.Lexicographic.{pointwise}
use Rattle.plan_table.specs.contracts.value.AnyValuePartialEq.TheImpl.{ghosts}
use Rattle.plan_value.specs.Groups.{key_at}
use Rattle.plan_value.proofs.GroupLemmas.{HavePlaces}
use Rattle.plan_value.proofs.groups.number_rows.Given as goal

-- the rows up to here have the numbers of their keys
abbrev pub invariant-loop-row : goal.invariant-loop-row
invariant-loop-row l = HavePlaces (pointwise ghosts.eq) (key_at l.keys) l.seen.keys l.numbers l.row
