use Rattle.std.proofs.Common.{length, take}
use Rattle.plan_pruned.specs.Renamed.{IsLonger}
use Rattle.plan_prune_parts.specs.Left.{name_now}
use Rattle.plan_prune_parts.proofs.TopLemmas.{ColumnsAt}
use Rattle.plan_prune_parts.proofs.top.named_exprs.Given as goal

-- the columns that the names up to here are now, of entries of an arena that only grew
abbrev pub invariant-loop-name : goal.invariant-loop-name
invariant-loop-name l = ColumnsAt (name_now l.names) (length l.initial.ex) l.ex l.exprs (take l.name-index l.asked) × IsLonger l.initial.ex l.ex
