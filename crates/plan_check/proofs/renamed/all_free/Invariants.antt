use Rattle.std.proofs.Common.{◌≡◌}
use Rattle.plan_check.specs.Renamed.{all_free}
use Rattle.plan_check.proofs.renamed.all_free.Given as goal

-- all new names are free exactly where those that are left are
abbrev pub invariant-loop-old : goal.invariant-loop-old
invariant-loop-old l = all_free l.old_names l.columns l.existing l.new ≡ all_free l.old_names l.columns l.old-iterator.a.rest.now l.old-iterator.b.rest.now
