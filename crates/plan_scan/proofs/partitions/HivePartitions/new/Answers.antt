use Rattle.std.proofs.Common.{◌∙◌, List, sym, ap, subst}
use Rattle.plan_table.specs.declared.value.AnyValue.{AnyValue}
use Rattle.plan_scan.specs.Stats.{Stats, with_values, AreOf, Fits}
use Rattle.plan_scan.proofs.StatLemmas.{fitting}
use Rattle.plan_scan.proofs.partitions.HivePartitions.new.Goals as goal

pub stats_with-requires : goal.stats_with-requires
stats_with-requires c = subst (λ (vs : List AnyValue). Fits c.args.schema vs) (sym c.as_slice.ensures) c.requires

pub of-requires : goal.of-requires
of-requires c = subst (λ (ss : Stats). AreOf c.args.schema ss) (sym (c.in_ok-column_stats.ensures ∙ ap (with_values c.args.schema) c.as_slice.ensures)) (fitting c.args.schema c.args.values c.requires)
