use Rattle.std.proofs.Common.{◌≡◌, ◌∙◌, ◌<◌, ℕ, length, sym, ap, subst}
use Rattle.std.specs.List.{AllByRecursion}
use Rattle.std.specs.Prelude.{All}
use Rattle.plan_scan.specs.Stats.{Stats, columns_of, stats_at, HasType}
use Rattle.plan_scan.proofs.StatLemmas.{typed-at}
use Rattle.plan_scan.proofs.partitions.HivePartitions.apply_projection.Goals as goal

pub copies_at-requires : goal.copies_at-requires
copies_at-requires c = subst (λ (ss : Stats). All (λ (i : ℕ). i < length ss) c.args.column_indices.now) (sym (c.column_stats.ensures.value ∙ c.self.view_is)) c.requires.within

pub new-requires : goal.new-requires
new-requires c =
    let ss = c.column_stats.result.now in
    let places = c.args.column_indices.now in
    let same : ss ≡ c.args.self.now = c.column_stats.ensures.value ∙ c.self.view_is in
    let typed : AllByRecursion HasType ss = subst (λ (x : Stats). AllByRecursion HasType x) (sym c.column_stats.ensures.value) c.column_stats.ensures.formed.typed in
    record {
      named = ap columns_of (c.in_ok-kept.ensures ∙ ap (λ (x : Stats). stats_at x places) same) ∙ c.requires.agree;
      typed = subst (λ (x : Stats). AllByRecursion HasType x) (sym c.in_ok-kept.ensures) (typed-at ss places typed);
    }
