use Rattle.std.proofs.Common.{ℕ, List, ap, length}
use Rattle.std.proofs.iter.runs.Sources.{from_front}
use Rattle.std.specs.Map.Iter.{TakesFirst, deref_pair}
use Rattle.plan_core.specs.declared.data_type.DataType.{DataType}
use Rattle.plan_core.proofs.schema.Schema.iter.Goals as goal

pub returns-clause-runs : goal.returns-clause-runs
returns-clause-runs c =
    from_front (TakesFirst (deref_pair {K = List ℕ} {X = DataType})) deref_pair (λ s. s) (λ s t h. ap length h.0) (λ s x t h. h)
