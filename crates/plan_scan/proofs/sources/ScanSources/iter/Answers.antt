use Rattle.std.proofs.Common.{ap, length}
use Rattle.std.proofs.iter.runs.Sources.{from_front}
use Rattle.std.specs.Map.Iter.{TakesFirst}
use Rattle.plan_scan.specs.Sources.{source_of}
use Rattle.plan_scan.proofs.sources.ScanSources.iter.Goals as goal

pub returns-in-Paths-clause-runs : goal.returns-in-Paths-clause-runs
returns-in-Paths-clause-runs c = from_front (TakesFirst source_of) source_of (λ s. s) (λ s t h. ap length h.0) (λ s x t h. h)

pub returns-in-Buffers-clause-runs : goal.returns-in-Buffers-clause-runs
returns-in-Buffers-clause-runs c = from_front (TakesFirst source_of) source_of (λ s. s) (λ s t h. ap length h.0) (λ s x t h. h)
