use Rattle.std.specs.Prelude.{[], IfSome}
use Rattle.std.specs.List.{AllByRecursion}
use Rattle.plan_scan.specs.Sources.{source_of, sources_of}
use Rattle.plan_fit.specs.Fitting.{AreFormed, HasOwn, IsMet, source_needs}
use Rattle.plan_meaning.specs.Typing.{columns_or}
use Rattle.plan_fit.proofs.fitting.sources_fit.Given as goal

-- what all sources need is met, by well-formed tables, if what those that are left need is, and else not; the one before has its table
abbrev pub invariant-loop-source : goal.invariant-loop-source
invariant-loop-source l =
    (AllByRecursion (IsMet l.tables) (source_needs (sources_of l.sources) (columns_or l.columns [])) → AllByRecursion (IsMet l.tables) (source_needs l.source-iterator (columns_or l.columns [])))
    × (AllByRecursion (IsMet l.tables) (source_needs l.source-iterator (columns_or l.columns [])) → AllByRecursion (IsMet l.tables) (source_needs (sources_of l.sources) (columns_or l.columns [])))
    × (AreFormed l.tables (source_needs l.source-iterator (columns_or l.columns [])) → AreFormed l.tables (source_needs (sources_of l.sources) (columns_or l.columns [])))
    × IfSome l.before (λ other. HasOwn l.tables (columns_or l.columns []) (source_of other))
