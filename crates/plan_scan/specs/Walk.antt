-- What is left of a walk over sources.
use Rattle.std.specs.Prelude.{List, map}
use Rattle.std.specs.Slice.Iter.{iter_rest}
use Rattle.plan_scan.specs.Source.{Source, file, buffer}
use Rattle.plan_scan.specs.declared.source_iter.Walk.{Walk}
use Rattle.plan_scan.specs.declared.source_iter.Walk.TheVariants.{Paths, Buffers}

-- the sources that are left
abbrev pub walk_rest : Walk → List Source
walk_rest (Paths paths) = map file (iter_rest paths)
walk_rest (Buffers numbers) = map buffer (iter_rest numbers)
