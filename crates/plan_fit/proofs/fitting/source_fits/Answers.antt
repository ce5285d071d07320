use Rattle.std.proofs.Common.{[]}
use Rattle.plan_meaning.specs.Typing.{columns_or}
use Rattle.plan_scan.specs.Sources.{source_of}
use Rattle.plan_fit.specs.Sources.{key_of}
use Rattle.plan_fit.proofs.FitLemmas.{met-found}
use Rattle.plan_fit.proofs.fitting.source_fits.Goals as goal

pub returns-in-Some-clause-met : goal.returns-in-Some-clause-met
returns-in-Some-clause-met c =
    met-found c.args.tables.now (key_of (source_of c.args.source)) (columns_or c.args.columns.now []) c.in-Some.table.now c.has_file.result c.in-Some.ensures.found c.has_file.ensures
