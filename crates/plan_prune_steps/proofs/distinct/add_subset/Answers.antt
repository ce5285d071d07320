use Rattle.std.proofs.Common.{◌∙◌, List, Option, ap, sym}
use Rattle.std.proofs.lemmas.Result.{on_ok_weaker}
use Rattle.plan_core.specs.Columns.{names_of}
use Rattle.plan_core.specs.Names.{with_names}
use Rattle.plan_expr.specs.Leaves.{Name}
use Rattle.plan_frame.specs.Frames.{names_or}
use Rattle.plan_prune_parts.specs.Said.{columns_at}
use Rattle.plan_prune_steps.proofs.distinct.add_subset.Goals as goal

pub returns-in-None-clause-names : goal.returns-in-None-clause-names
returns-in-None-clause-names c = on_ok_weaker c.add_columns_at.result (λ is. λ ex. is ex ∙ ap (λ (o : Option (List Name)). with_names c.args.names.now (names_or o (names_of (columns_at c.args.lp.now ex c.args.input)))) (sym c.in-None.is)) c.add_columns_at.ensures.names
