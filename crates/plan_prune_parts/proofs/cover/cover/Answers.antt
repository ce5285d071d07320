use Rattle.std.proofs.Common.{◌∙◌, Option, ap, sym}
use Rattle.std.proofs.lemmas.Result.{on_ok_weaker}
use Rattle.plan_core.specs.Columns.{Columns}
use Rattle.plan_pruned.specs.Pruned.{asked_columns}
use Rattle.plan_prune_parts.specs.Said.{columns_at}
use Rattle.plan_prune_parts.specs.Tops.{covered_at}
use Rattle.plan_prune_parts.proofs.CoverLemmas.{cover_placed}
use Rattle.plan_prune_parts.proofs.cover.cover.Goals as goal

pub returns-in-Some-clause-placed : goal.returns-in-Some-clause-placed
returns-in-Some-clause-placed c = on_ok_weaker c.put_under.result (λ is ex.
    cover_placed c.put_under.new.lp c.args.lp.now c.take-entry.new.self c.args.node c.take-entry.result c.take-entry.ensures.after.0 c.in-Some.columns (asked_columns c.args.asked.now (columns_at c.args.lp.now ex c.args.node))
    is c.take-entry.ensures.after.2 c.take-entry.ensures.after.1 c.take-entry.ensures.given
    (sym (c.in_ok-columns.ensures ex) ∙ c.in-Some.is)) c.put_under.ensures.placed

pub returns-in-None-clause-placed : goal.returns-in-None-clause-placed
returns-in-None-clause-placed c = λ ex. ap (λ (o : Option Columns). covered_at o c.args.lp.now c.args.node) (sym c.in-None.is ∙ c.in_ok-columns.ensures ex)
