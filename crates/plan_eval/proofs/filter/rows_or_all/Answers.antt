use Rattle.std.proofs.Common.{◌≡◌, List, Option, ℕ, sym, subst}
use Rattle.std.specs.List.{range_with_len}
use Rattle.std.specs.Option.{unwrap_or}
use Rattle.plan_fit.proofs.FormedLemmas.{columns-have}
use Rattle.plan_frame.specs.Frames.{rows_at}
use Rattle.plan_value.specs.Shown.{frame_of, schema_of}
use Rattle.plan_eval.proofs.TurnLemmas.{all-rows}
use Rattle.plan_eval.proofs.filter.rows_or_all.Goals as goal

pub returns-in-None-clause-frame : goal.returns-in-None-clause-frame
returns-in-None-clause-frame c =
    let t = c.args.table in
    subst (λ (o : Option (List ℕ)). frame_of t ≡ rows_at (unwrap_or o (range_with_len 0 t.height)) (frame_of t)) (sym c.in-None.is)
    (sym (all-rows (frame_of t) (schema_of t) (columns-have t.height t.columns c.requires)))
