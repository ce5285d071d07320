use Rattle.std.proofs.Common.{◌∙◌, List, ℕ, ap, sym, refl, subst}
use Rattle.std.specs.Prelude.{IsTrue}
use Rattle.plan_fit.proofs.FormedLemmas.{columns-have}
use Rattle.plan_frame.specs.Frames.{rows_at}
use Rattle.plan_value.specs.Shown.{frame_of, schema_of}
use Rattle.plan_eval.proofs.TurnLemmas.{all-rows}
use Rattle.plan_eval.proofs.picked.picked.Goals as goal

pub returns-then-are_all-clause-frame : goal.returns-then-are_all-clause-frame
returns-then-are_all-clause-frame c =
    let t = c.args.table in
    let all = c.are_all.ensures (subst IsTrue (sym c.if-are_all.true) refl) in
    sym (all-rows (frame_of t) (schema_of t) (columns-have t.height t.columns c.requires)) ∙ ap (λ (rows : List ℕ). rows_at rows (frame_of t)) (sym all)
