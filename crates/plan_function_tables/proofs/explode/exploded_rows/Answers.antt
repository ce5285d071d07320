use Rattle.std.proofs.Common.{◌∙◌, ◌++◌, ℕ, List, ap₂, sym}
use Rattle.plan_function_tables.specs.Explode.{borrowed_columns, longest, row_places}
use Rattle.plan_function_tables.proofs.ExplodeLemmas.{rows-next}
use Rattle.plan_function_tables.proofs.explode.exploded_rows.Goals as goal

pub loop-row-preserved : goal.loop-row-preserved
loop-row-preserved c =
    let row = c.loop-row.row in
    c.in_ok-append_places.ensures
    ∙ ap₂ (λ (rows : List (ℕ × ℕ)) (times : ℕ). rows ++ row_places row times) c.loop-row.invariant c.longest.ensures
    ∙ sym (rows-next (longest (borrowed_columns c.args.lists.now)) row)
