use Rattle.std.proofs.Common.{◌∙◌, ◌%◌, ◌^◌, ℕ, List, Option, rules, ap, arith, to_z}
use Rattle.std.specs.Borrow.{Bor}
use Rattle.std.specs.Int.{w64}
use Rattle.std.proofs.lemmas.Int.{to_z-of_z}
use Rattle.std.proofs.lemmas.List.{take_all}
use Rattle.plan_meaning.specs.Mapped.{rows_together}
use Rattle.plan_file_tables.specs.Parts.{frame_found, frames_found}
use Rattle.plan_table.specs.declared.table.Table.{Table}
use Rattle.plan_function_tables.proofs.CountLemmas.{cut-next, cut-same}
use Rattle.plan_function_tables.proofs.FunctionLemmas.{cut-wrapped}
use Rattle.plan_function_tables.proofs.count.rows_together.Goals.{in-Some, in-None}
use Rattle.plan_function_tables.proofs.count.rows_together.Goals as goal

pub loop-table-preserved : goal.loop-table-preserved
loop-table-preserved c =
    let ts = c.args.tables.now in
    let i = c.loop-table.table-index in
    let height : Option (Bor Table) → ℕ = λ (t : Option (Bor Table)). (frame_found t).height in
    elim c.match-table.branch [
      | in-Some w ↦ w.rows-is ∙ cut-next ts i c.loop-table.rows w.in-Some.table.now.height c.table-item.result c.loop-table-test.true c.table-item.is (ap height w.in-Some.is) c.loop-table.invariant
      | in-None w ↦
          w.rows-is
          ∙ cut-same c.loop-table.rows _ c.loop-table.invariant
          ∙ cut-next ts i c.loop-table.rows 0 c.table-item.result c.loop-table-test.true c.table-item.is (ap height w.in-None.is) c.loop-table.invariant
    ]

pub returns : goal.returns
returns c =
    let ts = c.args.tables.now in
    to_z-of_z w64 c.cast_signed.result (search rules)
    ∙ c.cast_signed.ensures
    ∙ ap (to_z w64) (c.loop-table.invariant ∙ ap (λ (l : List (Option (Bor Table))). rows_together (frames_found l) % 2 ^ 64) (take_all c.loop-table.table-index ts (omega arith)))
    ∙ cut-wrapped (rows_together (frames_found ts))
