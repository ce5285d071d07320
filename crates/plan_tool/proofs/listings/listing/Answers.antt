use Rattle.std.proofs.Common.{Option, subst}
use Rattle.std.specs.Prelude.{string_bytes}
use Rattle.plan_table.specs.declared.table.Table.{Table}
use Rattle.plan_tool.specs.Listings.{IsListOf}
use Rattle.plan_tool.proofs.listings.listing.Goals as goal

pub returns-clause-says : goal.returns-clause-says
returns-clause-says g c =
    let d = c.answered.new.document in
    c.in_ok-rows.ensures.lists (string_bytes c.in_ok-list.field-0)
    (subst (λ (rows : Option Table). IsListOf d.lp d.ex d.root rows (string_bytes c.in_ok-list.field-0)) c.as_ref.ensures.value c.in_ok-list.ensures)
