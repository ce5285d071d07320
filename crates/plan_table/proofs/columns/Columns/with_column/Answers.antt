use Rattle.std.proofs.Common.{◌∙◌, ◌≡◌, ap, refl}
use Rattle.std.specs.Prelude.{string_bytes}
use Rattle.plan_table.proofs.EntryLemmas.{with_column-seen, named-inserted}
use Rattle.plan_table.specs.Entries.{seen}
use Rattle.plan_table.proofs.columns.Columns.with_column.Goals as goal

pub invariant_of-self-2 : goal.invariant_of-self-2
invariant_of-self-2 c =
    let is : string_bytes c.in_ok-name.name ≡ c.args.column.name = rw c.in_ok-name.ensures.ok c.as_str.ensures in
    (c.insert.ensures.unique, rw c.in_ok-insert.ensures.entries (named-inserted c.self.inside.columns.entries c.in_ok-name.name c.args.column is c.self.invariant.1))

pub returns-clause-after : goal.returns-clause-after
returns-clause-after c =
    let is : string_bytes c.in_ok-name.name ≡ c.args.column.name = rw c.in_ok-name.ensures.ok c.as_str.ensures in
    ap seen c.in_ok-insert.ensures.entries ∙ with_column-seen c.self.inside.columns.entries c.in_ok-name.name c.args.column is c.self.invariant.1 ∙ rw c.self.view_is refl
