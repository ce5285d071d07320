use Rattle.std.proofs.Common.{◌≡◌, ◌<◌, List, [], ◌∷◌, length, map, refl, ap₂, sym, subst, slice_index_or, arith}
use Rattle.std.specs.List.{AllByRecursion, remove}
use Rattle.plan_ir.specs.Plans.{union}
use Rattle.plan_meaning.specs.Typing.{AllHold, checks}
use Rattle.plan_table.specs.declared.table.Table.{Table}
use Rattle.plan_table.specs.Tables.{HasRows}
use Rattle.plan_value.specs.Shown.{schema_of}
use Rattle.plan_function_tables.specs.Given.{Gives}
use Rattle.plan_eval.proofs.TurnLemmas.{below-gives, some-united}
use Rattle.plan_eval.proofs.union.union.Goals as goal

-- the first of some tables, and the others
taken : (tables : List Table) (first : Table) (others : List Table) → 0 < length tables → first ≡ slice_index_or tables 0 first → others ≡ remove tables 0 → first ∷ others ≡ tables
taken [] first others some is left = absurd (omega (arith, some))
taken (t ∷ tables) first others some is left = ap₂ (λ (u : Table) (us : List Table). u ∷ us) is left

pub remove-first-requires : goal.remove-first-requires
remove-first-requires c = omega (arith, some-united c.requires.valid.0 c.args.tables.items c.requires.valid.1, c.args.tables.ok.0)

pub returns : goal.returns
returns c ts options =
    let tables = c.args.tables.items in
    let valid = c.requires.valid.0 in
    let made = c.in_ok-above_all.ensures in
    let is = taken tables c.remove-first.result c.remove-first.new.self.items (some-united valid tables c.requires.valid.1) c.remove-first.ensures.value c.remove-first.ensures.items in
    subst (λ (us : List Table). Gives ts (union options) us c.in_ok-above_all.field-0) is
    (below-gives ts valid options c.remove-first.result c.remove-first.new.self.items c.in_ok-above_all.field-0
    (subst (λ (us : List Table). AllHold (checks (union valid) (map schema_of us))) (sym is) c.requires.valid.1)
    (subst (AllByRecursion HasRows) (sym is) c.requires.rows)
    made.distinct made.frame made.types)
