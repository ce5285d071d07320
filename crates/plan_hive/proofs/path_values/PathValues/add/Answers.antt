use Rattle.std.proofs.Common.{◌≡◌, ◌∙◌, List, true, false, not, sym, ap, refl}
use Rattle.std.specs.Prelude.{string_bytes}
use Rattle.plan_core.specs.Names.{has}
use Rattle.plan_hive.specs.Parts.{Text, HivePart, part_names}
use Rattle.plan_hive.proofs.EntryLemmas.{seen, key-has, insert-seen, lookup-absent}
use Rattle.plan_hive.proofs.path_values.PathValues.add.Goals as goal

pub returns-then-contains_key-clause-added : goal.returns-then-contains_key-clause-added
returns-then-contains_key-clause-added c =
    let there : true ≡ has (part_names c.args.self.now) c.args.name.now =
    sym c.if-contains_key.true ∙ c.contains_key.ensures ∙ key-has c.self.inside.values.entries c.args.name.now ∙ ap (λ (parts : List HivePart). has (part_names parts) c.args.name.now) c.self.view_is in
    ap not there

pub returns-clause-added : goal.returns-clause-added
returns-clause-added c =
    let there : false ≡ has (part_names c.args.self.now) c.args.name.now =
    sym c.if-contains_key.false ∙ c.contains_key.ensures ∙ key-has c.self.inside.values.entries c.args.name.now ∙ ap (λ (parts : List HivePart). has (part_names parts) c.args.name.now) c.self.view_is in
    ap not there

pub returns-clause-after : goal.returns-clause-after
returns-clause-after c =
    let es = c.self.inside.values.entries in
    let key = c.in_ok-from_str.field-0 in
    let absent : has (part_names (seen es)) (string_bytes key) ≡ false =
    ap (λ (a : Text). has (part_names (seen es)) a) c.in_ok-from_str.ensures.ok ∙ sym (sym c.if-contains_key.false ∙ c.contains_key.ensures ∙ key-has es c.args.name.now) in
    ap seen c.in_ok-insert.ensures.entries ∙ insert-seen es key c.args.value (lookup-absent (seen es) (string_bytes key) absent) ∙ rw (c.self.view_is, c.in_ok-from_str.ensures.ok) refl
