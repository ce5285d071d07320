use Rattle.std.proofs.Common.{◌≡◌, ◌∙◌, ap, sym, is_some, true, false, Option, ℕ}
use Rattle.plan_core.specs.Names.{has}
use Rattle.plan_prune_names.proofs.RenamingParts.{placed}
use Rattle.plan_prune_names.proofs.renaming.is_free.Goals as goal

pub returns-else-is_none-clause-taken : goal.returns-else-is_none-clause-taken
returns-else-is_none-clause-taken c = λ no. sym (placed c.args.old.now c.args.name.now) ∙ ap (λ (o : Option ℕ). is_some o) (sym c.get-else-is_none.ensures) ∙ sym c.is_some.ensures ∙ no

pub returns-else-is_none-clause-free : goal.returns-else-is_none-clause-free
returns-else-is_none-clause-free c = λ yes absent.
    let there : has c.args.old.now c.args.name.now ≡ true = sym (placed c.args.old.now c.args.name.now) ∙ ap (λ (o : Option ℕ). is_some o) (sym c.get-else-is_none.ensures) ∙ sym c.is_some.ensures ∙ yes in
    let not_there : has c.args.old.now c.args.name.now ≡ false = absent in
    cc
