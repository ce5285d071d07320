use Rattle.std.proofs.Common.{◌++◌, ◌∙◌, ap, sym, ℕ, Option}
use Rattle.std.specs.Prelude.{option_to_list}
use Rattle.std.proofs.lemmas.Result.{on_ok_weaker}
use Rattle.plan_prune_names.proofs.KnownLemmas.{lays-below}
use Rattle.plan_prune_names.proofs.known_columns.KnownColumns.descend.Goals as goal

pub returns-in-Some : goal.returns-in-Some
returns-in-Some c = on_ok_weaker c.undo.result (λ u. λ n function ts rest knows yes.
    lays-below c.args.self.now c.undo.new.self function n ts rest c.in-Some.count c.pop.new.self.items
    (c.pop.ensures.items ∙ ap (λ (o : Option ℕ). c.pop.new.self.items ++ option_to_list o) c.in-Some.is)
    u.2 u.0 u.1 (knows (sym c.undo.ensures.same ∙ yes))) c.undo.ensures.undone
