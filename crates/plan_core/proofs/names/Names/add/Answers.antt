use Rattle.std.proofs.Common.{◌∙◌, ap, refl, not}
use Rattle.std.specs.Prelude.{string_bytes}
use Rattle.plan_core.proofs.NameLemmas.{bytes, has-seen, with-seen, distinct-seen}
use Rattle.plan_core.proofs.names.Names.add.Goals as goal

pub invariant_of-self-2 : goal.invariant_of-self-2
invariant_of-self-2 c = distinct-seen c.insert.new.self.keys c.insert.ensures.unique

pub returns-clause-added : goal.returns-clause-added
returns-clause-added c =
    c.in_ok-insert.ensures.added ∙ ap not (has-seen c.self.inside.names.keys (string_bytes c.in_ok-owned.owned)) ∙ rw (c.self.view_is, c.in_ok-owned.ensures.ok) refl

pub returns-clause-after : goal.returns-clause-after
returns-clause-after c =
    ap bytes c.in_ok-insert.ensures.keys ∙ with-seen c.self.inside.names.keys c.in_ok-owned.owned ∙ rw (c.self.view_is, c.in_ok-owned.ensures.ok) refl
