use Rattle.std.proofs.Common.{List, Some, Option, option_map, sym, ap, ◌∙◌}
use Rattle.std.specs.Prelude.{String, string_bytes}
use Rattle.std.specs.declared.alloc.Global.{Global}
use Rattle.plan_expr.specs.Leaves.{Name}
use Rattle.plan_meaning.specs.Functions.{name_in}
use Rattle.plan_schema.proofs.RenameLemmas.{name_in-seen}
use Rattle.plan_schema.proofs.renaming.Renaming.get.Goals as goal

pub returns-in-None-clause-none : goal.returns-in-None-clause-none
returns-in-None-clause-none c =
    ap (λ (l : List (Name × Name)). name_in l c.args.name.now) (sym c.self.view_is)
    ∙ sym (name_in-seen c.self.inside.names.entries c.args.name.now)
    ∙ sym (ap (λ (o : Option (String Global)). option_map string_bytes o) c.in-None.ensures.value)

pub returns-in-Some-clause-some : goal.returns-in-Some-clause-some
returns-in-Some-clause-some c =
    ap (λ (l : List (Name × Name)). name_in l c.args.name.now) (sym c.self.view_is)
    ∙ sym (name_in-seen c.self.inside.names.entries c.args.name.now)
    ∙ sym (ap (λ (o : Option (String Global)). option_map string_bytes o) c.in-Some.ensures.value)
    ∙ ap (λ (a : Name). Some a) (sym c.as_str.ensures.value)
