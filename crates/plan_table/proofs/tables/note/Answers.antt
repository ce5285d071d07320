use Rattle.std.proofs.Common.{◌≡◌, ◌∙◌, ap, sym, subst, List, ℕ, ◌++◌, ◌∷◌, [], None}
use Rattle.std.specs.Prelude.{string_bytes}
use Rattle.std.specs.Map.{lookup}
use Rattle.std.specs.Str.{bytes_eq}
use Rattle.plan_table.specs.Places.{places_seen, places_from, noted}
use Rattle.plan_table.specs.declared.source_key.SourceKey.{SourceKey}
use Rattle.plan_table.proofs.PlaceLemmas.{noted-last}
use Rattle.plan_table.proofs.tables.note.Goals as goal

pub returns-in_ok-insert-clause-after : goal.returns-in_ok-insert-clause-after
returns-in_ok-insert-clause-after c =
    let is : string_bytes c.in_ok-name.name ≡ c.in-Path.path = rw c.in_ok-name.ensures.ok c.as_str.ensures in
    let none : lookup (bytes_eq (string_bytes c.in_ok-name.name)) (places_seen c.args.paths.now.entries) ≡ None = rw is (subst (λ (k : SourceKey). noted k (places_seen c.args.paths.now.entries) ≡ None) c.in-Path.is c.requires) in
    ap places_seen c.in_ok-insert.ensures.entries
    ∙ noted-last c.args.paths.now.entries c.in_ok-name.name c.args.place none
    ∙ ap (λ (a : List ℕ). places_seen c.args.paths.now.entries ++ (a, c.args.place) ∷ []) is
    ∙ ap (λ (k : SourceKey). places_seen c.args.paths.now.entries ++ places_from c.args.place (k ∷ [])) (sym c.in-Path.is)
