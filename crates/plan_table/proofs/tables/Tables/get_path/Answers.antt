use Rattle.std.proofs.Common.{◌≡◌, ◌∙◌, None, refl, sym, rules}
use Rattle.std.specs.Option.{option_copied}
use Rattle.plan_table.proofs.PlaceLemmas.{path-at, path-there, path-nowhere}
use Rattle.plan_table.proofs.TableLemmas.{formed-at}
use Rattle.plan_table.specs.declared.source_key.SourceKey.TheVariants.{Path}
use Rattle.plan_table.proofs.tables.Tables.get_path.Goals as goal

pub returns-in_err-place-clause-found : goal.returns-in_err-place-clause-found
returns-in_err-place-clause-found c =
    let none : option_copied c.from_residual.result ≡ None = search rules in
    none ∙ sym (path-at c.self.inside.tables.entries c.self.inside.paths.entries c.self.invariant.places c.args.path.now None c.in_err-place.ensures.value) ∙ rw c.self.view_is refl

pub returns-in-None-clause-found : goal.returns-in-None-clause-found
returns-in-None-clause-found c =
    path-nowhere c.self.inside.tables.entries c.self.inside.paths.entries c.self.invariant.places c.args.path.now c.in_ok-place.place.now c.in_ok-place.ensures.value c.in-None.ensures.entry
    ∙ rw c.self.view_is refl

pub returns-in-Some-clause-found : goal.returns-in-Some-clause-found
returns-in-Some-clause-found c =
    path-there c.self.inside.tables.entries c.self.inside.paths.entries c.self.invariant.places c.args.path.now c.in_ok-place.place.now (c.in-Some.field-0-0.now, c.in-Some.table.now) c.in_ok-place.ensures.value c.in-Some.ensures.entry
    ∙ rw c.self.view_is refl

pub returns-in-Some-clause-formed : goal.returns-in-Some-clause-formed
returns-in-Some-clause-formed c =
    formed-at c.self.inside.tables.entries (Path c.args.path.now) c.in-Some.table.now c.self.invariant.tables.1
    (sym (path-there c.self.inside.tables.entries c.self.inside.paths.entries c.self.invariant.places c.args.path.now c.in_ok-place.place.now (c.in-Some.field-0-0.now, c.in-Some.table.now) c.in_ok-place.ensures.value c.in-Some.ensures.entry))
