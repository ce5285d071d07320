use Rattle.std.proofs.Common.{◌≡◌, ◌∙◌, ◌++◌, ◌∷◌, [], List, ℕ, length, ◌+◌, arith, ap, ap₂, refl, sym, subst}
use Rattle.std.specs.Map.{keys_of}
use Rattle.std.specs.List.{AllByRecursion}
use Rattle.plan_table.proofs.TableLemmas.{added-last, formed-added, distinct-keys}
use Rattle.plan_table.proofs.PlaceLemmas.{absent-noted, places-more}
use Rattle.plan_table.specs.Places.{places_from}
use Rattle.plan_table.specs.declared.source_key.SourceKey.{SourceKey}
use Rattle.plan_table.specs.declared.table.Table.{Table}
use Rattle.plan_table.specs.Tables.{IsTable}
use Rattle.plan_table.proofs.tables.Tables.add.Goals as goal

pub note-requires : goal.note-requires
note-requires c = rw c.self.invariant.places (absent-noted c.self.inside.tables.entries c.args.key 0 (rw c.self.view_is c.requires.absent))

pub returns-clause-after : goal.returns-clause-after
returns-clause-after c =
    c.in_ok-insert.ensures.entries
    ∙ rw c.in_ok-reserve.ensures.entries (added-last c.self.inside.tables.entries c.args.key c.args.table (rw c.self.view_is c.requires.absent))
    ∙ ap (λ (ts : List (SourceKey × Table)). ts ++ (c.args.key, c.args.table) ∷ []) c.self.view_is

pub invariant_of-self-2 : goal.invariant_of-self-2
invariant_of-self-2 c =
    let grown : c.insert.new.self.entries ≡ c.self.inside.tables.entries ++ (c.args.key, c.args.table) ∷ [] =
    c.in_ok-insert.ensures.entries
    ∙ rw c.in_ok-reserve.ensures.entries (added-last c.self.inside.tables.entries c.args.key c.args.table (rw c.self.view_is c.requires.absent))
    in
    let place : c.len-place.result ≡ length c.self.inside.tables.entries = c.len-place.ensures.len ∙ rw c.in_ok-reserve.ensures.entries refl in
    let first : length c.self.inside.tables.entries ≡ 0 + length c.self.inside.tables.entries = omega arith in
    record {
      tables = (
        distinct-keys (keys_of c.insert.new.self.entries) c.insert.ensures.unique,
        subst (λ (ts : List (SourceKey × Table)). AllByRecursion (λ (p : SourceKey × Table). IsTable p.1) ts) (sym grown)
            (formed-added c.self.inside.tables.entries (c.args.key, c.args.table) c.self.invariant.tables.1 c.requires.formed),
      );
      places =
          c.in_ok-note.ensures.after
          ∙ ap₂ (λ (l : List (List ℕ × ℕ)) (n : ℕ). l ++ places_from n (c.args.key ∷ [])) c.self.invariant.places (place ∙ first)
          ∙ sym (places-more 0 c.self.inside.tables.entries (c.args.key, c.args.table))
          ∙ ap (λ (ts : List (SourceKey × Table)). places_from 0 (keys_of ts)) (sym grown);
    }
