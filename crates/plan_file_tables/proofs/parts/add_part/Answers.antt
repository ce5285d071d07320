use Rattle.std.proofs.Common.{refl, subst, sym, ◌++◌, ◌∷◌, [], List}
use Rattle.std.specs.Prelude.{IsTrue}
use Rattle.plan_file_tables.specs.Parts.{GiveSame, part_shown, parts_shown}
use Rattle.plan_file_tables.specs.declared.parts.Part.{Part as Lent}
use Rattle.plan_file_tables.proofs.SameLemmas.{with-one, without-bare}
use Rattle.plan_file_tables.proofs.parts.add_part.Goals as goal

pub returns-then-gives_nothing : goal.returns-then-gives_nothing
returns-then-gives_nothing c = without-bare (parts_shown c.args.parts.now) (part_shown c.args.part.now) (c.gives_nothing.ensures (subst IsTrue (sym c.if-gives_nothing.true) refl))

pub returns : goal.returns
returns c = subst (λ (ls : List Lent). GiveSame (parts_shown ls) (parts_shown c.args.parts.now ++ part_shown c.args.part.now ∷ [])) (sym c.in_ok-push.ensures.pushed) (with-one c.args.parts.now c.args.part.now)
