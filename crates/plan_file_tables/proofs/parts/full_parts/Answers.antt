use Rattle.std.proofs.Common.{List, take, sym, subst, arith}
use Rattle.std.proofs.lemmas.List.{take_all}
use Rattle.plan_file_scan.specs.FileFrames.{Part}
use Rattle.plan_file_tables.specs.Parts.{GiveSame, part_shown, parts_shown}
use Rattle.plan_file_tables.specs.declared.parts.Part.{Part as Lent}
use Rattle.plan_file_tables.proofs.PartLemmas.{shown-next}
use Rattle.plan_file_tables.proofs.SameLemmas.{same-next}
use Rattle.plan_file_tables.proofs.parts.full_parts.Goals as goal

pub loop-part-preserved : goal.loop-part-preserved
loop-part-preserved c =
    let all : List Lent = c.args.parts.now in
    let i = c.loop-part.part-index in
    subst (λ (ps : List Part). GiveSame (parts_shown c.add_part.new.parts) ps) (sym (shown-next all i c.part-item.result c.loop-part-test.true c.part-item.is))
    (same-next _ (parts_shown c.loop-part.full) (parts_shown (take i all)) (part_shown c.part-item.result) c.in_ok-add_part.ensures c.loop-part.invariant)

pub returns : goal.returns
returns c = subst (λ (ps : List Lent). GiveSame (parts_shown c.loop-part.full) (parts_shown ps)) (take_all c.loop-part.part-index c.args.parts.now (omega arith)) c.loop-part.invariant
