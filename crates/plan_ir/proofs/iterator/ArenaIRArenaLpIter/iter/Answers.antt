use Rattle.std.proofs.Common.{◌∙◌}
use Rattle.plan_ir.proofs.WalkLemmas.{once}
use Rattle.plan_ir.proofs.iterator.ArenaIRArenaLpIter.iter.Goals as goal

pub returns-clause-once : goal.returns-clause-once
returns-clause-once c = once c.args.self.now c.args.root _ c.requires (c.new.ensures ∙ c.in_ok-numbered.ensures)
