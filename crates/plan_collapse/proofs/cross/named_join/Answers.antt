use Rattle.std.proofs.Common.{◌++◌}
use Rattle.plan_ir.specs.Parts.{list_of}
use Rattle.plan_prune_parts.proofs.LongerLemmas.{first_exprs, last_exprs}
use Rattle.plan_collapse.proofs.cross.named_join.Goals as goal

pub all_self_named-requires-clause-stands : goal.all_self_named-requires-clause-stands
all_self_named-requires-clause-stands c = first_exprs c.args.ex.now c.args.lefts.now (c.args.copies.now ++ list_of c.args.all) c.requires.stands

pub all_self_named-requires-2-clause-stands : goal.all_self_named-requires-2-clause-stands
all_self_named-requires-2-clause-stands c = first_exprs c.args.ex.now c.args.copies.now (list_of c.args.all) (last_exprs c.args.ex.now c.args.lefts.now (c.args.copies.now ++ list_of c.args.all) c.requires.stands)

pub named_if-requires-clause-stands : goal.named_if-requires-clause-stands
named_if-requires-clause-stands c = last_exprs c.args.ex.now c.args.copies.now (list_of c.args.all) (last_exprs c.args.ex.now c.args.lefts.now (c.args.copies.now ++ list_of c.args.all) c.requires.stands)
