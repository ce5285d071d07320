use Rattle.std.proofs.lemmas.Option.{IfSome_then}
use Rattle.plan_prune_parts.specs.Said.{columns_at}
use Rattle.plan_prune_names.proofs.renaming.renamed_names.Goals as goal

pub told_or-requires-clause-told : goal.told_or-requires-clause-told
told_or-requires-clause-told c = IfSome_then c.in_ok-told.told c.in_ok-told.ensures (λ names is. λ ex. is (columns_at c.args.lp.now ex c.args.input) (c.in_ok-know.ensures.shows ex))
