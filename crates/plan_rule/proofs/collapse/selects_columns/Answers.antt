use Rattle.plan_rule.proofs.collapse.selects_columns.Goals as goal

pub are_own_columns-requires : goal.are_own_columns-requires
are_own_columns-requires c = rw c.as_slice.ensures (rw c.in-Select.is at c.requires)
