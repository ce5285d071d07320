use Rattle.std.proofs.Common.{◌∙◌}
use Rattle.plan_check.proofs.GroupFaults.{both_stand}
use Rattle.plan_check.proofs.group_by.check_group.Goals as goal

pub check_leaves-requires : goal.check_leaves-requires
check_leaves-requires c = both_stand c.args.ex.now c.args.keys.now c.args.aggs.now c.as_slice-exprs.result.now (c.as_slice-exprs.ensures ∙ c.in_ok-copies.ensures) c.requires.keys c.requires.aggs

pub check_namings-requires : goal.check_namings-requires
check_namings-requires c = both_stand c.args.ex.now c.args.keys.now c.args.aggs.now c.as_slice-exprs.result.now (c.as_slice-exprs.ensures ∙ c.in_ok-copies.ensures) c.requires.keys c.requires.aggs
