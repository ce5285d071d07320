use Rattle.std.proofs.Common.{◌∙◌}
use Rattle.plan_prune_parts.specs.Left.{condition_nodes, top_nodes}
use Rattle.plan_prune_parts.proofs.JoinLongerLemmas.{longer-longer, stand_before, told-longer}
use Rattle.plan_prune_parts.proofs.TopLemmas.{longer-length}
use Rattle.plan_prune_parts.proofs.pruned.named_join.Goals as goal

pub returns-clause-told : goal.returns-clause-told
returns-clause-told c =
    told-longer c.options_now.new.ex c.top_of.new.ex c.in_ok-options.options c.in_ok-top.ensures.longer c.in_ok-options.ensures.stands
    ∙ c.in_ok-options.ensures.told

pub returns-clause-place : goal.returns-clause-place
returns-clause-place c =
    stand_before c.args.ex.now c.options_now.new.ex c.top_of.new.ex (top_nodes c.in_ok-top.top) (condition_nodes c.in_ok-options.options) (condition_nodes c.args.options) c.in_ok-top.ensures.longer
    (longer-length c.args.ex.now c.options_now.new.ex c.in_ok-options.ensures.longer) c.in_ok-options.ensures.place c.in_ok-top.ensures.place

pub returns-clause-longer : goal.returns-clause-longer
returns-clause-longer c = longer-longer c.args.ex.now c.options_now.new.ex c.top_of.new.ex c.in_ok-options.ensures.longer c.in_ok-top.ensures.longer
