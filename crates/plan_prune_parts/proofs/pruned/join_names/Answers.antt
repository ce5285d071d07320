use Rattle.std.proofs.Common.{◌∙◌}
use Rattle.plan_prune_parts.proofs.KeyLemmas.{within}
use Rattle.plan_prune_parts.proofs.NameLemmas.{names_are}
use Rattle.plan_prune_parts.proofs.pruned.join_names.Goals as goal

pub left_rest-requires : goal.left_rest-requires
left_rest-requires c = within c.args.ex.now c.args.left_on.now c.requires

pub returns-clause-now : goal.returns-clause-now
returns-clause-now c = names_are c.args.args.now c.args.ex.now c.args.left_on.now c.args.left.now c.args.origins c.in_ok-suffix.suffix c.in_ok-rest.rest c.requires (c.in_ok-suffix.ensures ∙ c.suffix.ensures) c.in_ok-rest.ensures
