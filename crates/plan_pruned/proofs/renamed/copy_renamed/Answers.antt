use Rattle.std.proofs.Common.{◌∙◌, ap}
use Rattle.std.specs.Option.{unwrap_or}
use Rattle.plan_tree.proofs.ReadLemmas.{tree_at-stands}
use Rattle.plan_tree.specs.Read.{tree_at}
use Rattle.plan_expr.specs.Operands.{expr_shape}
use Rattle.plan_meaning.specs.Functions.{names_now, renamed}
use Rattle.plan_pruned.proofs.RenamedLemmas.{renamed-alike}
use Rattle.plan_pruned.proofs.renamed.copy_renamed.Goals as goal

pub copy_listed-requires-clause-in_order : goal.copy_listed-requires-clause-in_order
copy_listed-requires-clause-in_order c =
    c.as_slice.ensures ∙ c.in_ok-listed.ensures.in_order (tree_at expr_shape c.args.ex.now c.args.node) (tree_at-stands expr_shape c.args.ex.now c.args.node c.requires.stands.0 c.requires.stands.1)

pub returns-clause-copied : goal.returns-clause-copied
returns-clause-copied c =
    renamed-alike (names_now c.in_ok-names.names) (renamed c.args.from.now c.args.to.now) (λ a. ap (λ o. unwrap_or o a) (c.in_ok-names.ensures a)) c.args.ex.now c.copy_listed.new.ex c.args.node c.copy_listed.result c.copy_listed.ensures.copied
