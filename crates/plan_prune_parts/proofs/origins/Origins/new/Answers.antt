use Rattle.std.proofs.Common.{◌∙◌, ap, ap₂}
use Rattle.plan_core.specs.Columns.{Columns, names_of}
use Rattle.plan_options.specs.Join.{suffix_of}
use Rattle.plan_expr.specs.Leaves.{Name}
use Rattle.plan_join.specs.Naming.{key_columns}
use Rattle.plan_meaning.specs.Functions.{new_name}
use Rattle.plan_prune_parts.proofs.KeyLemmas.{within}
use Rattle.plan_prune_parts.proofs.OriginLemmas.{called_all, origin-found}
use Rattle.plan_prune_parts.proofs.origins.Origins.new.Goals as goal

pub left_rest-requires : goal.left_rest-requires
left_rest-requires c = within c.args.ex.now c.args.left_on.now c.requires.left_keys

pub right_rest-requires : goal.right_rest-requires
right_rest-requires c = within c.args.ex.now c.args.right_on.now c.requires.right_keys

pub returns : goal.returns
returns c =
    let args = c.args.args.now in
    let lk = key_columns c.args.ex.now c.args.left_on.now in
    let rk = key_columns c.args.ex.now c.args.right_on.now in
    let rest : Columns = c.in_ok-rest.rest in
    let others : Columns = c.in_ok-others.others in
    origin-found args lk rk c.args.left.now c.args.right.now (record { left = rest; right = c.in_ok-names.names }) c.in_ok-rest.ensures
    (λ b.
    c.in_ok-names.ensures b
    ∙ ap (λ (s : Name). new_name (called_all s (names_of rest) others) (names_of others) b) c.suffix.ensures
    ∙ ap₂ (λ (l r : Columns). new_name (called_all (suffix_of args) (names_of l) r) (names_of r) b) c.in_ok-rest.ensures c.in_ok-others.ensures)
