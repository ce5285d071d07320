use Rattle.std.proofs.Common.{◌∙◌, ◌++◌, ◌∷◌, [], List, ap, ap₂}
use Rattle.plan_expr.specs.Exprs.{all_named_at, Named}
use Rattle.plan_expr.specs.Leaves.{Name}
use Rattle.plan_join.specs.declared.origin.Side.TheVariants as sides
use Rattle.plan_join.specs.Told.{told_at}
use Rattle.plan_meaning.specs.JoinAsked.{needed_of, origin_of, side_asked}
use Rattle.plan_prune_parts.specs.Origins.{origin_in}
use Rattle.plan_prune_parts.proofs.AskLemmas.{asked-alike}
use Rattle.plan_prune_parts.proofs.sides.asks.Goals as goal

pub returns : goal.returns
returns c =
    let ls : List Named = all_named_at c.args.ex.now c.args.left_on.now in
    let rs : List Named = all_named_at c.args.ex.now c.args.right_on.now in
    let by = origin_in c.args.origins.now in
    let own = origin_of ls rs (told_at c.args.ex.now c.args.options.now) c.args.left.now c.args.right.now in
    let needed : List Name = needed_of (told_at c.args.ex.now c.args.options.now) c.args.asked.now in
    let list = c.as_slice-needed.ensures ∙ c.in_ok-needed.ensures in
    c.in_ok-push-2.ensures.pushed
    ∙ ap₂ (λ (x : List (List Name)) (y : List Name). x ++ y ∷ []) (c.in_ok-push.ensures.pushed ∙ ap₂ (λ (x : List (List Name)) (y : List Name). x ++ y ∷ []) c.new-lists.ensures (c.in_ok-side_names.ensures ∙ ap (side_asked sides.Left ls by c.args.left.now) list ∙ asked-alike sides.Left ls by own c.args.left.now needed c.requires.origins)) (c.in_ok-side_names-2.ensures ∙ ap (side_asked sides.Right rs by c.args.right.now) list ∙ asked-alike sides.Right rs by own c.args.right.now needed c.requires.origins)
