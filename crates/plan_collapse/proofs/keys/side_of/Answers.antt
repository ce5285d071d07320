use Rattle.std.proofs.Common.{◌∙◌, ◌&&◌, true, not, ap}
use Rattle.std.specs.Option.{option_map_or}
use Rattle.plan_expr.specs.Exprs.{expr_at}
use Rattle.plan_expr.specs.Leaves.{Name, leaves}
use Rattle.plan_prune_parts.specs.Origins.{origin_in}
use Rattle.plan_collapse_laws.specs.CrossKeys.{is_from, is_side}
use Rattle.plan_collapse.proofs.SideFolds.{all_by, folding-end, folding-none}
use Rattle.plan_collapse.proofs.keys.side_of.Goals as goal

pub returns-then-is_none : goal.returns-then-is_none
returns-then-is_none c = λ j h side.
    all_by j c.args.origins.now h side (expr_at c.args.ex.now c.args.node)
    ∙ folding-none (origin_in c.args.origins.now) (leaves (expr_at c.args.ex.now c.args.node)) c.loop-name.found c.side_with-found.result c.in-Some.name.now c.loop-name.name-iterator c.next.new.self c.in-Some.ensures.steps c.loop-name.invariant.2
    (λ s. c.side_with-found.ensures s ∙ ap (λ (a : Name). option_map_or (is_side s) c.loop-name.found true && is_from s (origin_in c.args.origins.now a)) c.as_str.ensures) (ap not c.if-is_none.ensures) side

pub returns : goal.returns
returns c = λ j h side.
    all_by j c.args.origins.now h side (expr_at c.args.ex.now c.args.node)
    ∙ folding-end (origin_in c.args.origins.now) (leaves (expr_at c.args.ex.now c.args.node)) c.loop-name.found (rw c.in-None.ensures.steps.0 at c.loop-name.invariant.2) side
