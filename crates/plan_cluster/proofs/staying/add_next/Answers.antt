use Rattle.std.proofs.Common.{◌≡◌, ◌∙◌, ap, sym, subst, List}
use Rattle.std.specs.Result.{OnOk}
use Rattle.plan_core.specs.Names.{with_names}
use Rattle.plan_expr.specs.Leaves.{Name}
use Rattle.plan_cluster.proofs.NextLemmas.{awaits-at, awaits-none, found-stands}
use Rattle.plan_cluster.proofs.staying.add_next.Goals as goal

pub add_awaited-requires : goal.add_awaited-requires
add_awaited-requires c = found-stands c.args.ex.now c.args.upper.now c.args.found.now c.args.place c.in-Some.node c.requires.stand (sym c.found_node.ensures ∙ c.in-Some.is)

pub returns-in-Some : goal.returns-in-Some
returns-in-Some c =
    subst (λ (l : List Name). OnOk c.add_awaited.result (c.add_awaited.new.found ≡ l))
    (ap (with_names c.args.found.now) (awaits-at c.args.ex.now c.args.upper.now c.args.places.now c.args.lower.now c.args.found.now c.args.place c.in-Some.node c.requires.places (sym c.found_node.ensures ∙ c.in-Some.is)))
    c.add_awaited.ensures

pub returns-in-None : goal.returns-in-None
returns-in-None c = ap (with_names c.args.found.now) (awaits-none c.args.ex.now c.args.upper.now c.args.lower.now c.args.found.now c.args.place (sym c.found_node.ensures ∙ c.in-None.is))
