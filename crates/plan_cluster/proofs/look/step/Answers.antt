use Rattle.std.proofs.Common.{◌≡◌, ◌∙◌, ◌∷◌, All, List, ap, reverse, subst}
use Rattle.std.proofs.lemmas.List.Elements.{All-head, All-tail}
use Rattle.plan_core.specs.declared.arena.Node.{Node}
use Rattle.plan_expr.specs.Operands.{IsExpr}
use Rattle.plan_cluster.specs.Layers.{IsOnce, layer_roots}
use Rattle.plan_cluster.specs.declared.layer.Layer.{Layer}
use Rattle.plan_cluster.proofs.LookLemmas.{none-popped, popped, pushed, top-stands, went-nowhere, went-on}
use Rattle.plan_cluster.proofs.look.step.Goals as goal

pub meet_layers-requires-clause-stand : goal.meet_layers-requires-clause-stand
meet_layers-requires-clause-stand c =
    let ex = c.args.ex.now in
    let was = c.args.todo.now.items in
    let between = c.pop.new.self.items in
    let top : reverse was ≡ c.in-Some.upper ∷ reverse between = popped was between c.pop.result c.in-Some.upper c.pop.ensures.items c.in-Some.is in
    top-stands ex c.in-Some.upper (reverse between) (subst (λ (ls : List Layer). All (λ (n : Node). IsExpr ex n) (layer_roots ls)) top c.requires.stand)

pub meet_layers-requires-clause-upper_once : goal.meet_layers-requires-clause-upper_once
meet_layers-requires-clause-upper_once c =
    let ex = c.args.ex.now in
    let was = c.args.todo.now.items in
    let between = c.pop.new.self.items in
    let top : reverse was ≡ c.in-Some.upper ∷ reverse between = popped was between c.pop.result c.in-Some.upper c.pop.ensures.items c.in-Some.is in
    All-head IsOnce c.in-Some.upper (reverse between) (subst (All IsOnce) top c.requires.once)

pub meet_layers-requires-clause-lower_once : goal.meet_layers-requires-clause-lower_once
meet_layers-requires-clause-lower_once c =
    let ex = c.args.ex.now in
    let was = c.args.todo.now.items in
    let between = c.pop.new.self.items in
    let top : reverse was ≡ c.in-Some.upper ∷ reverse between = popped was between c.pop.result c.in-Some.upper c.pop.ensures.items c.in-Some.is in
    let after = c.pop-2.new.self.items in
    let next : reverse between ≡ c.in-Some-pop.lower ∷ reverse after = popped between after c.pop-2.result c.in-Some-pop.lower c.pop-2.ensures.items c.in-Some-pop.is in
    All-head IsOnce c.in-Some-pop.lower (reverse after) (subst (All IsOnce) next (All-tail IsOnce c.in-Some.upper (reverse between) (subst (All IsOnce) top c.requires.once)))

pub returns-clause-goes_on : goal.returns-clause-goes_on
returns-clause-goes_on c =
    let ex = c.args.ex.now in
    let was = c.args.todo.now.items in
    let between = c.pop.new.self.items in
    let top : reverse was ≡ c.in-Some.upper ∷ reverse between = popped was between c.pop.result c.in-Some.upper c.pop.ensures.items c.in-Some.is in
    let after = c.pop-2.new.self.items in
    let next : reverse between ≡ c.in-Some-pop.lower ∷ reverse after = popped between after c.pop-2.result c.in-Some-pop.lower c.pop-2.ensures.items c.in-Some-pop.is in
    went-on ex c.args.done.now.items c.put_above-2.new.done.items (reverse was) (reverse c.push.new.self.items) (reverse after) c.in-Some.upper c.in-Some-pop.lower c.meet_layers.new.upper c.meet_layers.new.lower c.in_ok-meeting.meeting c.put_above-2.result
    c.in_ok-meeting.ensures
    (top ∙ ap (λ (ls : List Layer). c.in-Some.upper ∷ ls) next)
    (ap reverse c.in_ok-push.ensures.items ∙ pushed after c.meet_layers.new.lower)
    c.put_above-2.ensures.above c.put_above-2.ensures.changed

pub returns-in_default-clause-goes_on : goal.returns-in_default-clause-goes_on
returns-in_default-clause-goes_on c = went-nowhere c.args.ex.now c.args.done.now.items (reverse c.args.todo.now.items) (reverse c.pop.new.self.items) (none-popped c.args.todo.now.items c.pop.new.self.items c.pop.result c.pop.ensures.items c.in_default.is)
