-- `on_keys` by the lemmas of its parts.
use Rattle.std.proofs.Common.{◌∙◌, ◌++◌, List, map, sym, ap, ap₂, subst, append-nil}
use Rattle.plan_core.specs.declared.arena.Node.{Node}
use Rattle.plan_expr.specs.declared.expr_ir.ExprIR.{ExprIR}
use Rattle.plan_expr.specs.Exprs.{Named, expr_at}
use Rattle.plan_ir.specs.Parts.{condition_of, list_of}
use Rattle.plan_join.specs.Told.{told_at}
use Rattle.plan_meaning.specs.JoinChecks.{conditions}
use Rattle.plan_prune_parts.specs.Places.{StandExprs, TakePlace}
use Rattle.plan_prune_parts.proofs.LongerLemmas.{first_exprs}
use Rattle.plan_prune_parts.proofs.PlaceLemmas.{place_alone}
use Rattle.plan_collapse_laws.specs.CrossKeys.{own_expr}
use Rattle.plan_collapse_laws.specs.TakenKeys.{and_all, self_named}
use Rattle.plan_collapse.specs.declared.keys.KeyNodes.{KeyNodes}
use Rattle.plan_collapse.specs.KeysAt.{left_nodes, right_nodes}
use Rattle.plan_collapse.proofs.CrossLemmas.{above-first, all-named, keyed-plan, left-keys, lefts-twice, named-alike, right-keys}
use Rattle.plan_collapse.proofs.LongerExprs.{map-longer}
use Rattle.plan_collapse.proofs.cross.on_keys.Goals as goal

pub named_join-requires-clause-stands : goal.named_join-requires-clause-stands
named_join-requires-clause-stands c =
    let ex = c.args.ex.now in
    let grown = c.add_exprs.new.ex in
    let keys = c.args.keys.now in
    let now : StandExprs grown (left_nodes keys ++ (c.in_ok-copies.copies ++ list_of c.in_ok-copies.all)) = place_alone ex grown (left_nodes keys ++ (c.in_ok-copies.copies ++ list_of c.in_ok-copies.all)) (left_nodes keys ++ (right_nodes keys ++ c.args.remaining.now)) c.in_ok-copies.ensures.place c.requires.stands in
    subst (StandExprs grown) (sym (ap₂ (λ (xs ys : List Node). xs ++ (ys ++ list_of c.in_ok-copies.all)) (c.as_slice.ensures ∙ c.in_ok-lefts.ensures) c.as_slice-2.ensures)) now

pub named_join-requires-clause-left : goal.named_join-requires-clause-left
named_join-requires-clause-left c =
    let ex = c.args.ex.now in
    let grown = c.add_exprs.new.ex in
    let keys = c.args.keys.now in
    let stood : StandExprs ex (left_nodes keys) = first_exprs ex (left_nodes keys) (right_nodes keys ++ c.args.remaining.now) c.requires.stands in
    named-alike (expr_at grown) (λ (k : KeyNodes). expr_at ex k.left) c.as_slice.result.now keys
    (ap (map (expr_at grown)) (c.as_slice.ensures ∙ c.in_ok-lefts.ensures) ∙ map-longer ex grown (left_nodes keys) c.in_ok-copies.ensures.longer stood ∙ lefts-twice ex keys)
    c.requires.keys.left

pub named_join-requires-clause-right : goal.named_join-requires-clause-right
named_join-requires-clause-right c =
    let ex = c.args.ex.now in
    let grown = c.add_exprs.new.ex in
    let j = c.requires.keys.crossed in
    named-alike (expr_at grown) (λ (k : KeyNodes). own_expr j (expr_at ex k.right)) c.as_slice-2.result.now c.args.keys.now
    (ap (map (expr_at grown)) c.as_slice-2.ensures ∙ c.in_ok-copies.ensures.copies j c.requires.keys.by)
    c.requires.keys.right

pub named_join-requires-clause-above : goal.named_join-requires-clause-above
named_join-requires-clause-above c = all-named (expr_at c.add_exprs.new.ex) (expr_at c.args.ex.now) c.in_ok-copies.all c.args.remaining.now c.in_ok-copies.ensures.all c.requires.named

pub returns-clause-plan : goal.returns-clause-plan
returns-clause-plan c = λ j h rest schema inputs e.
    let ex = c.args.ex.now in
    let grown = c.add_exprs.new.ex in
    let keys = c.args.keys.now in
    let stood : StandExprs ex (left_nodes keys) = first_exprs ex (left_nodes keys) (right_nodes keys ++ c.args.remaining.now) c.requires.stands in
    let made = c.in_ok-join.join in
    keyed-plan grown c.in_ok-copies.all (and_all (rest ++ map (λ (x : Named). x.expr) (conditions (told_at ex c.args.options).options))) _ _ _ _ _ schema _ _ inputs
    c.in_ok-join.ensures.above
    (c.in_ok-copies.ensures.all ∙ ap and_all e)
    (c.in_ok-join.ensures.left ∙ ap (map (λ (n : Node). self_named (expr_at grown n))) (c.as_slice.ensures ∙ c.in_ok-lefts.ensures) ∙ left-keys grown ex j keys (map-longer ex grown (left_nodes keys) c.in_ok-copies.ensures.longer stood))
    (c.in_ok-join.ensures.right ∙ ap (map (λ (n : Node). self_named (expr_at grown n))) c.as_slice-2.ensures ∙ right-keys grown ex j keys c.in_ok-copies.copies (c.in_ok-copies.ensures.copies j h))
    (ap (told_at grown) c.in_ok-join.ensures.options ∙ c.keeping-options.ensures.told ex grown)

pub returns-clause-place : goal.returns-clause-place
returns-clause-place c =
    let ex = c.args.ex.now in
    let grown = c.add_exprs.new.ex in
    let keys = c.args.keys.now in
    let lefts : List Node = left_nodes keys in
    let copies : List Node = c.in_ok-copies.copies in
    let all : List Node = list_of c.in_ok-copies.all in
    let is = c.in_ok-join.ensures.nodes
    ∙ ap₂ (λ (xs ys : List Node). all ++ ((xs ++ ys) ++ map (λ (x : ExprIR). x.node) (list_of (condition_of c.keeping-options.result)))) (c.as_slice.ensures ∙ c.in_ok-lefts.ensures) c.as_slice-2.ensures
    ∙ ap (λ (o : _). all ++ ((lefts ++ copies) ++ map (λ (x : ExprIR). x.node) (list_of o))) c.keeping-options.ensures.condition
    ∙ ap (λ (ns : List Node). all ++ ns) (append-nil (lefts ++ copies)) in
    subst (λ (ns : List Node). TakePlace ex grown ns (left_nodes keys ++ (right_nodes keys ++ c.args.remaining.now))) (sym is) (above-first ex grown lefts copies all (left_nodes keys ++ (right_nodes keys ++ c.args.remaining.now)) c.in_ok-copies.ensures.place)
