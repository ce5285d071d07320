-- `by_keys` by its parts: the lists that it hands on are those of the split, with the own condition behind.
use Rattle.std.proofs.Common.{◌≡◌, ◌∙◌, ◌++◌, List, map, option_map, sym, ap, ap₂, append_assoc, subst}
use Rattle.std.proofs.lemmas.List.{map-append}
use Rattle.plan_core.specs.declared.arena.Node.{Node}
use Rattle.plan_expr.specs.Exprs.{Expr, expr_at}
use Rattle.plan_join.specs.Told.{inequalities, told_at}
use Rattle.plan_prune_parts.specs.Places.{TakePlace}
use Rattle.plan_collapse_laws.specs.Collapsed.{on_keys}
use Rattle.plan_collapse.specs.declared.keys.KeyNodes.{KeyNodes}
use Rattle.plan_collapse.specs.KeysAt.{left_nodes, pair_at, right_nodes, split_nodes}
use Rattle.plan_collapse.specs.NewJoins.{new_nodes}
use Rattle.plan_collapse.proofs.rest.by_keys.Goals as goal

pub returns-clause-plan : goal.returns-clause-plan
returns-clause-plan c = λ j h schema inputs.
    let ex = c.args.ex.now in
    let split = c.args.split.now in
    let rest : List Expr = map (expr_at ex) split.rest in
    let all : c.as_slice-3.result.now ≡ split.rest ++ c.args.own.now = c.as_slice-3.ensures ∙ c.in_ok-remaining.ensures ∙ ap (λ (ns : List Node). ns ++ c.args.own.now) c.as_slice.ensures in
    c.in_ok-join.ensures.plan j h rest schema inputs (ap (map (expr_at ex)) all ∙ map-append (expr_at ex) split.rest c.args.own.now ∙ ap (λ (es : List Expr). rest ++ es) c.requires.own)
    ∙ ap (λ (ks : List KeyNodes). on_keys c.args.how (option_map inequalities c.args.operators) (map (pair_at ex j) ks) rest schema (told_at ex c.args.options) inputs) c.as_slice-2.ensures

pub returns-clause-place : goal.returns-clause-place
returns-clause-place c =
    let split = c.args.split.now in
    let own : List Node = c.args.own.now in
    let all : c.as_slice-3.result.now ≡ split.rest ++ own = c.as_slice-3.ensures ∙ c.in_ok-remaining.ensures ∙ ap (λ (ns : List Node). ns ++ own) c.as_slice.ensures in
    let is : left_nodes c.as_slice-2.result.now ++ (right_nodes c.as_slice-2.result.now ++ c.as_slice-3.result.now) ≡ split_nodes split ++ own =
    ap₂ (λ (ks : List KeyNodes) (ns : List Node). left_nodes ks ++ (right_nodes ks ++ ns)) c.as_slice-2.ensures all
    ∙ ap (λ (ns : List Node). left_nodes split.keys ++ ns) (sym (append_assoc (right_nodes split.keys) split.rest own))
    ∙ sym (append_assoc (left_nodes split.keys) (right_nodes split.keys ++ split.rest) own) in
    subst (λ (ns : List Node). TakePlace c.args.ex.now c.on_keys.new.ex (new_nodes c.in_ok-join.join) ns) is c.in_ok-join.ensures.place
