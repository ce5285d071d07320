use Rattle.std.proofs.Common.{◌≡◌, ◌∙◌, ◌<◌, All, [], ◌∷◌, length, ap, sym}
use Rattle.plan_core.specs.declared.arena.Node.{Node}
use Rattle.plan_tree.specs.Rose.{labels}
use Rattle.plan_tree.proofs.ReadLemmas.{tree_at-is}
use Rattle.plan_expr.specs.Operands.{expr_shape}
use Rattle.plan_expr.specs.Walks.{numbered, numbered_at}
use Rattle.plan_expr.proofs.WalkLemmas.{labels_within, numbered_at-labels}
use Rattle.plan_expr.proofs.iterator.ArenaAExprArenaExprIter.iter.Goals as goal

pub numbered-requires : goal.numbered-requires
numbered-requires c =
    let h = c.requires in
    let is : c.as_slice.result.now ≡ labels h.0 = c.as_slice.ensures ∙ c.in_ok-listed.ensures.in_order h.0 h.1 in
    let all : All (λ (n : Node). n.0 < length c.args.self.now) c.as_slice.result.now = rw is (labels_within expr_shape c.args.self.now (c.args.root ∷ []) h.0 h.1.stands) in
    all

pub returns : goal.returns
returns c =
    let h = c.requires in
    let is : c.as_slice.result.now ≡ labels h.0 = c.as_slice.ensures ∙ c.in_ok-listed.ensures.in_order h.0 h.1 in
    c.new.ensures
    ∙ c.in_ok-numbered.ensures
    ∙ ap (numbered_at c.args.self.now) is
    ∙ numbered_at-labels expr_shape c.args.self.now (c.args.root ∷ []) h.0 h.1.stands
    ∙ ap numbered (sym (tree_at-is expr_shape c.args.self.now c.args.root h.0 h.1))
