use Rattle.std.proofs.Common.{◌≡◌, ◌<◌, ◌≤◌, List, inl, inr, refl, [], ◌∷◌, ◌++◌, length, reverse, ap, sym, ◌∙◌, arith, Ok}
use denote.Param.Weighed.{most}
use Rattle.std.proofs.lemmas.Result.{err_from_is_err_and}
use Rattle.std.proofs.lemmas.List.{reverse-append, reverse-reverse}
use Rattle.plan_dsl.specs.declared.expr.Expr.{Expr, size-Expr}
use Rattle.plan_dsl.specs.Maps.{Maps, none, next, no_more, here, IsRebuilt}
use Rattle.plan_dsl.specs.Owned.{owned}
use Rattle.plan_dsl.specs.Parts.{children}
use Rattle.plan_dsl.proofs.SizeLemmas.{children_below}
use Rattle.plan_dsl.proofs.MapLemmas.{front_none, front_next, front_all, front_below, front_some, front_stop, some_children, stop_below, length-maps, takes_children}
use Rattle.plan_dsl.proofs.map.+rewrite.Goals as goal

pub rewrite-rewrite_all-requires : goal.rewrite-rewrite_all-requires
rewrite-rewrite_all-requires g t c κs within =
    let below : most size-Expr (owned c.into_parts-head.result.1) < size-Expr c.args.expr = rw c.into_parts-head.ensures.children (children_below c.args.expr) in
    (omega (arith, below, c.decreases), (within, c.requires))

pub rewrite-returns-in_err-parts-clause-refused : goal.rewrite-returns-in_err-parts-clause-refused
rewrite-returns-in_err-parts-clause-refused g t c =
    let p = err_from_is_err_and c.from_residual.result c.from_residual.ensures.1 in
    rw (p.1, p.2) (stop_below _ _ _ _ c.args.expr _ (rw (sym c.into_parts-head.ensures.children) c.in_err-parts.ensures.refused))

pub rewrite-over-requires : goal.rewrite-over-requires
rewrite-over-requires g t c =
    let maps : Maps (λ p n a q. g.V.RewritingVisitor.mutates p n (Ok a) q) c.args.visitor.now (children c.args.expr) c.in_ok-parts.parts.items c.rewrite_all.new.visitor = rw (sym c.into_parts-head.ensures.children) c.in_ok-parts.ensures.mapped in
    let many : length c.in_ok-parts.parts.items ≡ length (children c.args.expr) = length-maps _ _ _ _ _ maps in
    rw (c.into_parts-head.ensures.head, many) (takes_children c.args.expr)

pub rewrite-returns-in_err-node-clause-refused : goal.rewrite-returns-in_err-node-clause-refused
rewrite-returns-in_err-node-clause-refused g t c =
    let maps : Maps (λ p n a q. g.V.RewritingVisitor.mutates p n (Ok a) q) c.args.visitor.now (children c.args.expr) c.in_ok-parts.parts.items c.rewrite_all.new.visitor = rw (sym c.into_parts-head.ensures.children) c.in_ok-parts.ensures.mapped in
    let p = err_from_is_err_and c.from_residual-in_err-node.result c.from_residual-in_err-node.ensures.1 in
    rw (p.1, p.2) (inl (refl, some_children _ _ _ c.args.expr _ maps))

pub rewrite-returns-in_err-mutate-clause-refused : goal.rewrite-returns-in_err-mutate-clause-refused
rewrite-returns-in_err-mutate-clause-refused g t c =
    let maps : Maps (λ p n a q. g.V.RewritingVisitor.mutates p n (Ok a) q) c.args.visitor.now (children c.args.expr) c.in_ok-parts.parts.items c.rewrite_all.new.visitor = rw (sym c.into_parts-head.ensures.children) c.in_ok-parts.ensures.mapped in
    let built : IsRebuilt c.args.expr c.in_ok-parts.parts.items c.in_ok-node.node = record { head = c.in_ok-node.ensures.head ∙ c.into_parts-head.ensures.head; made_of = c.in_ok-node.ensures.parts } in
    let p = err_from_is_err_and c.from_residual-in_err-mutate.result c.from_residual-in_err-mutate.ensures.1 in
    rw (p.1, p.2) (inr (here maps built c.in_err-mutate.ensures.answer))

pub rewrite-returns-clause-mapped : goal.rewrite-returns-clause-mapped
rewrite-returns-clause-mapped g t c =
    let maps : Maps (λ p n a q. g.V.RewritingVisitor.mutates p n (Ok a) q) c.args.visitor.now (children c.args.expr) c.in_ok-parts.parts.items c.rewrite_all.new.visitor = rw (sym c.into_parts-head.ensures.children) c.in_ok-parts.ensures.mapped in
    let built : IsRebuilt c.args.expr c.in_ok-parts.parts.items c.in_ok-node.node = record { head = c.in_ok-node.ensures.head ∙ c.into_parts-head.ensures.head; made_of = c.in_ok-node.ensures.parts } in
    next maps built c.in_ok-mutate.ensures.answer none

pub rewrite_all-loop-part-init : goal.rewrite_all-loop-part-init
rewrite_all-loop-part-init g t c =
    let turned : reverse c.append_to.new.out ≡ owned c.args.parts =
    ap reverse c.in_ok-append_to.ensures.appended ∙ ap (λ (es : List Expr). reverse (es ++ reverse (owned c.args.parts))) c.new-pending.ensures ∙ reverse-reverse (owned c.args.parts) in
    (c.requires, front_none _ c.args.visitor.now _ _ _ turned c.new-done.ensures.items)

pub rewrite_all-returns-in_err-append_to-clause-refused : goal.rewrite_all-returns-in_err-append_to-clause-refused
rewrite_all-returns-in_err-append_to-clause-refused g t c =
    let p = err_from_is_err_and c.from_residual.result c.from_residual.ensures.1 in
    rw (p.1, p.2) (inl (refl, no_more))

pub rewrite_all-rewrite-requires : goal.rewrite_all-rewrite-requires
rewrite_all-rewrite-requires g t c κs within =
    let is : reverse c.loop-part.pending ≡ c.in-Some.part ∷ reverse c.pop.new.self = ap reverse c.in-Some.ensures ∙ reverse-append c.pop.new.self (c.in-Some.part ∷ []) in
    let small : size-Expr c.in-Some.part ≤ most size-Expr (owned c.args.parts) = front_below _ _ _ _ _ _ _ _ c.loop-part.invariant.1 is in
    (omega (arith, small, c.decreases), (within, c.loop-part.invariant.0))

pub rewrite_all-returns-in_err-part-clause-refused : goal.rewrite_all-returns-in_err-part-clause-refused
rewrite_all-returns-in_err-part-clause-refused g t c =
    let is : reverse c.loop-part.pending ≡ c.in-Some.part ∷ reverse c.pop.new.self = ap reverse c.in-Some.ensures ∙ reverse-append c.pop.new.self (c.in-Some.part ∷ []) in
    let p = err_from_is_err_and c.from_residual-in_err-part.result c.from_residual-in_err-part.ensures.1 in
    rw (p.1, p.2) (front_stop _ _ _ _ _ _ _ _ _ _ _ c.loop-part.invariant.1 is c.in_err-part.ensures.refused)

pub rewrite_all-returns-in_err-append-clause-refused : goal.rewrite_all-returns-in_err-append-clause-refused
rewrite_all-returns-in_err-append-clause-refused g t c =
    let is : reverse c.loop-part.pending ≡ c.in-Some.part ∷ reverse c.pop.new.self = ap reverse c.in-Some.ensures ∙ reverse-append c.pop.new.self (c.in-Some.part ∷ []) in
    let p = err_from_is_err_and c.from_residual-in_err-append.result c.from_residual-in_err-append.ensures.1 in
    rw (p.1, p.2) (inl (refl, front_some _ _ _ _ _ _ (front_next _ _ _ _ _ _ _ _ _ _ _ c.loop-part.invariant.1 is c.in_ok-part.ensures.mapped refl)))

pub rewrite_all-loop-part-preserved : goal.rewrite_all-loop-part-preserved
rewrite_all-loop-part-preserved g t c =
    let is : reverse c.loop-part.pending ≡ c.in-Some.part ∷ reverse c.pop.new.self = ap reverse c.in-Some.ensures ∙ reverse-append c.pop.new.self (c.in-Some.part ∷ []) in
    (c.in_ok-part.ensures.again, front_next _ _ _ _ _ _ _ _ _ _ _ c.loop-part.invariant.1 is c.in_ok-part.ensures.mapped c.in_ok-append.ensures)

pub rewrite_all-returns-clause-mapped : goal.rewrite_all-returns-clause-mapped
rewrite_all-returns-clause-mapped g t c = front_all _ _ _ _ _ _ c.loop-part.invariant.1 (ap reverse c.in_default.ensures.0)
