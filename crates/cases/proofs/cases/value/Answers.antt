use Rattle.std.proofs.Common.{◌∙◌, ℕ, List, codes, ap}
use Rattle.cases.specs.Cases.{under}
use Rattle.cases.specs.Cases.IsValued.{made}
use Rattle.cases.proofs.CaseLemmas.{making_is, valued}
use Rattle.cases.proofs.cases.value.Goals as goal

pub returns : goal.returns
returns c = made c.in-Some.made.now c.in-Some.exprs.now c.in-Some.ensures.parts
    (valued c.args.words.now c.set-named.new.self c.set-typed.new.self c.makes.new.words c.in-Some.made.now c.in-Some.exprs.now c.parted.result.0.now c.parted.result.1.now
    c.set-named.result c.set-typed.result c.in_ok-unpruned.unpruned c.in_ok-pruned.pruned c.both.result c.both-2.result c.both-3.result
    c.set-named.ensures.texts c.set-typed.ensures.texts c.parted.ensures.word c.parted.ensures.rest c.in_ok-unpruned.ensures.words c.set-named.ensures.known c.set-typed.ensures.known
    c.in_ok-unpruned.ensures.right c.in_ok-pruned.ensures.right c.both.ensures c.both-2.ensures c.both-3.ensures)
    (c.in_ok-pruned.ensures.words ∙ ap (λ (w : List (List ℕ × List ℕ)). under w (codes "1")) (c.in_ok-unpruned.ensures.words ∙ ap (λ (w : List (List ℕ × List ℕ)). under w (codes "0"))
    (making_is c.args.words.now c.set-named.new.self c.set-typed.new.self c.in-Some.made.now c.in-Some.exprs.now c.parted.result.0.now c.set-named.ensures.texts c.set-typed.ensures.texts c.parted.ensures.word)))
