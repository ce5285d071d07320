use Rattle.std.proofs.Common.{◌≢◌, ◌∙◌, [], true, false, lit<, refl, rules, sym}
use Rattle.cases.specs.Cases.IsRead.{word}
use Rattle.cases.proofs.CaseLemmas.{case_tried, first_is, first_not}
use Rattle.cases.proofs.cases.tried.Goals as goal

pub returns-then-known : goal.returns-then-known
returns-then-known c = word (first_is c.args.line.now 60 (sym (c.starts_with-2.ensures.byte (lit< tt) (lit< tt) (λ w o h. h)) ∙ c.if-starts_with-2.true)) true c.if-known.ensures refl

pub returns-else-known : goal.returns-else-known
returns-else-known c = word (first_is c.args.line.now 60 (sym (c.starts_with-2.ensures.byte (lit< tt) (lit< tt) (λ w o h. h)) ∙ c.if-starts_with-2.true)) false c.if-known.ensures refl

pub returns : goal.returns
returns c =
    let some : c.args.line.now ≢ [] = search rules in
    case_tried c.args.words.now c.is_right.new.words c.args.line.now c.parted.result.0.now c.parted.result.1.now c.in_ok-right.right c.judged.result some
    (first_not c.args.line.now 35 (sym (c.starts_with.ensures.byte (lit< tt) (lit< tt) (λ w o h. h)) ∙ c.if-starts_with.false))
    (first_not c.args.line.now 60 (sym (c.starts_with-2.ensures.byte (lit< tt) (lit< tt) (λ w o h. h)) ∙ c.if-starts_with-2.false))
    c.parted.ensures.word c.parted.ensures.rest c.in_ok-right.ensures c.judged.ensures
