use Rattle.std.proofs.Common.{◌≡◌, ◌∙◌, ap, sym, map, None, Some}
use Rattle.std.specs.List.{slice_get}
use Rattle.std.specs.Option.{option_copied}
use Rattle.plan_order.proofs.TogetherLemmas.{all-lent, first-lent, lent, other-kinds, with-buffers, with-paths}
use Rattle.plan_order.proofs.together.together.Goals as goal

pub returns-then-not-are_of_kind : goal.returns-then-not-are_of_kind
returns-then-not-are_of_kind c =
    let first : slice_get c.args.found.now 0 ≡ Some c.in-Some.field-0.now = sym c.first.ensures.value ∙ ap option_copied c.in-Some.is in
    sym (other-kinds (map lent c.args.found.now) (lent c.in-Some.field-0.now) (first-lent c.args.found.now c.in-Some.field-0.now first)
    (sym (all-lent c.in-Some.field-0.now.1 c.args.found.now) ∙ sym c.if-not-are_of_kind.ensures))

pub returns-in-Some-2 : goal.returns-in-Some-2
returns-in-Some-2 c =
    let first : slice_get c.args.found.now 0 ≡ Some c.in-Some.field-0.now = sym c.first.ensures.value ∙ ap option_copied c.in-Some.is in
    sym (with-paths (map lent c.args.found.now) (lent c.in-Some.field-0.now) c.in-Some-2.paths (first-lent c.args.found.now c.in-Some.field-0.now first)
    (sym (all-lent c.in-Some.field-0.now.1 c.args.found.now) ∙ sym c.if-not-are_of_kind.ensures)
    (sym c.in_ok-paths.ensures ∙ c.in-Some-2.is))

pub returns-in-Some-3 : goal.returns-in-Some-3
returns-in-Some-3 c =
    let first : slice_get c.args.found.now 0 ≡ Some c.in-Some.field-0.now = sym c.first.ensures.value ∙ ap option_copied c.in-Some.is in
    sym (with-buffers (map lent c.args.found.now) (lent c.in-Some.field-0.now) (Some c.in-Some-3.numbers) (first-lent c.args.found.now c.in-Some.field-0.now first)
    (sym (all-lent c.in-Some.field-0.now.1 c.args.found.now) ∙ sym c.if-not-are_of_kind.ensures)
    (sym c.in_ok-paths.ensures ∙ c.in_default-2.is)
    (sym c.in_ok-numbers.ensures ∙ c.in-Some-3.is))

pub returns-in-None : goal.returns-in-None
returns-in-None c =
    let first : slice_get c.args.found.now 0 ≡ Some c.in-Some.field-0.now = sym c.first.ensures.value ∙ ap option_copied c.in-Some.is in
    sym (with-buffers (map lent c.args.found.now) (lent c.in-Some.field-0.now) None (first-lent c.args.found.now c.in-Some.field-0.now first)
    (sym (all-lent c.in-Some.field-0.now.1 c.args.found.now) ∙ sym c.if-not-are_of_kind.ensures)
    (sym c.in_ok-paths.ensures ∙ c.in_default-2.is)
    (sym c.in_ok-numbers.ensures ∙ c.in-None.is))
