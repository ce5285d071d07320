use Rattle.std.proofs.Common.{◌≡◌, ◌∙◌, ap, arith, length}
use Rattle.plan_core.specs.Columns.{Columns, type_of}
use Rattle.plan_schema.specs.Stored.{given_by}
use Rattle.plan_prune_names.proofs.ReplaceLemmas.{some-made}
use Rattle.plan_prune_names.proofs.replaced.replace.Goals as goal

pub returns-clause-made : goal.returns-clause-made
returns-clause-made c = λ yes s shows.
    let is : c.in_ok-made.made ≡ given_by c.args.function.now s = c.in_ok-made.ensures ∙ c.in_ok-add_read.ensures c.if-not-branch.false s shows in
    let long : length c.in_ok-made.made ≡ length (given_by c.args.function.now s) = ap (λ (t : Columns). length t) is in (
      some-made c.args.function.now s (λ z. omega (arith, z, long, c.len.ensures.value, c.if-len-eq0.false)),
      λ a. c.in_ok-put_all.ensures.shows a ∙ ap (λ (t : Columns). type_of t a) is,
    )
