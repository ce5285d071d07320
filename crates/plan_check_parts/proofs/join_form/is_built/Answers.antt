use Rattle.std.proofs.Common.{◌≡◌, ◌∙◌, true, false, is_some, sym, rules}
use Rattle.plan_meaning.specs.JoinChecks.{are_paired, is_built_join}
use Rattle.plan_check_parts.proofs.join_form.is_built.Goals as goal

pub returns-then-is_paired : goal.returns-then-is_paired
unfolding is_built_join
returns-then-is_paired c = λ ex.
    let whole : is_some c.args.options.now.args.slice ≡ false = search rules in
    let paired : are_paired c.args.options.now.args.how c.args.left c.args.right ≡ true = sym c.is_paired.ensures ∙ c.if-is_paired.true in
    rw (whole, paired) (c.is_fit.ensures ex)
