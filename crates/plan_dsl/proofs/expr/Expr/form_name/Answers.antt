use Rattle.std.proofs.Common.{◌≡◌, ◌∙◌, ap, sym, Some, inl, inr}
use Rattle.plan_dsl.specs.Naming.{said}
use Rattle.plan_dsl.proofs.FormLemmas.{form_named}
use Rattle.plan_dsl.proofs.expr.Expr.form_name.Goals as goal

pub unreachable-requires : goal.unreachable-requires
unreachable-requires c =
    let named = form_named c.args.self.now c.requires in
    let says : said c.first_naming.result ≡ Some (Some named.0) = c.first_naming.ensures ∙ named.1 in
    elim c.in-Open.is [ inl e ↦ let none = sym (ap said e) ∙ says in cc | inr e ↦ let none = sym (ap said e) ∙ says in cc ]
