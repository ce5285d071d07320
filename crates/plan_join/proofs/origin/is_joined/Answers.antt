use Rattle.std.proofs.Common.{◌≡◌, ◌∙◌, ◌++◌, Some, None, sym, ap}
use Rattle.std.specs.Str.{bytes_eq}
use Rattle.std.proofs.lemmas.Bool.Decides.{Decides-eqb}
use Rattle.std.proofs.lemmas.Slice.Eq.{strip_suffix_is}
use Rattle.plan_expr.specs.Leaves.{Name}
use Rattle.plan_join.proofs.OriginLemmas.{same-front, not-joined}
use Rattle.plan_join.proofs.origin.is_joined.Goals as goal

pub returns-in-Some : goal.returns-in-Some
returns-in-Some c =
    let own = c.args.own.now in
    let front = c.in-Some.front.now in
    let whole : c.as_bytes.result.now ≡ front ++ c.as_bytes-2.result.now = strip_suffix_is Decides-eqb c.as_bytes.result.now c.as_bytes-2.result.now (Some c.in-Some.front) c.in-Some.ensures.cases in
    let name : c.args.name.now ≡ front ++ c.args.suffix.now = sym c.as_bytes.ensures.value ∙ whole ∙ ap (λ (s : Name). front ++ s) c.as_bytes-2.ensures.value in
    c.eq.ensures ∙ ap (λ (x : Name). bytes_eq front x) c.as_bytes-in-Some.ensures.value
    ∙ same-front front own c.args.suffix.now ∙ ap (λ (x : Name). bytes_eq x (own ++ c.args.suffix.now)) (sym name)

pub returns-in-None : goal.returns-in-None
returns-in-None c =
    let none = strip_suffix_is Decides-eqb c.as_bytes.result.now c.as_bytes-2.result.now None c.in-None.ensures.cases in
    not-joined c.args.name.now c.args.own.now c.args.suffix.now
    (λ front e. none front (c.as_bytes.ensures.value ∙ e ∙ ap (λ (s : Name). front ++ s) (sym c.as_bytes-2.ensures.value)))
