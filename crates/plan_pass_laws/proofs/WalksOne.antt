-- Walks of rules are functions: a plan is walked to one plan alone.
use Rattle.std.proofs.Common.{◌≡◌, List, [], ◌∷◌, Option, Some, unwrap_or, refl, sym, ap, ap₂, ◌∙◌, subst}
use Rattle.plan_tree.specs.Rose.{Roses, rose, more}
use Rattle.plan_ir.specs.Plans.{Op, Plan}
use Rattle.plan_pass_laws.specs.declared.kind.RuleKind.{RuleKind}
use Rattle.plan_pass_laws.specs.Walks.{AllWalk, Until, UntilAll, Walks, more_walks, no_walk, once_more, still, walks}

abbrev Plans : Type 0
Plans = Roses (Unit {0}) Op

same_plan : (p q : Plan) → Some p ≡ Some q → p ≡ q
same_plan p q e = ap (λ (o : Option Plan). unwrap_or o p) e

until_one : (k : RuleKind) (p q r : Plan) → Until k p q → Until k p r → q ≡ r
until_one _ _ _ _ (still e) (still f) = refl
until_one _ _ _ _ (still e) (once_more f u) = cc
until_one _ _ _ _ (once_more e u) (still f) = cc
until_one k p q r (once_more {r = x} e u) (once_more {r = y} f w) = until_one k y q r (subst (λ (z : Plan). Until k z q) (same_plan x y (sym e ∙ f)) u) w

all_until_one : (ks : List RuleKind) (p q r : Plan) → UntilAll ks p q → UntilAll ks p r → q ≡ r
all_until_one [] p q r u w = sym u ∙ w
all_until_one (k ∷ ks) p q r u w = all_until_one ks w.0 q r (subst (λ (z : Plan). UntilAll ks z q) (until_one k p u.0 w.0 u.1 w.1) u.2) w.2

abbrev op_of : Plan → Op
op_of (rose n op ts) = op

abbrev inputs_in : Plan → Plans
inputs_in (rose n op ts) = ts

mutual
  pub walks_one : (ks : List RuleKind) (p q r : Plan) → Walks ks p q → Walks ks p r → q ≡ r
  walks_one ks p _ _ (walks {op = o} {ts = ts} {us = us} u below) (walks {op = o'} {ts = ts'} {us = us'} w under) =
      let e = all_until_one ks p (rose tt o ts) (rose tt o' ts') u w in
      ap₂ (λ (x : Op) (xs : Plans). rose tt x xs) (ap op_of e) (all_walks_one ks ts ts' us us' (ap inputs_in e) below under)

  all_walks_one : (ks : List RuleKind) (ps ps' qs rs : Plans) → ps ≡ ps' → AllWalk ks ps qs → AllWalk ks ps' rs → qs ≡ rs
  all_walks_one ks _ _ _ _ e no_walk no_walk = refl
  all_walks_one ks _ _ _ _ e no_walk (more_walks w others) = cc
  all_walks_one ks _ _ _ _ e (more_walks u rest) no_walk = cc
  all_walks_one ks _ _ _ _ e (more_walks {p = p} {q = q} {ps = ps} {qs = qs} u rest) (more_walks {p = p'} {q = r} {ps = ps'} {qs = rs} w others) =
      let h : p ≡ p' = cc in
      let t : ps ≡ ps' = cc in
      ap₂ more (walks_one ks p q r u (subst (λ (x : Plan). Walks ks x r) (sym h) w)) (all_walks_one ks ps ps' qs rs t rest others)
