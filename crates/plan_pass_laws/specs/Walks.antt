-- What walks of the rules leave of a plan without marks.
use Rattle.std.specs.Prelude.{◌≡◌, List, [], ◌∷◌, Some, None}
use Rattle.plan_tree.specs.Rose.{Roses, rose, no_roses, more}
use Rattle.plan_ir.specs.Plans.{Op, Plan}
use Rattle.plan_pass_laws.specs.declared.kind.RuleKind.{RuleKind}
use Rattle.plan_pass_laws.specs.Answers.{answer_of}

-- a rule of a kind was called at a node until it answered nothing
pub data Until : RuleKind → Plan → Plan → Type 0 where
  still : {k : RuleKind} {p : Plan} → answer_of k p ≡ None → Until k p p
  once_more : {k : RuleKind} {p r q : Plan} → answer_of k p ≡ Some r → Until k r q → Until k p q

-- rules of these kinds were called so at a node, one after another
abbrev pub UntilAll : List RuleKind → Plan → Plan → Type 0
UntilAll [] p q = p ≡ q
UntilAll (k ∷ ks) p q = (r : Plan) × Until k p r × UntilAll ks r q

-- rules of these kinds were called so at each node of a plan: at the root first, and then at those of the inputs that it has by then
mutual
  pub data Walks : List RuleKind → Plan → Plan → Type 0 where
    walks : {ks : List RuleKind} {p : Plan} {op : Op} {ts us : Roses (Unit {0}) Op} → UntilAll ks p (rose tt op ts) → AllWalk ks ts us → Walks ks p (rose tt op us)

  pub data AllWalk : List RuleKind → Roses (Unit {0}) Op → Roses (Unit {0}) Op → Type 0 where
    no_walk : {ks : List RuleKind} → AllWalk ks no_roses no_roses
    more_walks : {ks : List RuleKind} {p q : Plan} {ps qs : Roses (Unit {0}) Op} → Walks ks p q → AllWalk ks ps qs → AllWalk ks (more p ps) (more q qs)
