-- What rules that are their kinds' own leave of a plan without marks.
use Rattle.std.proofs.Common.{◌≡◌, ℕ, zero, suc, ◌+◌, ◌<◌, ◌&&◌, Bool, true, false, List, [], ◌∷◌, ◌++◌, length, map, take, get_or, Option, Some, None, option_map, refl, sym, ap, ◌∙◌, subst, arith}
use Rattle.std.specs.List.{slice_set}
use Rattle.std.proofs.lemmas.Bool.{and_from, and_parts}
use Rattle.plan_core.specs.declared.arena.Node.{Node}
use Rattle.plan_tree.specs.Stands.{Trees, StandsOnce}
use Rattle.plan_expr.specs.declared.aexpr.AExpr.{AExpr}
use Rattle.plan_expr.specs.Operands.{expr_shape}
use Rattle.plan_ir.specs.declared.ir.IR.{IR}
use Rattle.plan_ir.specs.Parts.{IsPlan, StandsPlan}
use Rattle.plan_ir.specs.Plans.{Plan}
use Rattle.plan_meaning.specs.Marks.{unmarked}
use Rattle.plan_meaning.specs.PlanAt.{plan_at}
use Rattle.plan_rule.specs.Calls.{Answers, AnswersExpr, ListsExpr, plan_of}
use Rattle.plan_rule.proofs.Listed.{listed_roots, stands_at}
use Rattle.plan_pass_laws.specs.declared.kind.RuleKind.{RuleKind}
use Rattle.plan_pass_laws.specs.Answers.{answer_of}
use Rattle.plan_pass_laws.specs.Walks.{Until, UntilAll, once_more, still}
use Rattle.plan_pass_laws.proofs.AlikeAnswers.{answer_alike}
use Rattle.plan_pass_laws.proofs.ClearedPlans.{cleared_alike}
use Rattle.plan_reshape.specs.Walking.{all_own}
use Rattle.plan_reshape.proofs.Brings.{plan_at_is}

-- Which rules are their kinds' own

pub own_join : (bs cs : List Bool) → all_own (bs ++ cs) ≡ true → (all_own bs ≡ true) × (all_own cs ≡ true)
own_join [] cs e = (refl, e)
own_join (b ∷ bs) cs e =
    let a = and_parts b (all_own (bs ++ cs)) e in
    let r = own_join bs cs a.1 in
    (and_from b (all_own bs) a.0 r.0, r.1)

pub own_at : {A : Type 0} (f : A → Bool) (xs : List A) (i : ℕ) (x : A) → all_own (map f xs) ≡ true → i < length xs → f (get_or xs i x) ≡ true
own_at f [] i x e lt = absurd (omega arith)
own_at f (z ∷ zs) zero x e lt = (and_parts (f z) (all_own (map f zs)) e).0
own_at f (z ∷ zs) (suc i) x e lt = own_at f zs i x (and_parts (f z) (all_own (map f zs)) e).1 (omega arith)

-- One rule at a node

-- what is left of a plan by a rule is left of the plan before it, where the rule is its kind's own
abbrev pub Onward : RuleKind → Bool → Plan → Plan → Type 0
Onward k own p q = own ≡ true → (r : Plan) → Until k (unmarked q) r → Until k (unmarked p) r

pub onward_next : (k : RuleKind) (own : Bool) (a b c : List IR) (x y z : List AExpr) (n : Node) (p : IR) → IsPlan b y n → Onward k own (plan_at a x n) (plan_at b y n) → ((t : Trees IR) (e : Trees AExpr) → StandsPlan b y n t e → Answers k own b c y z n t e (Some p)) → Onward k own (plan_at a x n) (plan_at (slice_set c n.0 p) z n)
onward_next k own a b c x y z n p plan on call = λ o r u.
    let l = call plan.nodes plan.exprs plan.stands in
    let was = plan_at_is b y n plan.nodes plan.stands.nodes in
    let now = plan_at_is (slice_set c n.0 p) z n l.becomes.nodes l.becomes.places.stands in
    let answer : answer_of k (unmarked (plan_at b y n)) ≡ Some (unmarked (plan_at (slice_set c n.0 p) z n)) =
    ap (λ (q : Plan). answer_of k (unmarked q)) was
    ∙ answer_alike k (plan_of y plan.nodes)
    ∙ ap (λ (s : Option Plan). option_map unmarked s) (l.told o)
    ∙ ap (λ (q : Plan). Some (unmarked q)) (sym now) in
    on o r (once_more answer u)

pub onward_end : (k : RuleKind) (own : Bool) (a b c : List IR) (x y z : List AExpr) (n : Node) → IsPlan b y n → Onward k own (plan_at a x n) (plan_at b y n) → ((t : Trees IR) (e : Trees AExpr) → StandsPlan b y n t e → Answers k own b c y z n t e None) → own ≡ true → Until k (unmarked (plan_at a x n)) (unmarked (plan_at c z n))
onward_end k own a b c x y z n plan on call o =
    let l = call plan.nodes plan.exprs plan.stands in
    let was = plan_at_is b y n plan.nodes plan.stands.nodes in
    let now = plan_at_is c z n l.becomes.nodes l.becomes.places.stands in
    let none : answer_of k (unmarked (plan_at b y n)) ≡ None =
    ap (λ (q : Plan). answer_of k (unmarked q)) was
    ∙ answer_alike k (plan_of y plan.nodes)
    ∙ ap (λ (s : Option Plan). option_map unmarked s) (l.told o) in
    let same : unmarked (plan_at b y n) ≡ unmarked (plan_at c z n) =
    ap unmarked was
    ∙ sym (cleared_alike (plan_of z l.becomes.nodes) (plan_of y plan.nodes) l.cleared)
    ∙ ap unmarked (sym now) in
    on o (unmarked (plan_at c z n)) (subst (λ (q : Plan). Until k (unmarked (plan_at b y n)) q) same (still none))

-- Rules one after another at a node

pub until_then : (ks ls : List RuleKind) (p q r : Plan) → UntilAll ks p q → UntilAll ls q r → UntilAll (ks ++ ls) p r
until_then [] ls p q r u w = subst (λ (s : Plan). UntilAll ls s r) (sym u) w
until_then (k ∷ ks) ls p q r u w = (u.0, u.1, until_then ks ls u.0 q r u.2 w)

pub until_next : (ks : List RuleKind) (i : ℕ) (k : RuleKind) (p q r : Plan) → take (i + 1) ks ≡ take i ks ++ k ∷ [] → UntilAll (take i ks) p q → Until k q r → UntilAll (take (i + 1) ks) p r
until_next ks i k p q r next u w = subst (λ (l : List RuleKind). UntilAll l p r) (sym next) (until_then (take i ks) (k ∷ []) p q r u (r, w, refl))

-- One rule at an expression

pub foreign_answer : (k : RuleKind) (own : Bool) (lp : List IR) (now grown : List AExpr) (n m : Node) (q : AExpr) → ListsExpr lp now n m → ((g : Trees AExpr) → StandsOnce expr_shape now (m ∷ []) g → AnswersExpr k own lp now grown n m g (Some q)) → own ≡ true → ⊥
foreign_answer k own lp now grown n m q l call o =
    let at = stands_at now (listed_roots l.entry) l.trees m l.stand l.reached in
    let e : own ≡ false = (call at.0 at.1).foreign in
    absurd (no (sym o ∙ e))
  where
    no : true ≡ false → ⊥
    no e = cc

pub left_plan : (k : RuleKind) (own : Bool) (lp : List IR) (now grown : List AExpr) (n m : Node) → ListsExpr lp now n m → ((g : Trees AExpr) → StandsOnce expr_shape now (m ∷ []) g → AnswersExpr k own lp now grown n m g None) → plan_at lp grown n ≡ plan_at lp now n
left_plan k own lp now grown n m l call =
    let at = stands_at now (listed_roots l.entry) l.trees m l.stand l.reached in
    (call at.0 at.1).same
