-- The node of an only input is taken, and comes in the place of the node above.
use Rattle.std.proofs.Common.{◌≡◌, Bool, false, List, [], ◌∷◌, ◌++◌, append-nil, Some, refl, sym, ap, ◌∙◌, subst, inl, inr}
use Rattle.std.specs.List.{slice_get, slice_set}
use Rattle.plan_core.specs.declared.arena.Node.{Node}
use Rattle.plan_tree.specs.Rose.{rose, no_roses, more}
use Rattle.plan_tree.specs.Stands.{Reaches, StandsOnce, Trees}
use Rattle.plan_tree.proofs.Frames.{Keeps-set, StandsOnce-set}
use Rattle.plan_tree.proofs.TreeLemmas.{opened}
use Rattle.plan_expr.specs.declared.aexpr.AExpr.{AExpr}
use Rattle.plan_ir.specs.declared.ir.IR.{IR}
use Rattle.plan_ir.specs.Parts.{StandsPlan, inputs_of, is_invalid, plan_shape, roots_in, roots_of}
use Rattle.plan_meaning.specs.PlanAt.{plan_at}
use Rattle.plan_meaning.specs.Steps.{IsValid}
use Rattle.plan_pass_laws.specs.declared.kind.RuleKind.{RuleKind}
use Rattle.plan_pass_laws.specs.Answers.{answer_of}
use Rattle.plan_rule.specs.Calls.{Replaces, plan_of}
use Rattle.plan_rule.proofs.Placed.{Last, last_exprs, plan_at-of, put_at, same_numbers}

module _ (kind : RuleKind) (own : Bool) (lp : List IR) (ex : List AExpr) (n i : Node) (p q d : IR) (e : Trees AExpr) where
  up : (kids : Trees IR) → StandsPlan lp ex n (more (rose n p (more (rose i q kids) no_roses)) no_roses) e → IsValid (plan_at lp ex n) → StandsOnce plan_shape lp (inputs_of q) kids → (Reaches kids i.0 → ⊥) → is_invalid q ≡ false → answer_of kind (plan_of ex (more (rose n p (more (rose i q kids) no_roses)) no_roses)) ≡ Some (plan_of ex (more (rose n q kids) no_roses)) → Replaces kind own lp (slice_set (slice_set lp i.0 d) n.0 q) ex ex n (more (rose n p (more (rose i q kids) no_roses)) no_roses) e
  up kids h v stand above whole told =
      let numbers = roots_of q ++ (roots_in kids ++ []) in
      let last : Last ex (numbers ++ []) e = last_exprs ex (roots_of p) (numbers ++ []) e h.exprs in
      put_at kind own lp (slice_set lp i.0 d) ex n p q (more (rose i q kids) no_roses) kids e h v
      (Keeps-set plan_shape lp i.0 d (more (rose n p (more (rose i q kids) no_roses)) no_roses) (inr (inl (inl refl))))
      (StandsOnce-set plan_shape lp (inputs_of q) kids i.0 d stand above)
      (λ k r. inr (inl r)) whole (same_numbers ex (numbers ++ []) numbers e (append-nil numbers) last) told

  -- the plan of an only input comes in the place of a plan
  pub input_up : (t : Trees IR) → StandsPlan lp ex n t e → IsValid (plan_at lp ex n) → slice_get lp n.0 ≡ Some p → inputs_of p ≡ i ∷ [] → slice_get lp i.0 ≡ Some q → answer_of kind (plan_at lp ex n) ≡ Some (plan_at lp ex i) → Replaces kind own lp (slice_set (slice_set lp i.0 d) n.0 q) ex ex n t e
  input_up t h v entry only below told =
      let o = opened plan_shape lp n p t h.nodes entry in
      let lower : StandsOnce plan_shape lp (i ∷ []) o.kids = subst (λ (ns : List Node). StandsOnce plan_shape lp ns o.kids) only o.inputs in
      let u = opened plan_shape lp i q o.kids lower below in
      let whole : t ≡ more (rose n p (more (rose i q u.kids) no_roses)) no_roses = o.is ∙ ap (λ (f : Trees IR). more (rose n p f) no_roses) u.is in
      let h1 : StandsPlan lp ex n (more (rose n p (more (rose i q u.kids) no_roses)) no_roses) e = subst (λ (f : Trees IR). StandsPlan lp ex n f e) whole h in
      let told1 : answer_of kind (plan_of ex (more (rose n p (more (rose i q u.kids) no_roses)) no_roses)) ≡ Some (plan_of ex (more (rose n q u.kids) no_roses)) =
      ap (answer_of kind) (sym (plan_at-of lp ex n (more (rose n p (more (rose i q u.kids) no_roses)) no_roses) h1.nodes)) ∙ told ∙ ap (λ x. Some x) (plan_at-of lp ex i o.kids lower ∙ ap (λ (f : Trees IR). plan_of ex f) u.is) in
      subst (λ (f : Trees IR). Replaces kind own lp (slice_set (slice_set lp i.0 d) n.0 q) ex ex n f e) (sym whole) (up u.kids h1 v u.inputs u.above u.valid told1)
