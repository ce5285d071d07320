-- What the pass makes is the clustered plan, in the place of the plan.
use Rattle.std.proofs.Common.{◌≡◌, ◌∙◌, List, [], ◌∷◌, inl, refl, sym, ap, subst}
use Rattle.plan_core.specs.declared.arena.Node.{Node}
use Rattle.plan_tree.specs.Read.{trees_at}
use Rattle.plan_tree.specs.Rose.{rose, no_roses, more}
use Rattle.plan_tree.specs.Stands.{StandsOnce, Trees}
use Rattle.plan_tree.proofs.Frames.{Rewrites-refl}
use Rattle.plan_tree.proofs.ReadLemmas.{trees_at-is}
use Rattle.plan_expr.specs.declared.aexpr.AExpr.{AExpr}
use Rattle.plan_expr.specs.Operands.{expr_shape}
use Rattle.plan_ir.specs.declared.ir.IR.{IR}
use Rattle.plan_ir.specs.Parts.{IsPlan, StandsPlan, plan_shape, roots_in}
use Rattle.plan_ir.specs.Plans.{bare, plans_of}
use Rattle.plan_meaning.specs.PlanAt.{one_plan, plan_at}
use Rattle.plan_meaning.specs.Steps.{IsValid}
use Rattle.plan_meaning.specs.Typing.{AllValid}
use Rattle.plan_pass_laws.specs.Becoming.{Becomes}
use Rattle.plan_collapse_laws.specs.Clustered.{clustered, clustered_all}
use Rattle.plan_cluster.specs.Sound.{AllSound}
use Rattle.plan_cluster.proofs.Nodes.{sound_plan}
use Rattle.plan_cluster.proofs.Turns.{Becoming}

-- the nodes of a valid plan are sound
pub sound_at : (lp : List IR) (ex : List AExpr) (root : Node) → IsPlan lp ex root → IsValid (plan_at lp ex root) → AllSound ex (trees_at plan_shape lp (root ∷ []))
sound_at lp ex root p v =
    let is = trees_at-is plan_shape lp (root ∷ []) p.nodes p.stands.nodes in
    subst (λ (t : Trees IR). AllSound ex t) (sym is)
    (sound_plan ex p.nodes p.exprs p.stands.exprs (valid_one p.nodes p.stands.nodes (subst (λ (t : Trees IR). IsValid (one_plan (bare (plans_of ex t)))) is v)))
  where
    valid_one : (t : Trees IR) → StandsOnce plan_shape lp (root ∷ []) t → IsValid (one_plan (bare (plans_of ex t))) → AllValid (bare (plans_of ex t))
    valid_one no_roses h v = absurd h.stands
    valid_one (more (rose m p kids) no_roses) h v = (v.0, v.1, tt)
    valid_one (more (rose m p kids) (more (rose k q below) rest)) h v = absurd h.stands.4

module _ (old new : List IR) (ex : List AExpr) (root : Node) where
  one_clustered : (t : Trees IR) → StandsOnce plan_shape old (root ∷ []) t → one_plan (clustered_all (bare (plans_of ex t))) ≡ clustered (one_plan (bare (plans_of ex t)))
  one_clustered no_roses h = absurd h.stands
  one_clustered (more (rose m p kids) no_roses) h = refl
  one_clustered (more (rose m p kids) (more (rose k q below) rest)) h = absurd h.stands.4

  pub plan_clustered : (t : Trees IR) → StandsOnce plan_shape old (root ∷ []) t → Becoming ex old new (root ∷ []) t → plan_at new ex root ≡ clustered (plan_at old ex root)
  plan_clustered t h b =
      ap (λ (x : Trees IR). one_plan (bare (plans_of ex x))) (trees_at-is plan_shape new (root ∷ []) b.trees b.places.stands)
      ∙ ap one_plan b.plans
      ∙ one_clustered t h
      ∙ ap (λ (x : Trees IR). clustered (one_plan (bare (plans_of ex x)))) (sym (trees_at-is plan_shape old (root ∷ []) t h))

  pub in_place : (t : Trees IR) (e : Trees AExpr) → StandsPlan old ex root t e → Becoming ex old new (root ∷ []) t → Becomes old new ex ex root t e
  in_place t e h b =
      let x = b.roots e h.exprs in
      record {
        nodes = b.trees;
        exprs = x.0;
        places = b.places;
        under = record { stands = x.1; keeps = (Rewrites-refl expr_shape ex (roots_in t) e h.exprs).keeps; within = λ k r. inl (x.2 k r) };
      }

  pub still_plan : (p : IsPlan old ex root) → Becoming ex old new (root ∷ []) p.nodes → IsPlan new ex root
  still_plan p b =
      let made = in_place p.nodes p.exprs p.stands b in
      record { nodes = made.nodes; exprs = made.exprs; stands = record { nodes = made.places.stands; exprs = made.under.stands } }

  -- whatever trees stand at the root are those that the loop knows
  pub any_trees : (t : Trees IR) → StandsOnce plan_shape old (root ∷ []) t → Becoming ex old new (root ∷ []) (trees_at plan_shape old (root ∷ [])) → Becoming ex old new (root ∷ []) t
  any_trees t h b = subst (λ (x : Trees IR). Becoming ex old new (root ∷ []) x) (trees_at-is plan_shape old (root ∷ []) t h) b
