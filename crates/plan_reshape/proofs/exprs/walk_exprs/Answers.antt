use Rattle.std.proofs.Common.{arith, ◌≡◌, ◌+◌, ◌-◌, ◌<◌, ◌≤◌, ◌^◌, [], ◌∷◌, ◌++◌, refl, sym, subst, ap₂, ◌∙◌, map, List, Bool, Some, length}
use Rattle.std.specs.List.{slice_get}
use Rattle.std.proofs.lemmas.Option.{slice_get_within}
use Rattle.std.proofs.lemmas.List.{length-map}
use Rattle.plan_expr.specs.declared.expr_ir.ExprIR.{ExprIR}
use Rattle.plan_meaning.specs.PlanAt.{plan_at}
use Rattle.plan_pass_laws.specs.Settling.{both}
use Rattle.plan_pass_laws.specs.Weights.{weight}
use Rattle.plan_reshape.specs.Walking.{all_own, done_of}
use Rattle.plan_reshape.proofs.Brings.{plan_inside}
use Rattle.plan_reshape.proofs.Listed.{root_listed, roots_next, roots_none, since_tended}
use Rattle.plan_reshape.proofs.Repeats.{since_first, since_stays}
use Rattle.plan_reshape.proofs.exprs.walk_exprs.Goals as goal

pub exprs_at-requires : goal.exprs_at-requires
exprs_at-requires g c = plan_inside c.args.lp.now c.args.ex.now c.args.lp_node c.requires.plan

pub loop-root-init : goal.loop-root-init
loop-root-init g c = record { kinds = refl; owns = refl; extra_kinds = refl; extra_owns = refl; longer = omega arith; since = rw c.none-work.ensures (since_first (map g.R.OptimizationRule.kind_of c.args.rules.now ++ map g.Q.OptimizationRule.kind_of c.args.extra.now) c.args.lp.now c.args.ex.now c.args.lp_node c.requires.valid); left = (c.in_ok-exprs.ensures.exprs.0, c.in_ok-exprs.ensures.exprs.1, c.as_slice-listed.ensures ∙ c.in_ok-exprs.ensures.exprs.2, roots_none c.in_ok-exprs.ensures.exprs.0); told = λ o. refl }

pub walk_expr-requires-clause-plan : goal.walk_expr-requires-clause-plan
walk_expr-requires-clause-plan g c = (since_stays (map g.R.OptimizationRule.kind_of c.args.rules.now ++ map g.Q.OptimizationRule.kind_of c.args.extra.now) c.args.lp.now c.args.lp.now c.args.ex.now c.loop-root.ex c.args.lp_node (done_of c.loop-root.work) c.requires.plan c.loop-root.invariant.since).plan

pub walk_expr-requires-clause-valid : goal.walk_expr-requires-clause-valid
walk_expr-requires-clause-valid g c = (since_stays (map g.R.OptimizationRule.kind_of c.args.rules.now ++ map g.Q.OptimizationRule.kind_of c.args.extra.now) c.args.lp.now c.args.lp.now c.args.ex.now c.loop-root.ex c.args.lp_node (done_of c.loop-root.work) c.requires.plan c.loop-root.invariant.since).valid

pub walk_expr-requires-clause-listed : goal.walk_expr-requires-clause-listed
walk_expr-requires-clause-listed g c = (root_listed c.args.lp.now c.loop-root.ex c.args.lp_node c.loop-root.invariant.left.0 c.loop-root.place c.in-Some.root (since_stays (map g.R.OptimizationRule.kind_of c.args.rules.now ++ map g.Q.OptimizationRule.kind_of c.args.extra.now) c.args.lp.now c.args.lp.now c.args.ex.now c.loop-root.ex c.args.lp_node (done_of c.loop-root.work) c.requires.plan c.loop-root.invariant.since).plan c.loop-root.invariant.left.1 (subst (λ (l : List ExprIR). slice_get (map (λ (e : ExprIR). e.node) l) c.loop-root.place ≡ Some c.in-Some.root) c.loop-root.invariant.left.2 (sym c.root_at.ensures.there ∙ c.in-Some.is)) c.loop-root.invariant.left.3)

pub walk_expr-requires-clause-fits : goal.walk_expr-requires-clause-fits
walk_expr-requires-clause-fits g c = let s = (since_stays (map g.R.OptimizationRule.kind_of c.args.rules.now ++ map g.Q.OptimizationRule.kind_of c.args.extra.now) c.args.lp.now c.args.lp.now c.args.ex.now c.loop-root.ex c.args.lp_node (done_of c.loop-root.work) c.requires.plan c.loop-root.invariant.since).weighs in omega (arith, s, c.requires.fits)

pub and-work-requires : goal.and-work-requires
and-work-requires g c = let s = (since_stays (map g.R.OptimizationRule.kind_of c.args.rules.now ++ map g.Q.OptimizationRule.kind_of c.args.extra.now) c.args.lp.now c.args.lp.now c.args.ex.now c.walk_expr.new.ex c.args.lp_node (both (done_of c.loop-root.work) (done_of c.in_ok-done.done)) c.requires.plan (since_tended (map g.R.OptimizationRule.kind_of c.args.rules.now ++ map g.Q.OptimizationRule.kind_of c.args.extra.now) c.args.lp.now c.args.ex.now c.loop-root.ex c.walk_expr.new.ex c.args.lp_node c.in-Some.root (done_of c.loop-root.work) (done_of c.in_ok-done.done) c.loop-root.invariant.since (root_listed c.args.lp.now c.loop-root.ex c.args.lp_node c.loop-root.invariant.left.0 c.loop-root.place c.in-Some.root (since_stays (map g.R.OptimizationRule.kind_of c.args.rules.now ++ map g.Q.OptimizationRule.kind_of c.args.extra.now) c.args.lp.now c.args.lp.now c.args.ex.now c.loop-root.ex c.args.lp_node (done_of c.loop-root.work) c.requires.plan c.loop-root.invariant.since).plan c.loop-root.invariant.left.1 (subst (λ (l : List ExprIR). slice_get (map (λ (e : ExprIR). e.node) l) c.loop-root.place ≡ Some c.in-Some.root) c.loop-root.invariant.left.2 (sym c.root_at.ensures.there ∙ c.in-Some.is)) c.loop-root.invariant.left.3) (rw (c.loop-root.invariant.kinds, c.loop-root.invariant.extra_kinds) at c.in_ok-done.ensures.tended))).weighs in omega (arith, s, c.requires.fits)

pub loop-root-smaller : goal.loop-root-smaller
loop-root-smaller g c =
    let within = slice_get_within (map (λ (e : ExprIR). e.node) c.as_slice-listed.result.now) c.loop-root.place c.in-Some.root (sym c.root_at.ensures.there ∙ c.in-Some.is) in
    omega (arith, within, length-map c.as_slice-listed.result.now (λ (e : ExprIR). e.node))

pub loop-root-preserved : goal.loop-root-preserved
loop-root-preserved g c = record {
  kinds = c.in_ok-done.ensures.kinds ∙ c.loop-root.invariant.kinds;
  owns = c.in_ok-done.ensures.owns ∙ c.loop-root.invariant.owns;
  extra_kinds = c.in_ok-done.ensures.extra_kinds ∙ c.loop-root.invariant.extra_kinds;
  extra_owns = c.in_ok-done.ensures.extra_owns ∙ c.loop-root.invariant.extra_owns;
  longer = omega (arith, c.in_ok-done.ensures.longer, c.loop-root.invariant.longer);
  since = rw c.and-work.ensures (since_tended (map g.R.OptimizationRule.kind_of c.args.rules.now ++ map g.Q.OptimizationRule.kind_of c.args.extra.now) c.args.lp.now c.args.ex.now c.loop-root.ex c.walk_expr.new.ex c.args.lp_node c.in-Some.root (done_of c.loop-root.work) (done_of c.in_ok-done.done) c.loop-root.invariant.since (root_listed c.args.lp.now c.loop-root.ex c.args.lp_node c.loop-root.invariant.left.0 c.loop-root.place c.in-Some.root (since_stays (map g.R.OptimizationRule.kind_of c.args.rules.now ++ map g.Q.OptimizationRule.kind_of c.args.extra.now) c.args.lp.now c.args.lp.now c.args.ex.now c.loop-root.ex c.args.lp_node (done_of c.loop-root.work) c.requires.plan c.loop-root.invariant.since).plan c.loop-root.invariant.left.1 (subst (λ (l : List ExprIR). slice_get (map (λ (e : ExprIR). e.node) l) c.loop-root.place ≡ Some c.in-Some.root) c.loop-root.invariant.left.2 (sym c.root_at.ensures.there ∙ c.in-Some.is)) c.loop-root.invariant.left.3) (rw (c.loop-root.invariant.kinds, c.loop-root.invariant.extra_kinds) at c.in_ok-done.ensures.tended));
  left = (c.loop-root.invariant.left.0, c.loop-root.invariant.left.1, c.loop-root.invariant.left.2, roots_next c.loop-root.invariant.left.0 c.loop-root.place c.in-Some.root (subst (λ (l : List ExprIR). slice_get (map (λ (e : ExprIR). e.node) l) c.loop-root.place ≡ Some c.in-Some.root) c.loop-root.invariant.left.2 (sym c.root_at.ensures.there ∙ c.in-Some.is)) c.loop-root.invariant.left.3);
  told = λ o. c.in_ok-done.ensures.told (ap₂ (λ (x y : List Bool). all_own (x ++ y)) c.loop-root.invariant.owns c.loop-root.invariant.extra_owns ∙ o) ∙ c.loop-root.invariant.told o;
}

pub returns-clause-brought : goal.returns-clause-brought
returns-clause-brought g c = c.loop-root.invariant.since.done

pub returns-clause-told : goal.returns-clause-told
returns-clause-told g c = c.loop-root.invariant.told
