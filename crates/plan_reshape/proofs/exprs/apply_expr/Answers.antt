use Rattle.std.proofs.Common.{arith, ◌≡◌, ◌<◌, ◌≤◌, ◌+◌, ◌^◌, [], ◌∷◌, length, refl, sym, ◌∙◌, ap, length-set}
use Rattle.plan_pass_laws.specs.Patterns.{is_counted}
use Rattle.plan_meaning.specs.PlanAt.{plan_at}
use Rattle.plan_pass_laws.specs.Weights.{weight}
use Rattle.plan_reshape.proofs.Tends.{expr_counted, expr_end, expr_falls, expr_first, expr_room, expr_silent, expr_stays}
use Rattle.plan_reshape.proofs.Told.{foreign_answer, left_plan}
use Rattle.plan_reshape.proofs.exprs.apply_expr.Goals as goal

pub loop-entry-init : goal.loop-entry-init
loop-entry-init g c = record { kind = refl; own = refl; longer = omega arith; tried = expr_first ((g.R.OptimizationRule.kind_of c.args.rule.now) ∷ []) c.args.lp.now c.args.ex.now c.args.lp_node c.args.expr_node c.requires.valid; told = λ o. refl }

pub optimize_expr-requires-clause-plan : goal.optimize_expr-requires-clause-plan
optimize_expr-requires-clause-plan g c = (expr_stays ((g.R.OptimizationRule.kind_of c.args.rule.now) ∷ []) c.args.lp.now c.args.ex.now c.loop-entry.ex c.args.lp_node c.args.expr_node (record { changed = c.loop-entry.changed; replaced = c.loop-entry.replaced }) c.requires.plan c.requires.listed c.loop-entry.invariant.tried).stays.plan

pub optimize_expr-requires-clause-valid : goal.optimize_expr-requires-clause-valid
optimize_expr-requires-clause-valid g c = (expr_stays ((g.R.OptimizationRule.kind_of c.args.rule.now) ∷ []) c.args.lp.now c.args.ex.now c.loop-entry.ex c.args.lp_node c.args.expr_node (record { changed = c.loop-entry.changed; replaced = c.loop-entry.replaced }) c.requires.plan c.requires.listed c.loop-entry.invariant.tried).stays.valid

pub optimize_expr-requires-clause-listed : goal.optimize_expr-requires-clause-listed
optimize_expr-requires-clause-listed g c = (expr_stays ((g.R.OptimizationRule.kind_of c.args.rule.now) ∷ []) c.args.lp.now c.args.ex.now c.loop-entry.ex c.args.lp_node c.args.expr_node (record { changed = c.loop-entry.changed; replaced = c.loop-entry.replaced }) c.requires.plan c.requires.listed c.loop-entry.invariant.tried).listed

pub put-requires : goal.put-requires
put-requires g c = let s = (expr_stays ((g.R.OptimizationRule.kind_of c.args.rule.now) ∷ []) c.args.lp.now c.args.ex.now c.loop-entry.ex c.args.lp_node c.args.expr_node (record { changed = c.loop-entry.changed; replaced = c.loop-entry.replaced }) c.requires.plan c.requires.listed c.loop-entry.invariant.tried).inside in omega (arith, s, c.in_ok-entry.ensures.longer)

pub overflow_add-replaced : goal.overflow_add-replaced
overflow_add-replaced g c = let s = expr_room (g.R.OptimizationRule.kind_of c.args.rule.now) (g.R.OptimizationRule.is_own c.loop-entry.rule) c.args.lp.now c.args.ex.now c.loop-entry.ex c.optimize_expr.new.ex c.args.lp_node c.args.expr_node c.in-Some.entry (record { changed = c.loop-entry.changed; replaced = c.loop-entry.replaced }) c.requires.plan c.requires.listed c.loop-entry.invariant.tried (rw (c.in-Some.is, c.loop-entry.invariant.kind) at c.in_ok-entry.ensures.answers) in omega (arith, s, c.requires.fits)

pub loop-entry-smaller-then-counted : goal.loop-entry-smaller-then-counted
loop-entry-smaller-then-counted g c = rw c.put.ensures (expr_falls (g.R.OptimizationRule.kind_of c.args.rule.now) (g.R.OptimizationRule.is_own c.loop-entry.rule) c.args.lp.now c.args.ex.now c.loop-entry.ex c.optimize_expr.new.ex c.args.lp_node c.args.expr_node c.in-Some.entry (record { changed = c.loop-entry.changed; replaced = c.loop-entry.replaced }) c.requires.plan c.requires.listed c.loop-entry.invariant.tried (rw (c.in-Some.is, c.loop-entry.invariant.kind) at c.in_ok-entry.ensures.answers))

pub loop-entry-preserved-then-counted : goal.loop-entry-preserved-then-counted
loop-entry-preserved-then-counted g c = record {
  kind = c.in_ok-entry.ensures.kind ∙ c.loop-entry.invariant.kind;
  own = c.in_ok-entry.ensures.own ∙ c.loop-entry.invariant.own;
  longer = omega (arith, c.in_ok-entry.ensures.longer, c.loop-entry.invariant.longer, ap length c.put.ensures, length-set c.optimize_expr.new.ex c.args.expr_node.0 c.in-Some.entry);
  tried = rw c.put.ensures (expr_counted (g.R.OptimizationRule.kind_of c.args.rule.now) (g.R.OptimizationRule.is_own c.loop-entry.rule) c.args.lp.now c.args.ex.now c.loop-entry.ex c.optimize_expr.new.ex c.args.lp_node c.args.expr_node c.in-Some.entry (record { changed = c.loop-entry.changed; replaced = c.loop-entry.replaced }) (ap is_counted (sym c.kind.ensures) ∙ sym c.counts-counted.ensures ∙ c.if-counted.true) c.requires.listed c.loop-entry.invariant.tried (rw (c.in-Some.is, c.loop-entry.invariant.kind) at c.in_ok-entry.ensures.answers));
  told = λ o. absurd (foreign_answer (g.R.OptimizationRule.kind_of c.args.rule.now) (g.R.OptimizationRule.is_own c.args.rule.now) c.args.lp.now c.loop-entry.ex c.optimize_expr.new.ex c.args.lp_node c.args.expr_node c.in-Some.entry ((expr_stays ((g.R.OptimizationRule.kind_of c.args.rule.now) ∷ []) c.args.lp.now c.args.ex.now c.loop-entry.ex c.args.lp_node c.args.expr_node (record { changed = c.loop-entry.changed; replaced = c.loop-entry.replaced }) c.requires.plan c.requires.listed c.loop-entry.invariant.tried).listed) (rw (c.in-Some.is, c.loop-entry.invariant.kind, c.loop-entry.invariant.own) at c.in_ok-entry.ensures.answers) o);
}

pub loop-entry-smaller : goal.loop-entry-smaller
loop-entry-smaller g c = rw c.put.ensures (expr_falls (g.R.OptimizationRule.kind_of c.args.rule.now) (g.R.OptimizationRule.is_own c.loop-entry.rule) c.args.lp.now c.args.ex.now c.loop-entry.ex c.optimize_expr.new.ex c.args.lp_node c.args.expr_node c.in-Some.entry (record { changed = c.loop-entry.changed; replaced = c.loop-entry.replaced }) c.requires.plan c.requires.listed c.loop-entry.invariant.tried (rw (c.in-Some.is, c.loop-entry.invariant.kind) at c.in_ok-entry.ensures.answers))

pub loop-entry-preserved : goal.loop-entry-preserved
loop-entry-preserved g c = record {
  kind = c.in_ok-entry.ensures.kind ∙ c.loop-entry.invariant.kind;
  own = c.in_ok-entry.ensures.own ∙ c.loop-entry.invariant.own;
  longer = omega (arith, c.in_ok-entry.ensures.longer, c.loop-entry.invariant.longer, ap length c.put.ensures, length-set c.optimize_expr.new.ex c.args.expr_node.0 c.in-Some.entry);
  tried = rw c.put.ensures (expr_silent (g.R.OptimizationRule.kind_of c.args.rule.now) (g.R.OptimizationRule.is_own c.loop-entry.rule) c.args.lp.now c.args.ex.now c.loop-entry.ex c.optimize_expr.new.ex c.args.lp_node c.args.expr_node c.in-Some.entry (record { changed = c.loop-entry.changed; replaced = c.loop-entry.replaced }) (ap is_counted (sym c.kind.ensures) ∙ sym c.counts-counted.ensures ∙ c.if-counted.false) c.requires.listed c.loop-entry.invariant.tried (rw (c.in-Some.is, c.loop-entry.invariant.kind) at c.in_ok-entry.ensures.answers));
  told = λ o. absurd (foreign_answer (g.R.OptimizationRule.kind_of c.args.rule.now) (g.R.OptimizationRule.is_own c.args.rule.now) c.args.lp.now c.loop-entry.ex c.optimize_expr.new.ex c.args.lp_node c.args.expr_node c.in-Some.entry ((expr_stays ((g.R.OptimizationRule.kind_of c.args.rule.now) ∷ []) c.args.lp.now c.args.ex.now c.loop-entry.ex c.args.lp_node c.args.expr_node (record { changed = c.loop-entry.changed; replaced = c.loop-entry.replaced }) c.requires.plan c.requires.listed c.loop-entry.invariant.tried).listed) (rw (c.in-Some.is, c.loop-entry.invariant.kind, c.loop-entry.invariant.own) at c.in_ok-entry.ensures.answers) o);
}

pub returns-clause-tended : goal.returns-clause-tended
returns-clause-tended g c = (expr_end (g.R.OptimizationRule.kind_of c.args.rule.now) (g.R.OptimizationRule.is_own c.loop-entry.rule) c.args.lp.now c.args.ex.now c.loop-entry.ex c.optimize_expr.new.ex c.args.lp_node c.args.expr_node (record { changed = c.loop-entry.changed; replaced = c.loop-entry.replaced }) c.requires.plan c.requires.listed c.loop-entry.invariant.tried (rw c.in_default.is at c.in_ok-entry.ensures.answers)).done

pub returns-clause-told : goal.returns-clause-told
returns-clause-told g c = λ o. left_plan (g.R.OptimizationRule.kind_of c.args.rule.now) (g.R.OptimizationRule.is_own c.loop-entry.rule) c.args.lp.now c.loop-entry.ex c.optimize_expr.new.ex c.args.lp_node c.args.expr_node ((expr_stays ((g.R.OptimizationRule.kind_of c.args.rule.now) ∷ []) c.args.lp.now c.args.ex.now c.loop-entry.ex c.args.lp_node c.args.expr_node (record { changed = c.loop-entry.changed; replaced = c.loop-entry.replaced }) c.requires.plan c.requires.listed c.loop-entry.invariant.tried).listed) (rw c.in_default.is at c.in_ok-entry.ensures.answers) ∙ c.loop-entry.invariant.told o
