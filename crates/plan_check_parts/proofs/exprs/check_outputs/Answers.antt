use Rattle.std.proofs.Common.{◌≡◌, ◌∙◌, ◌+◌, ◌++◌, ◌∷◌, [], ap, sym, map, true, false, subst, List, Some, rules}
use Rattle.plan_core.specs.declared.error.At.{At}
use Rattle.plan_core.specs.declared.error.PolarsError.TheVariants.{Duplicate}
use Rattle.plan_core.specs.Names.{has}
use Rattle.plan_expr.specs.declared.expr_ir.ExprIR.{ExprIR}
use Rattle.plan_expr.specs.Leaves.{Name}
use Rattle.plan_expr.specs.Naming.{name_of}
use Rattle.plan_meaning.specs.Typing.{first_fault}
use Rattle.plan_schema.proofs.CheckLemmas.{NewLeft, new-next, new-bad, new-end}
use Rattle.plan_check_parts.proofs.MadeLemmas.{once-at, name_here, ended}
use Rattle.plan_check_parts.proofs.exprs.check_outputs.Goals as goal

abbrev own : ExprIR → Name
own e = name_of e.output_name

pub returns-then-not-branch : goal.returns-then-not-branch
returns-then-not-branch c =
    let item = name_here c.args.exprs.now c.loop-i.i c.index-exprs-i.result c.loop-i-test.true c.index-exprs-i.is in
    let old : has c.loop-i.before (own c.index-exprs-i.result) ≡ true = search rules in
    ap (first_fault c.args.node) (once-at c.args.ex.now c.args.exprs.now)
    ∙ new-bad c.args.node 1 (map own c.args.exprs.now) c.loop-i.before c.loop-i.i (own c.index-exprs-i.result) c.loop-i.invariant item old
    ∙ ap (λ (a : At). Some (Duplicate a)) (sym c.at.ensures)

pub loop-i-preserved : goal.loop-i-preserved
loop-i-preserved c =
    let item = name_here c.args.exprs.now c.loop-i.i c.index-exprs-i.result c.loop-i-test.true c.index-exprs-i.is in
    let new : has c.loop-i.before (own c.index-exprs-i.result) ≡ false = search rules in
    let is : c.add.new.self ≡ c.loop-i.before ++ own c.index-exprs-i.result ∷ [] = search rules in
    subst (λ (l : List Name). NewLeft c.args.node 1 (map own c.args.exprs.now) l (c.loop-i.i + 1)) (sym is)
    (new-next c.args.node 1 (map own c.args.exprs.now) c.loop-i.before c.loop-i.i (own c.index-exprs-i.result) c.loop-i.invariant item new)

pub returns : goal.returns
returns c =
    ap (first_fault c.args.node) (once-at c.args.ex.now c.args.exprs.now)
    ∙ new-end c.args.node 1 (map own c.args.exprs.now) c.loop-i.before c.loop-i.i c.loop-i.invariant (ended c.args.exprs.now c.loop-i.i c.loop-i-test.false)
