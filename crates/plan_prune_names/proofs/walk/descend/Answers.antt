use Rattle.std.proofs.Common.{◌≡◌, ◌∙◌, ap, sym, subst, not, is_some, true, ◌∷◌, [], Some, None, Option, List}
use Rattle.std.proofs.lemmas.Result.{on_ok_weaker}
use Rattle.plan_core.specs.declared.arena.Node.{Node}
use Rattle.plan_tree.specs.Rose.{no_roses}
use Rattle.plan_ir.specs.declared.ir.IR.{IR}
use Rattle.plan_ir.specs.Parts.{inputs_of}
use Rattle.plan_ir.specs.Plans.{bare, plans_at}
use Rattle.plan_prune_names.specs.ByName.{input_shown}
use Rattle.plan_prune_names.specs.Known.{KnowsAt, KnowsOver}
use Rattle.plan_prune_names.proofs.KnownLemmas.{knows-shown}
use Rattle.plan_prune_names.proofs.walk.descend.Goals as goal

pub returns-in-MapFunction : goal.returns-in-MapFunction
returns-in-MapFunction c = on_ok_weaker c.descend.result (λ h. λ lp.
    subst (λ (e : IR). KnowsOver c.args.columns.now lp e → KnowsAt c.descend.new.self lp (inputs_of e)) (sym c.in-MapFunction.is)
    (λ over ex. h tt c.in-MapFunction.function (bare (plans_at lp ex (c.in-MapFunction.input ∷ []))) no_roses (over ex))) c.descend.ensures

pub returns-else-is_none : goal.returns-else-is_none
returns-else-is_none c = λ lp over. some lp over c.input_shown.result c.input_shown.ensures (c.is_none.ensures ∙ ap not c.if-is_none.false)
  where
    some : (lp : List IR) → KnowsOver c.args.columns.now lp c.args.entry.now → (o : Option Node) → o ≡ input_shown c.args.entry.now → is_some o ≡ true → KnowsAt c.args.columns.now lp (inputs_of c.args.entry.now)
    some lp over None e w = cc
    some lp over (Some i) e w = knows-shown c.args.columns.now lp c.args.entry.now i (sym e) over
