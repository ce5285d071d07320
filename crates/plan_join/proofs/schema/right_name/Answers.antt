use Rattle.std.proofs.Common.{◌≡◌, ◌∙◌, Bool, true, false, cond, ◌++◌, sym, ap}
use Rattle.std.proofs.lemmas.Result.{IfOk-weaker}
use Rattle.plan_core.specs.Columns.{names_of}
use Rattle.plan_core.specs.Names.{has}
use Rattle.plan_expr.specs.Leaves.{Name}
use Rattle.plan_join.proofs.ColumnLemmas.{found}
use Rattle.plan_join.proofs.schema.right_name.Goals as goal

pub returns-then-not-is_some : goal.returns-then-not-is_some
returns-then-not-is_some c =
    let a = c.args.name.now in
    let there : has (names_of c.args.left.now) a ≡ false = found c.args.left.now a c.get.result c.is_some.result false c.get.ensures c.is_some.ensures c.if-not-is_some.true in
    IfOk-weaker c.new.result _ _ (λ r e. e ∙ ap (λ (t : Bool). cond t (a ++ c.args.suffix.now) a) (sym there)) c.new.ensures

pub returns : goal.returns
returns c =
    let a = c.args.name.now in
    let there : has (names_of c.args.left.now) a ≡ true = found c.args.left.now a c.get.result c.is_some.result true c.get.ensures c.is_some.ensures c.if-not-is_some.false in
    IfOk-weaker c.new-2.result _ _ (λ r e. e ∙ c.as_str.ensures.value ∙ c.in_ok-push_str.ensures.bytes ∙ ap (λ (x : Name). x ++ c.args.suffix.now) c.in_ok-text.ensures.ok ∙ ap (λ (t : Bool). cond t (a ++ c.args.suffix.now) a) (sym there)) c.new-2.ensures
