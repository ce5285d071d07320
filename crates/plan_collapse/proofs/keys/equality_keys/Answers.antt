use Rattle.std.proofs.Common.{◌∙◌, refl, sym}
use Rattle.std.proofs.lemmas.Result.{IfOk-weaker}
use Rattle.plan_expr.specs.declared.operator.Operator.TheVariants.{Eq}
use Rattle.plan_collapse.proofs.KeyLemmas.{equality-keys, minterm-place, no-equality, operands-stand}
use Rattle.plan_collapse.proofs.keys.equality_keys.Goals as goal

pub paired-requires-clause-left : goal.paired-requires-clause-left
paired-requires-clause-left c = (operands-stand c.args.ex.now c.args.node c.get.result.now c.requires c.get.ensures.entry c.in-Some.left c.in-Some.right Eq c.in-Some.ensures.some).0

pub paired-requires-clause-right : goal.paired-requires-clause-right
paired-requires-clause-right c = (operands-stand c.args.ex.now c.args.node c.get.result.now c.requires c.get.ensures.entry c.in-Some.left c.in-Some.right Eq c.in-Some.ensures.some).1

pub returns-in-Some-clause-keys : goal.returns-in-Some-clause-keys
returns-in-Some-clause-keys c = IfOk-weaker c.paired.result _ _ (λ found is. λ j h. is j h ∙ sym (equality-keys c.args.ex.now c.args.node c.get.result.now c.requires c.get.ensures.entry j c.in-Some.left c.in-Some.right Eq c.in-Some.ensures.some refl)) c.paired.ensures.keys

pub returns-in-Some-clause-place : goal.returns-in-Some-clause-place
returns-in-Some-clause-place c = IfOk-weaker c.paired.result _ _ (λ found place. minterm-place c.args.ex.now c.args.node c.get.result.now c.requires c.get.ensures.entry c.in-Some.left c.in-Some.right Eq found c.in-Some.ensures.some place) c.paired.ensures.place

pub returns-in-None-clause-keys : goal.returns-in-None-clause-keys
returns-in-None-clause-keys c = λ j h. sym (no-equality c.args.ex.now c.args.node c.get.result.now c.requires c.get.ensures.entry j c.in-None.ensures.none)
