use Rattle.std.proofs.Common.{sym}
use Rattle.plan_prune_names.proofs.FunctionLemmas.{explode-made}
use Rattle.plan_prune_names.proofs.functions.explode.Goals as goal

pub returns-clause-made : goal.returns-clause-made
returns-clause-made c = λ yes. explode-made c.args.columns.now c.take_apart.new.columns c.args.names.now (sym c.if-not-all_have_lists.ensures) c.in_ok-take_apart.ensures.types
