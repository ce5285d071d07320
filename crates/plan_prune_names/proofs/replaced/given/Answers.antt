use Rattle.std.proofs.Common.{sym}
use Rattle.plan_meaning.specs.Typing.{function_checks}
use Rattle.plan_schema.proofs.StoredLemmas.{all-without, fault-told, none-with}
use Rattle.plan_prune_names.proofs.replaced.given.Goals as goal

pub returns-in-Ok : goal.returns-in-Ok
returns-in-Ok c =
    rw (all-without c.args.node (function_checks c.args.function.now c.args.columns.now) c.in-Ok.ensures.0) (sym c.in-Ok.ensures.1)

pub returns-in-Err-2 : goal.returns-in-Err-2
returns-in-Err-2 c =
    rw (none-with c.args.node (function_checks c.args.function.now c.args.columns.now) c.in-Err.fault (fault-told c.in-Err.fault _ (sym c.if-is_memory.ensures) c.in-Err.ensures)) c.new.ensures
