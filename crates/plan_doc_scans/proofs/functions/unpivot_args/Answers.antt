use Rattle.std.proofs.Common.{refl}
use Rattle.plan_doc_scans.specs.Functions.{unpivot_args_of}
use Rattle.plan_doc_scans.proofs.functions.unpivot_args.Goals as goal

pub returns : goal.returns
unfolding unpivot_args_of
returns c = rw (c.in_ok-index.ensures, c.in_ok-on.ensures, c.in_ok-value_name.ensures, c.in_ok-variable_name.ensures) refl
