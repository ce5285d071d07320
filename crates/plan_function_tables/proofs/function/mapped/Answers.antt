use Rattle.std.proofs.Common.{subst}
use Rattle.plan_ir.specs.declared.functions.FunctionIR.{FunctionIR}
use Rattle.plan_meaning.specs.Typing.{AllHold, function_checks}
use Rattle.plan_meaning.proofs.UnpivotLemmas.{unpivot_good}
use Rattle.plan_value.specs.Shown.{schema_of}
use Rattle.plan_function_tables.proofs.FunctionLemmas.{rename-checked, row-index-checked}
use Rattle.plan_function_tables.proofs.function.mapped.Goals as goal

pub renamed-requires : goal.renamed-requires
renamed-requires c =
    let s = schema_of c.args.table in
    rw (c.as_slice.ensures, c.as_slice-in-Rename.ensures)
    (rename-checked c.in-Rename.existing c.in-Rename.new s (subst (λ (f : FunctionIR). AllHold (function_checks f s)) c.in-Rename.is c.requires))

pub numbered-requires : goal.numbered-requires
numbered-requires c =
    let s = schema_of c.args.table in
    row-index-checked c.in-RowIndex.name s (subst (λ (f : FunctionIR). AllHold (function_checks f s)) c.in-RowIndex.is c.requires)

pub unpivoted-requires : goal.unpivoted-requires
unpivoted-requires c =
    let s = schema_of c.args.table in
    (unpivot_good c.in-Unpivot.args s (subst (λ (f : FunctionIR). AllHold (function_checks f s)) c.in-Unpivot.is c.requires)).differ
