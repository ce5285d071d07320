use Rattle.std.proofs.Common.{◌≡◌, ◌∙◌, ap, sym, subst, arith, true, List}
use Rattle.plan_core.specs.Columns.{Columns, type_of}
use Rattle.plan_core.specs.Names.{has}
use Rattle.plan_expr.specs.Leaves.{Name}
use Rattle.plan_ir.specs.declared.functions.FunctionIR.{FunctionIR}
use Rattle.plan_schema.specs.Stored.{given_by}
use Rattle.plan_prune_names.proofs.ReplaceLemmas.{unpivot-same}
use Rattle.plan_prune_names.proofs.replaced.add_read.Goals as goal

pub returns-then-is_told : goal.returns-then-is_told
returns-then-is_told c = λ yes s shows.
    let part : Columns = c.add_named-in-Unpivot.new.part in
    let args = c.in-Unpivot.args in
    let on : (a : Name) → has args.on a ≡ true → type_of part a ≡ type_of s a = λ a e.
    c.in_ok-is_repeated-in-Unpivot.ensures.stays yes a (c.in_ok-is_told-in-Unpivot.ensures.named c.if-is_told.true a (ap (λ (ns : List Name). has ns a) c.as_slice.ensures ∙ e)) ∙ shows a in
    let index : (a : Name) → has args.index a ≡ true → type_of part a ≡ type_of s a = λ a e.
    c.in_ok-is_repeated-in-Unpivot.ensures.named yes a (ap (λ (ns : List Name). has ns a) c.as_slice-in-Unpivot.ensures ∙ e) ∙ shows a in
    subst (λ (f : FunctionIR). given_by f part ≡ given_by f s) (sym c.in-Unpivot.is)
    (unpivot-same args s part on index (λ z. omega (arith, z, c.len.ensures, c.if-len-eq0.false)))
