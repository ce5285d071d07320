-- The answer of a union whose inputs were found to have the same columns.
use Rattle.std.proofs.Common.{◌≡◌, Bool, true, cond, List, [], ◌∷◌, ◌++◌, Some, None, sym, ap, ◌∙◌, subst}
use Rattle.plan_core.specs.declared.arena.Node.{Node}
use Rattle.plan_core.specs.declared.error.PolarsError.TheVariants.{InvalidOperation}
use Rattle.plan_core.specs.Columns.{Columns}
use Rattle.plan_options.specs.declared.union.UnionOptions.{UnionOptions}
use Rattle.plan_ir.specs.Plans.{union}
use Rattle.plan_meaning.specs.Typing.{at, checks, first_fault, first_schema, is_built_union, same_checks}
use Rattle.plan_frame.proofs.TurnLemmas.{AllAre}
use Rattle.plan_meaning.proofs.UnionLemmas.{last_are, union_inputs}
use Rattle.plan_meaning.proofs.Validity.{all_hold_unless}

pub union_answer : (n : Node) (options : UnionOptions) (ss rest : List Columns) (s : Columns) → is_built_union options ss ≡ true → first_fault n (same_checks ss) ≡ None → ss ≡ rest ++ s ∷ [] → (first_fault n (checks (union options) ss) ≡ None) × (first_schema ss ≡ s)
union_answer n options ss rest s built none is =
    let all : first_fault n (checks (union options) ss) ≡ None =
    ap (λ (b : Bool). cond b (first_fault n (same_checks ss)) (Some (InvalidOperation (at n 0)))) built ∙ none in
    let are : AllAre (first_schema ss) ss = union_inputs options ss (all_hold_unless n (checks (union options) ss) all) in
    (all, sym (last_are (first_schema ss) s rest (subst (AllAre (first_schema ss)) is are)))
