use Rattle.std.proofs.Common.{◌≡◌, ◌∙◌, ap, List, true, sym, rules}
use Rattle.plan_core.specs.Columns.{Columns}
use Rattle.plan_meaning.specs.Typing.{first_fault, is_built_union, same_checks}
use Rattle.plan_meaning.proofs.UnionLemmas.{never_built}
use Rattle.plan_check.proofs.UnionFaults.{union_answer}
use Rattle.plan_check.proofs.union.union_schema.Goals as goal

pub unreachable-requires : goal.unreachable-requires
unreachable-requires c =
    let built : is_built_union c.args.options.now c.args.schemas ≡ true = search rules in
    never_built c.args.options.now c.args.schemas c.in-None.ensures.0 built

pub returns : goal.returns
returns c =
    let built : is_built_union c.args.options.now c.args.schemas ≡ true = search rules in
    let none = ap (λ (ss : List Columns). first_fault c.args.node (same_checks ss)) (sym c.as_slice-2.ensures) ∙ c.in_ok-check_same.ensures in
    union_answer c.args.node c.args.options.now c.args.schemas c.pop.new.self c.in-Some.schema built none c.in-Some.ensures
