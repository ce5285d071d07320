use Rattle.std.proofs.Common.{◌≡◌, List, [], ◌∷◌, map, sym, subst}
use Rattle.std.specs.Prelude.{IfOk}
use Rattle.plan_expr.specs.Exprs.{all_named_at}
use Rattle.plan_ir.specs.Plans.{join}
use Rattle.plan_join.specs.Told.{told_at}
use Rattle.plan_meaning.specs.JoinChecks.{join_checks}
use Rattle.plan_meaning.specs.Typing.{AllHold, checks}
use Rattle.plan_table.specs.declared.table.Table.{Table}
use Rattle.plan_function_tables.specs.Given.{Gives}
use Rattle.plan_value.specs.Shown.{schema_of}
use Rattle.plan_eval.proofs.JoinLemmas.{all-distinct, as-many, both-tables, has-condition, join-gives, left-stand, right-stand}
use Rattle.plan_eval.proofs.join.join.Goals as goal

-- the tables, and what the checks say of their columns

two : (c : goal.After-right-item) → c.args.tables.now ≡ c.left-item.result ∷ c.right-item.result ∷ []
two c = both-tables c.args.tables.now c.left-item.result c.right-item.result c.in-len2.len_at_least c.in-len2.len_below c.left-item.is c.right-item.is

valid : (c : goal.After-right-item) → AllHold (join_checks (all_named_at c.args.ex.now c.args.left_on.now) (all_named_at c.args.ex.now c.args.right_on.now) c.requires.valid.0 (told_at c.args.ex.now c.args.options.now) (schema_of c.left-item.result) (schema_of c.right-item.result))
valid c =
    let ex = c.args.ex.now in
    subst (λ (tables : List Table). AllHold (checks (join (all_named_at ex c.args.left_on.now) (all_named_at ex c.args.right_on.now) c.requires.valid.0 (told_at ex c.args.options.now)) (map schema_of tables))) (two c) c.requires.valid.1

pub evaluate_join-requires-clause-left_keys : goal.evaluate_join-requires-clause-left_keys
evaluate_join-requires-clause-left_keys c = left-stand c.args.ex.now c.args.left_on.now c.args.right_on.now c.args.options.now c.requires.stand

pub evaluate_join-requires-clause-right_keys : goal.evaluate_join-requires-clause-right_keys
evaluate_join-requires-clause-right_keys c = right-stand c.args.ex.now c.args.left_on.now c.args.right_on.now c.args.options.now c.requires.stand

pub evaluate_join-requires-clause-pairs : goal.evaluate_join-requires-clause-pairs
evaluate_join-requires-clause-pairs c = as-many c.args.ex.now c.args.left_on.now c.args.right_on.now c.args.options.now c.requires.stand c.requires.valid.0 _ _ (valid c)

pub evaluate_join-requires-clause-told : goal.evaluate_join-requires-clause-told
evaluate_join-requires-clause-told c = has-condition c.args.ex.now c.args.left_on.now c.args.right_on.now c.args.options.now c.requires.stand c.requires.valid.0 _ _ (valid c)

pub evaluate_join-requires-clause-distinct : goal.evaluate_join-requires-clause-distinct
evaluate_join-requires-clause-distinct c = all-distinct c.args.ex.now c.args.left_on.now c.args.right_on.now c.args.options.now c.requires.stand c.requires.valid.0 _ _ (valid c)

pub returns : goal.returns
returns c ts schema =
    let ex = c.args.ex.now in
    let lefts = c.args.left_on.now in
    let rights = c.args.right_on.now in
    let o = c.args.options.now in
    let left = c.left-item.result in
    let right = c.right-item.result in
    let two = both-tables c.args.tables.now left right c.in-len2.len_at_least c.in-len2.len_below c.left-item.is c.right-item.is in
    subst (λ (tables : List Table). IfOk c.evaluate_join.result (Gives ts (join (all_named_at ex lefts) (all_named_at ex rights) schema (told_at ex o)) tables)) (sym two)
    (join-gives ts ex lefts rights o schema left right c.evaluate_join.result (left-stand ex lefts rights o c.requires.stand) (right-stand ex lefts rights o c.requires.stand) c.evaluate_join.ensures.choice c.evaluate_join.ensures.types)
