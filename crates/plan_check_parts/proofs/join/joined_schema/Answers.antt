use Rattle.std.proofs.Common.{◌≡◌, ◌∙◌, None, true, false, sym, arith}
use Rattle.std.proofs.lemmas.Grind.{common_steps}
use Rattle.plan_core.specs.Columns.{Columns, names_of}
use Rattle.plan_join.specs.Naming.{join_columns, key_columns}
use Rattle.plan_expr.specs.Exprs.{all_named_at}
use Rattle.plan_join.specs.Told.{told_at}
use Rattle.plan_meaning.specs.JoinChecks.{join_checks}
use Rattle.plan_meaning.specs.Typing.{first_fault}
use Rattle.plan_meaning.specs.Functions.{all_differ}
use Rattle.plan_check_parts.proofs.JoinFaults.{forms_first, join_fault, keys_are, once_fault, once_none}
use Rattle.plan_check_parts.proofs.JoinLemmas.{within}
use Rattle.plan_check_parts.proofs.join.joined_schema.Goals as goal

pub first_columns-requires-clause-left_keys : goal.first_columns-requires-clause-left_keys
first_columns-requires-clause-left_keys c = within c.args.ex.now c.args.left_on.now c.requires.left_keys

pub first_columns-requires-clause-right_keys : goal.first_columns-requires-clause-right_keys
first_columns-requires-clause-right_keys c = within c.args.ex.now c.args.right_on.now c.requires.right_keys

pub returns-in_err-check_join_forms : goal.returns-in_err-check_join_forms
returns-in_err-check_join_forms c = grind (arith, common_steps, (forms_first c.args.ex.now c.args.left_on.now c.args.right_on.now c.args.options.now c.args.node c.args.stored.now c.args.left.now c.args.right.now).1)

pub returns-in_err-check_join_leaves : goal.returns-in_err-check_join_leaves
returns-in_err-check_join_leaves c = grind (arith, common_steps, join_fault c.args.ex.now c.args.left_on.now c.args.right_on.now c.args.options.now c.requires.left_keys c.requires.right_keys c.args.node c.args.stored.now c.args.left.now c.args.right.now c.in_ok-columns.columns c.in_ok-columns.ensures.types)

pub returns-in_err-check_join_types : goal.returns-in_err-check_join_types
returns-in_err-check_join_types c = grind (arith, common_steps, join_fault c.args.ex.now c.args.left_on.now c.args.right_on.now c.args.options.now c.requires.left_keys c.requires.right_keys c.args.node c.args.stored.now c.args.left.now c.args.right.now c.in_ok-columns.columns c.in_ok-columns.ensures.types)

pub returns-then-not-differ : goal.returns-then-not-differ
returns-then-not-differ c =
    let wide : Columns = join_columns c.args.options.now.args (key_columns c.args.ex.now c.args.left_on.now) (key_columns c.args.ex.now c.args.right_on.now) c.args.left.now c.args.right.now in
    let twice : all_differ (names_of wide) ≡ false = sym c.in_ok-columns.ensures.differ ∙ c.if-not-differ.true in
    let once = once_fault c.args.node c.args.left.now c.args.right.now wide c.names_differ.ensures c.names_differ-2.ensures twice in
    grind (arith, common_steps, join_fault c.args.ex.now c.args.left_on.now c.args.right_on.now c.args.options.now c.requires.left_keys c.requires.right_keys c.args.node c.args.stored.now c.args.left.now c.args.right.now c.in_ok-columns.columns c.in_ok-columns.ensures.types)

pub returns-in_err-check_stored : goal.returns-in_err-check_stored
returns-in_err-check_stored c =
    let wide : Columns = join_columns c.args.options.now.args (key_columns c.args.ex.now c.args.left_on.now) (key_columns c.args.ex.now c.args.right_on.now) c.args.left.now c.args.right.now in
    let differ : all_differ (names_of wide) ≡ true = sym c.in_ok-columns.ensures.differ ∙ c.if-not-differ.false in
    let once = once_none c.args.node c.args.left.now c.args.right.now wide c.names_differ.ensures c.names_differ-2.ensures differ in
    let is : c.in_ok-columns.columns ≡ wide = c.in_ok-columns.ensures.whole c.if-not-differ.false in
    grind (arith, common_steps, join_fault c.args.ex.now c.args.left_on.now c.args.right_on.now c.args.options.now c.requires.left_keys c.requires.right_keys c.args.node c.args.stored.now c.args.left.now c.args.right.now c.in_ok-columns.columns c.in_ok-columns.ensures.types)

pub returns-in_err-check_join_namings : goal.returns-in_err-check_join_namings
returns-in_err-check_join_namings c =
    let wide : Columns = join_columns c.args.options.now.args (key_columns c.args.ex.now c.args.left_on.now) (key_columns c.args.ex.now c.args.right_on.now) c.args.left.now c.args.right.now in
    let differ : all_differ (names_of wide) ≡ true = sym c.in_ok-columns.ensures.differ ∙ c.if-not-differ.false in
    let once = once_none c.args.node c.args.left.now c.args.right.now wide c.names_differ.ensures c.names_differ-2.ensures differ in
    let is : c.in_ok-columns.columns ≡ wide = c.in_ok-columns.ensures.whole c.if-not-differ.false in
    grind (arith, common_steps, join_fault c.args.ex.now c.args.left_on.now c.args.right_on.now c.args.options.now c.requires.left_keys c.requires.right_keys c.args.node c.args.stored.now c.args.left.now c.args.right.now c.in_ok-columns.columns c.in_ok-columns.ensures.types)

pub returns : goal.returns
returns c =
    let wide : Columns = join_columns c.args.options.now.args (key_columns c.args.ex.now c.args.left_on.now) (key_columns c.args.ex.now c.args.right_on.now) c.args.left.now c.args.right.now in
    let differ : all_differ (names_of wide) ≡ true = sym c.in_ok-columns.ensures.differ ∙ c.if-not-differ.false in
    let once = once_none c.args.node c.args.left.now c.args.right.now wide c.names_differ.ensures c.names_differ-2.ensures differ in
    let is : c.in_ok-columns.columns ≡ wide = c.in_ok-columns.ensures.whole c.if-not-differ.false in
    let none : first_fault c.args.node (join_checks (all_named_at c.args.ex.now c.args.left_on.now) (all_named_at c.args.ex.now c.args.right_on.now) c.args.stored.now (told_at c.args.ex.now c.args.options.now) c.args.left.now c.args.right.now) ≡ None =
    grind (arith, common_steps, join_fault c.args.ex.now c.args.left_on.now c.args.right_on.now c.args.options.now c.requires.left_keys c.requires.right_keys c.args.node c.args.stored.now c.args.left.now c.args.right.now c.in_ok-columns.columns c.in_ok-columns.ensures.types) in
    (none, keys_are c.args.ex.now c.args.left_on.now c.args.right_on.now c.args.options.now c.requires.left_keys c.requires.right_keys c.args.left.now c.args.right.now ∙ sym is)
