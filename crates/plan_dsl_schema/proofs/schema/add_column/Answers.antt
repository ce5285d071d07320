use Rattle.std.proofs.Common.{◌∙◌, ap, sym, not, true, false}
use Rattle.plan_dsl_schema.proofs.SchemaLemmas.{has-typed, typed_there, with_type-new}
use Rattle.plan_dsl_schema.proofs.schema.add_column.Goals as goal

pub returns-then-is_some-clause-new : goal.returns-then-is_some-clause-new
returns-then-is_some-clause-new c =
    let there = typed_there c.args.made.now c.args.name c.as_str.result.now c.get.result true c.as_str.ensures c.get.ensures c.if-is_some.ensures in
    sym (ap not (has-typed c.args.made.now c.args.name ∙ there))

pub returns-clause-new : goal.returns-clause-new
returns-clause-new c =
    let absent = typed_there c.args.made.now c.args.name c.as_str.result.now c.get.result false c.as_str.ensures c.get.ensures c.if-is_some.ensures in
    sym (ap not (has-typed c.args.made.now c.args.name ∙ absent))

pub returns-clause-added : goal.returns-clause-added
returns-clause-added c =
    let absent = typed_there c.args.made.now c.args.name c.as_str.result.now c.get.result false c.as_str.ensures c.get.ensures c.if-is_some.ensures in
    c.in_ok-with_column.ensures.after ∙ with_type-new c.args.made.now c.args.name c.args.dtype absent
