use Rattle.std.proofs.Common.{◌∙◌, List, ap, true}
use Rattle.plan_core.specs.Columns.{with_types}
use Rattle.plan_core.specs.declared.options.ProjectionOptions.{ProjectionOptions}
use Rattle.plan_expr.specs.Exprs.{all_named_at}
use Rattle.plan_frame.specs.Frames.{Column, with_columns}
use Rattle.plan_meaning.proofs.CheckParts.{made_good}
use Rattle.plan_value.specs.Shown.{columns_shown, schema_of}
use Rattle.plan_eval.proofs.MadeLemmas.{stored-named, stored-made}
use Rattle.plan_eval.proofs.hstack.hstack.Goals as goal

abbrev some_options : ProjectionOptions
some_options = record { run_parallel = true; duplicate_check = true; should_broadcast = true }

pub made_list-requires-clause-named : goal.made_list-requires-clause-named
made_list-requires-clause-named c =
    stored-named c.args.ex.now (schema_of c.args.table) c.args.exprs.now c.args.schema.now (schema_of c.args.table)
    (made_good (schema_of c.args.table) (all_named_at c.args.ex.now c.args.exprs.now) c.args.schema.now (schema_of c.args.table) (c.requires.valid some_options))

pub returns : goal.returns
returns c ts options =
    let es = all_named_at c.args.ex.now c.args.exprs.now in
    let t = c.args.table in
    let s = schema_of t in
    record {
      step = c.in_ok-with_all.ensures.frame ∙ ap (λ (cs : List Column). record { height = t.height; columns = with_columns (columns_shown t.columns) cs }) c.in_ok-made.ensures.shown;
      types =
          c.in_ok-with_all.ensures.types ∙ ap (with_types s) c.in_ok-made.ensures.types
          ∙ ap (with_types s) (stored-made c.args.ex.now s c.args.exprs.now c.args.schema.now s (made_good s es c.args.schema.now s (c.requires.valid some_options)));
    }
