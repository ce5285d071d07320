use Rattle.std.proofs.Common.{◌∙◌, ℕ, List, map, [], ap, ap₂, true}
use Rattle.plan_core.specs.Columns.{with_types}
use Rattle.plan_core.specs.declared.options.ProjectionOptions.{ProjectionOptions}
use Rattle.plan_expr.specs.Exprs.{all_named_at}
use Rattle.plan_frame.specs.Made.{made}
use Rattle.plan_table.specs.declared.column.Column.{Column as Typed}
use Rattle.plan_table.specs.Tables.{types_of}
use Rattle.plan_meaning.proofs.CheckParts.{made_good}
use Rattle.plan_function_tables.specs.Given.{stored_column}
use Rattle.plan_value.specs.Shown.{columns_shown, frame_of, schema_of}
use Rattle.plan_eval.proofs.MadeLemmas.{stored-named, stored-made}
use Rattle.plan_eval.proofs.select.select.Goals as goal

abbrev some_options : ProjectionOptions
some_options = record { run_parallel = true; duplicate_check = true; should_broadcast = true }

pub made-requires-clause-named : goal.made-requires-clause-named
made-requires-clause-named c =
    stored-named c.args.ex.now [] c.args.exprs.now c.args.schema.now (schema_of c.args.table.now)
    (made_good [] (all_named_at c.args.ex.now c.args.exprs.now) c.args.schema.now (schema_of c.args.table.now) (c.requires.valid some_options).1)

pub returns : goal.returns
returns c ts options =
    let es = all_named_at c.args.ex.now c.args.exprs.now in
    let g = frame_of c.args.table.now in
    let s = schema_of c.args.table.now in
    record {
      step = c.in_ok-made.ensures.frame ∙ ap₂ (λ (h : ℕ) (cs : List Typed). made h (columns_shown cs) es g) c.selected_height-height.ensures c.new.ensures;
      types =
          c.in_ok-made.ensures.types ∙ ap (λ (cs : List Typed). with_types (types_of cs) (map (stored_column c.args.schema.now) c.args.exprs.now)) c.new.ensures
          ∙ ap (with_types []) (stored-made c.args.ex.now [] c.args.exprs.now c.args.schema.now s (made_good [] es c.args.schema.now s (c.requires.valid some_options).1));
    }
