-- What pruning makes of a join is read again of what is written for it.
use Rattle.std.proofs.Common.{◌≡◌, Bool, true, false, cond, List, [], ◌∷◌, map, Option, Some, None, refl}
use Rattle.std.specs.List.{list_all, AllByRecursion}
use Rattle.std.specs.Option.{option_map}
use Rattle.std.specs.Str.{bytes_eq}
use Rattle.plan_core.specs.Columns.{Columns, names_of}
use Rattle.plan_core.specs.Names.{has}
use Rattle.plan_core.specs.Options.{default_projection}
use Rattle.plan_options.specs.declared.join.JoinArgs.{JoinArgs}
use Rattle.plan_options.specs.declared.join.JoinCoalesce.TheVariants.{CoalesceColumns}
use Rattle.plan_tree.specs.Rose.{Roses, rose, no_roses, more, items}
use Rattle.plan_expr.specs.declared.expr_ir.OutputName.{OutputName}
use Rattle.plan_expr.specs.declared.expr_ir.OutputName.TheVariants as output
use Rattle.plan_expr.specs.Exprs.{Expr, ExprOp, Named, alias, aggregate, binary, call, column, len, literal, ternary, window}
use Rattle.plan_expr.specs.Leaves.{Name}
use Rattle.plan_ir.specs.Plans.{Op, Plan, join, select, simple_projection}
use Rattle.plan_join.specs.Naming.{has_right}
use Rattle.plan_join.specs.Told.{KindOptions, Told, condition, inequalities}
use Rattle.plan_pruned.specs.Renamed.{renamed_exprs, renamed_op}
use Rattle.plan_pruned.specs.JoinPruned.{are_called_alike, columns_left, join_left, may_coalesce, name_now, named_now, narrowed_args, pruned_join, renamed_condition, renamed_expr, renamed_kind, renamed_output, renaming, topped, topped_if}
use Rattle.plan_doc_parts.specs.Parts.{output_name_of}
use Rattle.plan_text_pieces.specs.Origins.{name_text, origin_text}
use Rattle.plan_round_trip.proofs.Renumbered.{NamedTold, OpTold, conditions}
use Rattle.plan_round_trip.proofs.Told.{ToldSlice}
use Rattle.plan_round_trip.proofs.Trees.{Within, all_append, all_first, all_second}
use Rattle.plan_round_trip.proofs.ListedParts.{RestTold}
use Rattle.plan_round_trip.proofs.ListedTrees.{AreTold, IsTold, one_more}

-- an output name is read again
abbrev NameTold : OutputName → Type 0
NameTold o = output_name_of (origin_text o) (name_text o) ≡ Some o

output_told : (now : Name → Name) (o : OutputName) → NameTold o → NameTold (renamed_output now o)
unfolding output_name_of
output_told now (output.ColumnLhs a) t = refl
output_told now (output.LiteralLhs a) t = t
output_told now (output.Alias a) t = t
output_told now output.None t = t

column_told : (a : Name) → NameTold (output.ColumnLhs a)
unfolding output_name_of
column_told a = refl

alias_told : (a : Name) → NameTold (output.Alias a)
unfolding output_name_of
alias_told a = refl

op_renamed : (now : Name → Name) (op : ExprOp) → OpTold op → OpTold (renamed_op now op)
op_renamed now (column name) t = tt
op_renamed now (literal value) t = t
op_renamed now (alias name) t = tt
op_renamed now (binary op) t = tt
op_renamed now ternary t = tt
op_renamed now (aggregate op) t = tt
op_renamed now (call function options) t = t
op_renamed now window t = tt
op_renamed now len t = tt

exprs_renamed : (now : Name → Name) (es : Roses (Unit {0}) ExprOp) → AllByRecursion OpTold (items es) → AllByRecursion OpTold (items (renamed_exprs now es))
exprs_renamed now no_roses a = tt
exprs_renamed now (more (rose n op kids) rest) a = (
  op_renamed now op a.0,
  all_append OpTold (items (renamed_exprs now kids)) (items (renamed_exprs now rest))
      (exprs_renamed now kids (all_first OpTold (items kids) (items rest) a.1))
      (exprs_renamed now rest (all_second OpTold (items kids) (items rest) a.1)),
)

expr_renamed : (now : Name → Name) (e : Expr) → Within OpTold e → Within OpTold (renamed_expr now e)
expr_renamed now (rose n op es) a =
    (op_renamed now op a.0, all_append OpTold (items (renamed_exprs now es)) [] (exprs_renamed now es (all_first OpTold (items es) [] a.1)) tt)

condition_told : (now : Name → Name) (e : Named) → NamedTold e → NamedTold (renamed_condition now e)
condition_told now e t = record { name = output_told now e.name t.name; expr = expr_renamed now e.expr t.expr }

conditions_told : (now : Name → Name) (o : Option KindOptions) → AllByRecursion NamedTold (conditions o) → AllByRecursion NamedTold (conditions (option_map (renamed_kind now) o))
conditions_told now None a = tt
conditions_told now (Some (inequalities os)) a = tt
conditions_told now (Some (condition e)) a = (condition_told now e a.0, tt)

-- ---- what goes on top

renaming_told : (now : Name → Name) (a : Name) → NamedTold (renaming now a)
renaming_told now a = record { name = at (bytes_eq (now a) a); expr = (tt, tt) }
  where
    at : (b : Bool) → NameTold (cond b (output.ColumnLhs a) (output.Alias a))
    at true = column_told a
    at false = alias_told a

renamings_told : (now : Name → Name) (asked : List Name) → AllByRecursion NamedTold (map (renaming now) asked)
renamings_told now [] = tt
renamings_told now (a ∷ asked) = (renaming_told now a, renamings_told now asked)

topped_told : (now : Name → Name) (asked : List Name) (columns : Columns) (plan : Plan) → IsTold plan → IsTold (topped now asked columns plan)
topped_told now asked columns plan t = at (are_called_alike now asked) (list_all (has asked) (names_of columns))
  where
    cut : Plan
    cut = rose tt (simple_projection (named_now now columns asked)) (more plan no_roses)

    at : (a b : Bool) → IsTold (cond a (cond b plan cut) (rose tt (select (map (renaming now) asked) (named_now now columns asked) default_projection) (more plan no_roses)))
    at true true = t
    at true false = (tt, one_more plan no_roses t tt)
    at false b = (renamings_told now asked, one_more plan no_roses t tt)

on_top_told : (some : Bool) (now : Name → Name) (asked : List Name) (columns : Columns) (plan : Plan) → IsTold plan → IsTold (topped_if some now asked columns plan)
on_top_told true now asked columns plan t = topped_told now asked columns plan t
on_top_told false now asked columns plan t = t

-- ---- the arguments

args_told : (args : JoinArgs) (asked : List Name) (right_on : List Named) (s : Columns) → ToldSlice args.slice → ToldSlice (narrowed_args args asked right_on s).slice
args_told args asked right_on s t = at (may_coalesce args asked right_on s)
  where
    at : (b : Bool) → ToldSlice (cond b (record args { coalesce = CoalesceColumns }) args).slice
    at true = t
    at false = t

pub join_told : (asked : List Name) (left_on right_on : List Named) (stored : Columns) (told : Told) (s t : Columns) (inputs : Roses (Unit {0}) Op) → RestTold (join left_on right_on stored told) → AreTold inputs → IsTold (pruned_join asked left_on right_on stored told s t inputs)
join_told [] left_on right_on stored told s t inputs r a = (r, a)
join_told (b ∷ asked) left_on right_on stored told s t inputs r a =
    let now = name_now (b ∷ asked) left_on right_on told s t inputs in
    on_top_told (has_right told.args.how) now (b ∷ asked) (columns_left (b ∷ asked) left_on right_on told s t inputs) (join_left (b ∷ asked) left_on right_on told s t inputs)
    ((r.0, r.1, args_told told.args (b ∷ asked) right_on s r.2, conditions_told now told.options r.3), a)
