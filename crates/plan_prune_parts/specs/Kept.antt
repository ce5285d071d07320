-- What selections, additions, groupings and concatenations keep and store, said of expressions with their numbers.
use Rattle.std.specs.Prelude.{Bool, true, false, List, [], ◌∷◌, ◌++◌, map, if◌then◌else◌, filter as filter_list, slice_get, slice_set, unwrap_or}
use Rattle.plan_core.specs.declared.arena.Node.{Node}
use Rattle.plan_core.specs.declared.options.ProjectionOptions.{ProjectionOptions}
use Rattle.plan_core.specs.Columns.{Columns, with_types}
use Rattle.plan_core.specs.Names.{has}
use Rattle.plan_expr.specs.declared.aexpr.AExpr.{AExpr}
use Rattle.plan_expr.specs.declared.expr_ir.ExprIR.{ExprIR}
use Rattle.plan_ir.specs.declared.ir.IR.{IR}
use Rattle.plan_ir.specs.declared.ir.IR.TheVariants.{Select, HStack, Invalid}
use Rattle.plan_expr.specs.Exprs.{Named, expr_at, all_named_at}
use Rattle.plan_expr.specs.Leaves.{Name}
use Rattle.plan_expr.specs.Naming.{name_of}
use Rattle.plan_expr.specs.Scalars.{is_scalar}
use Rattle.plan_frame.specs.ExprLists.{all_scalar}
use Rattle.plan_frame.specs.Beside.{side_by_side}
use Rattle.plan_pruned.specs.Pruned.{typed_names, added_names}

-- the expressions that are asked, in their order
abbrev pub asked_exprs : List Name → List ExprIR → List ExprIR
asked_exprs asked es = filter_list (λ (e : ExprIR). has asked (name_of e.output_name)) es

-- the expressions that a selection or an addition makes columns of; none for another node
abbrev pub made_by : IR → List ExprIR
made_by (Select i es schema options) = es
made_by (HStack i es schema options) = es
made_by p = []

-- the first expression that isn't scalar, if there is one
abbrev pub many_at : List AExpr → List ExprIR → List ExprIR
many_at ex [] = []
many_at ex (e ∷ es) = if is_scalar (expr_at ex e.node) then many_at ex es else e ∷ []

-- some of the expressions; where these are scalar throughout, the first that isn't too, last
abbrev pub with_many : List AExpr → List ExprIR → List ExprIR → List ExprIR
with_many ex ks es = if all_scalar (all_named_at ex ks) then ks ++ many_at ex es else ks

-- what a selection keeps; asked nothing, all
abbrev pub selected_at : List AExpr → List Name → List ExprIR → List ExprIR
selected_at ex [] es = es
selected_at ex (a ∷ asked) es = with_many ex (asked_exprs (a ∷ asked) es) es

-- what an addition or a grouping keeps; asked nothing, all
abbrev pub stacked_at : List Name → List ExprIR → List ExprIR
stacked_at [] es = es
stacked_at (a ∷ asked) es = asked_exprs (a ∷ asked) es

-- some name is asked
abbrev pub is_some_name : List Name → Bool
is_some_name [] = false
is_some_name (a ∷ names) = true

-- the names under which expressions are put out, in order
abbrev pub names_at : List ExprIR → List Name
names_at es = map (λ (e : ExprIR). name_of e.output_name) es

-- some columns, and those of the names beside them: each in the place of the one of its name, or last, with its type among others
abbrev pub with_typed : Columns → List Name → Columns → Columns
with_typed base names schema = with_types base (typed_names schema names)

-- what a node stores that keeps the names; asked nothing, what it stored
abbrev pub stored_after : Bool → Columns → List Name → Columns → Columns
stored_after true base names schema = with_typed base names schema
stored_after false base names schema = schema

-- the columns that a concatenation stores over inputs with these columns, where names are asked; asked nothing, what it stored
abbrev pub beside_after : Bool → List Columns → Columns → Columns
beside_after true ss schema = side_by_side ss
beside_after false ss schema = schema

-- what an addition asks that keeps these expressions; asked nothing, nothing
abbrev pub asks_after : List Name → List Named → Columns → List Name
asks_after [] es s = []
asks_after (a ∷ asked) es s = added_names (a ∷ asked) es s

-- the arena with what stands at the second number at the first
abbrev pub moved : List IR → Node → Node → List IR
moved lp n i = slice_set (slice_set lp i.0 Invalid) n.0 (unwrap_or (slice_get lp i.0) Invalid)

-- the arena with an addition at the first number, over the second, where these are the columns; asked something and without expressions, with what stands at the second
abbrev pub with_stacked : Bool → List IR → Node → Node → List ExprIR → Columns → ProjectionOptions → Columns → List IR
with_stacked false lp n i es schema options s = slice_set lp n.0 (HStack i es schema options)
with_stacked true lp n i [] schema options s = moved lp n i
with_stacked true lp n i (e ∷ es) schema options s = slice_set lp n.0 (HStack i (e ∷ es) (with_typed s (names_at (e ∷ es)) schema) options)
