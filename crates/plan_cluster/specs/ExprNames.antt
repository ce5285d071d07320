-- Expressions by the names under which they are put out.
use Rattle.std.specs.Prelude.{List, [], ◌∷◌, map, Option, Some, None, unwrap_or, if◌then◌else◌}
use Rattle.std.specs.Str.{bytes_eq}
use Rattle.plan_expr.specs.declared.expr_ir.ExprIR.{ExprIR}
use Rattle.plan_expr.specs.Leaves.{Name}
use Rattle.plan_expr.specs.Naming.{name_of}

-- the name under which an expression is put out
abbrev pub expr_name : ExprIR → Name
expr_name e = name_of e.output_name

-- the names under which expressions are put out, in order
abbrev pub expr_names : List ExprIR → List Name
expr_names es = map expr_name es

-- the first expression of a name
abbrev pub expr_named : List ExprIR → Name → Option ExprIR
expr_named [] b = None
expr_named (e ∷ es) b = if bytes_eq b (expr_name e) then Some e else expr_named es b

-- expressions with others of the same names in their places
abbrev pub exprs_replaced : (takes lower : List ExprIR) → List ExprIR
exprs_replaced takes lower = map (λ (l : ExprIR). unwrap_or (expr_named takes (expr_name l)) l) lower
