-- Where output names come from, and what they are.
use Rattle.std.specs.Prelude.{ℕ, List, [], codes}
use Rattle.plan_expr.specs.declared.expr_ir.OutputName.{OutputName}
use Rattle.plan_expr.specs.declared.expr_ir.OutputName.TheVariants as names

-- where an output name comes from
abbrev pub origin_text : OutputName → List ℕ
origin_text names.None = codes "none"
origin_text (names.LiteralLhs s) = codes "lit"
origin_text (names.ColumnLhs s) = codes "col"
origin_text (names.Alias s) = codes "alias"

-- an output name, empty where there is none
abbrev pub name_text : OutputName → List ℕ
name_text names.None = []
name_text (names.LiteralLhs s) = s
name_text (names.ColumnLhs s) = s
name_text (names.Alias s) = s
