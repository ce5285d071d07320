-- Clustered plans worked out.
use Rattle.std.specs.Prelude.{◌≡◌, ℕ, pos, false, List, [], ◌∷◌, Some, None, codes}
use Rattle.plan_core.specs.Columns.{Columns}
use Rattle.plan_core.specs.Options.{default_projection}
use Rattle.plan_core.specs.declared.options.ProjectionOptions.{ProjectionOptions}
use Rattle.plan_core.specs.declared.data_type.DataType.TheVariants as types
use Rattle.plan_tree.specs.Rose.{rose, no_roses, more}
use Rattle.plan_expr.specs.declared.expr_ir.OutputName.TheVariants as output
use Rattle.plan_expr.specs.declared.literal.LiteralValue.TheVariants as literals
use Rattle.plan_expr.specs.declared.operator.Operator.TheVariants.{Plus}
use Rattle.plan_expr.specs.Exprs.{binary, column, literal, Expr, Named}
use Rattle.plan_expr.specs.Leaves.{Name}
use Rattle.plan_ir.specs.Plans.{frame_scan, hstack, simple_projection, Plan}
use Rattle.plan_collapse_laws.specs.Clustered.{clustered}

-- a column
abbrev pub col : Name → Expr
col a = rose tt (column a) no_roses

-- a whole number
abbrev pub num : ℕ → Expr
num n = rose tt (literal (literals.Int64 (pos n))) no_roses

-- a sum
abbrev pub plus : Expr → Expr → Expr
plus x y = rose tt (binary Plus) (more x (more y no_roses))

-- an expression under a name
abbrev pub as_name : Name → Expr → Named
as_name a e = record { name = output.Alias a; expr = e }

-- columns of whole numbers
abbrev pub ints : List Name → Columns
ints [] = []
ints (a ∷ names) = (a, types.Int64) ∷ ints names

-- a scan of a frame of whole numbers
abbrev pub scanned : List Name → Plan
scanned names = rose tt (frame_scan (Some 0) (ints names) None) no_roses

-- an addition that has then these columns of whole numbers
abbrev pub adding : List Named → List Name → Plan → Plan
adding es names p = rose tt (hstack es (ints names) default_projection) (more p no_roses)

-- the names of the columns here
abbrev pub a : Name
a = codes "a"

abbrev pub b : Name
b = codes "b"

abbrev pub x : Name
x = codes "x"

abbrev pub y : Name
y = codes "y"

abbrev pub z : Name
z = codes "z"

-- an expression that reads nothing of the lower addition moves into it from behind one that stays, and a projection restores the order
abbrev pub MovesFromBehind : Type 0
MovesFromBehind =
    clustered (adding (as_name y (plus (col x) (num 1)) ∷ as_name z (col a) ∷ []) (a ∷ b ∷ x ∷ y ∷ z ∷ []) (adding (as_name x (col a) ∷ []) (a ∷ b ∷ x ∷ []) (scanned (a ∷ b ∷ []))))
    ≡ rose tt (simple_projection (ints (a ∷ b ∷ x ∷ y ∷ z ∷ []))) (more (adding (as_name y (plus (col x) (num 1)) ∷ []) (a ∷ b ∷ x ∷ z ∷ y ∷ []) (adding (as_name x (col a) ∷ as_name z (col a) ∷ []) (a ∷ b ∷ x ∷ z ∷ []) (scanned (a ∷ b ∷ [])))) no_roses)

-- one that remakes what it reads stays
abbrev pub StaysReading : Type 0
StaysReading =
    clustered (adding (as_name x (plus (col x) (num 1)) ∷ []) (a ∷ x ∷ []) (adding (as_name x (col a) ∷ []) (a ∷ x ∷ []) (scanned (a ∷ []))))
    ≡ adding (as_name x (plus (col x) (num 1)) ∷ []) (a ∷ x ∷ []) (adding (as_name x (col a) ∷ []) (a ∷ x ∷ []) (scanned (a ∷ [])))

-- two that swap columns move together, and the additions become one
abbrev pub SwapsTogether : Type 0
SwapsTogether =
    clustered (adding (as_name a (col b) ∷ as_name b (col a) ∷ []) (a ∷ b ∷ x ∷ []) (adding (as_name x (num 1) ∷ []) (a ∷ b ∷ x ∷ []) (scanned (a ∷ b ∷ []))))
    ≡ adding (as_name x (num 1) ∷ as_name a (col b) ∷ as_name b (col a) ∷ []) (a ∷ b ∷ x ∷ []) (scanned (a ∷ b ∷ []))

-- one that remakes what nothing reads takes its place
abbrev pub TakesPlace : Type 0
TakesPlace =
    clustered (adding (as_name b (num 2) ∷ []) (a ∷ b ∷ []) (adding (as_name b (num 1) ∷ []) (a ∷ b ∷ []) (scanned (a ∷ b ∷ []))))
    ≡ adding (as_name b (num 2) ∷ []) (a ∷ b ∷ []) (scanned (a ∷ b ∷ []))

-- one that moves from behind one that stays leaves a projection also where the order came out the same
abbrev pub RestoresSameOrder : Type 0
RestoresSameOrder =
    clustered (adding (as_name y (col x) ∷ as_name a (num 1) ∷ []) (a ∷ x ∷ y ∷ []) (adding (as_name x (num 2) ∷ []) (a ∷ x ∷ []) (scanned (a ∷ []))))
    ≡ rose tt (simple_projection (ints (a ∷ x ∷ y ∷ []))) (more (adding (as_name y (col x) ∷ []) (a ∷ x ∷ y ∷ []) (adding (as_name x (num 2) ∷ as_name a (num 1) ∷ []) (a ∷ x ∷ []) (scanned (a ∷ [])))) no_roses)

-- an addition with these options
abbrev pub adding_by : ProjectionOptions → List Named → List Name → Plan → Plan
adding_by options es names p = rose tt (hstack es (ints names) options) (more p no_roses)

-- options that forbid to run in parallel
abbrev pub one_by_one : ProjectionOptions
one_by_one = record default_projection { run_parallel = false }

-- where an expression takes a place and another stays, both additions have merged options
abbrev pub MergesOptions : Type 0
MergesOptions =
    clustered (adding_by one_by_one (as_name y (col x) ∷ as_name b (num 2) ∷ []) (a ∷ b ∷ x ∷ y ∷ []) (adding (as_name b (num 1) ∷ as_name x (num 3) ∷ []) (a ∷ b ∷ x ∷ []) (scanned (a ∷ []))))
    ≡ adding_by one_by_one (as_name y (col x) ∷ []) (a ∷ b ∷ x ∷ y ∷ []) (adding_by one_by_one (as_name b (num 2) ∷ as_name x (num 3) ∷ []) (a ∷ b ∷ x ∷ []) (scanned (a ∷ [])))

-- an addition of nothing and the one below it are one
abbrev pub MergesEmpty : Type 0
MergesEmpty = clustered (adding [] (a ∷ x ∷ []) (adding (as_name x (num 1) ∷ []) (a ∷ x ∷ []) (scanned (a ∷ [])))) ≡ adding (as_name x (num 1) ∷ []) (a ∷ x ∷ []) (scanned (a ∷ []))
