-- What an expression is made of: what it is itself, and the expressions in it.
use Rattle.std.specs.Prelude.{◌≡◌, ℕ, ◌<◌, List, [], ◌∷◌, reverse}
use Rattle.plan_dsl.specs.declared.expr.Expr.{Expr, items-the_row-Expr}
use Rattle.plan_dsl.specs.declared.expr.Expr.TheVariants as exprs
use Rattle.plan_dsl.specs.declared.expr.AggExpr.{AggExpr}
use Rattle.plan_dsl.specs.declared.expr.AggExpr.TheVariants as aggs
use Rattle.plan_dsl.specs.declared.arity.Arity.{Arity}
use Rattle.plan_dsl.specs.declared.arity.Arity.TheVariants.{Zero, One, Two, Three, All, Before}
use Rattle.plan_dsl.specs.declared.parts.Head.{Head}
use Rattle.plan_dsl.specs.declared.parts.Head.TheVariants as heads
use Rattle.plan_expr.specs.declared.agg.Aggregate.{Aggregate}
use Rattle.plan_expr.specs.declared.agg.Aggregate.TheVariants as kinds

-- the expression that is aggregated
abbrev pub aggregated : AggExpr → Expr
aggregated (aggs.Min' p e) = e
aggregated (aggs.Max' p e) = e
aggregated (aggs.Sum' p e) = e
aggregated (aggs.Count' p e nulls) = e
aggregated (aggs.NUnique' p e) = e
aggregated (aggs.First' p e) = e
aggregated (aggs.Last' p e) = e
aggregated (aggs.Implode' p e) = e

-- the aggregate itself
abbrev pub aggregate_of : AggExpr → Aggregate
aggregate_of (aggs.Min' p e) = kinds.Min
aggregate_of (aggs.Max' p e) = kinds.Max
aggregate_of (aggs.Sum' p e) = kinds.Sum
aggregate_of (aggs.Count' p e nulls) = kinds.Count nulls
aggregate_of (aggs.NUnique' p e) = kinds.NUnique
aggregate_of (aggs.First' p e) = kinds.First
aggregate_of (aggs.Last' p e) = kinds.Last
aggregate_of (aggs.Implode' p e) = kinds.Implode

-- the expressions that an expression is made of, in walk order
abbrev pub children : Expr → List Expr
children (exprs.Alias' p e name) = e ∷ []
children (exprs.Column name) = []
children (exprs.Columns names) = []
children (exprs.DtypeColumn types) = []
children (exprs.IndexColumn places) = []
children (exprs.Literal value) = []
children (exprs.BinaryExpr' p left op q right) = left ∷ right ∷ []
children (exprs.Cast' p e dtype) = e ∷ []
children (exprs.Sort' p e descending nulls_last) = e ∷ []
children (exprs.Gather' p e q idx returns_scalar) = e ∷ idx ∷ []
children (exprs.SortBy' p e s by) = e ∷ reverse (items-the_row-Expr _ by)
children (exprs.Agg agg) = aggregated agg ∷ []
children (exprs.Ternary' p predicate q truthy r falsy) = truthy ∷ falsy ∷ predicate ∷ []
children (exprs.Function' s input function options) = items-the_row-Expr _ input
children (exprs.Explode' p e) = e ∷ []
children (exprs.Filter' p input q by) = input ∷ by ∷ []
children (exprs.Window' p function s partition_by) = function ∷ items-the_row-Expr _ partition_by
children exprs.Wildcard = []
children (exprs.Slice' p input q offset r len) = input ∷ offset ∷ len ∷ []
children (exprs.Exclude' p e names) = e ∷ []
children (exprs.KeepName' p e) = e ∷ []
children (exprs.RenameAlias' p e) = e ∷ []
children exprs.Len = []
children (exprs.Nth place) = []

-- what an expression is beside its children
abbrev pub head_of : Expr → Head
head_of (exprs.Alias' p e name) = heads.Alias name
head_of (exprs.Column name) = heads.Column name
head_of (exprs.Columns names) = heads.Columns names
head_of (exprs.DtypeColumn types) = heads.DtypeColumn types
head_of (exprs.IndexColumn places) = heads.IndexColumn places
head_of (exprs.Literal value) = heads.Literal value
head_of (exprs.BinaryExpr' p left op q right) = heads.BinaryExpr op
head_of (exprs.Cast' p e dtype) = heads.Cast dtype
head_of (exprs.Sort' p e descending nulls_last) = heads.Sort descending nulls_last
head_of (exprs.Gather' p e q idx returns_scalar) = heads.Gather returns_scalar
head_of (exprs.SortBy' p e s by) = heads.SortBy
head_of (exprs.Agg agg) = heads.Agg (aggregate_of agg)
head_of (exprs.Ternary' p predicate q truthy r falsy) = heads.Ternary
head_of (exprs.Function' s input function options) = heads.Function function options
head_of (exprs.Explode' p e) = heads.Explode
head_of (exprs.Filter' p input q by) = heads.Filter
head_of (exprs.Window' p function s partition_by) = heads.Window
head_of exprs.Wildcard = heads.Wildcard
head_of (exprs.Slice' p input q offset r len) = heads.Slice
head_of (exprs.Exclude' p e names) = heads.Exclude names
head_of (exprs.KeepName' p e) = heads.KeepName
head_of (exprs.RenameAlias' p e) = heads.RenameAlias
head_of exprs.Len = heads.Len
head_of (exprs.Nth place) = heads.Nth place

-- of how many expressions an expression is made that is this
abbrev pub arity_of : Head → Arity
arity_of (heads.Column name) = Zero
arity_of (heads.Columns names) = Zero
arity_of (heads.DtypeColumn types) = Zero
arity_of (heads.IndexColumn places) = Zero
arity_of (heads.Literal value) = Zero
arity_of heads.Wildcard = Zero
arity_of heads.Len = Zero
arity_of (heads.Nth place) = Zero
arity_of (heads.BinaryExpr op) = Two
arity_of (heads.Gather returns_scalar) = Two
arity_of heads.Filter = Two
arity_of heads.Ternary = Three
arity_of heads.Slice = Three
arity_of (heads.Function function options) = All
arity_of heads.Window = Before
arity_of heads.SortBy = Before
arity_of _ = One

-- an expression of this arity is made of so many
abbrev pub Counts : Arity → ℕ → Type 0
Counts Zero n = n ≡ 0
Counts One n = n ≡ 1
Counts Two n = n ≡ 2
Counts Three n = n ≡ 3
Counts All n = Unit {0}
Counts Before n = 0 < n

-- an expression that is this is made of so many
abbrev pub Takes : Head → ℕ → Type 0
Takes head n = Counts (arity_of head) n
