-- Plans worked out: what is left of a selection, of additions of columns, and of a count of rows.
use Rattle.std.proofs.Common.{◌≡◌, true, [], ◌∷◌, Some, None, refl, pos}
use Rattle.std.specs.Prelude.{codes}
use Rattle.plan_core.specs.declared.data_type.DataType.TheVariants as types
use Rattle.plan_core.specs.declared.options.FileScanOptions.{FileScanOptions}
use Rattle.plan_core.specs.declared.options.ProjectionOptions.{ProjectionOptions}
use Rattle.plan_core.specs.Columns.{Columns}
use Rattle.plan_tree.specs.Rose.{rose, no_roses, more}
use Rattle.plan_expr.specs.declared.literal.LiteralValue.TheVariants as literals
use Rattle.plan_expr.specs.declared.operator.Operator.TheVariants.{Plus}
use Rattle.plan_expr.specs.declared.expr_ir.OutputName.TheVariants.{Alias, ColumnLhs, LiteralLhs}
use Rattle.plan_expr.specs.Exprs.{column, literal, alias, binary, len as row_count, Named}
use Rattle.plan_ir.specs.Plans.{filter, simple_projection, select, hstack, Plan}
use Rattle.plan_expr.specs.Leaves.{Name}
use Rattle.plan_meaning.specs.Relating.{names}
use Rattle.plan_meaning.specs.Counting.{meets_count}
use Rattle.plan_meaning.specs.Asked.{sites_of}
use Rattle.plan_meaning.specs.Work.{made, kept}
use Rattle.plan_pruned.specs.Pruned.{pruned}
use Rattle.plan_pruned.proofs.Example.{columns_ab, columns_a, leaf, node, predicate, scanned}

abbrev column_of : Name → Columns
column_of a = (a, types.Int64) ∷ []

abbrev scan_of : FileScanOptions → Plan
scan_of options = rose tt (scanned None None options) no_roses

-- a narrowed scan of a column, with the projection on top
abbrev scan_a : FileScanOptions → Plan
scan_a options = node (simple_projection columns_a) (rose tt (scanned (Some columns_a) (Some (codes "a" ∷ [])) options) no_roses)

-- 1, called "one"
abbrev one : Named
one = record { name = Alias (codes "one"); expr = rose tt (alias (codes "one")) (more (leaf (literal (literals.Int64 (pos 1)))) no_roses) }

-- a column as it is
abbrev as_is : Name → Named
as_is a = record { name = ColumnLhs a; expr = leaf (column a) }

-- a column added to itself, called otherwise
abbrev twice : Name → Name → Named
twice a b = record { name = Alias b; expr = rose tt (alias b) (more (rose tt (binary Plus) (more (leaf (column a)) (more (leaf (column a)) no_roses))) no_roses) }

module _ (options : FileScanOptions) (how : ProjectionOptions) where
  -- a selection of 1 and two columns, of which 1 is asked
  abbrev selection : Plan
  selection = node (simple_projection (column_of (codes "one"))) (node (select (one ∷ as_is (codes "a") ∷ as_is (codes "b") ∷ []) ((codes "one", types.Int64) ∷ columns_ab) how) (scan_of options))

  -- the first column stays beside it, since it says how many rows there are
  pub example_selection : pruned true [] selection ≡ node (simple_projection (column_of (codes "one"))) (node (select (one ∷ as_is (codes "a") ∷ []) ((codes "one", types.Int64) ∷ columns_a) how) (scan_a options))
  example_selection = refl

  -- an addition of two columns, of which one is asked and reads another
  abbrev addition : Plan
  addition = node (simple_projection (column_of (codes "d"))) (node (hstack (twice (codes "a") (codes "d") ∷ twice (codes "b") (codes "e") ∷ []) ((codes "a", types.Int64) ∷ (codes "b", types.Int64) ∷ (codes "c", types.String) ∷ (codes "d", types.Int64) ∷ (codes "e", types.Int64) ∷ []) how) (scan_of options))

  pub example_addition : pruned true [] addition ≡ node (simple_projection (column_of (codes "d"))) (node (hstack (twice (codes "a") (codes "d") ∷ []) ((codes "a", types.Int64) ∷ (codes "d", types.Int64) ∷ []) how) (scan_a options))
  example_addition = refl

  -- it made two columns, and now makes the one that is asked
  pub example_work : (made addition ≡ 2) × (kept addition ≡ 1) × (made (pruned true [] addition) ≡ 1)
  example_work = (refl, refl, refl)

  -- an addition of which nothing is asked
  abbrev idle : Plan
  idle = node (simple_projection columns_a) (node (hstack (twice (codes "b") (codes "e") ∷ []) ((codes "a", types.Int64) ∷ (codes "b", types.Int64) ∷ (codes "c", types.String) ∷ (codes "e", types.Int64) ∷ []) how) (scan_of options))

  -- its input stands in its place, and is asked what it was asked
  pub example_idle : pruned true [] idle ≡ node (simple_projection columns_a) (scan_a options)
  example_idle = refl

  pub example_idle_asked : sites_of idle ≡ record { at_scan = scanned None None options; asked = names (codes "a" ∷ []) } ∷ []
  example_idle_asked = refl

  -- a count of the rows of a filter
  abbrev count : Plan
  count = node (select (record { name = LiteralLhs (codes "len"); expr = leaf row_count } ∷ []) (column_of (codes "len")) how) (node (filter predicate) (scan_of options))

  abbrev columns_cb : Columns
  columns_cb = (codes "c", types.String) ∷ (codes "b", types.Int64) ∷ []

  -- the last column stands in for them, and no projection goes on top of the scan
  pub example_count : pruned true [] count ≡ node (select (record { name = LiteralLhs (codes "len"); expr = leaf row_count } ∷ []) (column_of (codes "len")) how) (node (filter predicate) (rose tt (scanned (Some columns_cb) (Some (codes "c" ∷ codes "b" ∷ [])) options) no_roses))
  example_count = refl

  pub example_count_asked : (sites_of count ≡ record { at_scan = scanned None None options; asked = names (codes "c" ∷ codes "b" ∷ []) } ∷ []) × (meets_count count ≡ true)
  example_count_asked = (refl, refl)
