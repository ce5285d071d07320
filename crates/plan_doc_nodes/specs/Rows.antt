-- The nodes that give rows of their input: slices, filters, sorts and distinct rows.
use Rattle.std.specs.Prelude.{ℕ, List, [], ◌∷◌, true, Option, Some, None, if◌then◌else◌, codes, bytes_eq}
use Rattle.serde_json.specs.Data.{Data}
use Rattle.serde_json.specs.Find.{get}
use Rattle.plan_ir.specs.declared.ir.IR.{IR}
use Rattle.plan_ir.specs.declared.ir.IR.TheVariants as nodes
use Rattle.plan_options.specs.declared.distinct.DistinctOptionsIR.{DistinctOptionsIR}
use Rattle.plan_options.specs.declared.distinct.UniqueKeepStrategy.{UniqueKeepStrategy}
use Rattle.plan_options.specs.declared.distinct.UniqueKeepStrategy.TheVariants as keeps
use Rattle.plan_options.specs.declared.sort.SortMultipleOptions.{SortMultipleOptions}
use Rattle.plan_doc_parts.specs.Parts.{◌>>=◌, nullable, name_of, number_of, link_of, integer_of, truth_of, truths_of, names_of, output_of, outputs_of, slice_of}
use Rattle.plan_doc_parts.specs.Members.{object_of, at}

-- some rows of the input, one after another
unfoldable pub slice_node_of : Data → Option IR
slice_node_of d = do
  o ← object_of (codes "input" ∷ codes "len" ∷ codes "offset" ∷ codes "op" ∷ []) d
  i ← at (codes "input") link_of o
  first ← at (codes "offset") integer_of o
  n ← at (codes "len") number_of o
  Some (nodes.Slice i first n)

-- rows of the input where an expression is true
unfoldable pub filter_of : Data → Option IR
filter_of d = do
  o ← object_of (codes "input" ∷ codes "op" ∷ codes "predicate" ∷ []) d
  i ← at (codes "input") link_of o
  p ← at (codes "predicate") output_of o
  Some (nodes.Filter i p)

-- the keys of a sort
unfoldable pub sort_keys : List (List ℕ)
sort_keys = codes "by" ∷ codes "descending" ∷ codes "input" ∷ codes "maintain_order" ∷ codes "nulls_last" ∷ codes "op" ∷ codes "slice" ∷ []

-- how rows are sorted: several threads may sort, and all rows are put out
unfoldable pub sort_options_of : Data → Option SortMultipleOptions
sort_options_of o = do
  ds ← at (codes "descending") truths_of o
  ns ← at (codes "nulls_last") truths_of o
  m ← at (codes "maintain_order") truth_of o
  Some (record { descending = ds; nulls_last = ns; multithreaded = true; maintain_order = m; limit = None })

-- the rows of the input in the order of some keys
unfoldable pub sort_of : Data → Option IR
sort_of d = do
  o ← object_of sort_keys d
  i ← at (codes "input") link_of o
  ks ← at (codes "by") outputs_of o
  s ← at (codes "slice") (nullable slice_of) o
  options ← sort_options_of o
  Some (nodes.Sort i ks s options)

-- which row of those that are the same is kept, as a text names it
unfoldable pub keep_named : List ℕ → Option UniqueKeepStrategy
keep_named s =
    if bytes_eq s (codes "First") then Some keeps.First else (
    if bytes_eq s (codes "Last") then Some keeps.Last else (
    if bytes_eq s (codes "Any") then Some keeps.Any else (
    if bytes_eq s (codes "None") then Some keeps.None else None)))

-- the name of which row is kept
unfoldable pub keep_of : Data → Option UniqueKeepStrategy
keep_of d = do
  s ← name_of d
  keep_named s

-- the keys of distinct rows
unfoldable pub distinct_keys : List (List ℕ)
distinct_keys = codes "input" ∷ codes "keep" ∷ codes "maintain_order" ∷ codes "op" ∷ codes "slice" ∷ codes "subset" ∷ []

-- which rows are distinct, and which of them are kept
unfoldable pub distinct_options_of : Data → Option DistinctOptionsIR
distinct_options_of o = do
  ns ← at (codes "subset") (nullable names_of) o
  m ← at (codes "maintain_order") truth_of o
  keep ← get (codes "keep") o
  k ← keep_of keep
  s ← at (codes "slice") (nullable slice_of) o
  Some (record { subset = ns; maintain_order = m; keep_strategy = k; slice = s })

-- of the rows that are the same in some columns one, or those that are alone
unfoldable pub distinct_of : Data → Option IR
distinct_of d = do
  o ← object_of distinct_keys d
  i ← at (codes "input") link_of o
  options ← distinct_options_of o
  Some (nodes.Distinct i options)
