-- The nodes over any number of inputs: unions, and concatenations side by side.
use Rattle.std.specs.Prelude.{ℕ, List, [], ◌∷◌, Option, Some, codes}
use Rattle.serde_json.specs.Data.{Data}
use Rattle.plan_ir.specs.declared.ir.IR.{IR}
use Rattle.plan_ir.specs.declared.ir.IR.TheVariants as nodes
use Rattle.plan_options.specs.declared.union.UnionOptions.{UnionOptions}
use Rattle.plan_options.specs.Union.{default_union}
use Rattle.plan_doc_parts.specs.Parts.{◌>>=◌, nullable, links_of, truth_of, columns_of, slice_of}
use Rattle.plan_doc_parts.specs.Members.{object_of, at}

-- the keys of a union
unfoldable pub union_keys : List (List ℕ)
union_keys = codes "flattened" ∷ codes "inputs" ∷ codes "maintain_order" ∷ codes "op" ∷ codes "parallel" ∷ codes "rechunk" ∷ codes "slice" ∷ []

-- how inputs are put together; the rest is as by default
unfoldable pub union_options_of : Data → Option UnionOptions
union_options_of o = do
  s ← at (codes "slice") (nullable slice_of) o
  p ← at (codes "parallel") truth_of o
  f ← at (codes "flattened") truth_of o
  r ← at (codes "rechunk") truth_of o
  m ← at (codes "maintain_order") truth_of o
  Some (record default_union { slice = s; parallel = p; flattened_by_opt = f; rechunk = r; maintain_order = m })

-- the rows of the inputs, however many, those of one after those of another
unfoldable pub union_of : Data → Option IR
union_of d = do
  o ← object_of union_keys d
  is ← at (codes "inputs") links_of o
  options ← union_options_of o
  Some (nodes.Union is options)

-- the columns of the inputs, however many, side by side
unfoldable pub hconcat_of : Data → Option IR
hconcat_of d = do
  o ← object_of (codes "inputs" ∷ codes "op" ∷ codes "parallel" ∷ codes "schema" ∷ []) d
  is ← at (codes "inputs") links_of o
  s ← at (codes "schema") columns_of o
  p ← at (codes "parallel") truth_of o
  Some (nodes.HConcat is s (record { parallel = p }))
