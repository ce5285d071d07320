-- The parts of a document: what a value stands for, or nothing.
use Rattle.std.specs.Prelude.{ℕ, ℤ, ◌^◌, ◌&&◌, List, [], ◌∷◌, map, Bool, true, not, Option, Some, None, option_map, if◌then◌else◌, nat_lt, codes, bytes_eq}
use Rattle.std.specs.List.{list_any}
use Rattle.serde_json.specs.Data as json
use Rattle.serde_json.specs.Data.{Data, Items, no_items, item}
use Rattle.serde_json.specs.Find.{as_number, as_u64, as_i64, as_str, as_array, as_bool}
use Rattle.plan_core.specs.Columns.{Columns}
use Rattle.plan_core.specs.declared.arena.Node.{Node}
use Rattle.plan_core.specs.declared.data_type.DataType.{DataType}
use Rattle.plan_core.specs.declared.data_type.DataType.TheVariants as types
use Rattle.plan_core.specs.declared.data_type.PlainType.{PlainType}
use Rattle.plan_core.specs.declared.data_type.PlainType.TheVariants as plains
use Rattle.plan_core.specs.declared.options.ProjectionOptions.{ProjectionOptions}
use Rattle.plan_expr.specs.declared.expr_ir.ExprIR.{ExprIR}
use Rattle.plan_expr.specs.declared.expr_ir.OutputName.{OutputName}
use Rattle.plan_expr.specs.declared.expr_ir.OutputName.TheVariants as names

infixl 10 ◌>>=◌
-- a step, and the next one where it gave something
abbrev pub ◌>>=◌ : {A B : Type 0} → Option A → (A → Option B) → Option B
None >>= f = None
(Some x) >>= f = f x

-- the entries of an array, as a list
abbrev pub items_list : Items → List Data
items_list no_items = []
items_list (item d ds) = d ∷ items_list ds

-- the entries of an array
unfoldable pub entries_of : Data → Option (List Data)
entries_of d = option_map items_list (as_array d)

-- what f reads at each entry
abbrev pub each : {A : Type 0} → (Data → Option A) → List Data → Option (List A)
each f [] = Some []
each f (d ∷ ds) = do
  x ← f d
  xs ← each f ds
  Some (x ∷ xs)

-- null, or what f reads
abbrev pub nullable : {A : Type 0} → (Data → Option A) → Data → Option (Option A)
nullable f json.null = Some None
nullable f d = option_map Some (f d)

-- the bytes of a text
unfoldable pub name_of : Data → Option (List ℕ)
name_of d = as_str d

-- a whole number from 0 to 4294967295
unfoldable pub number_of : Data → Option ℕ
number_of d = do
  n ← as_number d
  k ← as_u64 n
  if nat_lt k (2 ^ 32) then Some k else None

-- an array of such numbers
unfoldable pub numbers_of : Data → Option (List ℕ)
numbers_of d = do
  ds ← entries_of d
  each number_of ds

-- the entry of that number
unfoldable pub link_of : Data → Option Node
link_of d = do
  n ← number_of d
  Some (record { 0 = n })

-- an array of numbers of entries
unfoldable pub links_of : Data → Option (List Node)
links_of d = do
  ds ← entries_of d
  each link_of ds

-- a whole number of 64 signed bits
unfoldable pub integer_of : Data → Option ℤ
integer_of d = do
  n ← as_number d
  as_i64 n

-- true or false
unfoldable pub truth_of : Data → Option Bool
truth_of d = as_bool d

-- an array of truth values
unfoldable pub truths_of : Data → Option (List Bool)
truths_of d = do
  ds ← entries_of d
  each truth_of ds

-- both of two
abbrev pub pair : List Data → Option (Data × Data)
pair (a ∷ b ∷ []) = Some (a, b)
pair ds = None

-- all of three
abbrev pub triple : List Data → Option (Data × Data × Data)
triple (a ∷ b ∷ c ∷ []) = Some (a, b, c)
triple ds = None

-- an array of two
unfoldable pub two_of : Data → Option (Data × Data)
two_of d = do
  ds ← entries_of d
  pair ds

-- an array of three
unfoldable pub three_of : Data → Option (Data × Data × Data)
three_of d = do
  ds ← entries_of d
  triple ds

-- an array of texts
unfoldable pub names_of : Data → Option (List (List ℕ))
names_of d = do
  ds ← entries_of d
  each name_of ds

-- the type that a text names
unfoldable pub type_named : List ℕ → Option DataType
type_named s =
    if bytes_eq s (codes "Int64") then Some types.Int64 else (
    if bytes_eq s (codes "String") then Some types.String else (
    if bytes_eq s (codes "Boolean") then Some types.Boolean else (
    if bytes_eq s (codes "List(Int64)") then Some (types.List plains.Int64) else (
    if bytes_eq s (codes "List(String)") then Some (types.List plains.String) else (
    if bytes_eq s (codes "List(Boolean)") then Some (types.List plains.Boolean) else None)))))

-- the name of a type
unfoldable pub type_of : Data → Option DataType
type_of d = do
  s ← name_of d
  type_named s

-- the type of a single value that a text names
unfoldable pub plain_named : List ℕ → Option PlainType
plain_named s =
    if bytes_eq s (codes "Int64") then Some plains.Int64 else (
    if bytes_eq s (codes "String") then Some plains.String else (
    if bytes_eq s (codes "Boolean") then Some plains.Boolean else None))

-- the name of a type of a single value
unfoldable pub plain_of : Data → Option PlainType
plain_of d = do
  s ← name_of d
  plain_named s

-- a name with a type
unfoldable pub column_of : Data → Option (List ℕ × DataType)
column_of d = do
  p ← two_of d
  n ← name_of p.0
  t ← type_of p.1
  Some (n, t)

-- none stands twice, where this test says which are the same
abbrev pub are_distinct : {K : Type 0} → (K → K → Bool) → List K → Bool
are_distinct same [] = true
are_distinct same (k ∷ ks) = not (list_any (λ m. same m k) ks) && are_distinct same ks

-- the names of columns
abbrev pub column_names : Columns → List (List ℕ)
column_names cs = map (λ c. c.0) cs

-- columns, if no name stands twice
abbrev pub distinct_columns : Columns → Option Columns
distinct_columns cs = if are_distinct bytes_eq (column_names cs) then Some cs else None

-- names with types, no name twice
unfoldable pub columns_of : Data → Option Columns
columns_of d = do
  ds ← entries_of d
  cs ← each column_of ds
  distinct_columns cs

-- where an output name comes from
unfoldable pub output_name_of : List ℕ → List ℕ → Option OutputName
output_name_of s n =
    if bytes_eq s (codes "col") then Some (names.ColumnLhs n) else (
    if bytes_eq s (codes "lit") then Some (names.LiteralLhs n) else (
    if bytes_eq s (codes "alias") then Some (names.Alias n) else None))

-- an expression with its output name
unfoldable pub output_of : Data → Option ExprIR
output_of d = do
  t ← three_of d
  link ← link_of t.0
  kind ← name_of t.1
  name ← name_of t.2
  output ← output_name_of kind name
  Some (record { node = link; output_name = output })

-- an array of expressions with their output names
unfoldable pub outputs_of : Data → Option (List ExprIR)
outputs_of d = do
  ds ← entries_of d
  each output_of ds

-- the first row, and how many rows
unfoldable pub slice_of : Data → Option (ℤ × ℕ)
slice_of d = do
  p ← two_of d
  offset ← integer_of p.0
  len ← number_of p.1
  Some (offset, len)

-- what a node that makes columns may do, in three truth values
unfoldable pub options_of : Data → Option ProjectionOptions
options_of d = do
  t ← three_of d
  parallel ← truth_of t.0
  check ← truth_of t.1
  broadcast ← truth_of t.2
  Some (record { run_parallel = parallel; duplicate_check = check; should_broadcast = broadcast })
