-- Schemas that are put together.
use Rattle.std.specs.Prelude.{◌≡◌, ℕ, List, Some, take, min, slice_get, IsTrue}
use Rattle.std.specs.List.{flat_map}
use Rattle.plan_core.specs.declared.error.PolarsError.{PolarsError}
use Rattle.plan_core.specs.declared.error.PolarsError.TheVariants.{Duplicate, OutOfMemory}
use Rattle.plan_core.specs.Columns.{Columns, HasDistinctNames, names_of}
use Rattle.plan_core.specs.Errors.{item_at}
use Rattle.plan_core.specs.Names.{has}

-- the columns of schemas, one schema after another
abbrev pub all_columns : List Columns → Columns
all_columns schemas = flat_map (λ (s : Columns). s) schemas

-- some name is among those of both
abbrev pub SharesName : Columns → Columns → Type 0
SharesName cs ds = (name : List ℕ) × IsTrue (has (names_of cs) name) × IsTrue (has (names_of ds) name)

-- the schema at the place is the first that has a name of one before it
abbrev pub RepeatsFirst : List Columns → ℕ → Type 0
RepeatsFirst schemas place = let before = all_columns (take place schemas) in
    (s : Columns) × (slice_get schemas place ≡ Some s) × SharesName s before × HasDistinctNames before

-- a refusal tells the place of that schema; want of memory says nothing
abbrev pub Refuses : List Columns → PolarsError → Type 0
Refuses schemas OutOfMemory = Unit {0}
Refuses schemas (Duplicate at) = (place : ℕ) × (at ≡ item_at (min place 4294967295)) × RepeatsFirst schemas place
Refuses schemas _ = ⊥
