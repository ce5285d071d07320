-- What is known of columns by name, and of the columns below functions.
use Rattle.std.specs.Prelude.{◌≡◌, ◌≤◌, ◌++◌, IsTrue, ℕ, List, [], ◌∷◌, map, drop, length, Option, None, Some, if◌then◌else◌, true}
use Rattle.std.specs.Str.{bytes_eq}
use Rattle.plan_core.specs.declared.data_type.DataType.{DataType}
use Rattle.plan_core.specs.declared.arena.Node.{Node}
use Rattle.plan_core.specs.Columns.{Columns, type_of}
use Rattle.plan_tree.specs.Rose.{Roses, rose, no_roses, more}
use Rattle.plan_expr.specs.declared.aexpr.AExpr.{AExpr}
use Rattle.plan_expr.specs.Leaves.{Name}
use Rattle.plan_ir.specs.declared.ir.IR.{IR}
use Rattle.plan_ir.specs.Parts.{inputs_of}
use Rattle.plan_ir.specs.Plans.{Op, slice, filter, sort, distinct, map_function, sink, union, cache, bare, op_at, plans_at}
use Rattle.plan_ir.specs.declared.functions.FunctionIR.{FunctionIR}
use Rattle.plan_meaning.specs.Typing.{first_schema, function_checks}
use Rattle.plan_schema.specs.Stored.{all_hold, given_by, stored_all, stored_by}
use Rattle.plan_prune_names.specs.declared.known_columns.KnownColumns.{KnownColumns}

-- the type of a column, if it is there
abbrev pub type_in : KnownColumns → Name → Option DataType
type_in k a = type_of k.types a

-- changes of columns that were there with their types
abbrev pub as_changes : Columns → List (Name × Option DataType)
as_changes s = map (λ (c : Name × DataType). (c.0, Some c.1)) s

-- the type that a column had before changes: what the first change of it says that it was, or what it is
abbrev pub before : List (Name × Option DataType) → (Name → Option DataType) → Name → Option DataType
before [] types a = types a
before (c ∷ cs) types a = if bytes_eq a c.0 then c.1 else before cs types a

-- the type that a column had after so many changes
abbrev pub type_at : KnownColumns → ℕ → Name → Option DataType
type_at k m a = before (drop m k.changes.items) (type_in k) a

-- each name has the type that it has among columns
abbrev pub Shows : KnownColumns → Columns → Type 0
Shows k s = (a : Name) → type_in k a ≡ type_of s a

-- changes were added to those that were there, and what was below functions stays
abbrev pub IsOver : (old new : KnownColumns) → Type 0
IsOver old new = (new.marks.items ≡ old.marks.items) × (length old.changes.items ≤ length new.changes.items) × ((m : ℕ) (a : Name) → m ≤ length old.changes.items → type_at new m a ≡ type_at old m a)

-- columns became those that a function makes of them, and no check on it fails
abbrev pub IsMade : FunctionIR → (old new : KnownColumns) → Type 0
IsMade function old new = (s : Columns) → Shows old s → (all_hold (function_checks function s) ≡ true) × Shows new (given_by function s)

-- what is said of the plans below a node, whose first one has these columns: of those below a function after the changes before its own, and that no check on it fails; of those whose columns the node has; and else nothing
abbrev pub AreBelow : Op → Columns → ℕ → List ℕ → (ℕ → List ℕ → Type 0) → Type 0
AreBelow (map_function function) s m marks Laid = (mark : ℕ) (rest : List ℕ) → marks ≡ rest ++ mark ∷ [] → (all_hold (function_checks function s) ≡ true) × (mark ≤ m) × Laid mark rest
AreBelow (slice offset len) s m marks Laid = Laid m marks
AreBelow (filter predicate) s m marks Laid = Laid m marks
AreBelow (sort keys part options) s m marks Laid = Laid m marks
AreBelow (distinct options) s m marks Laid = Laid m marks
AreBelow (sink payload) s m marks Laid = Laid m marks
AreBelow (union options) s m marks Laid = Laid m marks
AreBelow (cache id hits) s m marks Laid = Laid m marks
AreBelow other s m marks Laid = Unit {0}

-- after so many changes the columns of the first of some plans are known, and so are those below the functions at its top
abbrev pub AreLaid : KnownColumns → ℕ → List ℕ → Roses (Unit {0}) Op → Type 0
AreLaid k m marks no_roses = (a : Name) → type_at k m a ≡ None
AreLaid k m marks (more (rose n op ts) rest) = ((a : Name) → type_at k m a ≡ type_of (stored_by op (stored_all ts)) a) × AreBelow op (first_schema (stored_all ts)) m marks (λ (mark : ℕ) (below : List ℕ). AreLaid k mark below ts)

-- the columns of the first of some plans are there
abbrev pub Lays : KnownColumns → Roses (Unit {0}) Op → Type 0
Lays k ts = AreLaid k (length k.changes.items) k.marks.items ts

-- what is known of the first of some plans is right
abbrev pub Knows : KnownColumns → Roses (Unit {0}) Op → Type 0
Knows k ts = IsTrue k.is_known → Lays k ts

-- what is known of the plan at the first of some numbers is right
abbrev pub KnowsAt : KnownColumns → List IR → List Node → Type 0
KnowsAt k lp ns = (ex : List AExpr) → Knows k (bare (plans_at lp ex ns))

-- what is known of a node over its inputs is right
abbrev pub KnowsOver : KnownColumns → List IR → IR → Type 0
KnowsOver k lp p = (ex : List AExpr) → Knows k (more (rose tt (op_at ex p) (bare (plans_at lp ex (inputs_of p)))) no_roses)

-- no check fails on so many functions at the top of the plan at a number
abbrev pub Hold : List IR → Node → ℕ → Type 0
Hold lp n count = (ex : List AExpr) → (k : KnownColumns) × (m : ℕ) × (marks : List ℕ) × (length marks ≡ count) × AreLaid k m marks (bare (plans_at lp ex (n ∷ [])))
