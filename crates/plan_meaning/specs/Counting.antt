-- Where a plan counts rows, and the column that stands in for the rows that are counted.
use Rattle.std.specs.Prelude.{Bool, true, false, not, ◌&&◌, ◌||◌, List, [], ◌∷◌, Option, Some, None}
use Rattle.plan_core.specs.Columns.{Columns}
use Rattle.plan_tree.specs.Rose.{Roses, rose, no_roses, more}
use Rattle.plan_expr.specs.Exprs.{Named}
use Rattle.plan_expr.specs.Leaves.{Name}
use Rattle.plan_expr.specs.Naming.{name_of}
use Rattle.plan_ir.specs.Plans.{Op, select, hstack, cache, Plan}
use Rattle.plan_meaning.specs.Typing.{first_schema, rest_schemas}
use Rattle.plan_frame.specs.ExprLists.{counts_rows, first_many}

-- whether a node counts the rows of its input: a selection of their number alone does
abbrev pub is_count : Op → Bool
is_count (select exprs schema options) = counts_rows exprs
is_count op = false

-- whether nothing below a node is looked at: below a cache nothing is
abbrev pub is_closed : Op → Bool
is_closed (cache id hits) = true
is_closed op = false

-- whether a node of some plans counts rows, and doesn't stand below a cache
abbrev pub meet_count : {N : Type 0} → Roses N Op → Bool
meet_count no_roses = false
meet_count (more (rose n op ts) rest) = is_count op || ((not (is_closed op) && meet_count ts) || meet_count rest)

-- whether a node of a plan counts rows, and doesn't stand below a cache
abbrev pub meets_count : Plan → Bool
meets_count p = meet_count (more p no_roses)

-- the name of the last column, if there is one
abbrev pub last_name : Columns → Option Name
last_name [] = None
last_name (c ∷ []) = Some c.0
last_name (c ∷ d ∷ cs) = last_name (d ∷ cs)

-- the name of the first of some expressions, else the other
abbrev pub first_name : List Named → Option Name → Option Name
first_name [] other = other
first_name (e ∷ es) other = Some (name_of e.name)

-- the column of a node that stands in for its rows: of a selection or an addition the first that isn't scalar, else the last that the node has
abbrev pub stand_in : Op → Columns → Option Name
stand_in (select exprs schema options) s = first_name (first_many exprs) (last_name s)
stand_in (hstack exprs schema options) s = first_name (first_many exprs) (last_name s)
stand_in op s = last_name s

-- the columns of plans that stand in for their rows, by the columns that the plans have
abbrev pub stand_ins : {N : Type 0} → Roses N Op → List Columns → List (Option Name)
stand_ins no_roses ss = []
stand_ins (more (rose n op ts) rest) ss = stand_in op (first_schema ss) ∷ stand_ins rest (rest_schemas ss)

-- the first that stands in, none where there is no plan
abbrev pub first_stand_in : List (Option Name) → Option Name
first_stand_in [] = None
first_stand_in (o ∷ os) = o

-- the name that stands in, alone; none where nothing does
abbrev pub stand_in_names : Option Name → List Name
stand_in_names None = []
stand_in_names (Some a) = a ∷ []
