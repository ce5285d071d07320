-- What becomes of an addition directly on another.
use Rattle.std.specs.Prelude.{◌++◌, Bool, true, false, not, ◌&&◌, ◌||◌, List, [], ◌∷◌, map, Option, Some, None, unwrap_or, if◌then◌else◌}
use Rattle.std.specs.List.{filter as only_where}
use Rattle.std.specs.Str.{bytes_eq}
use Rattle.plan_core.specs.Names.{has}
use Rattle.plan_expr.specs.Exprs.{Named}
use Rattle.plan_expr.specs.Leaves.{Name}
use Rattle.plan_frame.specs.ExprLists.{out_names}
use Rattle.plan_collapse_laws.specs.Staying.{out, stays}
use Rattle.plan_core.specs.Columns.{Columns, with_types}
use Rattle.plan_core.specs.Options.{merged}
use Rattle.plan_tree.specs.Rose.{rose, no_roses, more}
use Rattle.plan_ir.specs.Plans.{simple_projection, Plan}
use Rattle.plan_meaning.specs.Checks.{is_empty}
use Rattle.plan_collapse_laws.specs.Additions.{Addition, as_op}
use Rattle.plan_pruned.specs.Pruned.{typed_names}

-- the first expression of a name
abbrev pub named_in : List Named → Name → Option Named
named_in [] b = None
named_in (e ∷ es) b = if bytes_eq b (out e) then Some e else named_in es b

-- the lower expressions with others of the same names in their places
abbrev pub replaced : (upper lower : List Named) → List Named
replaced upper lower = map (λ (l : Named). unwrap_or (named_in upper (out l)) l) lower

-- whether an expression takes a place in the lower addition: it doesn't stay, and the lower one has its name
abbrev pub takes_place : List Name → (Named → Bool) → Named → Bool
takes_place lower stay e = not (stay e) && has lower (out e)

-- whether it moves down behind the lower expressions: it doesn't stay, and the lower addition doesn't have its name
abbrev pub moves_down : List Name → (Named → Bool) → Named → Bool
moves_down lower stay e = not (stay e) && not (has lower (out e))

-- the expressions of an upper addition that stay above a lower one
abbrev pub stayed : Addition → Addition → List Named
stayed u l = only_where (stays u.exprs (out_names l.exprs)) u.exprs

-- those that take a place in the lower one
abbrev pub taking : Addition → Addition → List Named
taking u l = only_where (takes_place (out_names l.exprs) (stays u.exprs (out_names l.exprs))) u.exprs

-- those that move down behind its expressions
abbrev pub moving : Addition → Addition → List Named
moving u l = only_where (moves_down (out_names l.exprs) (stays u.exprs (out_names l.exprs))) u.exprs

-- whether one that moves stands behind one that stays, where one that stays may have been seen
abbrev pub from_behind : (stay take : Named → Bool) → (seen : Bool) → List Named → Bool
from_behind stay take seen [] = false
from_behind stay take seen (e ∷ es) = if stay e then from_behind stay take true es else ((seen && not (take e)) || from_behind stay take seen es)

-- whether an expression moves from behind one that stays, so that the columns would change their order
abbrev pub leaves_order : Addition → Addition → Bool
leaves_order u l = from_behind (stays u.exprs (out_names l.exprs)) (takes_place (out_names l.exprs) (stays u.exprs (out_names l.exprs))) false u.exprs

-- the lower addition with what moves into it
abbrev pub sunk_into : Addition → Addition → Addition
sunk_into u l = record {
  exprs = replaced (taking u l) l.exprs ++ moving u l;
  schema = with_types l.schema (typed_names u.schema (out_names (taking u l ++ moving u l)));
  options = merged u.options l.options;
}

-- the upper addition without what moved; under a projection its columns are the new lower ones with what stays
abbrev pub left_above : Addition → Addition → Addition
left_above u l = record {
  exprs = stayed u l;
  schema = if leaves_order u l then with_types (sunk_into u l).schema (typed_names u.schema (out_names (stayed u l))) else u.schema;
  options = merged u.options l.options;
}

-- both as one addition, of the columns of the upper one
abbrev pub as_one : Addition → Addition → Addition
as_one u l = record { exprs = (sunk_into u l).exprs; schema = u.schema; options = merged u.options l.options }

-- a projection to these columns on a plan, where that is asked
abbrev pub restored_if : Bool → Columns → Plan → Plan
restored_if true s p = rose tt (simple_projection s) (more p no_roses)
restored_if false s p = p

-- an addition on another, over what becomes of an addition in the place of the other: where none stays they are one, and are looked at
-- again; where nothing moves they stay; else what moves goes down, and a projection restores the order that it left
abbrev pub met : Addition → Addition → (Addition → Plan) → Plan
met u l below =
    if is_empty (stayed u l) then below (as_one u l)
    else (if is_empty (taking u l ++ moving u l) then rose tt (as_op u) (more (below l) no_roses)
    else restored_if (leaves_order u l) u.schema (rose tt (as_op (left_above u l)) (more (below (sunk_into u l)) no_roses)))
