-- Plans without their rechunk marks, which ask that columns be put together in memory and change nothing in what comes out.
use Rattle.std.specs.Prelude.{false}
use Rattle.plan_tree.specs.Rose.{Roses, map_roses, rose}
use Rattle.plan_ir.specs.Plans.{Op, Plan, scan, union}

-- a node without its rechunk mark
abbrev pub unmarked_op : Op → Op
unmarked_op (scan sources info hive predicate output kind options) = scan sources info hive predicate output kind (record options { rechunk = false })
unmarked_op (union options) = union (record options { rechunk = false })
unmarked_op op = op

-- plans without their rechunk marks
abbrev pub unmarked_all : Roses (Unit {0}) Op → Roses (Unit {0}) Op
unmarked_all ts = map_roses (λ m. m) unmarked_op ts

-- a plan without its rechunk marks: plans that are equal but for these are equal here
abbrev pub unmarked : Plan → Plan
unmarked (rose n op ts) = rose n (unmarked_op op) (unmarked_all ts)
