-- How many additions a plan has, and how many stand below their expressions.
use Rattle.std.specs.Prelude.{◌+◌, ℕ, zero, suc, length}
use Rattle.plan_tree.specs.Rose.{Roses, rose, no_roses, more}
use Rattle.plan_ir.specs.Plans.{Op, Plan}
use Rattle.plan_collapse_laws.specs.Additions.{addition_of, added, one_if_added}

-- how many additions plans have
abbrev pub additions : Roses (Unit {0}) Op → ℕ
additions no_roses = 0
additions (more (rose n op ts) rest) = one_if_added (addition_of op) + (additions ts + additions rest)

-- a number so many times
abbrev pub times : ℕ → ℕ → ℕ
times zero k = 0
times (suc n) k = k + times n k

-- for each expression of an addition of plans, how many additions stand below it, summed
abbrev pub placing_in : Roses (Unit {0}) Op → ℕ
placing_in no_roses = 0
placing_in (more (rose n op ts) rest) = times (length (added (addition_of op))) (additions ts) + (placing_in ts + placing_in rest)

-- the same of a plan
abbrev pub placing : Plan → ℕ
placing p = placing_in (more p no_roses)
