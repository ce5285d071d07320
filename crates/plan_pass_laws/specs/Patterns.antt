-- The patterns that rules leave nowhere.
use Rattle.std.specs.Prelude.{Bool, true, false, not, ◌&&◌, ◌||◌, List, [], ◌∷◌, ◌++◌, Option, Some, None, if◌then◌else◌}
use Rattle.plan_core.specs.Columns.{same_columns}
use Rattle.plan_tree.specs.Rose.{Roses, rose, no_roses, more}
use Rattle.plan_ir.specs.Plans.{Op, scan, simple_projection, union, cache, Plan}
use Rattle.plan_meaning.specs.Typing.{schema_by, schemas}
use Rattle.plan_pass_laws.specs.declared.kind.RuleKind.{RuleKind}
use Rattle.plan_pass_laws.specs.declared.kind.RuleKind.TheVariants as kinds
use Rattle.plan_pass_laws.specs.Answers.{selects_columns, has_unflattened, groups_by_one, first_met, keeps_all}

-- a projection on a projection, a projection with the columns of its input, or a cache on a cache
abbrev pub is_needless : Op → Plan → Bool
is_needless (simple_projection columns) (rose m (simple_projection lower) us) = true
is_needless (simple_projection columns) (rose m op us) = same_columns columns (schema_by op (schemas us))
is_needless (cache id hits) (rose m (cache lower more_hits) us) = true
is_needless above p = false

-- a node is one of these on its only input
abbrev pub is_needless_on : Op → Roses (Unit {0}) Op → Bool
is_needless_on op (more p no_roses) = is_needless op p
is_needless_on op ts = false

-- a scan or a union that is marked
abbrev pub is_marked : Op → Bool
is_marked (scan sources info hive predicate output kind options) = options.rechunk
is_marked (union options) = options.rechunk
is_marked op = false

-- a node that may be there is marked
abbrev pub any_marked : Option Op → Bool
any_marked None = false
any_marked (Some op) = is_marked op

-- a union with an input that is a union not marked as flattened
abbrev pub is_nested : Op → Roses (Unit {0}) Op → Bool
is_nested (union options) ts = has_unflattened ts
is_nested op ts = false

-- whether the pattern of a kind stands at the root of a plan
abbrev pub shows : RuleKind → Plan → Bool
shows (kinds.Collapse eager) (rose n op ts) = selects_columns op || (not eager && is_needless_on op ts)
shows kinds.Flatten (rose n op ts) = is_nested op ts
shows kinds.Rechunk (rose n op ts) = groups_by_one op && any_marked (first_met ts)
shows kinds.TrueFilter (rose n op ts) = keeps_all op
shows kinds.Other p = false

-- whether the pattern of one of some kinds stands at the root of a plan
abbrev pub shows_one : List RuleKind → Plan → Bool
shows_one [] p = false
shows_one (k ∷ ks) p = shows k p || shows_one ks p

-- whether no pattern of the kinds stands at a node of a plan
abbrev mutual
  pub is_quiet : List RuleKind → Plan → Bool
  is_quiet ks (rose n op ts) = not (shows_one ks (rose n op ts)) && are_quiet ks ts

  pub are_quiet : List RuleKind → Roses (Unit {0}) Op → Bool
  are_quiet ks no_roses = true
  are_quiet ks (more p rest) = is_quiet ks p && are_quiet ks rest

-- the kinds of the rules that the flags ask for: that collapses where projections are to be fast, and those that delay and flatten unless the run is eager
abbrev pub flag_kinds : (fast eager : Bool) → List RuleKind
flag_kinds fast eager = (if fast then kinds.Collapse eager ∷ [] else []) ++ (if eager then [] else kinds.Rechunk ∷ kinds.Flatten ∷ [])

-- whether the rules of these flags find nothing more in a plan
abbrev pub settled : (fast eager : Bool) → Plan → Bool
settled fast eager p = is_quiet (flag_kinds fast eager) p

-- whether a kind's replacements are counted
abbrev pub is_counted : RuleKind → Bool
is_counted (kinds.Collapse eager) = true
is_counted kinds.Flatten = true
is_counted kinds.Rechunk = true
is_counted kinds.TrueFilter = true
is_counted kinds.Other = false

-- whether the replacements of all of some kinds are counted
abbrev pub are_counted : List RuleKind → Bool
are_counted [] = true
are_counted (k ∷ ks) = is_counted k && are_counted ks
