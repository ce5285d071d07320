-- The columns below a renaming, name by name.
use Rattle.std.specs.Prelude.{◌≡◌, true, false, List, Option, None, Some, is_some, option_map, unwrap_or, if◌then◌else◌}
use Rattle.std.specs.Option.{option_or}
use Rattle.plan_core.specs.declared.data_type.DataType.{DataType}
use Rattle.plan_core.specs.Names.{has}
use Rattle.plan_expr.specs.Leaves.{Name}
use Rattle.plan_prune_names.specs.ByName.{at_name}

-- the name, if a column has it
abbrev pub own_in : (Name → Option DataType) → Name → Option Name
own_in types a = if is_some (types a) then Some a else None

-- the column that moves to a name, if one does: the old name at the place of this new one
abbrev pub own_at : (old new : List Name) → (Name → Option DataType) → Name → Option Name
own_at old new types a = unwrap_or (option_map (own_in types) (at_name new old a)) None

-- the column that has a name once columns have moved from some names to others
abbrev pub old_in : (old new : List Name) → (Name → Option DataType) → Name → Option Name
old_in old new types a = option_or (own_at old new types a) (if has old a then None else own_in types a)

-- no column that stays has a name that another one gets
abbrev pub AreFree : (old new : List Name) → (Name → Option DataType) → Type 0
AreFree old new types = (a e : Name) → at_name new old a ≡ Some e → is_some (types e) ≡ true → has old a ≡ false → types a ≡ None
