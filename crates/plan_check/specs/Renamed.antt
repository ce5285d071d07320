-- Columns that are taken out, and put back under other names.
use Rattle.std.specs.Prelude.{◌≡◌, ◌+◌, ◌≤◌, ℕ, Bool, true, not, ◌&&◌, ◌||◌, ◌==◌, List, [], ◌∷◌, length, insert}
use Rattle.plan_core.specs.Columns.{Columns}
use Rattle.plan_core.specs.Names.{has, with_names}
use Rattle.plan_expr.specs.Leaves.{Name}
use Rattle.plan_frame.specs.Reshaped.{renamed_columns}
use Rattle.plan_meaning.specs.Checks.{is_known}
use Rattle.plan_check.specs.declared.renamed.TakenColumn.{TakenColumn}

-- no name of a list comes twice: they are as many as their set has
abbrev pub is_once : List Name → Bool
is_once names = length (with_names [] names) == length names

-- an old name is no column, or the new name is free: it is one of the old names, or no column
abbrev pub is_free : List Name → Columns → (old new : Name) → Bool
is_free old_names s old new = not (is_known s old) || (has old_names new || not (is_known s new))

-- each new name is free for the old name at its place
abbrev pub all_free : List Name → Columns → (existing new : List Name) → Bool
all_free old_names s [] new = true
all_free old_names s (e ∷ existing) [] = true
all_free old_names s (e ∷ existing) (n ∷ new) = is_free old_names s e n && all_free old_names s existing new

-- the columns can be renamed in place: there are as many new names as old ones, none comes twice, and each new name is free
abbrev pub can_rename : (existing new : List Name) → Columns → Bool
can_rename existing new s = (length existing == length new) && (is_once existing && (is_once new && all_free existing s existing new))

-- the columns with those that were taken out put back, the last one first, each at its place and under its new name
abbrev pub put_back : List TakenColumn → Columns → Columns
put_back [] s = s
put_back (t ∷ taken) s = insert (put_back taken s) t.index (t.name, t.dtype)

-- each of those that were taken out has its place among so many columns and those that are put back before it
abbrev pub HavePlaces : List TakenColumn → ℕ → Type 0
HavePlaces [] n = Unit {0}
HavePlaces (t ∷ taken) n = (t.index ≤ n + length taken) × HavePlaces taken n

-- those that were taken out can be put back between those that are left, once these have other names, and all make up these columns
abbrev pub MakeUp : List TakenColumn → Columns → (Name → Name) → Columns → Type 0
MakeUp taken left now made = HavePlaces taken (length left) × (put_back taken (renamed_columns now left) ≡ made)
