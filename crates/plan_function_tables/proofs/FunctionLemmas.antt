-- Columns under other names, and behind one of a new name.
use Rattle.std.proofs.Common.{◌≡◌, ◌∙◌, ◌++◌, ℕ, suc, Bool, true, false, not, ◌&&◌, List, [], ◌∷◌, map, length, Option, unwrap_or, pos, refl, sym, ap, subst}
use Rattle.std.proofs.Math.Path.{fun_ext}
use Rattle.std.specs.Int.{w64, int_wrap, cast_signed}
use Rattle.std.specs.List.{AllByRecursion, IsDistinct, list_any}
use Rattle.std.specs.Str.{bytes_eq}
use Rattle.std.proofs.lemmas.Bool.{and_parts, not-true}
use Rattle.plan_core.specs.Columns.{Columns, HasDistinctNames, names_of}
use Rattle.plan_core.specs.Names.{has, AreDistinct}
use Rattle.plan_core.specs.declared.error.PolarsError.TheVariants.{Duplicate}
use Rattle.plan_expr.specs.Leaves.{Name}
use Rattle.plan_frame.specs.Frames.{Column}
use Rattle.plan_meaning.specs.Functions.{become_one, name_in, names_now, new_name, renamed, stay_apart}
use Rattle.plan_frame.specs.Reshaped.{renamed_columns}
use Rattle.plan_meaning.specs.Checks.{Check, check, each_new}
use Rattle.plan_meaning.specs.Typing.{AllHold, rename_checks, row_index_checks}
use Rattle.plan_meaning.proofs.CheckParts.{hold_back}
use Rattle.plan_schema.proofs.RenameLemmas.{names-renamed, or_false}
use Rattle.plan_table.specs.declared.column.Column.{Column as Typed}
use Rattle.plan_table.specs.Tables.{types_of}
use Rattle.plan_value.specs.Shown.{column_shown, columns_shown}
use Rattle.plan_function_tables.specs.Function.{under}
use Prim.Native.Nat.{◌^◌, ◌%◌}
use mir.Val.{bits}

-- other names

-- a name that becomes what none of some others becomes
apart-from : (now : Name → Name) (a : Name) (names : List Name) → list_any (become_one now a) names ≡ false → AllByRecursion (λ (b : Name). bytes_eq a b ≡ false) names → AllByRecursion (λ (b : Name). bytes_eq (now a) b ≡ false) (map now names)
apart-from now a [] e h = tt
apart-from now a (b ∷ names) e h =
    let parts = or_false (become_one now a b) (list_any (become_one now a) names) e in
    (at (bytes_eq (now a) (now b)) (bytes_eq a b) parts.0 h.0, apart-from now a names parts.1 h.1)
  where
    at : (x y : Bool) → (x && not y) ≡ false → y ≡ false → x ≡ false
    at true true e f = f
    at true false e f = e
    at false y e f = refl

-- pairs that have the new names of two lists rename as these do
pub pairs-rename : (pairs : List (Name × Name)) (existing new : List Name) → ((a : Name) → name_in pairs a ≡ new_name existing new a) → names_now pairs ≡ renamed existing new
pairs-rename pairs existing new by = fun_ext (λ (a : Name). ap (λ (o : Option Name). unwrap_or o a) (by a))

-- distinct names that stay apart become distinct names
names-apart : (now : Name → Name) (names : List Name) → AreDistinct names → stay_apart now names ≡ true → AreDistinct (map now names)
unfolding IsDistinct
names-apart now [] d e = tt
names-apart now (a ∷ names) d e =
    let parts = and_parts (not (list_any (become_one now a) names)) (stay_apart now names) e in
    (apart-from now a names (not-true (list_any (become_one now a) names) parts.0) d.0, names-apart now names d.1 parts.1)

-- columns under other names as columns of frames, and as names with types
pub shown-under : (now : Name → Name) (cs : List Typed) → columns_shown (map (under now) cs) ≡ map (λ (c : Column). record { name = now c.name; values = c.values }) (columns_shown cs)
shown-under now [] = refl
shown-under now (c ∷ cs) = ap (λ (l : List Column). record { name = now c.name; values = (column_shown c).values } ∷ l) (shown-under now cs)

pub types-under : (now : Name → Name) (cs : List Typed) → types_of (map (under now) cs) ≡ renamed_columns now (types_of cs)
types-under now [] = refl
types-under now (c ∷ cs) = ap (λ (l : Columns). (now c.name, c.dtype) ∷ l) (types-under now cs)

-- columns whose names stay apart have distinct names under their new ones
pub under-apart : (now : Name → Name) (cs : List Typed) → HasDistinctNames (types_of cs) → stay_apart now (names_of (types_of cs)) ≡ true → HasDistinctNames (types_of (map (under now) cs))
under-apart now cs d e =
    subst AreDistinct (sym (ap names_of (types-under now cs) ∙ names-renamed now (types_of cs))) (names-apart now (names_of (types_of cs)) d e)

-- a new name

-- a name that isn't there is none of those that are
pub none-is : (a : Name) (names : List Name) → has names a ≡ false → AllByRecursion (λ (b : Name). bytes_eq a b ≡ false) names
none-is a [] e = tt
none-is a (b ∷ names) e =
    let parts = or_false (bytes_eq a b) (has names a) e in
    (parts.0, none-is a names parts.1)

-- columns behind one of a new name have distinct names
pub behind-apart : (c : Typed) (cs : List Typed) → HasDistinctNames (types_of cs) → has (names_of (types_of cs)) c.name ≡ false → HasDistinctNames (types_of (c ∷ cs))
unfolding IsDistinct
behind-apart c cs d e = (none-is c.name (names_of (types_of cs)) e, d)

-- a number that is cut to 64 bits is wrapped
pub cut-wrapped : (n : ℕ) → cast_signed w64 (n % 2 ^ bits w64) ≡ int_wrap w64 (pos n)
unfolding int_wrap
cut-wrapped n = refl

-- checks

-- a renaming that is checked gives no two columns one name
pub rename-checked : (existing new : List Name) (s : Columns) → AllHold (rename_checks existing new s) → stay_apart (renamed existing new) (names_of s) ≡ true
unfolding rename_checks
rename-checked existing new s h =
    let last : List Check = check Duplicate 0 (stay_apart (renamed existing new) (names_of s)) ∷ [] in
    let fresh : List Check = each_new (suc (length existing)) [] new in
    (hold_back fresh last (hold_back (each_new 1 [] existing) (fresh ++ last) h.1)).0

-- a numbering of the rows that is checked has a name that no column has
pub row-index-checked : (name : Name) (s : Columns) → AllHold (row_index_checks name s) → has (names_of s) name ≡ false
unfolding row_index_checks
row-index-checked name s h = not-true (has (names_of s) name) h.0
