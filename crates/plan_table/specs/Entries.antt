-- Which columns a map by their names stands for.
use Rattle.std.specs.Prelude.{◌≡◌, List, map, String, string_bytes}
use Rattle.std.specs.Map.{keys_of}
use Rattle.std.specs.List.{IsDistinct, AllByRecursion}
use Rattle.std.specs.String.{string_eq}
use Rattle.std.specs.declared.alloc.Global.{Global}
use Rattle.plan_table.specs.declared.column.Column.{Column}

-- columns by their names
abbrev pub Entries : Type 0
Entries = List (String Global × Column)

-- the columns of the entries, in order
abbrev pub seen : Entries → List Column
seen es = map (λ (p : String Global × Column). p.1) es

-- a column stands under its name
abbrev pub IsNamed : String Global × Column → Type 0
IsNamed p = string_bytes p.0 ≡ p.1.name

-- each column stands under its name, and no name comes twice
abbrev pub AreNamed : Entries → Type 0
AreNamed es = IsDistinct string_eq (keys_of es) × AllByRecursion IsNamed es
