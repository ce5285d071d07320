-- What a map with text keys says of the list of names and values.
use Rattle.std.proofs.Common.{◌≡◌, Bool, true, false, cond, not, ◌||◌, List, [], ◌∷◌, ◌++◌, map, refl, ap, sym, ◌∙◌, Option, None, Some, is_some, Bor}
use Rattle.std.specs.Option.{option_copied}
use Rattle.std.specs.Map.{lookup}
use Rattle.std.specs.Str.{bytes_eq}
use Rattle.std.specs.Prelude.{String, string_bytes}
use Rattle.std.specs.String.{string_eq}
use Rattle.std.specs.declared.alloc.Global.{Global}
use Rattle.indexmap.specs.IndexMap.{insert_entry}
use Rattle.plan_core.specs.Names.{has}
use Rattle.plan_hive.specs.Parts.{Text, HivePart, part_names}

abbrev pub Entries : Type 0
Entries = List (String Global × Option Text)

abbrev pub seen : Entries → List HivePart
seen es = map (λ (p : String Global × Option Text). (string_bytes p.0, p.1)) es

-- a text's value is that of its bytes
pub lookup-seen : (es : Entries) (a : Text) → lookup (λ (k : String Global). bytes_eq a (string_bytes k)) es ≡ lookup (bytes_eq a) (seen es)
lookup-seen [] a = refl
lookup-seen (e ∷ es) a = ap (λ (x : Option (Option Text)). cond (bytes_eq a (string_bytes e.0)) (Some e.1) x) (lookup-seen es a)

-- a name has a value exactly where it is one of the names
pub lookup-has : (parts : List HivePart) (a : Text) → is_some (lookup (bytes_eq a) parts) ≡ has (part_names parts) a
lookup-has [] a = refl
lookup-has (p ∷ parts) a = by-test (bytes_eq a p.0) (lookup-has parts a)
  where
    by-test : (b : Bool) → is_some (lookup (bytes_eq a) parts) ≡ has (part_names parts) a → is_some (cond b (Some p.1) (lookup (bytes_eq a) parts)) ≡ (b || has (part_names parts) a)
    by-test true h = refl
    by-test false h = h

absent-here : (b : Bool) (x : Option Text) (o : Option (Option Text)) → cond b (Some x) o ≡ None → b ≡ false
absent-here true x o h = cc
absent-here false x o h = refl

absent-below : (b : Bool) (x : Option Text) (o : Option (Option Text)) → cond b (Some x) o ≡ None → o ≡ None
absent-below true x o h = cc
absent-below false x o h = h

-- a text that is absent goes last
pub insert-seen : (es : Entries) (k : String Global) (v : Option Text) → lookup (bytes_eq (string_bytes k)) (seen es) ≡ None → seen (insert_entry string_eq es k v) ≡ seen es ++ (string_bytes k, v) ∷ []
insert-seen [] k v h = refl
insert-seen (e ∷ es) k v h =
    ap (λ (b : Bool). seen (cond b ((e.0, v) ∷ es) (e ∷ insert_entry string_eq es k v))) (absent-here (bytes_eq (string_bytes k) (string_bytes e.0)) e.1 (lookup (bytes_eq (string_bytes k)) (seen es)) h)
    ∙ ap (λ (x : List HivePart). (string_bytes e.0, e.1) ∷ x) (insert-seen es k v (absent-below (bytes_eq (string_bytes k) (string_bytes e.0)) e.1 (lookup (bytes_eq (string_bytes k)) (seen es)) h))

nothing : (o : Option (Option Text)) → is_some o ≡ false → o ≡ None
nothing None h = refl
nothing (Some x) h = cc

-- whether a key is there is whether its bytes are a name
pub key-has : (es : Entries) (a : Text) → is_some (lookup (λ (k : String Global). bytes_eq a (string_bytes k)) es) ≡ has (part_names (seen es)) a
key-has es a = ap (λ (o : Option (Option Text)). is_some o) (lookup-seen es a) ∙ lookup-has (seen es) a

pub lookup-absent : (parts : List HivePart) (a : Text) → has (part_names parts) a ≡ false → lookup (bytes_eq a) parts ≡ None
lookup-absent parts a h = nothing (lookup (bytes_eq a) parts) (lookup-has parts a ∙ h)

-- a look-up finds nothing exactly where the name is none of the columns'
pub got : (parts : List HivePart) (a : Text) (o : Option (Bor (Option Text))) (t : Bool) → option_copied o ≡ lookup (bytes_eq a) parts → is_some o ≡ not t → has (part_names parts) a ≡ not t
got parts a None t is e = sym (lookup-has parts a) ∙ ap (λ (x : Option (Option Text)). is_some x) (sym is) ∙ e
got parts a (Some x) t is e = sym (lookup-has parts a) ∙ ap (λ (x : Option (Option Text)). is_some x) (sym is) ∙ e
