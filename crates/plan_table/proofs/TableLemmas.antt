-- Lists of sources with their tables.
use Rattle.std.proofs.Common.{rules, ◌≡◌, ◌++◌, Bool, true, false, cond, List, [], ◌∷◌, Option, None, Some, refl, ap, sym, subst, ◌∙◌}
use Rattle.std.specs.Map.{lookup}
use Rattle.std.specs.Prelude.{IfSome, option_copied}
use Rattle.std.specs.Borrow.{Bor}
use Rattle.std.specs.List.{AllByRecursion, IsDistinct}
use Rattle.indexmap.specs.IndexMap.{insert_entry}
use Rattle.plan_table.specs.contracts.source_key.SourceKeyPartialEq.TheImpl.{ghosts}
use Rattle.plan_table.specs.declared.source_key.SourceKey.{SourceKey}
use Rattle.plan_table.specs.declared.source_key.SourceKey.TheVariants.{Path, Buffer, Frame}
use Rattle.plan_table.specs.declared.table.Table.{Table}
use Rattle.plan_table.specs.Tables.{IsTable, same_key, table_at}

-- keys are compared by kind, and then by path or number
pub compared : (a b : SourceKey) → ghosts.eq a b ≡ same_key a b
compared (Path a) (Path b) = refl
compared (Path a) (Buffer j) = refl
compared (Path a) (Frame j) = refl
compared (Buffer i) (Path b) = refl
compared (Buffer i) (Buffer j) = refl
compared (Buffer i) (Frame j) = refl
compared (Frame i) (Path b) = refl
compared (Frame i) (Buffer j) = refl
compared (Frame i) (Frame j) = refl

pub absent-here : (b : Bool) (t : Table) (rest : Option Table) → cond b (Some t) rest ≡ None → b ≡ false
absent-here true t rest h = cc
absent-here false t rest h = refl

pub absent-below : (b : Bool) (t : Table) (rest : Option Table) → cond b (Some t) rest ≡ None → rest ≡ None
absent-below true t rest h = cc
absent-below false t rest h = h

-- the table of an absent source goes last
pub added-last : (ts : List (SourceKey × Table)) (key : SourceKey) (t : Table) → table_at ts key ≡ None → insert_entry ghosts.eq ts key t ≡ ts ++ (key, t) ∷ []
added-last [] key t h = refl
added-last (p ∷ ts) key t h =
    ap (λ (b : Bool). cond b ((p.0, t) ∷ ts) (p ∷ insert_entry ghosts.eq ts key t)) (compared key p.0 ∙ absent-here (same_key key p.0) p.1 (table_at ts key) h)
    ∙ ap (λ (x : List (SourceKey × Table)). p ∷ x) (added-last ts key t (absent-below (same_key key p.0) p.1 (table_at ts key) h))

-- what holds of each table and of one more holds of all
pub formed-added : (ts : List (SourceKey × Table)) (p : SourceKey × Table) → AllByRecursion (λ (q : SourceKey × Table). IsTable q.1) ts → IsTable p.1 → AllByRecursion (λ (q : SourceKey × Table). IsTable q.1) (ts ++ p ∷ [])
formed-added [] p h is = (is, tt)
formed-added (q ∷ ts) p h is = (h.0, formed-added ts p h.1 is)

differ-all : (a : SourceKey) (keys : List SourceKey) → AllByRecursion (λ (b : SourceKey). ghosts.eq a b ≡ false) keys → AllByRecursion (λ (b : SourceKey). same_key a b ≡ false) keys
differ-all a [] h = tt
differ-all a (b ∷ keys) h = (sym (compared a b) ∙ h.0, differ-all a keys h.1)

-- keys that the map tells apart are distinct
pub distinct-keys : (keys : List SourceKey) → IsDistinct ghosts.eq keys → IsDistinct same_key keys
unfolding IsDistinct
distinct-keys [] h = tt
distinct-keys (a ∷ keys) h = (differ-all a keys h.0, distinct-keys keys h.1)

-- a look-up by a key finds the table of that key
pub looked-up : (ts : List (SourceKey × Table)) (key : SourceKey) → lookup (ghosts.eq key) ts ≡ table_at ts key
looked-up [] key = refl
looked-up (p ∷ ts) key =
    ap (λ (b : Bool). cond b (Some p.1) (lookup (ghosts.eq key) ts)) (compared key p.0)
    ∙ ap (λ (x : Option Table). cond (same_key key p.0) (Some p.1) x) (looked-up ts key)

one-formed : (b : Bool) (t u : Table) (rest : Option Table) → cond b (Some t) rest ≡ Some u → IsTable t → (rest ≡ Some u → IsTable u) → IsTable u
one-formed true t u rest q is more = subst IsTable (search rules) is
one-formed false t u rest q is more = more q

-- the table that is found is well formed
pub formed-at : (ts : List (SourceKey × Table)) (key : SourceKey) (t : Table) → AllByRecursion (λ (p : SourceKey × Table). IsTable p.1) ts → table_at ts key ≡ Some t → IsTable t
formed-at [] key t h q = cc
formed-at (p ∷ ts) key t h q = one-formed (same_key key p.0) p.1 t (table_at ts key) q h.0 (formed-at ts key t h.1)

pub formed-found : (ts : List (SourceKey × Table)) (key : SourceKey) (o : Option (Bor Table)) → AllByRecursion (λ (p : SourceKey × Table). IsTable p.1) ts → option_copied o ≡ table_at ts key → IfSome o (λ (t : Bor Table). IsTable t.now)
formed-found ts key None h q = tt
formed-found ts key (Some t) h q = formed-at ts key t.now h (sym q)
