-- Columns that a join puts out, by their names alone and with their types.
use Rattle.std.proofs.Common.{◌≡◌, ◌∙◌, ℕ, Bool, true, false, not, ◌&&◌, cond, List, [], ◌∷◌, Some, refl, sym, ap, ap₂}
use Rattle.std.specs.List.{AllByRecursion, IsDistinct, filter as only_where}
use Rattle.std.specs.Str.{bytes_eq}
use Rattle.plan_core.specs.declared.data_type.DataType.{DataType}
use Rattle.plan_core.specs.Columns.{Columns, HasDistinctNames, names_of, type_of}
use Rattle.plan_core.specs.Names.{has}
use Rattle.plan_core.proofs.ColumnLemmas.{flip_false}
use Rattle.plan_options.specs.declared.join.JoinArgs.{JoinArgs}
use Rattle.plan_options.specs.Join.{coalesces}
use Rattle.plan_expr.specs.Leaves.{Name}
use Rattle.plan_join.specs.Naming.{but_for, drops_left, has_right, left_rest, right_rest}
use Rattle.plan_join.specs.Origins.{puts_out_left, puts_out_right}
use Rattle.plan_frame.specs.Frames.{Column, column_names, HaveTypes}
use Rattle.plan_frame.proofs.NameSets.{same_named}
use Rattle.plan_join.specs.Sides.{left_out, right_out}

-- which columns remain is told name by name

all_pass : (s : Columns) → s ≡ only_where (λ (c : Name × DataType). true) s
all_pass [] = refl
all_pass (c ∷ s) = ap (λ (t : Columns). c ∷ t) (all_pass s)

none_pass : (s : Columns) → [] ≡ only_where (λ (c : Name × DataType). false) s
none_pass [] = refl
none_pass (c ∷ s) = none_pass s

where_dropped : (t : Bool) (keys : List Name) (s : Columns) → cond t (but_for keys s) s ≡ only_where (λ (c : Name × DataType). not (t && has keys c.0)) s
where_dropped true keys s = refl
where_dropped false keys s = all_pass s

pub left-where : (args : JoinArgs) (keys : List Name) (s : Columns) → left_rest args keys s ≡ only_where (λ (c : Name × DataType). puts_out_left args keys c.0) s
left-where args keys s = where_dropped (coalesces args.how args.coalesce && drops_left args.how) keys s

pub right-where : (args : JoinArgs) (keys : List Name) (s : Columns) → right_rest args keys s ≡ only_where (λ (c : Name × DataType). puts_out_right args keys c.0) s
right-where args keys s = at (has_right args.how) (coalesces args.how args.coalesce && not (drops_left args.how))
  where
    at : (r drops : Bool) → cond r (cond drops (but_for keys s) s) [] ≡ only_where (λ (c : Name × DataType). r && not (drops && has keys c.0)) s
    at true drops = where_dropped drops keys s
    at false drops = none_pass s

-- the names of those that pass are the names that pass
pub names-where : (p : Name → Bool) (s : Columns) → only_where p (names_of s) ≡ names_of (only_where (λ (c : Name × DataType). p c.0) s)
names-where p [] = refl
names-where p (c ∷ s) = at (names-where p s) (p c.0)
  where
    at : only_where p (names_of s) ≡ names_of (only_where (λ (c : Name × DataType). p c.0) s) → (b : Bool) → cond b (c.0 ∷ only_where p (names_of s)) (only_where p (names_of s)) ≡ names_of (cond b (c ∷ only_where (λ (c : Name × DataType). p c.0) s) (only_where (λ (c : Name × DataType). p c.0) s))
    at rest true = ap (λ (names : List Name). c.0 ∷ names) rest
    at rest false = rest

pub left-names : (args : JoinArgs) (keys : List Name) (s : Columns) → left_out args keys (names_of s) ≡ names_of (left_rest args keys s)
left-names args keys s = names-where (puts_out_left args keys) s ∙ ap names_of (sym (left-where args keys s))

pub right-names : (args : JoinArgs) (keys : List Name) (s : Columns) → right_out args keys (names_of s) ≡ names_of (right_rest args keys s)
right-names args keys s = names-where (puts_out_right args keys) s ∙ ap names_of (sym (right-where args keys s))

-- columns have the names of their types
pub columns-named : (h : ℕ) (cs : List Column) (s : Columns) → HaveTypes h cs s → column_names cs ≡ names_of s
columns-named h [] [] k = refl
columns-named h (c ∷ cs) (d ∷ s) k = ap₂ (λ (a : Name) (names : List Name). a ∷ names) k.0 (columns-named h cs s k.3)
columns-named h [] (d ∷ s) k = absurd k
columns-named h (c ∷ cs) [] k = absurd k

-- of distinct names each has its own type

other : (d : Name × DataType) (s left : Columns) → AllByRecursion (λ (a : Name). bytes_eq d.0 a ≡ false) (names_of left) → AllByRecursion (λ (c : Name × DataType). type_of s c.0 ≡ Some c.1) left → AllByRecursion (λ (c : Name × DataType). type_of (d ∷ s) c.0 ≡ Some c.1) left
other d s [] apart own = tt
other d s (c ∷ left) apart own = (ap (λ (b : Bool). cond b (Some d.1) (type_of s c.0)) (flip_false d.0 c.0 apart.0) ∙ own.0, other d s left apart.1 own.1)

pub own-types : (s : Columns) → HasDistinctNames s → AllByRecursion (λ (c : Name × DataType). type_of s c.0 ≡ Some c.1) s
unfolding IsDistinct
own-types [] once = tt
own-types (c ∷ s) once = (ap (λ (b : Bool). cond b (Some c.1) (type_of s c.0)) (same_named c.0), other c s s once.0 (own-types s once.1))
