-- The first column that is put out under a name, found among the left columns, and else among the right ones by the name that they get.
use Rattle.std.proofs.Common.{◌≡◌, ◌∙◌, ◌++◌, append_assoc, append-nil, Bool, true, false, cond, List, [], ◌∷◌, map, Option, Some, option_map, refl, sym, ap}
use Rattle.std.specs.List.{find}
use Rattle.std.specs.Str.{bytes_eq}
use Rattle.plan_core.specs.declared.data_type.DataType.{DataType}
use Rattle.plan_core.specs.Columns.{Columns, names_of}
use Rattle.plan_core.specs.Names.{has}
use Rattle.plan_options.specs.declared.join.JoinArgs.{JoinArgs}
use Rattle.plan_options.specs.Join.{suffix_of}
use Rattle.plan_expr.specs.Leaves.{Name}
use Rattle.plan_join.specs.declared.origin.Side.{Side}
use Rattle.plan_join.specs.declared.origin.Side.TheVariants as sides
use Rattle.plan_join.specs.Naming.{is_called, left_rest, origin, right_name, right_rest}
use Rattle.plan_join.proofs.OriginLemmas.{origin-either}
use Rattle.plan_prune_parts.specs.declared.origins.Origins.{Origins}
use Rattle.plan_prune_parts.specs.Origins.{origin_in}
use Rattle.plan_meaning.specs.Functions.{name_in, new_name}

-- right columns under the names that they get
abbrev pub called_all : (suffix : Name) → List Name → Columns → List Name
called_all suffix names cs = map (λ (c : Name × DataType). right_name suffix names c.0) cs

right-found : (suffix : Name) (names : List Name) (cs : Columns) (a : Name) → find (is_called suffix names a) (map (λ (c : Name × DataType). (sides.Right, c.0)) cs) ≡ option_map (λ (b : Name). (sides.Right, b)) (new_name (called_all suffix names cs) (names_of cs) a)
right-found suffix names [] a = refl
right-found suffix names (c ∷ cs) a = at (bytes_eq a (right_name suffix names c.0)) (right-found suffix names cs a)
  where
    at : (t : Bool) → find (is_called suffix names a) (map (λ (c : Name × DataType). (sides.Right, c.0)) cs) ≡ option_map (λ (b : Name). (sides.Right, b)) (new_name (called_all suffix names cs) (names_of cs) a) → cond t (Some (sides.Right, c.0)) (find (is_called suffix names a) (map (λ (c : Name × DataType). (sides.Right, c.0)) cs)) ≡ option_map (λ (b : Name). (sides.Right, b)) (cond t (Some c.0) (new_name (called_all suffix names cs) (names_of cs) a))
    at true h = refl
    at false h = h

-- the names of the left columns, and those of the right ones by the names that they get, give the first column of each name
pub origin-found : (args : JoinArgs) (lk rk : List Name) (s t : Columns) (o : Origins) → o.left ≡ left_rest args lk s → ((a : Name) → name_in o.right a ≡ new_name (called_all (suffix_of args) (names_of (left_rest args lk s)) (right_rest args rk t)) (names_of (right_rest args rk t)) a) → (a : Name) → origin_in o a ≡ origin args lk rk s t a
origin-found args lk rk s t o left right a =
    ap (λ (l : Columns). cond (has (names_of l) a) (Some (sides.Left, a)) (option_map (λ (b : Name). (sides.Right, b)) (name_in o.right a))) left
    ∙ ap (λ (x : Option (Side × Name)). cond (has (names_of (left_rest args lk s)) a) (Some (sides.Left, a)) x) (ap (λ (x : Option Name). option_map (λ (b : Name). (sides.Right, b)) x) (right a) ∙ sym (right-found (suffix_of args) (names_of (left_rest args lk s)) (right_rest args rk t) a))
    ∙ sym (origin-either args lk rk s t a (has (names_of (left_rest args lk s)) a) refl)

-- a name that a left column has
pub origin-left : (o : Origins) (a : Name) → has (names_of o.left) a ≡ true → origin_in o a ≡ Some (sides.Left, a)
origin-left o a h = rw h refl

-- a name that none has
pub origin-right : (o : Origins) (a : Name) → has (names_of o.left) a ≡ false → origin_in o a ≡ option_map (λ (b : Name). (sides.Right, b)) (name_in o.right a)
origin-right o a h = rw h refl

-- what is listed is one longer
pub listed-next : {A B : Type 0} (f : A → B) (made : List B) (x : A) (left whole : List A) (b : B) → whole ≡ x ∷ left → b ≡ f x → (all : List B) → made ++ map f whole ≡ all → (made ++ b ∷ []) ++ map f left ≡ all
listed-next {B = B} f made x left whole b e g all h =
    ap (λ (y : B). (made ++ y ∷ []) ++ map f left) g
    ∙ append_assoc made (f x ∷ []) (map f left)
    ∙ ap (λ l. made ++ map f l) (sym e) ∙ h

-- and at the end it is all
pub listed-all : {A B : Type 0} (f : A → B) (made : List B) (left : List A) → left ≡ [] → (all : List B) → made ++ map f left ≡ all → made ≡ all
listed-all f made left e all h = sym (append-nil made) ∙ ap (λ l. made ++ map f l) (sym e) ∙ h
