-- Expressions under other names: names that are alike on what it reads make of an expression the same.
use Rattle.std.proofs.Common.{◌≡◌, ◌∙◌, Bool, true, false, cond, List, [], ◌∷◌, ◌||◌, map, Option, Some, unwrap_or, refl, sym, ap, ap₂}
use Rattle.std.specs.Str.{bytes_eq}
use Rattle.std.proofs.lemmas.Slice.Eq.{bytes_eq-Decides}
use Rattle.plan_core.specs.Names.{has}
use Rattle.plan_tree.specs.Rose.{Roses, rose, no_roses, more}
use Rattle.plan_expr.specs.Exprs.{ExprOp, column, literal, alias, binary, ternary, aggregate, call, window, len}
use Rattle.plan_expr.specs.Leaves.{Name, own_leaves, leaves, leaves_all}
use Rattle.plan_frame.proofs.NameSets.{has_first, has_front, has_back}
use Rattle.plan_meaning.specs.Functions.{new_name, renamed}
use Rattle.plan_pruned.specs.Renamed.{renamed_exprs, renamed_op}

module _ (f g : Name → Name) where
  -- two ways to name are alike on these names
  abbrev pub Alike : List Name → Type 0
  Alike l = (a : Name) → has l a ≡ true → f a ≡ g a

  op-alike : (op : ExprOp) → Alike (own_leaves op) → renamed_op f op ≡ renamed_op g op
  op-alike (column a) h = ap column (h a (has_first a []))
  op-alike (literal value) h = refl
  op-alike (alias name) h = refl
  op-alike (binary op) h = refl
  op-alike ternary h = refl
  op-alike (aggregate op) h = refl
  op-alike (call function options) h = refl
  op-alike window h = refl
  op-alike len h = refl

  pub exprs-alike : (es : Roses (Unit {0}) ExprOp) → Alike (leaves_all es) → renamed_exprs f es ≡ renamed_exprs g es
  exprs-alike no_roses h = refl
  exprs-alike (more (rose n op us) es) h =
      let here : Alike (leaves (rose n op us)) = λ a i. h a (has_front (leaves (rose n op us)) (leaves_all es) a i) in
      ap₂ more
      (ap₂ (λ (o : ExprOp) (vs : Roses (Unit {0}) ExprOp). rose n o vs) (op-alike op (λ a i. here a (has_front (own_leaves op) (leaves_all us) a i))) (exprs-alike us (λ a i. here a (has_back (own_leaves op) (leaves_all us) a i))))
      (exprs-alike es (λ a i. h a (has_back (leaves (rose n op us)) (leaves_all es) a i)))

-- under their own names expressions stay

own-op : (op : ExprOp) → renamed_op (λ a. a) op ≡ op
own-op (column a) = refl
own-op (literal value) = refl
own-op (alias name) = refl
own-op (binary op) = refl
own-op ternary = refl
own-op (aggregate op) = refl
own-op (call function options) = refl
own-op window = refl
own-op len = refl

pub own-exprs : (es : Roses (Unit {0}) ExprOp) → renamed_exprs (λ a. a) es ≡ es
own-exprs no_roses = refl
own-exprs (more (rose n op us) es) = ap₂ more (ap₂ (λ (o : ExprOp) (vs : Roses (Unit {0}) ExprOp). rose n o vs) (own-op op) (own-exprs us)) (own-exprs es)

-- names beside what each becomes

new-mapped : (now : Name → Name) (names : List Name) (a : Name) → has names a ≡ true → new_name names (map now names) a ≡ Some (now a)
new-mapped now [] a h = cc
new-mapped now (b ∷ names) a h = at (bytes_eq a b) refl h (new-mapped now names a)
  where
    at : (t : Bool) → bytes_eq a b ≡ t → (t || has names a) ≡ true → (has names a ≡ true → new_name names (map now names) a ≡ Some (now a)) → cond t (Some (now b)) (new_name names (map now names) a) ≡ Some (now a)
    at true e i rest = ap (λ (x : Name). Some (now x)) (sym ((bytes_eq-Decides a b).0 e))
    at false e i rest = rest i

-- each of some names becomes what the list beside says
pub renamed-mapped : (now : Name → Name) (names : List Name) → Alike (renamed names (map now names)) now names
renamed-mapped now names a h = ap (λ (o : Option Name). unwrap_or o a) (new-mapped now names a h)

-- names that are all called as they were
pub mapped-own : (now : Name → Name) (names : List Name) → names ≡ map now names → Alike (λ a. a) now names
mapped-own now [] e a h = cc
mapped-own now (b ∷ names) e a h = at (bytes_eq a b) refl (cc) h (mapped-own now names (cc) a)
  where
    at : (t : Bool) → bytes_eq a b ≡ t → b ≡ now b → (t || has names a) ≡ true → (has names a ≡ true → a ≡ now a) → a ≡ now a
    at true q first i rest = let same : a ≡ b = (bytes_eq-Decides a b).0 q in same ∙ first ∙ sym (ap now same)
    at false q first i rest = rest i
