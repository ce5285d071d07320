-- Lists to which items are appended one after another.
use Rattle.std.proofs.Common.{◌≡◌, List, [], ◌∷◌, ◌++◌, map, refl, ap, ap₂, sym, ◌∙◌, append_assoc, append-nil}
use Rattle.std.proofs.lemmas.List.{map-append}
use Rattle.plan_dsl.specs.Appends.{Appends, AppendsAll}

module _ {X Y : Type 0} (view : X → Y) where
  -- nothing yet
  pub appends_none : (old : List X) (all : List Y) → Appends view old old all all
  appends_none old all = record { front = []; whole = refl; appended = sym (append-nil old) }

  -- one item more, which is the next that is left
  pub appends_next : (old mid new : List X) (x : X) (left rest all : List Y) → Appends view old mid left all → left ≡ view x ∷ rest → new ≡ mid ++ x ∷ [] → Appends view old new rest all
  appends_next old mid new x left rest all a e n = record {
    front = a.front ++ x ∷ [];
    whole = ap (λ (ys : List Y). ys ++ rest) (map-append view a.front (x ∷ [])) ∙ append_assoc (map view a.front) (view x ∷ []) rest
        ∙ ap (λ (ys : List Y). map view a.front ++ ys) (sym e) ∙ a.whole;
    appended = n ∙ ap (λ (xs : List X). xs ++ x ∷ []) a.appended ∙ append_assoc old a.front (x ∷ []);
  }

  -- all of some, and then all of others
  pub appends_join : (old mid new : List X) (ones others : List Y) → AppendsAll view old mid ones → AppendsAll view mid new others → AppendsAll view old new (ones ++ others)
  appends_join old mid new ones others a b = record {
    front = a.front ++ b.front;
    whole = append-nil (map view (a.front ++ b.front)) ∙ map-append view a.front b.front
        ∙ ap₂ (λ (ys zs : List Y). ys ++ zs) (sym (append-nil (map view a.front)) ∙ a.whole) (sym (append-nil (map view b.front)) ∙ b.whole);
    appended = b.appended ∙ ap (λ (xs : List X). xs ++ b.front) a.appended ∙ append_assoc old a.front b.front;
  }
