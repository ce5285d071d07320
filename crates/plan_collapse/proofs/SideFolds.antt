-- From which side all columns of an expression come, found name by name.
use Rattle.std.proofs.Common.{◌≡◌, ◌∙◌, ◌&&◌, Bool, true, false, not, List, [], ◌∷◌, Option, Some, None, is_none, refl, sym, ap, ap₂}
use Rattle.std.specs.List.{list_all}
use Rattle.std.specs.Option.{option_map_or}
use Rattle.plan_expr.specs.Leaves.{Name, leaves}
use Rattle.plan_join.specs.declared.origin.Side.{Side}
use Rattle.plan_join.specs.declared.origin.Side.TheVariants as sides
use Rattle.plan_meaning.specs.Checks.{is_empty}
use Rattle.plan_expr.specs.Exprs.{Expr}
use Rattle.plan_prune_parts.specs.declared.origins.Origins.{Origins}
use Rattle.plan_prune_parts.specs.Origins.{origin_in}
use Rattle.plan_collapse_laws.specs.CrossKeys.{all_from, Crossed, is_from, is_side, stands_for}
use Rattle.plan_collapse.specs.KeysAt.{AreOrigins}

module _ (by : Name → Option (Side × Name)) where
  abbrev from : Side → List Name → Bool
  from side names = list_all (λ (a : Name). is_from side (by a)) names

  -- what was found for the names so far, with those that are left: for all names
  pub record Folding (names : List Name) (found : Option Side) (rest : List Name) : Type 0 where
    pub alike : (side : Side) → (option_map_or (is_side side) found true && from side rest) ≡ from side names
    pub some : found ≡ None → rest ≡ names

  pub folding-init : (names : List Name) → Folding names None names
  folding-init names = record { alike = λ side. refl; some = λ e. refl }

  and-assoc : (a b c : Bool) → ((a && b) && c) ≡ (a && (b && c))
  and-assoc true b c = refl
  and-assoc false b c = refl

  not-any : (b : Bool) → (b && false) ≡ false
  not-any true = refl
  not-any false = refl

  found-some : (side : Side) (found : Option Side) → is_none found ≡ false → option_map_or (is_side side) found true ≡ option_map_or (is_side side) found false
  found-some side None e = cc
  found-some side (Some s) e = refl

  module _ (names : List Name) (found now : Option Side) (a : Name) (before rest : List Name) (is : before ≡ a ∷ rest) (f : Folding names found before) (with : (side : Side) → option_map_or (is_side side) now false ≡ (option_map_or (is_side side) found true && is_from side (by a))) where
    next : (side : Side) → (option_map_or (is_side side) now false && from side rest) ≡ from side names
    next side =
        ap (λ (b : Bool). b && from side rest) (with side)
        ∙ and-assoc (option_map_or (is_side side) found true) (is_from side (by a)) (from side rest)
        ∙ ap (λ (l : List Name). option_map_or (is_side side) found true && from side l) (sym is)
        ∙ f.alike side

    pub folding-next : is_none now ≡ false → Folding names now rest
    folding-next one = record {
      alike = λ side. ap (λ (b : Bool). b && from side rest) (found-some side now one) ∙ next side;
      some = λ e. (let no : is_none now ≡ true = ap is_none e in cc);
    }

    -- where there is no such side, there is none
    pub folding-none : is_none now ≡ true → (side : Side) → (not (is_empty names) && from side names) ≡ false
    folding-none none side = ap (λ (b : Bool). not (is_empty names) && b) (sym (next side) ∙ gone now none (from side rest)) ∙ not-any (not (is_empty names))
      where
        gone : (o : Option Side) → is_none o ≡ true → (b : Bool) → (option_map_or (is_side side) o false && b) ≡ false
        gone None e b = refl
        gone (Some s) e b = cc

  -- at the end it is found
  pub folding-end : (names : List Name) (found : Option Side) → Folding names found [] → (side : Side) → (not (is_empty names) && from side names) ≡ option_map_or (is_side side) found false
  folding-end names None f side = ap (λ (l : List Name). not (is_empty l) && from side l) (sym (f.some refl))
  folding-end [] (Some sides.Left) f side = (let no = f.alike sides.Right in cc)
  folding-end [] (Some sides.Right) f side = (let no = f.alike sides.Left in cc)
  folding-end (n ∷ names) (Some s) f side = sym (f.alike side) ∙ id_and (is_side side s)
    where
      id_and : (b : Bool) → (b && true) ≡ b
      id_and true = refl
      id_and false = refl

-- all columns of an expression come from a side by the origins exactly where they do by the cross join
pub all_by : (j : Crossed) (o : Origins) → AreOrigins j o → (side : Side) (e : Expr) → all_from j side e ≡ (not (is_empty (leaves e)) && from (origin_in o) side (leaves e))
all_by j o h side e = ap (λ (b : Bool). not (is_empty (leaves e)) && b) (each (leaves e))
  where
    each : (names : List Name) → list_all (λ (a : Name). is_from side (stands_for j a)) names ≡ from (origin_in o) side names
    each [] = refl
    each (a ∷ names) = ap₂ (λ (x : Option (Side × Name)) (b : Bool). is_from side x && b) (sym (h a)) (each names)
