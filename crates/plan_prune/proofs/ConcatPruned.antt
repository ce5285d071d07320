-- A concatenation is pruned at its number.
use Rattle.std.proofs.Common.{◌≡◌, suc, Bool, List, [], ◌∷◌, length, map, Option, Some, None, refl, ap, ap₂, ◌∙◌}
use Rattle.std.specs.List.{slice_get, slice_set}
use Rattle.plan_core.specs.declared.arena.Node.{Node}
use Rattle.plan_core.specs.Columns.{Columns}
use Rattle.plan_options.specs.declared.union.HConcatOptions.{HConcatOptions}
use Rattle.plan_tree.specs.Rose.{Roses, rose, no_roses, more}
use Rattle.plan_tree.specs.Stands.{Trees, StandsOnce}
use Rattle.plan_tree.proofs.ReadLemmas.{trees_at-is}
use Rattle.plan_expr.specs.declared.aexpr.AExpr.{AExpr}
use Rattle.plan_expr.specs.Leaves.{Name}
use Rattle.plan_ir.specs.declared.ir.IR.{IR}
use Rattle.plan_ir.specs.declared.ir.IR.TheVariants as nodes
use Rattle.plan_ir.specs.Parts.{plan_shape, roots_in, roots_of}
use Rattle.plan_ir.specs.Plans.{Op, op_at, plans_of, bare, hconcat}
use Rattle.plan_meaning.specs.Typing.{first_schema}
use Rattle.plan_schema.specs.Stored.{stored_all}
use Rattle.plan_pruned.specs.Pruned.{asks_plans, held_names, pruned_all, pruned_hconcat, rebuilt, top_below}
use Rattle.plan_prune_parts.specs.Kept.{beside_after, is_some_name}
use Rattle.plan_pruned.specs.Renamed.{IsLonger}
use Rattle.plan_prune_parts.specs.Places.{StandExprs}
use Rattle.plan_prune.specs.Prunes.{Prunes, PrunesEach, covered_by}
use Rattle.plan_prune_parts.specs.Said.{columns_at}
use Rattle.plan_prune_parts.proofs.PlaceLemmas.{place_same}
use Rattle.plan_prune_steps.specs.Steps.{held_at}
use Rattle.plan_prune.proofs.EachLemmas.{each_finish}

-- there are as many lists as inputs
pub length-held : (lp : List IR) (ex : List AExpr) (asked : List Name) (ns : List Node) → length (held_at lp ex asked ns) ≡ length ns
length-held lp ex asked [] = refl
length-held lp ex asked (n ∷ ns) = ap suc (length-held lp ex asked ns)

-- the columns of inputs, one by one and all at once
module _ (lp : List IR) (ex : List AExpr) where
  pub columns_all : (ns : List Node) (f : Trees IR) → StandsOnce plan_shape lp ns f → map (columns_at lp ex) ns ≡ stored_all (bare (plans_of ex f))
  columns_all [] no_roses h = refl
  columns_all (n ∷ ns) (more (rose m p kids) rest) h =
      let one : StandsOnce plan_shape lp (n ∷ []) (more (rose m p kids) no_roses) = record {
        stands = (h.stands.0, h.stands.1, h.stands.2, h.stands.3, tt);
        once = (h.once.0, (λ r. r), (λ k u v. v), h.once.3, tt);
      } in
      ap₂ (λ (s : Columns) (ss : List Columns). s ∷ ss)
      (ap (λ (t : Trees IR). first_schema (stored_all (bare (plans_of ex t)))) (trees_at-is plan_shape lp (n ∷ []) (more (rose m p kids) no_roses) one))
      (columns_all ns rest (record { stands = h.stands.4; once = h.once.4 }))
  columns_all [] (more (rose m p kids) rest) h = absurd h.stands
  columns_all (n ∷ ns) no_roses h = absurd h.stands

  held_map : (asked : List Name) (ns : List Node) → held_at lp ex asked ns ≡ map (held_names asked) (map (columns_at lp ex) ns)
  held_map asked [] = refl
  held_map asked (n ∷ ns) = ap (λ (l : List (List Name)). held_names asked (columns_at lp ex n) ∷ l) (held_map asked ns)

  held_all : (asked : List Name) (ns : List Node) (f : Trees IR) → StandsOnce plan_shape lp ns f → held_at lp ex asked ns ≡ map (held_names asked) (stored_all (bare (plans_of ex f)))
  held_all asked ns f h = held_map asked ns ∙ ap (map (held_names asked)) (columns_all ns f h)

-- a concatenation goes back over its inputs, once all are pruned
module _ (top low : Bool) (asked : List Name) (covers : Option (List Name)) (lists : List (List Name)) (a b c z : List IR) (ex grown : List AExpr) (longer : IsLonger ex grown) (n : Node) (inputs : List Node) (schema : Columns) (options : HConcatOptions) (d : IR) (taken : b ≡ slice_set a n.0 d) (back : z ≡ slice_set c n.0 (nodes.HConcat inputs (beside_after (is_some_name asked) (map (columns_at c grown) inputs) schema) options)) (low_is : low ≡ top_below top (op_at ex (nodes.HConcat inputs schema options))) (lists_are : lists ≡ held_at b ex asked inputs) (covers_is : covers ≡ None) (below : (kids : Trees IR) → StandsOnce plan_shape b inputs kids → StandExprs ex (roots_in kids) → PrunesEach low covers lists b c ex grown inputs kids) where
  abbrev whole : IR
  whole = nodes.HConcat inputs schema options

  abbrev left : Columns
  left = beside_after (is_some_name asked) (map (columns_at c grown) inputs) schema

  stored : (names : List Name) (f : Roses (Unit {0}) Op) → rose tt (hconcat (beside_after (is_some_name names) (stored_all f) schema) options) f ≡ pruned_hconcat names schema options f
  stored [] f = refl
  stored (x ∷ names) f = refl

  concat_built : (f : Trees IR) (s : StandsOnce plan_shape b inputs f) (x : PrunesEach low covers lists b c ex grown inputs f) → rose tt (op_at ex (nodes.HConcat inputs left options)) (bare (plans_of grown x.trees)) ≡ rebuilt top asked (op_at ex (nodes.HConcat inputs schema options)) (stored_all (bare (plans_of ex f))) (pruned_all (top_below top (op_at ex (nodes.HConcat inputs schema options))) (asks_plans asked (op_at ex (nodes.HConcat inputs schema options)) (bare (plans_of ex f))) (bare (plans_of ex f)))
  concat_built f s x =
      let kids : Roses (Unit {0}) Op = bare (plans_of ex f) in
      let made : Roses (Unit {0}) Op = bare (plans_of grown x.trees) in
      let under : Bool = top_below top (op_at ex whole) in
      let plans : Roses (Unit {0}) Op = pruned_all under (map (held_names asked) (stored_all kids)) kids in
      ap (λ (ss : List Columns). rose tt (hconcat (beside_after (is_some_name asked) ss schema) options) made) (columns_all c grown inputs x.trees x.rewrites.stands)
      ∙ stored asked made
      ∙ ap (pruned_hconcat asked schema options)
      (x.pruned
      ∙ ap₂ (λ (w : Bool) (l : List (List Name)). covered_by covers (pruned_all w l kids)) low_is (lists_are ∙ held_all b ex asked inputs f s)
      ∙ ap (λ (o : Option (List Name)). covered_by o plans) covers_is)

  pub concat_pruned : (t : Trees IR) → StandsOnce plan_shape a (n ∷ []) t → StandExprs ex (roots_in t) → slice_get a n.0 ≡ Some (nodes.HConcat inputs schema options) → Prunes top asked a z ex grown n t
  concat_pruned t h s e =
      each_finish top low asked covers lists a b c z ex grown n whole (nodes.HConcat inputs left options) d t longer h s e taken back refl refl (place_same ex (roots_of whole)) refl
      (λ kids under stand. let y = below kids under stand in (y, concat_built kids under y))
