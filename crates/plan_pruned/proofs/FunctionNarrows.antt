-- A function over an input that narrows at what it asks.
use Rattle.std.proofs.Common.{◌≡◌, Bool, true, false, cond, List, [], ◌∷◌, ◌++◌, refl, sym, ap, ◌∙◌, subst}
use Rattle.plan_core.specs.Columns.{Columns}
use Rattle.plan_core.specs.Names.{with_names}
use Rattle.plan_ir.specs.declared.functions.FunctionIR.{FunctionIR}
use Rattle.plan_ir.specs.declared.functions.FunctionIR.TheVariants.{Rename, RowIndex, Unpivot, Explode, FastCount}
use Rattle.plan_ir.specs.Plans.{map_function}
use Rattle.plan_expr.specs.Leaves.{Name}
use Rattle.plan_meaning.specs.Functions.{function_schema}
use Rattle.plan_meaning.specs.Mapped.{mapped}
use Rattle.plan_meaning.specs.Checks.{is_empty}
use Rattle.plan_meaning.specs.Typing.{function_checks, AllHold}
use Rattle.plan_frame.specs.Frames.{Frame, Agree}
use Rattle.plan_meaning.specs.Relating.{Asked, all, names as these, cached, Holding, NarrowColumns}
use Rattle.plan_meaning.specs.Asked.{set_of, function_names, asks_function, Fair, IsFair}
use Rattle.plan_pruned.proofs.NarrowLemmas.{Local, one_step, same_one, same_cached}
use Rattle.plan_pruned.proofs.FunctionParts.{FunctionKept, self_holds}
use Rattle.plan_pruned.proofs.RenameNarrows.{rename_kept}
use Rattle.plan_pruned.proofs.UnpivotNarrows.{unpivot_kept}
use Rattle.plan_pruned.proofs.ExplodeNarrows.{explode_kept}
use Rattle.plan_pruned.proofs.IndexNarrows.{index_kept}

-- per function
kept_by : (f : FunctionIR) (wanted : List Name) (r s : Columns) → AllHold (function_checks f s) → Fair wanted (function_schema f s) → is_empty (function_names f wanted s) ≡ false → Holding (function_names f wanted s) r s → FunctionKept f wanted r s
kept_by (Rename existing new swapping) wanted r s good fair some h = rename_kept existing new swapping wanted r s good fair h
kept_by (RowIndex name offset) wanted r s good fair some h = index_kept name offset wanted r s good fair h
kept_by (Explode columns) wanted r s good fair some h = explode_kept columns wanted r s good h
kept_by (Unpivot args) wanted r s good fair some h = unpivot_kept args wanted r s (is_told (is_empty args.on) some) good fair h
  where
    is_told : (b : Bool) → is_empty (cond b [] (with_names [] (args.index ++ args.on))) ≡ false → b ≡ false
    is_told true e = cc
    is_told false e = refl
kept_by (FastCount sources scan_type alias) wanted r s good fair some h = cc

-- where it needs names, those are kept; where it needs none, everything is
local_named : (f : FunctionIR) (wanted : List Name) (r s : Columns) → AllHold (function_checks f s) → Fair wanted (function_schema f s) → (needed : List Name) → function_names f wanted s ≡ needed → NarrowColumns (set_of needed) r s → Local (map_function f) (map_function f) (set_of needed ∷ []) (these wanted) (r ∷ []) (s ∷ [])
local_named f wanted r s good fair [] is h =
    subst (λ (x : Columns). Local (map_function f) (map_function f) (all ∷ []) (these wanted) (x ∷ []) (s ∷ [])) (sym h) (record {
      good = good;
      schema = self_holds wanted (function_schema f s) fair;
      fits = λ c k. k;
      step = λ c fs gs g k hr has ag st. one_step c (map_function f) (map_function f) all (these wanted) s s
          (λ f0 g0 g hr hs e t. (mapped c f g0, refl, subst (λ (x : Frame). Agree wanted x (mapped c f g0)) (sym (t ∙ ap (mapped c f) e)) (record { height = refl; same = λ a i. refl }))) fs gs g hr has ag st;
    })
local_named f wanted r s good fair (n ∷ needed) is h =
    let kept = kept_by f wanted r s good fair (ap is_empty is) (subst (λ (l : List Name). Holding l r s) (sym is) h) in
    record {
      good = kept.good;
      schema = kept.schema;
      fits = λ c k. k;
      step = λ c fs gs g k hr has ag st. one_step c (map_function f) (map_function f) (these (n ∷ needed)) (these wanted) r s
          (λ f0 g0 g hr hs ag t. (mapped c f g0, refl, subst (λ (x : Frame). Agree wanted x (mapped c f g0)) (sym t) (kept.agrees c f0 g0 hr hs (subst (λ (l : List Name). Agree l f0 g0) (sym is) ag)))) fs gs g hr has ag st;
    }

-- a function over an input that narrows at what it asks narrows at what it is asked
pub local_function : (f : FunctionIR) (a : Asked) (r s : Columns) → AllHold (function_checks f s) → IsFair a (function_schema f s) → NarrowColumns (asks_function f a s) r s → Local (map_function f) (map_function f) (asks_function f a s ∷ []) a (r ∷ []) (s ∷ [])
local_function f all r s good fair h = subst (λ (x : Columns). Local (map_function f) (map_function f) (all ∷ []) all (x ∷ []) (s ∷ [])) (sym h) (same_one (map_function f) s good)
local_function f (these wanted) r s good fair h = local_named f wanted r s good fair (function_names f wanted s) refl h
local_function f cached r s good fair h = subst (λ (x : Columns). Local (map_function f) (map_function f) (cached ∷ []) cached (x ∷ []) (s ∷ [])) (sym h) (same_cached (map_function f) s good)
