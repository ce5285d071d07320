-- What a concatenation asks and stores, input by input.
use Rattle.std.proofs.Common.{◌≡◌, ℕ, ◌+◌, Bool, true, false, cond, ◌||◌, List, [], ◌∷◌, ◌++◌, map, take, fold, Some, append-nil, append_assoc, refl, sym, ap, ◌∙◌}
use Rattle.std.specs.List.{slice_get}
use Rattle.std.specs.Str.{bytes_eq}
use Rattle.std.proofs.lemmas.List.{map-append}
use Rattle.std.proofs.lemmas.List.Sums.{fold-append}
use Rattle.plan_core.specs.declared.arena.Node.{Node}
use Rattle.plan_core.specs.declared.data_type.DataType.{DataType}
use Rattle.plan_core.specs.Columns.{Columns, names_of, with_type}
use Rattle.plan_core.specs.Names.{has}
use Rattle.plan_expr.specs.declared.aexpr.AExpr.{AExpr}
use Rattle.plan_expr.specs.Leaves.{Name}
use Rattle.plan_ir.specs.declared.ir.IR.{IR}
use Rattle.plan_frame.specs.Beside.{in_a_row, side_by_side, with_new}
use Rattle.plan_pruned.specs.Pruned.{held_names}
use Rattle.plan_pruned.proofs.ListSteps.{take-next}
use Rattle.plan_prune_parts.specs.Said.{columns_at}
use Rattle.plan_prune_steps.specs.Steps.{held_at}

-- columns with one more whose name none has, and with one whose name one has
pub new_last : (s : Columns) (a : Name) (d : DataType) → has (names_of s) a ≡ false → with_type s a d ≡ with_new s (a, d)
new_last s a d h = last s h ∙ ap (λ (b : Bool). cond b s (s ++ (a, d) ∷ [])) (sym h)
  where
    at : (c : Name × DataType) (cs : Columns) (b : Bool) → (has (names_of cs) a ≡ false → with_type cs a d ≡ cs ++ (a, d) ∷ []) → (b || has (names_of cs) a) ≡ false → cond b ((c.0, d) ∷ cs) (c ∷ with_type cs a d) ≡ c ∷ (cs ++ (a, d) ∷ [])
    at c cs true f k = cc
    at c cs false f k = ap (λ (l : Columns). c ∷ l) (f k)

    last : (cs : Columns) → has (names_of cs) a ≡ false → with_type cs a d ≡ cs ++ (a, d) ∷ []
    last [] k = refl
    last (c ∷ cs) k = at c cs (bytes_eq a c.0) (last cs) k

pub new_there : (s : Columns) (a : Name) (d : DataType) → has (names_of s) a ≡ true → s ≡ with_new s (a, d)
new_there s a d h = ap (λ (b : Bool). cond b s (s ++ (a, d) ∷ [])) (sym h)

-- columns with the next of some more
pub new-next : (s others : Columns) (i : ℕ) (c : Name × DataType) → slice_get others i ≡ Some c → with_new (fold with_new s (take i others)) c ≡ fold with_new s (take (i + 1) others)
new-next s others i c e = sym (ap (fold with_new s) (take-next others i c e) ∙ fold-append with_new s (take i others) (c ∷ []))

-- inputs with the next one: what they are asked, and their columns beside one another
module _ (lp : List IR) (ex : List AExpr) (ns : List Node) (i : ℕ) (n : Node) (e : slice_get ns i ≡ Some n) where
  pub held-next : (asked : List Name) → held_at lp ex asked (take i ns) ++ held_names asked (columns_at lp ex n) ∷ [] ≡ held_at lp ex asked (take (i + 1) ns)
  held-next asked = sym (ap (held_at lp ex asked) (take-next ns i n e) ∙ map-append (λ (m : Node). held_names asked (columns_at lp ex m)) (take i ns) (n ∷ []))

  row-last : (ss : List Columns) (s : Columns) → in_a_row (ss ++ s ∷ []) ≡ in_a_row ss ++ s
  row-last [] s = append-nil s
  row-last (x ∷ ss) s = ap (λ (l : Columns). x ++ l) (row-last ss s) ∙ sym (append_assoc x (in_a_row ss) s)

  pub beside-next : fold with_new (side_by_side (map (columns_at lp ex) (take i ns))) (columns_at lp ex n) ≡ side_by_side (map (columns_at lp ex) (take (i + 1) ns))
  beside-next =
      let before : List Columns = map (columns_at lp ex) (take i ns) in
      sym
      (ap (λ (l : List Node). side_by_side (map (columns_at lp ex) l)) (take-next ns i n e)
      ∙ ap side_by_side (map-append (columns_at lp ex) (take i ns) (n ∷ []))
      ∙ ap (fold with_new []) (row-last before (columns_at lp ex n))
      ∙ fold-append with_new [] (in_a_row before) (columns_at lp ex n))
