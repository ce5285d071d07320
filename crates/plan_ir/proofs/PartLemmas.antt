-- A node over other parts has these parts, and over its own it is itself.
use Rattle.std.proofs.Common.{◌≡◌, ℕ, ◌+◌, List, [], ◌∷◌, ◌++◌, length, take, drop, get_or, Option, Some, None, refl, sym, ap, ap₂, ◌∙◌, append_assoc, length-append}
use Rattle.std.specs.List.{slice_get}
use Rattle.std.proofs.Math.Seq.{take-append_seam, drop-append_seam}
use Rattle.plan_core.specs.declared.arena.Node.{Node}
use Rattle.plan_expr.specs.declared.expr_ir.ExprIR.{ExprIR}
use Rattle.plan_ir.specs.declared.ir.IR.{IR}
use Rattle.plan_ir.specs.declared.ir.IR.TheVariants.{Slice, Filter, Scan, DataFrameScan, SimpleProjection, Select, HStack, Sort, GroupBy, Join, Distinct, MapFunction, Sink, Union, HConcat, Cache, Invalid}
use Rattle.plan_join.specs.declared.options.JoinOptions.{JoinOptions}
use Rattle.plan_join.specs.declared.options.JoinTypeOptionsIR.{JoinTypeOptionsIR}
use Rattle.plan_join.specs.declared.options.JoinTypeOptionsIR.TheVariants.{IEJoin, Cross}
use Rattle.plan_ir.specs.Parts.{condition_in, condition_of, exprs_of, exprs_over, inputs_of, list_of, listed_exprs_of, options_over, over_parts, told_over}

-- equal arguments give equal results, for three
pub ap-three : {A B C D : Type 0} (f : A → B → C → D) {a a' : A} {b b' : B} {c c' : C} → a ≡ a' → b ≡ b' → c ≡ c' → f a b c ≡ f a' b' c'
ap-three {C = C} {D = D} f p q r = ap₂ (λ (g : C → D) (z : C). g z) (ap₂ f p q) r

one_is : (i : Node) (is : List Node) → length is ≡ 1 → get_or is 0 i ∷ [] ≡ is
one_is i [] h = cc
one_is i (j ∷ []) h = refl
one_is i (j ∷ k ∷ is) h = cc

two_are : (i j : Node) (is : List Node) → length is ≡ 2 → get_or is 0 i ∷ get_or is 1 j ∷ [] ≡ is
two_are i j [] h = cc
two_are i j (k ∷ []) h = cc
two_are i j (k ∷ l ∷ []) h = refl
two_are i j (k ∷ l ∷ m ∷ is) h = cc

none_is : (is : List Node) → length is ≡ 0 → [] ≡ is
none_is [] h = refl
none_is (j ∷ is) h = cc

-- the inputs of a node over as many others are those
pub inputs-over : (p : IR) (es : List ExprIR) (is : List Node) → length is ≡ length (inputs_of p) → inputs_of (over_parts p es is) ≡ is
inputs-over (Slice input offset len) es is h = one_is input is h
inputs-over (Filter input predicate) es is h = one_is input is h
inputs-over (Scan sources file_info hive_parts predicate output_schema scan_type file_options) es is h = none_is is h
inputs-over (DataFrameScan df schema output_schema) es is h = none_is is h
inputs-over (SimpleProjection input columns) es is h = one_is input is h
inputs-over (Select input expr schema options) es is h = one_is input is h
inputs-over (HStack input exprs schema options) es is h = one_is input is h
inputs-over (Sort input by_column slice sort_options) es is h = one_is input is h
inputs-over (GroupBy input keys aggs schema maintain_order options) es is h = one_is input is h
inputs-over (Join input_left input_right schema left_on right_on options) es is h = two_are input_left input_right is h
inputs-over (Distinct input options) es is h = one_is input is h
inputs-over (MapFunction input function) es is h = one_is input is h
inputs-over (Sink input payload) es is h = one_is input is h
inputs-over (Union inputs options) es is h = refl
inputs-over (HConcat inputs schema options) es is h = refl
inputs-over (Cache input id cache_hits) es is h = one_is input is h
inputs-over Invalid es is h = none_is is h

-- three lists one after another, taken apart again
module _ {A : Type 0} (ls rs cs : List A) where
  pub first-part : take (length ls) ((ls ++ rs) ++ cs) ≡ ls
  first-part = ap (take (length ls)) (append_assoc ls rs cs) ∙ take-append_seam ls (rs ++ cs)

  later-parts : drop (length ls) ((ls ++ rs) ++ cs) ≡ rs ++ cs
  later-parts = ap (drop (length ls)) (append_assoc ls rs cs) ∙ drop-append_seam ls (rs ++ cs)

  pub second-part : take (length rs) (drop (length ls) ((ls ++ rs) ++ cs)) ≡ rs
  second-part = ap (take (length rs)) later-parts ∙ take-append_seam rs cs

  pub last-part : drop (length rs) (drop (length ls) ((ls ++ rs) ++ cs)) ≡ cs
  last-part = ap (drop (length rs)) later-parts ∙ drop-append_seam rs cs

-- what a join is told, over its own condition
own-told : (o : Option JoinTypeOptionsIR) → told_over o (slice_get (list_of (condition_in o)) 0) ≡ o
own-told None = refl
own-told (Some (IEJoin operators)) = refl
own-told (Some (Cross predicate)) = refl

own-options : (o : JoinOptions) → options_over o (slice_get (list_of (condition_of o)) 0) ≡ o
own-options o = ap (λ (t : Option JoinTypeOptionsIR). let r : JoinOptions = record { allow_parallel = o.allow_parallel; force_parallel = o.force_parallel; args = o.args; options = t } in r) (own-told o.options)

-- the value of a list of at most one
pub only-value : {A : Type 0} (x : Option A) → slice_get (list_of x) 0 ≡ x
only-value None = refl
only-value (Some v) = refl

-- a node over its own parts
pub own-parts : (p : IR) → over_parts p (exprs_over p (listed_exprs_of p)) (inputs_of p) ≡ p
own-parts (Slice input offset len) = refl
own-parts (Filter input predicate) = refl
own-parts (Scan sources file_info hive_parts None output_schema scan_type file_options) = refl
own-parts (Scan sources file_info hive_parts (Some predicate) output_schema scan_type file_options) = refl
own-parts (DataFrameScan df schema output_schema) = refl
own-parts (SimpleProjection input columns) = refl
own-parts (Select input expr schema options) = refl
own-parts (HStack input exprs schema options) = refl
own-parts (Sort input by_column slice sort_options) = refl
own-parts (GroupBy input keys aggs schema maintain_order options) = ap₂ (λ (ks others : List ExprIR). GroupBy input ks others schema maintain_order options) (take-append_seam keys aggs) (drop-append_seam keys aggs)
own-parts (Join input_left input_right schema left_on right_on options) =
    let cs = list_of (condition_of options) in
    ap-three (λ (ls rs : List ExprIR) (o : JoinOptions). Join input_left input_right schema ls rs o)
    (first-part left_on right_on cs)
    (second-part left_on right_on cs)
    (ap (λ (es : List ExprIR). options_over options (slice_get es 0)) (last-part left_on right_on cs) ∙ own-options options)
own-parts (Distinct input options) = refl
own-parts (MapFunction input function) = refl
own-parts (Sink input payload) = refl
own-parts (Union inputs options) = refl
own-parts (HConcat inputs schema options) = refl
own-parts (Cache input id cache_hits) = refl
own-parts Invalid = refl

-- so where other parts are the same
pub own-again : (p : IR) (es : List ExprIR) (is : List Node) → es ≡ listed_exprs_of p → is ≡ inputs_of p → over_parts p (exprs_over p es) is ≡ p
own-again p es is e i = ap₂ (λ (xs : List ExprIR) (ns : List Node). over_parts p (exprs_over p xs) ns) e i ∙ own-parts p

-- as many expressions as a node lists are as many as it has for its copy
pub kept-length : (p : IR) (es : List ExprIR) → length es ≡ length (listed_exprs_of p) → length (exprs_over p es) ≡ length (exprs_of p)
kept-length (Slice input offset len) es h = h
kept-length (Filter input predicate) es h = h
kept-length (Scan sources file_info hive_parts predicate output_schema scan_type file_options) es h = h
kept-length (DataFrameScan df schema output_schema) es h = h
kept-length (SimpleProjection input columns) es h = h
kept-length (Select input expr schema options) es h = h
kept-length (HStack input exprs schema options) es h = h
kept-length (Sort input by_column slice sort_options) es h = refl
kept-length (GroupBy input keys aggs schema maintain_order options) es h = h
kept-length (Join input_left input_right schema left_on right_on options) es h = length-append es (list_of (condition_of options)) ∙ ap (λ (n : ℕ). n + length (list_of (condition_of options))) h ∙ sym (length-append (left_on ++ right_on) (list_of (condition_of options)))
kept-length (Distinct input options) es h = h
kept-length (MapFunction input function) es h = h
kept-length (Sink input payload) es h = h
kept-length (Union inputs options) es h = h
kept-length (HConcat inputs schema options) es h = h
kept-length (Cache input id cache_hits) es h = h
kept-length Invalid es h = h
