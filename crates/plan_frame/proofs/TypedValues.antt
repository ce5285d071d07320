-- What aggregates, functions, choices and windows make of values of their types is of the type that they give.
use Rattle.std.proofs.Common.{◌≡◌, ℕ, ℤ, suc, pos, ◌+ℤ◌, Bool, true, false, not, ◌&&◌, cond, List, [], ◌∷◌, map, length, reverse, Option, Some, None, refl, sym, ap, ◌∙◌, subst, if◌then◌else◌}
use Rattle.std.specs.Prelude.{option_map}
use Rattle.std.specs.List.{AllByRecursion, filter as only_where, range_with_len}
use Rattle.std.proofs.lemmas.Bool.{and_parts}
use Rattle.std.proofs.lemmas.List.{length-reverse, reverse-append}
use Rattle.std.proofs.lemmas.List.FromFn.{length-map-range_with_len}
use Rattle.std.specs.Ordering.{is_lt, is_gt}
use Rattle.plan_core.specs.Columns.{plain_type_of}
use Rattle.plan_core.specs.declared.data_type.DataType.{DataType}
use Rattle.plan_core.specs.declared.data_type.DataType.TheVariants as types
use Rattle.plan_core.specs.declared.data_type.PlainType.{PlainType}
use Rattle.plan_core.specs.declared.data_type.PlainType.TheVariants as plains
use Rattle.plan_expr.specs.declared.agg.Aggregate.{Aggregate}
use Rattle.plan_expr.specs.declared.agg.Aggregate.TheVariants.{Min, Max, Sum, Count, NUnique, First, Last, Implode}
use Rattle.plan_expr.specs.declared.function_expr.FunctionExpr.{FunctionExpr}
use Rattle.plan_expr.specs.declared.function_expr.FunctionExpr.TheVariants.{Not, IsNull, IsNotNull, FillNull, Reverse, CumSum}
use Rattle.plan_expr.specs.Types.{same_type, is_plain, list_of, aggregate_type, choice_type, unary_type, binary_type}
use Rattle.plan_frame.specs.Values.{Value, null, whole, text, truth, listed, is_null, is_true, value_cmp, IsOf, IsSingleOf, AllOf}
use Rattle.plan_frame.specs.Aggregates.{present, lesser, greater, taken, number, single, aggregated, negated, filled_null, sum_at, running_sums}
use Rattle.plan_frame.specs.Meaning.{Cell, one, many, CellHas, value_at, cell_values, each_value, all_values, row_by_row, all_one, chosen, called_on, called_on_two, only_value}
use Rattle.plan_frame.proofs.FrameLemmas.{null_of, row_of, length-map, same_type_eq, all_append}
use Rattle.plan_frame.proofs.Spreads.{spread_has}

pub some_same : {X : Type 0} (x y : X) → Some x ≡ Some y → x ≡ y
some_same x y e = cc

-- from a test on types to what it says
when_same : (t u v w : DataType) → cond (same_type t u) (Some v) None ≡ Some w → (t ≡ u) × (v ≡ w)
when_same t u v w e = at (same_type t u) refl e
  where
    at : (b : Bool) → same_type t u ≡ b → cond b (Some v) None ≡ Some w → (t ≡ u) × (v ≡ w)
    at true q e = (same_type_eq t u q, some_same v w e)
    at false q e = cc

when : (b : Bool) (v w : DataType) → cond b (Some v) None ≡ Some w → (b ≡ true) × (v ≡ w)
when true v w e = (refl, some_same v w e)
when false v w e = cc

-- aggregates

only_of : (t : DataType) (test : Value → Bool) (vs : List Value) → AllOf t vs → AllOf t (only_where test vs)
only_of t test [] h = tt
only_of t test (v ∷ vs) h = at (test v) (only_of t test vs h.1)
  where
    at : (b : Bool) → AllOf t (only_where test vs) → AllOf t (if b then v ∷ only_where test vs else only_where test vs)
    at true k = (h.0, k)
    at false k = k

taken_of : (t : DataType) (better : Value → Value → Value) → ((x y : Value) → IsOf t x → IsOf t y → IsOf t (better x y)) → (vs : List Value) → AllOf t vs → IsOf t (taken better vs)
taken_of t better by [] h = null_of t
taken_of t better by (v ∷ []) h = h.0
taken_of t better by (v ∷ w ∷ vs) h = taken_of t better by (better v w ∷ vs) (by v w h.0 h.1.0, h.1.1)

either_of : (t : DataType) (b : Bool) (x y : Value) → IsOf t x → IsOf t y → IsOf t (if b then y else x)
either_of t true x y h k = k
either_of t false x y h k = h

single_of : (t : DataType) (p : PlainType) (v : Value) → plain_type_of t ≡ Some p → IsOf t v → IsSingleOf p (single v)
single_of types.Int64 plains.Int64 null e h = tt
single_of types.Int64 plains.Int64 (whole n) e h = tt
single_of types.String plains.String null e h = tt
single_of types.String plains.String (text s) e h = tt
single_of types.Boolean plains.Boolean null e h = tt
single_of types.Boolean plains.Boolean (truth b) e h = tt
single_of t p v e h = absurd (first_of (search h, cc))

singles_of : (t : DataType) (p : PlainType) (vs : List Value) → plain_type_of t ≡ Some p → AllOf t vs → AllByRecursion (IsSingleOf p) (map single vs)
singles_of t p [] e h = tt
singles_of t p (v ∷ vs) e h = (single_of t p v e h.0, singles_of t p vs e h.1)

list_has : (t u : DataType) (vs : List Value) → list_of t ≡ Some u → AllOf t vs → IsOf u (listed (map single vs))
list_has t u vs e h = at (plain_type_of t) refl e
  where
    at : (o : Option PlainType) → plain_type_of t ≡ o → option_map types.List o ≡ Some u → IsOf u (listed (map single vs))
    at None q e = cc
    at (Some p) q e = subst (λ (x : DataType). IsOf x (listed (map single vs))) (some_same (types.List p) u e) (singles_of t p vs q h)

-- what an aggregate makes of values of a type that it takes
pub aggregated_of : (op : Aggregate) (t u : DataType) (vs : List Value) → aggregate_type op t ≡ Some u → AllOf t vs → IsOf u (aggregated op vs)
aggregated_of Min t u vs e h = subst (λ (x : DataType). IsOf x (taken lesser (present vs))) (when (is_plain t) t u e).1 (taken_of t lesser (λ x y. either_of t (is_lt (value_cmp y x)) x y) (present vs) (only_of t (λ v. not (is_null v)) vs h))
aggregated_of Max t u vs e h = subst (λ (x : DataType). IsOf x (taken greater (present vs))) (when (is_plain t) t u e).1 (taken_of t greater (λ x y. either_of t (is_gt (value_cmp y x)) x y) (present vs) (only_of t (λ v. not (is_null v)) vs h))
aggregated_of Sum t u vs e h = subst (λ (x : DataType). IsOf x (aggregated Sum vs)) (when (same_type t types.Int64) types.Int64 u e).1 tt
aggregated_of (Count true) t u vs e h = subst (λ (x : DataType). IsOf x (aggregated (Count true) vs)) (some_same types.Int64 u e) tt
aggregated_of (Count false) t u vs e h = subst (λ (x : DataType). IsOf x (aggregated (Count false) vs)) (some_same types.Int64 u e) tt
aggregated_of NUnique t u vs e h = subst (λ (x : DataType). IsOf x (aggregated NUnique vs)) (when (is_plain t) types.Int64 u e).1 tt
aggregated_of First t u vs e h = subst (λ (x : DataType). IsOf x (aggregated First vs)) (some_same t u e) (row_of t vs _ h)
aggregated_of Last t u vs e h = subst (λ (x : DataType). IsOf x (aggregated Last vs)) (some_same t u e) (row_of t vs _ h)
aggregated_of Implode t u vs e h = list_has t u vs e h

pub cell_values_of : (t : DataType) (h : ℕ) (c : Cell) → CellHas t h c → AllOf t (cell_values c)
cell_values_of t h (one v) k = (k, tt)
cell_values_of t h (many vs) k = k.1

-- functions

mapped_of : (t : DataType) (g : Value → Value) → ((v : Value) → IsOf t (g v)) → (vs : List Value) → AllOf t (map g vs)
mapped_of t g by [] = tt
mapped_of t g by (v ∷ vs) = (by v, mapped_of t g by vs)

each_has : (t u : DataType) (h : ℕ) (g : Value → Value) → ((v : Value) → IsOf u (g v)) → (c : Cell) → CellHas t h c → CellHas u h (each_value g c)
each_has t u h g by (one v) k = by v
each_has t u h g by (many vs) k = (length-map g vs ∙ k.0, mapped_of u g by vs)

all_has : (t u : DataType) (h : ℕ) (g : List Value → List Value) → ((vs : List Value) → AllOf t vs → AllOf u (g vs)) → ((vs : List Value) → length (g vs) ≡ length vs) → (c : Cell) → CellHas t h c → CellHas u h (all_values g c)
all_has t u h g by long (one v) k = row_of u (g (v ∷ [])) 0 (by (v ∷ []) (k, tt))
all_has t u h g by long (many vs) k = (long vs ∙ k.0, by vs k.1)

negated_of : (v : Value) → IsOf types.Boolean (negated v)
negated_of (truth b) = tt
negated_of null = tt
negated_of (whole n) = tt
negated_of (text s) = tt
negated_of (listed vs) = tt

sum_of : (v : Value) (n : ℤ) → IsOf types.Int64 (sum_at v n)
sum_of null n = tt
sum_of (whole k) n = tt
sum_of (text s) n = tt
sum_of (truth b) n = tt
sum_of (listed vs) n = tt

sums_of : (n : ℤ) (vs : List Value) → AllOf types.Int64 (running_sums n vs)
sums_of n [] = tt
sums_of n (v ∷ vs) = (sum_of v (n +ℤ number v), sums_of (n +ℤ number v) vs)

length-sums : (n : ℤ) (vs : List Value) → length (running_sums n vs) ≡ length vs
length-sums n [] = refl
length-sums n (v ∷ vs) = ap suc (length-sums (n +ℤ number v) vs)

filled_of : (t : DataType) (x y : Value) → IsOf t x → IsOf t y → IsOf t (filled_null x y)
filled_of t null y h k = k
filled_of t (whole n) y h k = h
filled_of t (text s) y h k = h
filled_of t (truth b) y h k = h
filled_of t (listed vs) y h k = h

reversed_of : (t : DataType) (vs : List Value) → AllOf t vs → AllOf t (reverse vs)
reversed_of t [] h = tt
reversed_of t (v ∷ vs) h = subst (AllOf t) (sym (reverse-append (v ∷ []) vs)) (all_append t (reverse vs) (v ∷ []) (reversed_of t vs h.1) (h.0, tt))

pub unary_has : (function : FunctionExpr) (t u : DataType) (h : ℕ) (c : Cell) → unary_type function t ≡ Some u → CellHas t h c → CellHas u h (called_on function c)
unary_has Not t u h c e k = subst (λ (x : DataType). CellHas x h (each_value negated c)) (when (same_type t types.Boolean) types.Boolean u e).1 (each_has t types.Boolean h negated negated_of c k)
unary_has IsNull t u h c e k = subst (λ (x : DataType). CellHas x h (called_on IsNull c)) (some_same types.Boolean u e) (each_has t types.Boolean h (λ v. truth (is_null v)) (λ v. tt) c k)
unary_has IsNotNull t u h c e k = subst (λ (x : DataType). CellHas x h (called_on IsNotNull c)) (some_same types.Boolean u e) (each_has t types.Boolean h (λ v. truth (not (is_null v))) (λ v. tt) c k)
unary_has FillNull t u h c e k = cc
unary_has Reverse t u h c e k = subst (λ (x : DataType). CellHas x h (all_values reverse c)) (some_same t u e) (all_has t t h reverse (reversed_of t) length-reverse c k)
unary_has CumSum t u h c e k = subst (λ (x : DataType). CellHas x h (all_values (running_sums (pos 0)) c)) (when (same_type t types.Int64) types.Int64 u e).1 (all_has t types.Int64 h (running_sums (pos 0)) (λ vs a. sums_of (pos 0) vs) (length-sums (pos 0)) c k)

pub called_has : (function : FunctionExpr) (s t u : DataType) (h : ℕ) (c d : Cell) → binary_type function s t ≡ Some u → CellHas s h c → CellHas t h d → CellHas u h (called_on_two function c d)
called_has FillNull s t u h c d e k l =
    let p = when_same s t s u e in
    subst (λ (x : DataType). CellHas x h (called_on_two FillNull c d)) p.1 (spread_has s s s filled_null (filled_of s) h c d k (subst (λ (x : DataType). CellHas x h d) (sym p.0) l))
called_has Not s t u h c d e k l = cc
called_has IsNull s t u h c d e k l = cc
called_has IsNotNull s t u h c d e k l = cc
called_has Reverse s t u h c d e k l = cc
called_has CumSum s t u h c d e k l = cc

-- choices

value_of_cell : (t : DataType) (h : ℕ) (c : Cell) (i : ℕ) → CellHas t h c → IsOf t (value_at c i)
value_of_cell t h (one v) i k = k
value_of_cell t h (many vs) i k = row_of t vs i k.1

placed_of : (t : DataType) (at : ℕ → Value) → ((i : ℕ) → IsOf t (at i)) → (is : List ℕ) → AllOf t (map at is)
placed_of t at by [] = tt
placed_of t at by (i ∷ is) = (by i, placed_of t at by is)

-- values in each row
pub rows_has : (t : DataType) (h : ℕ) (at : ℕ → Value) → ((i : ℕ) → IsOf t (at i)) → CellHas t h (many (map at (range_with_len 0 h)))
rows_has t h at by = (length-map-range_with_len at 0 h, placed_of t at by (range_with_len 0 h))

by_row_has : (t : DataType) (h : ℕ) (cs : List Cell) (at : ℕ → Value) → ((i : ℕ) → IsOf t (at i)) → CellHas t h (row_by_row h cs at)
by_row_has t h cs at by = go (all_one cs)
  where
    go : (b : Bool) → CellHas t h (if b then one (at 0) else many (map at (range_with_len 0 h)))
    go true = by 0
    go false = rows_has t h at by

pub chosen_has : (p t f u : DataType) (h : ℕ) (truthy falsy predicate : Cell) → choice_type p t f ≡ Some u → CellHas t h truthy → CellHas f h falsy → CellHas u h (chosen h truthy falsy predicate)
chosen_has p t f u h truthy falsy predicate e k l =
    let w = when (same_type p types.Boolean && same_type t f) t u e in
    let q = same_type_eq t f (and_parts (same_type p types.Boolean) (same_type t f) w.0).1 in
    subst (λ (x : DataType). CellHas x h (chosen h truthy falsy predicate)) w.1
    (by_row_has t h (truthy ∷ falsy ∷ predicate ∷ []) _ (λ i. either_of t (is_true (value_at predicate i)) (value_at falsy i) (value_at truthy i) (subst (λ (x : DataType). IsOf x (value_at falsy i)) (sym q) (value_of_cell f h falsy i l)) (value_of_cell t h truthy i k)))

-- windows

pub only_of_cell : (t : DataType) (h : ℕ) (c : Cell) → CellHas t h c → IsOf t (only_value c)
only_of_cell t h (one v) k = k
only_of_cell t h (many vs) k = null_of t
