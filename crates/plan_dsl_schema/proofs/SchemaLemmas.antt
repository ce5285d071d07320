-- Faults that come first, and columns that are made one after another.
use Rattle.std.proofs.Common.{Bor, ◌≡◌, ℕ, zero, suc, ◌+◌, ◌<◌, min, Bool, true, false, not, ◌||◌, if◌then◌else◌, List, [], ◌∷◌, ◌++◌, Option, Some, None, is_some, unwrap_or, map, take, length, refl, ap, ap₂, sym, ◌∙◌, arith}
use Rattle.std.specs.Prelude.{MatchOption, option_copied, option_map}
use Rattle.std.specs.Option.{option_or}
use Rattle.std.specs.Bool.{OnTrue}
use Rattle.std.specs.List.{slice_get}
use Rattle.std.proofs.lemmas.List.{map-append, take-map, length-take-le}
use Rattle.std.proofs.lemmas.Option.{slice_get-map, slice_get_within}
use Rattle.std.specs.Str.{bytes_eq}
use Rattle.plan_core.specs.Columns.{Columns, names_of, type_of, with_type}
use Rattle.plan_core.specs.Names.{has}
use Rattle.plan_core.specs.Errors.{item_at}
use Rattle.plan_core.specs.declared.data_type.DataType.{DataType}
use Rattle.plan_core.specs.declared.data_type.DataType.TheVariants as types
use Rattle.plan_core.specs.declared.error.PolarsError.{PolarsError}
use Rattle.plan_core.specs.declared.error.PolarsError.TheVariants.{Duplicate}
use Rattle.plan_expr.proofs.ListLemmas.{take-next}
use Rattle.plan_dsl.specs.declared.expr.Expr.{Expr}
use Rattle.plan_dsl_schema.specs.declared.schema.Context.{Context}
use Rattle.plan_dsl.specs.Names.{output_name}
use Rattle.plan_dsl_schema.specs.Schemas.{column_type, expr_fault, first_fault, made_column, made_columns, name_made, repeat_fault, schema_fault}

option_or-assoc : {X : Type 0} (p q r : Option X) → option_or p (option_or q r) ≡ option_or (option_or p q) r
option_or-assoc None q r = refl
option_or-assoc (Some x) q r = refl

module _ {X : Type 0} (fault : ℕ → X → Option PolarsError) where
  -- the first fault of some items, or else of those behind them
  first_fault-append : (k m : ℕ) (xs ys : List X) → m ≡ k + length xs → first_fault fault k (xs ++ ys) ≡ option_or (first_fault fault k xs) (first_fault fault m ys)
  first_fault-append k m [] ys h =
      let same : m ≡ k = omega arith in
      ap (λ (n : ℕ). first_fault fault n ys) (sym same)
  first_fault-append k m (x ∷ xs) ys h =
      ap (option_or (fault k x)) (first_fault-append (suc k) m xs ys (omega arith)) ∙ option_or-assoc (fault k x) (first_fault fault (suc k) xs) (first_fault fault m ys)

  -- the next item has no fault either
  pub first_fault-next : (xs : List X) (i : ℕ) (x : X) → first_fault fault 0 (take i xs) ≡ None → slice_get xs i ≡ Some x → fault i x ≡ None → first_fault fault 0 (take (i + 1) xs) ≡ None
  first_fault-next xs i x none there faultless =
      let within : i < length xs = slice_get_within xs i x there in
      let long : length (take i xs) ≡ i = length-take-le i xs (omega arith) in
      let last : first_fault fault i (x ∷ []) ≡ None = ap (λ (p : Option PolarsError). option_or p None) faultless in
      ap (first_fault fault 0) (take-next xs i x there)
      ∙ first_fault-append 0 i (take i xs) (x ∷ []) (omega arith)
      ∙ ap (λ (p : Option PolarsError). option_or p (first_fault fault i (x ∷ []))) none
      ∙ last

  none_first : (p q : Option PolarsError) → option_or p q ≡ None → p ≡ None
  none_first None q h = refl
  none_first (Some x) q h = h

  none_second : (p q : Option PolarsError) → option_or p q ≡ None → q ≡ None
  none_second None q h = h
  none_second (Some x) q h = cc

  first_fault-from : (k j : ℕ) (xs : List X) (i : ℕ) (x : X) (f : PolarsError) → first_fault fault k (take i xs) ≡ None → slice_get xs i ≡ Some x → j ≡ k + i → fault j x ≡ Some f → first_fault fault k xs ≡ Some f
  first_fault-from k j [] i x f none there at is = cc
  first_fault-from k j (y ∷ xs) zero x f none there at is =
      let same : y ≡ x = cc in
      let place : j ≡ k = omega arith in
      let here : fault k y ≡ Some f = ap (fault k) same ∙ ap (λ (n : ℕ). fault n x) (sym place) ∙ is in
      ap (λ (p : Option PolarsError). option_or p (first_fault fault (suc k) xs)) here
  first_fault-from k j (y ∷ xs) (suc i) x f none there at is =
      let here : fault k y ≡ None = none_first (fault k y) (first_fault fault (suc k) (take i xs)) none in
      let rest : first_fault fault (suc k) (take i xs) ≡ None = none_second (fault k y) (first_fault fault (suc k) (take i xs)) none in
      ap (λ (p : Option PolarsError). option_or p (first_fault fault (suc k) xs)) here ∙ first_fault-from (suc k) j xs i x f rest there (omega arith) is

  -- the next item has the first fault
  pub first_fault-found : (xs : List X) (i : ℕ) (x : X) (f : PolarsError) → first_fault fault 0 (take i xs) ≡ None → slice_get xs i ≡ Some x → fault i x ≡ Some f → first_fault fault 0 xs ≡ Some f
  first_fault-found xs i x f none there is = first_fault-from 0 i xs i x f none there (omega arith) is

-- a name is among columns where it has a type
pub has-typed : (cs : Columns) (name : List ℕ) → has (names_of cs) name ≡ is_some (type_of cs name)
has-typed [] name = refl
has-typed (c ∷ cs) name = go (bytes_eq name c.0) (has-typed cs name)
  where
    go : (b : Bool) → has (names_of cs) name ≡ is_some (type_of cs name) → (b || has (names_of cs) name) ≡ is_some (if b then Some c.1 else type_of cs name)
    go true rest = refl
    go false rest = rest

-- whether a name has a type, as a look-up of it says
pub typed_there : (cs : Columns) (name looked_up : List ℕ) (found : Option (Bor DataType)) (b : Bool) → looked_up ≡ name → option_copied found ≡ type_of cs looked_up → b ≡ is_some found → is_some (type_of cs name) ≡ b
typed_there cs name looked_up None b same is says = ap (λ (n : List ℕ). is_some (type_of cs n)) (sym same) ∙ ap is_some (sym is) ∙ sym says
typed_there cs name looked_up (Some d) b same is says = ap (λ (n : List ℕ). is_some (type_of cs n)) (sym same) ∙ ap is_some (sym is) ∙ sym says

-- a name that has no type goes last
pub with_type-new : (cs : Columns) (name : List ℕ) (d : DataType) → is_some (type_of cs name) ≡ false → with_type cs name d ≡ cs ++ (name, d) ∷ []
with_type-new [] name d h = refl
with_type-new (c ∷ cs) name d h = go (with_type-new cs name d) (bytes_eq name c.0) refl
  where
    go : (is_some (type_of cs name) ≡ false → with_type cs name d ≡ cs ++ (name, d) ∷ []) → (b : Bool) → bytes_eq name c.0 ≡ b → with_type (c ∷ cs) name d ≡ (c ∷ cs) ++ (name, d) ∷ []
    go rest true q = let absent = rw q at h in cc
    go rest false q = rw q (ap (λ (x : Columns). c ∷ x) (rest (rw q at h)))

-- the names of columns that expressions make
pub names_of-made : (context : Context) (s : Columns) (es : List Expr) → names_of (made_columns context s es) ≡ map name_made es
names_of-made context s [] = refl
names_of-made context s (e ∷ es) = ap (λ (names : List (List ℕ)). name_made e ∷ names) (names_of-made context s es)

-- what a pass over the first expressions knows: none has a fault, and either no name is repeated and their columns are made, or the
-- first name that is repeated is known
pub record IsPassed (context : Context) (s : Columns) (es : List Expr) (i : ℕ) (made : Columns) (repeated : Option ℕ) : Type 0 where
  pub faultless : first_fault (expr_fault context s) 0 (take i es) ≡ None
  pub names : MatchOption repeated
      ((first_fault (repeat_fault (map name_made es)) 0 (take i (map name_made es)) ≡ None) × (made ≡ made_columns context s (take i es)))
      (λ place. first_fault (repeat_fault (map name_made es)) 0 (map name_made es) ≡ Some (Duplicate (item_at (min place 4294967295))))

pub passed_none : (context : Context) (s : Columns) (es : List Expr) (made : Columns) → made ≡ [] → IsPassed context s es 0 made None
passed_none context s es made is = record { faultless = refl; names = (refl, is) }

not_true : (b : Bool) → true ≡ not b → b ≡ false
not_true true h = cc
not_true false h = refl

not_false : (b : Bool) → false ≡ not b → b ≡ true
not_false true h = refl
not_false false h = cc

-- the names of the first columns are the first names
names_so_far : (context : Context) (s : Columns) (es : List Expr) (i : ℕ) (made : Columns) → made ≡ made_columns context s (take i es) → names_of made ≡ take i (map name_made es)
names_so_far context s es i made is = ap names_of is ∙ names_of-made context s (take i es) ∙ sym (take-map name_made i es)

-- one expression more
pub passed_next : (context : Context) (s : Columns) (es : List Expr) (i : ℕ) (e : Expr) (name : List ℕ) (d : DataType) (made after : Columns) (new : Bool) (repeated : Option ℕ)
    → IsPassed context s es i made repeated → slice_get es i ≡ Some e → expr_fault context s i e ≡ None → output_name e ≡ Some name → column_type context s e ≡ Some d
    → new ≡ not (has (names_of made) name) → OnTrue new (after ≡ made ++ (name, d) ∷ [])
    → IsPassed context s es (i + 1) after (option_or repeated (if new then None else Some i))
passed_next context s es i e name d made after new (Some k) passed there faultless called typed fresh added = record {
  faultless = first_fault-next (expr_fault context s) es i e passed.faultless there faultless;
  names = passed.names;
}
passed_next context s es i e name d made after true None passed there faultless called typed fresh added =
    let names : List (List ℕ) = map name_made es in
    let own : name_made e ≡ name = ap (λ (o : Option (List ℕ)). unwrap_or o []) called in
    let here : slice_get names i ≡ Some (name_made e) = slice_get-map name_made es i ∙ ap (option_map name_made) there in
    let before : names_of made ≡ take i names = names_so_far context s es i made passed.names.1 in
    let absent : has (take i names) (name_made e) ≡ false = ap₂ has (sym before) own ∙ not_true (has (names_of made) name) fresh in
    let alone : repeat_fault names i (name_made e) ≡ None = ap (λ (b : Bool). if b then Some (Duplicate (item_at (min i 4294967295))) else None) absent in
    let column : made_column context s e ≡ (name, d) = ap₂ (λ (n : List ℕ) (o : Option DataType). (n, unwrap_or o types.Int64)) own typed in
    let more : made_columns context s (take (i + 1) es) ≡ made_columns context s (take i es) ++ made_column context s e ∷ [] = ap (made_columns context s) (take-next es i e there) ∙ map-append (made_column context s) (take i es) (e ∷ []) in
    record {
      faultless = first_fault-next (expr_fault context s) es i e passed.faultless there faultless;
      names = (
        first_fault-next (repeat_fault names) names i (name_made e) passed.names.0 here alone,
        added ∙ ap₂ (λ (cs : Columns) (c : List ℕ × DataType). cs ++ c ∷ []) passed.names.1 (sym column) ∙ sym more,
      );
    }
passed_next context s es i e name d made after false None passed there faultless called typed fresh added =
    let names : List (List ℕ) = map name_made es in
    let own : name_made e ≡ name = ap (λ (o : Option (List ℕ)). unwrap_or o []) called in
    let here : slice_get names i ≡ Some (name_made e) = slice_get-map name_made es i ∙ ap (option_map name_made) there in
    let before : names_of made ≡ take i names = names_so_far context s es i made passed.names.1 in
    let present : has (take i names) (name_made e) ≡ true = ap₂ has (sym before) own ∙ not_false (has (names_of made) name) fresh in
    let again : repeat_fault names i (name_made e) ≡ Some (Duplicate (item_at (min i 4294967295))) = ap (λ (b : Bool). if b then Some (Duplicate (item_at (min i 4294967295))) else None) present in
    record {
      faultless = first_fault-next (expr_fault context s) es i e passed.faultless there faultless;
      names = first_fault-found (repeat_fault names) names i (name_made e) (Duplicate (item_at (min i 4294967295))) passed.names.0 here again;
    }

-- an expression that has a fault has the first
pub passed_fault : (context : Context) (s : Columns) (es : List Expr) (i : ℕ) (e : Expr) (f : PolarsError) (made : Columns) (repeated : Option ℕ)
    → IsPassed context s es i made repeated → slice_get es i ≡ Some e → expr_fault context s i e ≡ Some f → schema_fault context s es ≡ Some f
passed_fault context s es i e f made repeated passed there is =
    ap (λ (p : Option PolarsError). option_or p (first_fault (repeat_fault (map name_made es)) 0 (map name_made es))) (first_fault-found (expr_fault context s) es i e f passed.faultless there is)
