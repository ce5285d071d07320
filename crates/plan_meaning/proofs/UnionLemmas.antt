-- Unions: their inputs have the same columns, and what they give has these.
use Rattle.std.proofs.Common.{◌≡◌, ◌<◌, Bool, true, false, not, arith, slice_index_or, List, [], ◌∷◌, ◌++◌, length, refl, sym, ◌∙◌}
use Rattle.std.specs.List.{AllByRecursion}
use Rattle.std.proofs.lemmas.Bool.{and_parts}
use Rattle.plan_core.specs.declared.error.PolarsError.TheVariants.{SchemaMismatch}
use Rattle.plan_core.specs.Columns.{Columns, same_columns}
use Rattle.plan_options.specs.declared.union.UnionOptions.{UnionOptions}
use Rattle.plan_ir.specs.Plans.{union}
use Rattle.plan_meaning.specs.Checks.{each, is_empty, is_none}
use Rattle.plan_meaning.specs.Typing.{checks, first_schema, is_built_union, same_checks, AllHold}
use Rattle.plan_frame.specs.Frames.{Frame, HasSchema, in_turn}
use Rattle.plan_meaning.proofs.CheckParts.{each_pass, pass_each, same_is, is_same}
use Rattle.plan_frame.proofs.TurnLemmas.{HaveSchemas, AllAre, in_turn_has}

passed : (s : Columns) (ss : List Columns) → AllByRecursion (λ (t : Columns). same_columns s t ≡ true) ss → AllAre s ss
passed s [] h = tt
passed s (t ∷ ss) h = (sym (same_is s t h.0), passed s ss h.1)

pass : (s : Columns) (ss : List Columns) → AllAre s ss → AllByRecursion (λ (t : Columns). same_columns s t ≡ true) ss
pass s [] h = tt
pass s (t ∷ ss) h = (is_same s t (sym h.0), pass s ss h.1)

-- the checks on the inputs, one for each
pub checks_are : (ss : List Columns) → same_checks ss ≡ each SchemaMismatch 1 (same_columns (first_schema ss)) ss
unfolding same_checks
checks_are ss = refl

-- a union without inputs has no form that is built
pub never_built : (options : UnionOptions) (ss : List Columns) → ss ≡ [] → is_built_union options ss ≡ true → ⊥
unfolding is_built_union
never_built options [] e h = cc
never_built options (s ∷ ss) e h = cc

-- the inputs of a valid union have the same columns
pub union_inputs : (options : UnionOptions) (ss : List Columns) → AllHold (checks (union options) ss) → AllAre (first_schema ss) ss
unfolding same_checks
union_inputs options ss good = passed (first_schema ss) ss (each_pass SchemaMismatch 1 (same_columns (first_schema ss)) ss good.1)

-- it has no slice
pub union_whole : (options : UnionOptions) (ss : List Columns) → AllHold (checks (union options) ss) → is_none options.slice ≡ true
unfolding is_built_union
union_whole options ss good = (and_parts (not (is_empty ss)) (is_none options.slice) good.0).1

-- and a union over inputs with the same columns is valid
pub union_good : (options : UnionOptions) (s : Columns) (ss : List Columns) → is_none options.slice ≡ true → AllAre s (s ∷ ss) → AllHold (checks (union options) (s ∷ ss))
unfolding is_built_union same_checks
union_good options s ss whole h = (whole, pass_each SchemaMismatch 1 (same_columns s) (s ∷ ss) (pass s (s ∷ ss) h))

-- what the inputs of a valid union give has its columns in turn
pub union_has : (options : UnionOptions) (ss : List Columns) (fs : List Frame) → AllHold (checks (union options) ss) → HaveSchemas fs ss → HasSchema (in_turn fs) (first_schema ss)
unfolding is_built_union
union_has options [] fs good h = cc
union_has options (s ∷ ss) fs good h = in_turn_has s s ss fs (union_inputs options (s ∷ ss) good) h

-- the last of some inputs has the columns of the first
pub last_are : (s t : Columns) (ss : List Columns) → AllAre s (ss ++ t ∷ []) → t ≡ s
last_are s t [] h = h.0
last_are s t (r ∷ ss) h = last_are s t ss h.1

-- the columns at place 0 are the first
pub first_is : (ss : List Columns) (s : Columns) → 0 < length ss → s ≡ slice_index_or ss 0 s → first_schema ss ≡ s
first_is [] s lt is = absurd (omega (arith, lt))
first_is (t ∷ ss) s lt is = sym is

pub not_same : (b c : Bool) → c ≡ not b → c ≡ true → b ≡ false
not_same false c e f = refl
not_same true c e f = sym f ∙ e

pub is_the_same : (b c : Bool) → c ≡ not b → c ≡ false → b ≡ true
is_the_same true c e f = refl
is_the_same false c e f = sym f ∙ e
