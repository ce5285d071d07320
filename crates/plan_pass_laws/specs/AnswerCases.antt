-- What rules put in the place of a plan, case by case.
use Rattle.std.specs.Prelude.{◌≡◌, ℕ, true, false, List}
use Rattle.plan_core.specs.Columns.{Columns, same_columns, type_of}
use Rattle.plan_core.specs.declared.options.ProjectionOptions.{ProjectionOptions}
use Rattle.plan_options.specs.declared.union.UnionOptions.{UnionOptions}
use Rattle.plan_tree.specs.Rose.{Roses, rose, no_roses, more}
use Rattle.plan_expr.specs.Exprs.{Named}
use Rattle.plan_expr.specs.Naming.{name_of}
use Rattle.plan_expr.specs.Scalars.{is_scalar}
use Rattle.plan_frame.specs.Exprs.{expr_type}
use Rattle.plan_frame.specs.Frames.{Frame, column_or, in_turn}
use Rattle.plan_frame.specs.Meaning.{many, val}
use Rattle.plan_ir.specs.Plans.{Op, filter, simple_projection, select, union, cache, Plan}
use Rattle.plan_meaning.specs.Checks.{is_empty}
use Rattle.plan_meaning.specs.Contents.{Contents}
use Rattle.plan_meaning.specs.Steps.{MayAll}
use Rattle.plan_meaning.specs.Typing.{schema}
use Rattle.plan_pass_laws.specs.Answers.{all_taken_up, are_own_columns, has_unflattened, hits_of, is_true_literal}

-- a rule puts the second plan in the place of the first: a selection of columns becomes a projection, a projection goes onto the input of one
-- below it or is left out, a cache on a cache becomes one, a union takes up the inputs of unions, and a filter by the literal true is left out
pub data Answered : Plan → Plan → Type 0 where
  projected : {es : List Named} {stored : Columns} {options : ProjectionOptions} {ts : Roses (Unit {0}) Op} → are_own_columns es ≡ true → Answered (rose tt (select es stored options) ts) (rose tt (simple_projection stored) ts)
  on_projection : {cs ds : Columns} {us : Roses (Unit {0}) Op} → Answered (rose tt (simple_projection cs) (more (rose tt (simple_projection ds) us) no_roses)) (rose tt (simple_projection cs) us)
  left_out : {cs : Columns} {p : Plan} → same_columns cs (schema p) ≡ true → Answered (rose tt (simple_projection cs) (more p no_roses)) p
  on_cache : {i h j k : ℕ} {us : Roses (Unit {0}) Op} → Answered (rose tt (cache i h) (more (rose tt (cache j k) us) no_roses)) (rose tt (cache j (hits_of h k)) us)
  flattened : {options : UnionOptions} {ts : Roses (Unit {0}) Op} → has_unflattened ts ≡ true → Answered (rose tt (union options) ts) (rose tt (union (record options { flattened_by_opt = true })) (all_taken_up ts))
  unfiltered : {e : Named} {p : Plan} → is_true_literal e.expr ≡ true → Answered (rose tt (filter e) (more p no_roses)) p

-- an expression is a column under its own name: it is that column's values, with its type, one for each row
pub record IsOwn (e : Named) (s : Columns) : Type 0 where
  pub value : (g : Frame) → val e.expr g ≡ many (column_or g (name_of e.name))
  pub typed : expr_type e.expr s ≡ type_of s (name_of e.name)
  pub many_rows : is_scalar e.expr ≡ false

-- frames that inputs may give are, one after another, these
pub record TakenUp (c : Contents) (ts : Roses (Unit {0}) Op) (fs : List Frame) : Type 0 where
  pub frames : List Frame
  pub may : MayAll c ts frames
  pub both : is_empty frames ≡ is_empty fs
  pub same : in_turn frames ≡ in_turn fs
