-- A filter by an Or with true on its left side keeps the rows that one by the literal true does: that one is better.
use Rattle.std.proofs.Common.{◌≡◌, ℕ, zero, suc, ◌+◌, ◌<◌, Bool, true, false, cond, List, [], ◌∷◌, length, map, Option, Some, None, refl, sym, ap, ap₂, ◌∙◌, arith}
use Rattle.std.specs.Prelude.{option_and_then}
use Rattle.std.specs.List.{range_with_len}
use Rattle.std.proofs.lemmas.Bool.{and_parts}
use Rattle.plan_core.specs.Columns.{Columns}
use Rattle.plan_core.specs.declared.data_type.DataType.{DataType}
use Rattle.plan_core.specs.declared.data_type.DataType.TheVariants as types
use Rattle.plan_tree.specs.Rose.{Roses, rose, no_roses, more, size}
use Rattle.plan_expr.specs.declared.expr_ir.OutputName.{OutputName}
use Rattle.plan_expr.specs.declared.literal.LiteralValue.TheVariants.{Boolean}
use Rattle.plan_expr.specs.declared.operator.Operator.TheVariants.{Or}
use Rattle.plan_expr.specs.Exprs.{ExprOp, binary, literal, Expr, Named}
use Rattle.plan_expr.specs.Types.{all_of}
use Rattle.plan_frame.specs.Exprs.{expr_type, is_type, op_type}
use Rattle.plan_frame.specs.Frames.{Frame, HasSchema, row, rows_at}
use Rattle.plan_frame.specs.Meaning.{Cell, CellHas, one, many, operated, places_from, spread, val, value_at}
use Rattle.plan_frame.specs.Rows.{filtered}
use Rattle.plan_frame.specs.Values.{Value, is_true, truth}
use Rattle.plan_frame.proofs.Sound.{val_sound}
use Rattle.plan_frame.proofs.TurnLemmas.{HaveSchemas}
use Rattle.plan_ir.specs.Plans.{filter, Plan}
use Rattle.plan_meaning.specs.Contents.{Contents}
use Rattle.plan_meaning.specs.Relating.{Refines}
use Rattle.plan_meaning.specs.Steps.{IsValid, Step}
use Rattle.plan_meaning.specs.Typing.{schema}
use Rattle.plan_meaning.proofs.Keeping.{keeps_refl}
use Rattle.plan_meaning.proofs.Runs.{may_have_all, valid_runs}
use Rattle.plan_pass_laws.specs.declared.kind.RuleKind.TheVariants as kinds
use Rattle.plan_pass_laws.specs.Answers.{is_true_literal}
use Rattle.plan_pass_laws.specs.Weights.{weight_in}
use Rattle.plan_rule.specs.Calls.{IsBetter}
use Rattle.plan_tool_tests.specs.TrueSides.{first_is_true, is_or_op, is_true_or}

abbrev Exprs : Type 0
Exprs = Roses (Unit {0}) ExprOp

-- the literal true, over operands that no arena gives it
abbrev true_over : Exprs → Expr
true_over es = rose tt (literal (Boolean true)) es

-- the literal true
abbrev pub true_expr : Expr
true_expr = true_over no_roses

-- an Or of the literal true and an expression
abbrev pub or_true : Exprs → Expr → Expr
or_true es r = rose tt (binary Or) (more (true_over es) (more r no_roses))

-- an expression is such an Or
pub record IsOrTrue (x : Expr) : Type 0 where
  pub below : Exprs
  pub right : Expr
  pub is : x ≡ or_true below right

or_is : (op : ExprOp) → is_or_op op ≡ true → op ≡ binary Or
or_is (binary Or) e = refl
or_is op e = cc

true_is : (l : Expr) → is_true_literal l ≡ true → (es : Exprs) × (l ≡ true_over es)
true_is (rose n (literal (Boolean true)) es) e = (es, refl)
true_is (rose n (literal (Boolean false)) es) e = cc
true_is (rose n op es) e = cc

sides_are : (es : Exprs) → first_is_true es ≡ true → (us : Exprs) × (r : Expr) × (es ≡ more (true_over us) (more r no_roses))
sides_are no_roses e = cc
sides_are (more l no_roses) e = cc
sides_are (more l (more r no_roses)) e =
    let p = true_is l e in
    (p.0, r, ap (λ (x : Expr). more x (more r no_roses)) p.1)
sides_are (more l (more r (more x rest))) e = cc

pub or_true_is : (x : Expr) → is_true_or x ≡ true → IsOrTrue x
or_true_is (rose n op es) e =
    let p = and_parts (is_or_op op) (first_is_true es) e in
    let s = sides_are es p.1 in
    record { below = s.0; right = s.1; is = ap₂ (λ (o : ExprOp) (us : Exprs). rose tt o us) (or_is op p.0) s.2 }

-- Rows

row_true : (ys : List Value) (k : ℕ) → k < length ys → row (map (operated Or (truth true)) ys) k ≡ truth true
row_true [] k lt = absurd (omega arith)
row_true (y ∷ ys) zero lt = refl
row_true (y ∷ ys) (suc k) lt = row_true ys k (omega arith)

-- true beside a cell is true in each row
each_true : (t : DataType) (h : ℕ) (c : Cell) (k : ℕ) → CellHas t h c → k < h → is_true (value_at (spread (operated Or) (one (truth true)) c) k) ≡ true
each_true t h (one y) k has lt = refl
each_true t h (many ys) k has lt =
    let long : length ys ≡ h = has.0 in
    ap is_true (row_true ys k (omega arith))

all_rows : (test : ℕ → Bool) (i n : ℕ) → ((k : ℕ) → k < i + n → test k ≡ true) → places_from test i n ≡ range_with_len i n
all_rows test i zero h = refl
all_rows test i (suc n) h =
    ap (λ (b : Bool). cond b (i ∷ places_from test (suc i) n) (places_from test (suc i) n)) (h i (omega arith))
    ∙ ap (λ (l : List ℕ). i ∷ l) (all_rows test (suc i) n (λ k lt. h k (omega arith)) ∙ ap (λ (m : ℕ). range_with_len m n) next)
  where
    next : suc i ≡ i + 1
    next = omega arith

-- the right side of an Or that has a type has one
right_typed : (o p : Option DataType) (s : Columns) → is_type (option_and_then (op_type (binary Or) s) (all_of (o ∷ p ∷ []))) types.Boolean ≡ true → (t : DataType) × (p ≡ Some t)
right_typed (Some a) (Some b) s e = (b, refl)
right_typed (Some a) None s e = cc
right_typed None p s e = cc

same_rows : (es : Exprs) (r : Expr) (g : Frame) (s : Columns) → HasSchema g s → is_type (expr_type (or_true es r) s) types.Boolean ≡ true → filtered true_expr g ≡ filtered (or_true es r) g
same_rows es r g s has typed =
    let t = right_typed (expr_type (true_over es) s) (expr_type r s) s typed in
    let cell : CellHas t.0 g.height (val r g) = (val_sound s r).by g t.0 has t.1 in
    ap (λ (rows : List ℕ). rows_at rows g)
    (all_rows (λ i. is_true (value_at (one (truth true)) i)) 0 g.height (λ k lt. refl)
    ∙ sym (all_rows (λ i. is_true (value_at (val (or_true es r) g) i)) 0 g.height (λ k lt. each_true t.0 g.height (val r g) k cell (omega (arith, lt)))))

-- Plans

-- a filter by an expression under a name
abbrev pub filter_by : OutputName → Expr → Plan → Plan
filter_by name x p = rose tt (filter (record { name = name; expr = x })) (more p no_roses)

step_over : (c : Contents) (a b : Named) (s : Columns) (gs : List Frame) (f : Frame) → HaveSchemas gs (s ∷ []) → ((g : Frame) → HasSchema g s → filtered a.expr g ≡ filtered b.expr g) → Step c (filter a) gs f → Step c (filter b) gs f
step_over c a b s [] f has same st = absurd st
step_over c a b s (g ∷ []) f has same st = st ∙ same g has.0
step_over c a b s (g ∷ h ∷ gs) f has same st = absurd st

true_refines : (name : OutputName) (es : Exprs) (r : Expr) (p : Plan) → IsValid (filter_by name (or_true es r) p) → Refines (filter_by name true_expr p) (filter_by name (or_true es r) p)
true_refines name es r (rose n op us) v =
    let p : Plan = rose n op us in
    let now : Named = record { name = name; expr = true_expr } in
    let was : Named = record { name = name; expr = or_true es r } in
    let vq : IsValid (filter_by name true_expr p) = ((refl, (refl, (refl, (v.0.1.1.1.0, tt)))), v.1) in
    record {
      valid = vq;
      schema = refl;
      fits = λ c k. k;
      run = λ c k. valid_runs c (filter_by name true_expr p) vq k;
      may = λ c f k m. (m.0, m.1, step_over c now was (schema p) m.0 f (may_have_all c (more p no_roses) m.0 v.1 k.1 m.1) (λ g has. same_rows es r g (schema p) has v.0.1.1.0) m.2);
    }

fewer : (a b w : ℕ) → 1 + (1 + 0 + 0 + 0) + w < 1 + (1 + (1 + a + b) + 0 + 0) + w
fewer a b w = omega arith

-- the literal true in the place of such an Or is better
pub true_is_better : (name : OutputName) (es : Exprs) (r : Expr) (p : Plan) → IsValid (filter_by name (or_true es r) p) → IsBetter kinds.Other (filter_by name true_expr p) (filter_by name (or_true es r) p)
true_is_better name es r p v = record {
  refines = true_refines name es r p v;
  keeps = keeps_refl (filter_by name true_expr p);
  lighter = fewer (size es) (size (more r no_roses)) (weight_in (more p no_roses));
  smaller = λ counted. cc;
}
