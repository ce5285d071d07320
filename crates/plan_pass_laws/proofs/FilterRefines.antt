-- The input of a filter by the literal true refines the filter.
use Rattle.std.proofs.Common.{◌≡◌, ℕ, zero, suc, ◌+◌, true, false, List, [], ◌∷◌, length, refl, sym, ap, ap₂, ◌∙◌, arith}
use Rattle.std.specs.List.{range_with_len}
use Rattle.plan_core.specs.Columns.{Columns}
use Rattle.plan_tree.specs.Rose.{rose, no_roses, more}
use Rattle.plan_expr.specs.declared.literal.LiteralValue.TheVariants.{Boolean}
use Rattle.plan_expr.specs.Exprs.{literal, Expr, Named}
use Rattle.plan_ir.specs.Plans.{filter, Plan}
use Rattle.plan_frame.specs.Frames.{Column, Frame, HasSchema, HaveTypes, picked, picked_columns, row, rows_at}
use Rattle.plan_frame.specs.Meaning.{Cell, one, places_from, val, value_at}
use Rattle.plan_frame.specs.Rows.{filtered, true_rows}
use Rattle.plan_frame.specs.Values.{Value, is_true, truth}
use Rattle.plan_meaning.specs.Relating.{Refines}
use Rattle.plan_meaning.specs.Steps.{IsValid}
use Rattle.plan_meaning.specs.Typing.{schema}
use Rattle.plan_meaning.proofs.Runs.{may_has, valid_runs}
use Rattle.plan_pass_laws.specs.Answers.{is_true_literal}

true_cell : (x : Expr) (g : Frame) → is_true_literal x ≡ true → val x g ≡ one (truth true)
true_cell (rose n (literal (Boolean true)) es) g h = refl
true_cell (rose n (literal (Boolean false)) es) g h = cc
true_cell (rose n op es) g h = cc

all_places : (i n : ℕ) → places_from (λ k. is_true (value_at (one (truth true)) k)) i n ≡ range_with_len i n
all_places i zero = refl
all_places i (suc n) = ap (λ (l : List ℕ). i ∷ l) (all_places (suc i) n ∙ ap (λ (m : ℕ). range_with_len m n) next)
  where
    next : suc i ≡ i + 1
    next = omega arith

all_values : (vs : List Value) (a n : ℕ) (ws : List Value) → ((k : ℕ) → row ws (a + k) ≡ row vs k) → n ≡ length vs → picked (range_with_len a n) ws ≡ vs
all_values [] a zero ws h e = refl
all_values (v ∷ vs) a zero ws h e = cc
all_values [] a (suc n) ws h e = cc
all_values (v ∷ vs) a (suc n) ws h e = ap₂ (λ (x : Value) (xs : List Value). x ∷ xs) (ap (row ws) (zero_more a) ∙ h 0) (all_values vs (a + 1) n ws (λ k. ap (row ws) (one_more a k) ∙ h (suc k)) (omega (arith, e)))
  where
    zero_more : (a : ℕ) → a ≡ a + 0
    zero_more a = omega arith

    one_more : (a k : ℕ) → a + 1 + k ≡ a + suc k
    one_more a k = omega arith

pub all_picked : (h : ℕ) (cs : List Column) (s : Columns) → HaveTypes h cs s → picked_columns (range_with_len 0 h) cs ≡ cs
all_picked h [] [] k = refl
all_picked h (c ∷ cs) (x ∷ s) k = ap₂ (λ (vs : List Value) (ds : List Column). record { name = c.name; values = vs } ∷ ds) (all_values c.values 0 h c.values (λ i. ap (row c.values) (from_zero i)) (sym k.1)) (all_picked h cs s k.3)
  where
    from_zero : (i : ℕ) → 0 + i ≡ i
    from_zero i = omega arith
all_picked h [] (x ∷ s) k = absurd k
all_picked h (c ∷ cs) [] k = absurd k

pub range_long : (a n : ℕ) → length (range_with_len a n) ≡ n
range_long a zero = refl
range_long a (suc n) = ap suc (range_long (a + 1) n)

pub all_true : (x : Expr) (g : Frame) (s : Columns) → HasSchema g s → is_true_literal x ≡ true → filtered x g ≡ g
all_true x g s has h =
    ap (λ (c : Cell). rows_at (true_rows c g.height) g) (true_cell x g h)
    ∙ ap (λ (rows : List ℕ). rows_at rows g) (all_places 0 g.height)
    ∙ ap₂ (λ (n : ℕ) (cs : List Column). record { height = n; columns = cs }) (range_long 0 g.height) (all_picked g.height g.columns s has)

pub unfiltered_refines : (e : Named) (p : Plan) → is_true_literal e.expr ≡ true → IsValid (rose tt (filter e) (more p no_roses)) → Refines p (rose tt (filter e) (more p no_roses))
unfiltered_refines e (rose n op us) h v =
    let p : Plan = rose n op us in
    let vp : IsValid p = (v.1.0, v.1.1) in
    record {
      valid = vp;
      schema = refl;
      fits = λ c k. (k.1.0, k.1.1);
      run = λ c k. valid_runs c p vp (k.1.0, k.1.1);
      may = λ c f k m. (f ∷ [], (m, tt), sym (all_true e.expr f (schema p) (may_has c p f vp (k.1.0, k.1.1) m) h));
    }
