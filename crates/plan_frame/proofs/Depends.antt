-- What an expression means depends only on the height and on the columns that are its leaves.
use Rattle.std.proofs.Common.{◌≡◌, ℕ, pos, true, List, [], ◌∷◌, map, Option, Some, None, refl, ap, ap₂, ◌∙◌}
use Rattle.std.specs.Prelude.{option_and_then}
use Rattle.std.specs.List.{range_with_len}
use Rattle.std.specs.Int.{w64, int_wrap}
use Rattle.plan_core.specs.Names.{has}
use Rattle.plan_core.specs.Columns.{Columns, type_of}
use Rattle.plan_core.specs.declared.data_type.DataType.{DataType}
use Rattle.plan_tree.specs.Rose.{Roses, rose, no_roses, more}
use Rattle.plan_expr.specs.Exprs.{ExprOp, column as column_of, literal, alias, binary, ternary, aggregate, call, window, len, Expr}
use Rattle.plan_expr.specs.Leaves.{Name, own_leaves, leaves, leaves_all}
use Rattle.plan_expr.specs.Types.{all_of}
use Rattle.plan_frame.specs.Values.{Value, whole}
use Rattle.plan_frame.specs.Aggregates.{aggregated}
use Rattle.plan_frame.specs.Exprs.{op_type, type_by, expr_type, expr_types}
use Rattle.plan_frame.specs.Frames.{Frame, Agree, rows_at}
use Rattle.plan_frame.specs.Meaning.{Cell, one, many, Meaning, called, cells, cell_values, chosen, only_value, rows_alike, spread, operated, meaning, val, vals}
use Rattle.plan_frame.proofs.NameSets.{has_first, has_front, has_back}
use Rattle.plan_frame.proofs.FrameLemmas.{agree_rows, or_same}

-- a meaning depends on no more than the height and these columns
pub record Depends (l : List Name) (m : Meaning) : Type 0 where
  pub on : (f g : Frame) → Agree l f g → m f ≡ m g

abbrev AllDepend : List Name → List Meaning → Type 0
AllDepend l [] = Unit {0}
AllDepend l (m ∷ ms) = Depends l m × AllDepend l ms

-- what meanings are over frames that agree
cells_same : (l : List Name) (ms : List Meaning) → AllDepend l ms → (f g : Frame) → Agree l f g → cells ms f ≡ cells ms g
cells_same l [] d f g h = refl
cells_same l (m ∷ ms) d f g h = ap₂ (λ (c : Cell) (cs : List Cell). c ∷ cs) (d.0.on f g h) (cells_same l ms d.1 f g h)

map_same : (v w : ℕ → Value) → ((i : ℕ) → v i ≡ w i) → (is : List ℕ) → map v is ≡ map w is
map_same v w same [] = refl
map_same v w same (i ∷ is) = ap₂ (λ (x : Value) (xs : List Value). x ∷ xs) (same i) (map_same v w same is)

chosen_same : {a b c d p q : Cell} {h i : ℕ} → a ≡ b → c ≡ d → p ≡ q → h ≡ i → chosen h a c p ≡ chosen i b d q
chosen_same {a = a} {b = b} {c = c} {d = d} {p = p} {q = q} {h = h} {i = i} x y z e =
    ap (λ n. chosen n a c p) e ∙ ap (λ u. chosen i u c p) x ∙ ap₂ (chosen i b) y z

meaning_depends : (op : ExprOp) (l : List Name) (ms : List Meaning) → ((a : Name) → has (own_leaves op) a ≡ true → has l a ≡ true) → AllDepend l ms → Depends l (meaning op ms)
meaning_depends (column_of a) l ms own d = record { on = λ f g h. ap many (or_same f g a a h.height (h.same a (own a (has_first a [])))) }
meaning_depends (literal v) l ms own d = record { on = λ f g h. refl }
meaning_depends (alias a) l [] own d = record { on = λ f g h. refl }
meaning_depends (alias a) l (m ∷ []) own d = record { on = λ f g h. d.0.on f g h }
meaning_depends (alias a) l (m ∷ n ∷ ms) own d = record { on = λ f g h. refl }
meaning_depends (binary o) l [] own d = record { on = λ f g h. refl }
meaning_depends (binary o) l (m ∷ []) own d = record { on = λ f g h. refl }
meaning_depends (binary o) l (m ∷ n ∷ []) own d = record { on = λ f g h. ap₂ (spread (operated o)) (d.0.on f g h) (d.1.0.on f g h) }
meaning_depends (binary o) l (m ∷ n ∷ k ∷ ms) own d = record { on = λ f g h. refl }
meaning_depends ternary l [] own d = record { on = λ f g h. refl }
meaning_depends ternary l (m ∷ []) own d = record { on = λ f g h. refl }
meaning_depends ternary l (m ∷ n ∷ []) own d = record { on = λ f g h. refl }
meaning_depends ternary l (m ∷ n ∷ k ∷ []) own d = record { on = λ f g h. chosen_same (d.0.on f g h) (d.1.0.on f g h) (d.1.1.0.on f g h) h.height }
meaning_depends ternary l (m ∷ n ∷ k ∷ j ∷ ms) own d = record { on = λ f g h. refl }
meaning_depends (aggregate o) l [] own d = record { on = λ f g h. refl }
meaning_depends (aggregate o) l (m ∷ []) own d = record { on = λ f g h. ap (λ (c : Cell). one (aggregated o (cell_values c))) (d.0.on f g h) }
meaning_depends (aggregate o) l (m ∷ n ∷ ms) own d = record { on = λ f g h. refl }
meaning_depends (call c o) l ms own d = record { on = λ f g h. ap (called c) (cells_same l ms d f g h) }
meaning_depends window l [] own d = record { on = λ f g h. refl }
meaning_depends window l (m ∷ keys) own d = record { on = λ f g h. ap₂ (λ (cs : List Cell) (n : ℕ). many (map (λ i. only_value (m (rows_at (rows_alike cs n i) f))) (range_with_len 0 n))) (cells_same l keys d.1 f g h) h.height ∙ ap many (map_same _ _ (λ i. ap only_value (d.0.on _ _ (agree_rows (λ a. a) l (rows_alike (cells keys g) g.height i) f g h))) (range_with_len 0 g.height)) }
meaning_depends len l ms own d = record { on = λ f g h. ap (λ (n : ℕ). one (whole (int_wrap w64 (pos n)))) h.height }

mutual
  val_on : (e : Expr) (l : List Name) → ((a : Name) → has (leaves e) a ≡ true → has l a ≡ true) → Depends l (val e)
  val_on (rose n op es) l sub = meaning_depends op l (vals es) (λ a i. sub a (has_front (own_leaves op) (leaves_all es) a i)) (vals_on es l (λ a i. sub a (has_back (own_leaves op) (leaves_all es) a i)))

  vals_on : (es : Roses (Unit {0}) ExprOp) (l : List Name) → ((a : Name) → has (leaves_all es) a ≡ true → has l a ≡ true) → AllDepend l (vals es)
  vals_on no_roses l sub = tt
  vals_on (more e es) l sub = (val_on e l (λ a i. sub a (has_front (leaves e) (leaves_all es) a i)), vals_on es l (λ a i. sub a (has_back (leaves e) (leaves_all es) a i)))

-- over frames that agree on the leaves an expression means the same
pub val_depends : (e : Expr) (f g : Frame) → Agree (leaves e) f g → val e f ≡ val e g
val_depends e f g h = (val_on e (leaves e) (λ a i. i)).on f g h

-- so is its type

op_type_same : (op : ExprOp) (ts : List DataType) (r s : Columns) → ((a : Name) → has (own_leaves op) a ≡ true → type_of r a ≡ type_of s a) → op_type op r ts ≡ op_type op s ts
op_type_same (column_of a) ts r s h = h a (has_first a [])
op_type_same (literal v) ts r s h = refl
op_type_same (alias a) [] r s h = refl
op_type_same (alias a) (t ∷ []) r s h = refl
op_type_same (alias a) (t ∷ u ∷ ts) r s h = refl
op_type_same (binary o) [] r s h = refl
op_type_same (binary o) (t ∷ []) r s h = refl
op_type_same (binary o) (t ∷ u ∷ []) r s h = refl
op_type_same (binary o) (t ∷ u ∷ v ∷ ts) r s h = refl
op_type_same ternary [] r s h = refl
op_type_same ternary (t ∷ []) r s h = refl
op_type_same ternary (t ∷ u ∷ []) r s h = refl
op_type_same ternary (t ∷ u ∷ p ∷ []) r s h = refl
op_type_same ternary (t ∷ u ∷ p ∷ v ∷ ts) r s h = refl
op_type_same (aggregate o) [] r s h = refl
op_type_same (aggregate o) (t ∷ []) r s h = refl
op_type_same (aggregate o) (t ∷ u ∷ ts) r s h = refl
op_type_same (call c o) ts r s h = refl
op_type_same window [] r s h = refl
op_type_same window (t ∷ ts) r s h = refl
op_type_same len ts r s h = refl

type_by_same : (op : ExprOp) (os : List (Option DataType)) (r s : Columns) → ((a : Name) → has (own_leaves op) a ≡ true → type_of r a ≡ type_of s a) → type_by op os r ≡ type_by op os s
type_by_same op os r s h = at (all_of os)
  where
    at : (o : Option (List DataType)) → option_and_then (op_type op r) o ≡ option_and_then (op_type op s) o
    at None = refl
    at (Some ts) = op_type_same op ts r s h

mutual
  -- the type of an expression depends on the types of its leaves alone
  pub type_within : (e : Expr) (r s : Columns) → ((a : Name) → has (leaves e) a ≡ true → type_of r a ≡ type_of s a) → expr_type e r ≡ expr_type e s
  type_within (rose n op es) r s h =
      ap (λ (ts : List (Option DataType)). type_by op ts r) (types_within es r s (λ a i. h a (has_back (own_leaves op) (leaves_all es) a i)))
      ∙ type_by_same op (expr_types es s) r s (λ a i. h a (has_front (own_leaves op) (leaves_all es) a i))

  pub types_within : (es : Roses (Unit {0}) ExprOp) (r s : Columns) → ((a : Name) → has (leaves_all es) a ≡ true → type_of r a ≡ type_of s a) → expr_types es r ≡ expr_types es s
  types_within no_roses r s h = refl
  types_within (more e es) r s h = ap₂ (λ (t : Option DataType) (ts : List (Option DataType)). t ∷ ts) (type_within e r s (λ a i. h a (has_front (leaves e) (leaves_all es) a i))) (types_within es r s (λ a i. h a (has_back (leaves e) (leaves_all es) a i)))
