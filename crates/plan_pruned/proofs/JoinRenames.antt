-- An expression with other names for its columns means the same over frames whose columns are called so, has the same type, the same form, and may be named so.
use Rattle.std.proofs.Common.{◌≡◌, ℕ, zero, suc, pos, Bool, true, ◌&&◌, List, [], ◌∷◌, ◌++◌, map, take, Option, Some, None, refl, sym, ap, ap₂, ◌∙◌, subst, is_some}
use Rattle.std.specs.Prelude.{option_and_then}
use Rattle.std.specs.List.{range_with_len}
use Rattle.std.specs.Int.{w64, int_wrap}
use Rattle.std.specs.Str.{bytes_eq}
use Rattle.std.proofs.lemmas.List.{map-append}
use Rattle.plan_core.specs.Names.{has}
use Rattle.plan_core.specs.Columns.{Columns, type_of}
use Rattle.plan_core.specs.declared.data_type.DataType.{DataType}
use Rattle.plan_tree.specs.Rose.{Roses, rose, no_roses, more}
use Rattle.plan_expr.specs.declared.expr_ir.OutputName.{OutputName}
use Rattle.plan_expr.specs.declared.expr_ir.OutputName.TheVariants as output
use Rattle.plan_expr.specs.Exprs.{ExprOp, column as column_of, literal, alias, binary, ternary, aggregate, call, window, len, Expr}
use Rattle.plan_expr.specs.Forms.{form_by, has_form, have_form, scalars}
use Rattle.plan_expr.specs.Leaves.{Name, own_leaves, leaves, leaves_all}
use Rattle.plan_expr.specs.Naming.{Naming, by_column, by_literal, by_alias, unnamed, first_named, may_be_named, named_part, naming, namings, or_naming, own_naming}
use Rattle.plan_expr.specs.Scalars.{are_scalar, is_scalar, scalar_by}
use Rattle.plan_expr.specs.Types.{all_of}
use Rattle.plan_frame.specs.Values.{Value, whole}
use Rattle.plan_frame.specs.Aggregates.{aggregated}
use Rattle.plan_frame.specs.Exprs.{all_known, op_type, type_by, expr_type, expr_types}
use Rattle.plan_frame.specs.Frames.{Frame, AgreeBy, rows_at}
use Rattle.plan_frame.specs.Meaning.{Cell, one, many, Meaning, called, cells, cell_values, chosen, only_value, rows_alike, spread, operated, meaning, val, vals}
use Rattle.plan_frame.proofs.NameSets.{named, same_named, has_first, has_front, has_back, has_later}
use Rattle.plan_frame.proofs.FrameLemmas.{agree_rows, or_same}
use Rattle.plan_meaning.specs.JoinChecks.{are_elementwise, is_elementwise, works_by_row}
use Rattle.plan_pruned.specs.Renamed.{renamed_exprs, renamed_op}
use Rattle.plan_pruned.specs.JoinPruned.{renamed_expr, renamed_output}

module _ (now : Name → Name) where
  -- a meaning follows another on these columns: over frames whose columns are called so it is the same
  record Follows (l : List Name) (m n : Meaning) : Type 0 where
    on : (f g : Frame) → AgreeBy now l f g → m f ≡ n g

  abbrev AllFollow : List Name → List Meaning → List Meaning → Type 0
  AllFollow l [] [] = Unit {0}
  AllFollow l (m ∷ ms) (n ∷ ns) = Follows l m n × AllFollow l ms ns
  AllFollow l _ _ = ⊥

  cells_follow : (l : List Name) (ms ns : List Meaning) → AllFollow l ms ns → (f g : Frame) → AgreeBy now l f g → cells ms f ≡ cells ns g
  cells_follow l [] [] d f g h = refl
  cells_follow l (m ∷ ms) (n ∷ ns) d f g h = ap₂ (λ (c : Cell) (cs : List Cell). c ∷ cs) (d.0.on f g h) (cells_follow l ms ns d.1 f g h)
  cells_follow l [] (n ∷ ns) d f g h = absurd d
  cells_follow l (m ∷ ms) [] d f g h = absurd d

  map_same : (v w : ℕ → Value) → ((i : ℕ) → v i ≡ w i) → (is : List ℕ) → map v is ≡ map w is
  map_same v w same [] = refl
  map_same v w same (i ∷ is) = ap₂ (λ (x : Value) (xs : List Value). x ∷ xs) (same i) (map_same v w same is)

  chosen_same : {a b c d p q : Cell} {h i : ℕ} → a ≡ b → c ≡ d → p ≡ q → h ≡ i → chosen h a c p ≡ chosen i b d q
  chosen_same {a = a} {b = b} {c = c} {d = d} {p = p} {q = q} {h = h} {i = i} x y z e =
      ap (λ n. chosen n a c p) e ∙ ap (λ u. chosen i u c p) x ∙ ap₂ (chosen i b) y z

  meaning_follows : (op : ExprOp) (l : List Name) (ms ns : List Meaning) → ((a : Name) → has (own_leaves op) a ≡ true → has l a ≡ true) → AllFollow l ms ns → Follows l (meaning (renamed_op now op) ms) (meaning op ns)
  meaning_follows (column_of a) l ms ns own d = record { on = λ f g h. ap many (or_same f g (now a) a h.height (h.same a (own a (has_first a [])))) }
  meaning_follows (literal v) l ms ns own d = record { on = λ f g h. refl }
  meaning_follows (alias a) l [] [] own d = record { on = λ f g h. refl }
  meaning_follows (alias a) l (m ∷ []) (n ∷ []) own d = record { on = λ f g h. d.0.on f g h }
  meaning_follows (alias a) l (m ∷ m2 ∷ ms) (n ∷ n2 ∷ ns) own d = record { on = λ f g h. refl }
  meaning_follows (binary o) l [] [] own d = record { on = λ f g h. refl }
  meaning_follows (binary o) l (m ∷ []) (n ∷ []) own d = record { on = λ f g h. refl }
  meaning_follows (binary o) l (m ∷ m2 ∷ []) (n ∷ n2 ∷ []) own d = record { on = λ f g h. ap₂ (spread (operated o)) (d.0.on f g h) (d.1.0.on f g h) }
  meaning_follows (binary o) l (m ∷ m2 ∷ m3 ∷ ms) (n ∷ n2 ∷ n3 ∷ ns) own d = record { on = λ f g h. refl }
  meaning_follows ternary l [] [] own d = record { on = λ f g h. refl }
  meaning_follows ternary l (m ∷ []) (n ∷ []) own d = record { on = λ f g h. refl }
  meaning_follows ternary l (m ∷ m2 ∷ []) (n ∷ n2 ∷ []) own d = record { on = λ f g h. refl }
  meaning_follows ternary l (m ∷ m2 ∷ m3 ∷ []) (n ∷ n2 ∷ n3 ∷ []) own d = record { on = λ f g h. chosen_same (d.0.on f g h) (d.1.0.on f g h) (d.1.1.0.on f g h) h.height }
  meaning_follows ternary l (m ∷ m2 ∷ m3 ∷ m4 ∷ ms) (n ∷ n2 ∷ n3 ∷ n4 ∷ ns) own d = record { on = λ f g h. refl }
  meaning_follows (aggregate o) l [] [] own d = record { on = λ f g h. refl }
  meaning_follows (aggregate o) l (m ∷ []) (n ∷ []) own d = record { on = λ f g h. ap (λ (c : Cell). one (aggregated o (cell_values c))) (d.0.on f g h) }
  meaning_follows (aggregate o) l (m ∷ m2 ∷ ms) (n ∷ n2 ∷ ns) own d = record { on = λ f g h. refl }
  meaning_follows (call c o) l ms ns own d = record { on = λ f g h. ap (called c) (cells_follow l ms ns d f g h) }
  meaning_follows window l [] [] own d = record { on = λ f g h. refl }
  meaning_follows window l (m ∷ keys) (n ∷ others) own d = record { on = λ f g h. ap₂ (λ (cs : List Cell) (k : ℕ). many (map (λ i. only_value (m (rows_at (rows_alike cs k i) f))) (range_with_len 0 k))) (cells_follow l keys others d.1 f g h) h.height ∙ ap many (map_same _ _ (λ i. ap only_value (d.0.on _ _ (agree_rows now l (rows_alike (cells others g) g.height i) f g h))) (range_with_len 0 g.height)) }
  meaning_follows len l ms ns own d = record { on = λ f g h. ap (λ (n : ℕ). one (whole (int_wrap w64 (pos n)))) h.height }
  meaning_follows op l ms ns own d = absurd (search d)

  mutual
    val_on : (e : Expr) (l : List Name) → ((a : Name) → has (leaves e) a ≡ true → has l a ≡ true) → Follows l (val (renamed_expr now e)) (val e)
    val_on (rose n op es) l sub = meaning_follows op l (vals (renamed_exprs now es)) (vals es) (λ a i. sub a (has_front (own_leaves op) (leaves_all es) a i)) (vals_on es l (λ a i. sub a (has_back (own_leaves op) (leaves_all es) a i)))

    vals_on : (es : Roses (Unit {0}) ExprOp) (l : List Name) → ((a : Name) → has (leaves_all es) a ≡ true → has l a ≡ true) → AllFollow l (vals (renamed_exprs now es)) (vals es)
    vals_on no_roses l sub = tt
    vals_on (more (rose n op us) es) l sub = (val_on (rose n op us) l (λ a i. sub a (has_front (leaves (rose n op us)) (leaves_all es) a i)), vals_on es l (λ a i. sub a (has_back (leaves (rose n op us)) (leaves_all es) a i)))

  -- over frames whose columns are called so an expression with these names means the same
  pub val-renamed : (e : Expr) (l : List Name) (f g : Frame) → ((a : Name) → has (leaves e) a ≡ true → has l a ≡ true) → AgreeBy now l f g → val (renamed_expr now e) f ≡ val e g
  val-renamed e l f g sub h = (val_on e l sub).on f g h

  -- types

  op_type_same : (op : ExprOp) (ts : List DataType) (r s : Columns) → ((a : Name) → has (own_leaves op) a ≡ true → type_of r (now a) ≡ type_of s a) → op_type (renamed_op now op) r ts ≡ op_type op s ts
  op_type_same (column_of a) ts r s h = h a (has_first a [])
  op_type_same (literal v) ts r s h = refl
  op_type_same (alias a) [] r s h = refl
  op_type_same (alias a) (t ∷ []) r s h = refl
  op_type_same (alias a) (t ∷ u ∷ ts) r s h = refl
  op_type_same (binary o) [] r s h = refl
  op_type_same (binary o) (t ∷ []) r s h = refl
  op_type_same (binary o) (t ∷ u ∷ []) r s h = refl
  op_type_same (binary o) (t ∷ u ∷ v ∷ ts) r s h = refl
  op_type_same ternary [] r s h = refl
  op_type_same ternary (t ∷ []) r s h = refl
  op_type_same ternary (t ∷ u ∷ []) r s h = refl
  op_type_same ternary (t ∷ u ∷ p ∷ []) r s h = refl
  op_type_same ternary (t ∷ u ∷ p ∷ v ∷ ts) r s h = refl
  op_type_same (aggregate o) [] r s h = refl
  op_type_same (aggregate o) (t ∷ []) r s h = refl
  op_type_same (aggregate o) (t ∷ u ∷ ts) r s h = refl
  op_type_same (call c o) ts r s h = refl
  op_type_same window [] r s h = refl
  op_type_same window (t ∷ ts) r s h = refl
  op_type_same len ts r s h = refl

  type_by_same : (op : ExprOp) (os : List (Option DataType)) (r s : Columns) → ((a : Name) → has (own_leaves op) a ≡ true → type_of r (now a) ≡ type_of s a) → type_by (renamed_op now op) os r ≡ type_by op os s
  type_by_same op os r s h = at (all_of os)
    where
      at : (o : Option (List DataType)) → option_and_then (op_type (renamed_op now op) r) o ≡ option_and_then (op_type op s) o
      at None = refl
      at (Some ts) = op_type_same op ts r s h

  mutual
    -- over columns that are called so it has the same type
    pub type-renamed : (e : Expr) (r s : Columns) → ((a : Name) → has (leaves e) a ≡ true → type_of r (now a) ≡ type_of s a) → expr_type (renamed_expr now e) r ≡ expr_type e s
    type-renamed (rose n op es) r s h =
        ap (λ (ts : List (Option DataType)). type_by (renamed_op now op) ts r) (types-renamed es r s (λ a i. h a (has_back (own_leaves op) (leaves_all es) a i)))
        ∙ type_by_same op (expr_types es s) r s (λ a i. h a (has_front (own_leaves op) (leaves_all es) a i))

    types-renamed : (es : Roses (Unit {0}) ExprOp) (r s : Columns) → ((a : Name) → has (leaves_all es) a ≡ true → type_of r (now a) ≡ type_of s a) → expr_types (renamed_exprs now es) r ≡ expr_types es s
    types-renamed no_roses r s h = refl
    types-renamed (more (rose n op us) es) r s h = ap₂ (λ (t : Option DataType) (ts : List (Option DataType)). t ∷ ts) (type-renamed (rose n op us) r s (λ a i. h a (has_front (leaves (rose n op us)) (leaves_all es) a i))) (types-renamed es r s (λ a i. h a (has_back (leaves (rose n op us)) (leaves_all es) a i)))

  -- what it reads

  own_leaves-renamed : (op : ExprOp) → own_leaves (renamed_op now op) ≡ map now (own_leaves op)
  own_leaves-renamed (column_of a) = refl
  own_leaves-renamed (literal v) = refl
  own_leaves-renamed (alias a) = refl
  own_leaves-renamed (binary o) = refl
  own_leaves-renamed ternary = refl
  own_leaves-renamed (aggregate o) = refl
  own_leaves-renamed (call c o) = refl
  own_leaves-renamed window = refl
  own_leaves-renamed len = refl

  mutual
    leaves-renamed : (e : Expr) → leaves (renamed_expr now e) ≡ map now (leaves e)
    leaves-renamed (rose n op es) = ap₂ (λ (x y : List Name). x ++ y) (own_leaves-renamed op) (all_leaves-renamed es) ∙ sym (map-append now (own_leaves op) (leaves_all es))

    all_leaves-renamed : (es : Roses (Unit {0}) ExprOp) → leaves_all (renamed_exprs now es) ≡ map now (leaves_all es)
    all_leaves-renamed no_roses = refl
    all_leaves-renamed (more (rose n op us) es) = ap₂ (λ (x y : List Name). x ++ y) (leaves-renamed (rose n op us)) (all_leaves-renamed es) ∙ sym (map-append now (leaves (rose n op us)) (leaves_all es))

  known_now : (l : List Name) (r : Columns) → ((a : Name) → has l a ≡ true → is_some (type_of r (now a)) ≡ true) → all_known (map now l) r ≡ true
  known_now [] r h = refl
  known_now (a ∷ l) r h = ap₂ (λ (x y : Bool). x && y) (h a (has_first a l)) (known_now l r (λ b i. h b (has_later a l b i)))

  pub known-renamed : (e : Expr) (r : Columns) → ((a : Name) → has (leaves e) a ≡ true → is_some (type_of r (now a)) ≡ true) → all_known (leaves (renamed_expr now e)) r ≡ true
  known-renamed e r h = ap (λ (l : List Name). all_known l r) (leaves-renamed e) ∙ known_now (leaves e) r h

  -- its form

  scalar_by-renamed : (op : ExprOp) (b : Bool) → scalar_by (renamed_op now op) b ≡ scalar_by op b
  scalar_by-renamed (column_of a) b = refl
  scalar_by-renamed (literal v) b = refl
  scalar_by-renamed (alias a) b = refl
  scalar_by-renamed (binary o) b = refl
  scalar_by-renamed ternary b = refl
  scalar_by-renamed (aggregate o) b = refl
  scalar_by-renamed (call c o) b = refl
  scalar_by-renamed window b = refl
  scalar_by-renamed len b = refl

  form_by-renamed : (op : ExprOp) (bs : List Bool) → form_by (renamed_op now op) bs ≡ form_by op bs
  form_by-renamed (column_of a) bs = refl
  form_by-renamed (literal v) bs = refl
  form_by-renamed (alias a) bs = refl
  form_by-renamed (binary o) bs = refl
  form_by-renamed ternary bs = refl
  form_by-renamed (aggregate o) bs = refl
  form_by-renamed (call c o) bs = refl
  form_by-renamed window bs = refl
  form_by-renamed len bs = refl

  by_row-renamed : (op : ExprOp) → works_by_row (renamed_op now op) ≡ works_by_row op
  by_row-renamed (column_of a) = refl
  by_row-renamed (literal v) = refl
  by_row-renamed (alias a) = refl
  by_row-renamed (binary o) = refl
  by_row-renamed ternary = refl
  by_row-renamed (aggregate o) = refl
  by_row-renamed (call c o) = refl
  by_row-renamed window = refl
  by_row-renamed len = refl

  mutual
    scalar-renamed : (e : Expr) → is_scalar (renamed_expr now e) ≡ is_scalar e
    scalar-renamed (rose n op es) = scalar_by-renamed op (are_scalar (renamed_exprs now es)) ∙ ap (scalar_by op) (all_scalar-renamed es)

    all_scalar-renamed : (es : Roses (Unit {0}) ExprOp) → are_scalar (renamed_exprs now es) ≡ are_scalar es
    all_scalar-renamed no_roses = refl
    all_scalar-renamed (more (rose n op us) es) = ap₂ (λ (x y : Bool). x && y) (scalar-renamed (rose n op us)) (all_scalar-renamed es)

  scalars-renamed : (es : Roses (Unit {0}) ExprOp) → scalars (renamed_exprs now es) ≡ scalars es
  scalars-renamed no_roses = refl
  scalars-renamed (more (rose n op us) es) = ap₂ (λ (x : Bool) (xs : List Bool). x ∷ xs) (scalar-renamed (rose n op us)) (scalars-renamed es)

  mutual
    pub form-renamed : (e : Expr) → has_form (renamed_expr now e) ≡ has_form e
    form-renamed (rose n op es) = ap₂ (λ (x y : Bool). x && y) (form_by-renamed op (scalars (renamed_exprs now es)) ∙ ap (form_by op) (scalars-renamed es)) (forms-renamed es)

    forms-renamed : (es : Roses (Unit {0}) ExprOp) → have_form (renamed_exprs now es) ≡ have_form es
    forms-renamed no_roses = refl
    forms-renamed (more (rose n op us) es) = ap₂ (λ (x y : Bool). x && y) (form-renamed (rose n op us)) (forms-renamed es)

  mutual
    pub elementwise-renamed : (e : Expr) → is_elementwise (renamed_expr now e) ≡ is_elementwise e
    elementwise-renamed (rose n op es) = ap₂ (λ (x y : Bool). x && y) (by_row-renamed op) (all_elementwise-renamed es)

    all_elementwise-renamed : (es : Roses (Unit {0}) ExprOp) → are_elementwise (renamed_exprs now es) ≡ are_elementwise es
    all_elementwise-renamed no_roses = refl
    all_elementwise-renamed (more (rose n op us) es) = ap₂ (λ (x y : Bool). x && y) (elementwise-renamed (rose n op us)) (all_elementwise-renamed es)

  -- its name

  abbrev naming_now : Naming → Naming
  naming_now (by_column a) = by_column (now a)
  naming_now (by_literal a) = by_literal a
  naming_now (by_alias a) = by_alias a
  naming_now unnamed = unnamed

  or_now : (m n : Naming) → or_naming (naming_now m) (naming_now n) ≡ naming_now (or_naming m n)
  or_now (by_column a) n = refl
  or_now (by_literal a) n = refl
  or_now (by_alias a) n = refl
  or_now unnamed n = refl

  own_now : (op : ExprOp) → own_naming (renamed_op now op) ≡ naming_now (own_naming op)
  own_now (column_of a) = refl
  own_now (literal v) = refl
  own_now (alias a) = refl
  own_now (binary o) = refl
  own_now ternary = refl
  own_now (aggregate o) = refl
  own_now (call c o) = refl
  own_now window = refl
  own_now len = refl

  take_now : (k : ℕ) (ms : List Naming) → take k (map naming_now ms) ≡ map naming_now (take k ms)
  take_now zero ms = refl
  take_now (suc k) [] = refl
  take_now (suc k) (m ∷ ms) = ap (λ (x : List Naming). naming_now m ∷ x) (take_now k ms)

  part_now : (op : ExprOp) (ms : List Naming) → named_part (renamed_op now op) (map naming_now ms) ≡ map naming_now (named_part op ms)
  part_now (column_of a) ms = refl
  part_now (literal v) ms = refl
  part_now (alias a) ms = refl
  part_now (binary o) ms = refl
  part_now ternary ms = refl
  part_now (aggregate o) ms = refl
  part_now (call c o) ms = refl
  part_now window ms = take_now 1 ms
  part_now len ms = refl

  first_now : (ms : List Naming) → first_named (map naming_now ms) ≡ naming_now (first_named ms)
  first_now [] = refl
  first_now (m ∷ ms) = ap (or_naming (naming_now m)) (first_now ms) ∙ or_now m (first_named ms)

  mutual
    naming-renamed : (e : Expr) → naming (renamed_expr now e) ≡ naming_now (naming e)
    naming-renamed (rose n op es) =
        ap₂ or_naming (own_now op) (ap (λ (ms : List Naming). first_named (named_part (renamed_op now op) ms)) (namings-renamed es) ∙ ap first_named (part_now op (namings es)) ∙ first_now (named_part op (namings es)))
        ∙ or_now (own_naming op) (first_named (named_part op (namings es)))

    namings-renamed : (es : Roses (Unit {0}) ExprOp) → namings (renamed_exprs now es) ≡ map naming_now (namings es)
    namings-renamed no_roses = refl
    namings-renamed (more (rose n op us) es) = ap₂ (λ (x : Naming) (xs : List Naming). x ∷ xs) (naming-renamed (rose n op us)) (namings-renamed es)

  may_now : (name : OutputName) (m : Naming) → may_be_named name m ≡ true → may_be_named (renamed_output now name) (naming_now m) ≡ true
  may_now output.None m e = cc
  may_now (output.Alias a) (by_alias b) e = e
  may_now (output.Alias a) (by_column b) e = refl
  may_now (output.Alias a) (by_literal b) e = refl
  may_now (output.Alias a) unnamed e = refl
  may_now (output.ColumnLhs a) (by_column b) e = subst (λ (x : Name). bytes_eq (now a) (now x) ≡ true) (named a b e) (same_named (now a))
  may_now (output.ColumnLhs a) (by_literal b) e = cc
  may_now (output.ColumnLhs a) (by_alias b) e = cc
  may_now (output.ColumnLhs a) unnamed e = cc
  may_now (output.LiteralLhs a) (by_literal b) e = e
  may_now (output.LiteralLhs a) (by_column b) e = cc
  may_now (output.LiteralLhs a) (by_alias b) e = cc
  may_now (output.LiteralLhs a) unnamed e = cc

  pub may-renamed : (name : OutputName) (e : Expr) → may_be_named name (naming e) ≡ true → may_be_named (renamed_output now name) (naming (renamed_expr now e)) ≡ true
  may-renamed name e h = subst (λ (m : Naming). may_be_named (renamed_output now name) m ≡ true) (sym (naming-renamed e)) (may_now name (naming e) h)
