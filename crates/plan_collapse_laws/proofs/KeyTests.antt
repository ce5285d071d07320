-- The keys of a minterm: what is known of them, and that they match or meet in two rows where the minterm is true of the pair.
use Rattle.std.proofs.Common.{◌≡◌, ◌∙◌, ◌<◌, ℕ, Bool, true, false, not, ◌&&◌, ◌||◌, cond, [], ◌∷◌, Option, Some, None, is_some, refl, sym, ap, ap₂, subst}
use Rattle.std.specs.Prelude.{option_and_then}
use Rattle.std.proofs.lemmas.Bool.{and_parts as parts_of}
use Rattle.plan_core.specs.declared.data_type.DataType.{DataType}
use Rattle.plan_core.specs.declared.data_type.DataType.TheVariants as types
use Rattle.plan_core.specs.Columns.{Columns, names_of}
use Rattle.plan_core.specs.Names.{AreDistinct}
use Rattle.plan_options.specs.declared.join.JoinArgs.{JoinArgs}
use Rattle.plan_tree.specs.Rose.{rose, no_roses, more}
use Rattle.plan_expr.specs.declared.operator.Operator.{Operator}
use Rattle.plan_expr.specs.declared.operator.Operator.TheVariants.{Eq, Lt, LtEq, Gt, GtEq}
use Rattle.plan_expr.specs.Exprs.{binary, Expr}
use Rattle.plan_expr.specs.Forms.{has_form}
use Rattle.plan_expr.specs.Types.{all_of, are_alike, gives, is_plain, same_type, takes}
use Rattle.plan_join.specs.declared.origin.Side.TheVariants as sides
use Rattle.plan_join.specs.Naming.{join_columns}
use Rattle.plan_frame.specs.Values.{Value, IsOf, is_null, is_true, same_value}
use Rattle.plan_frame.specs.Exprs.{expr_type, is_type, op_type}
use Rattle.plan_frame.specs.Frames.{Frame, HasSchema}
use Rattle.plan_frame.specs.Meaning.{operated, val, value_at}
use Rattle.plan_frame.proofs.FrameLemmas.{is_type_some}
use Rattle.plan_frame.proofs.SameValues.{value_decides}
use Rattle.plan_join.specs.Pairs.{both}
use Rattle.plan_join.specs.Matching.{key_matches}
use Rattle.plan_meaning.specs.JoinChecks.{is_elementwise}
use Rattle.plan_collapse_laws.specs.FilteredFrames.{holds, PutsOutAll}
use Rattle.plan_collapse_laws.proofs.Keys.{equal-keys, turned-less, turned-at_most}
use Rattle.plan_collapse_laws.specs.CrossKeys.{Crossed, KeyPair, all_from, equality_keys, inequality_keys, inequality_of, is_equality, own_expr, own_name, paired, turned_round, whole_only, equal_at, meets_at}
use Rattle.plan_pruned.proofs.JoinRenames.{form-renamed}
use Rattle.plan_collapse_laws.proofs.OneSide.{cross, wide, left_known, left_type, right_known, right_type}
use Rattle.plan_collapse_laws.proofs.PairHolds.{pair, left_operand, operand_type, operator_holds, right_operand}
use Rattle.plan_collapse_laws.specs.Predicates.{IsPredicate, KeyGood, MeetGood}

-- two operands that may be compared: they have forms, work row by row, and have one plain type
pub record Comparable (s : Columns) (l r : Expr) : Type 0 where
  pub left_formed : has_form l ≡ true
  pub right_formed : has_form r ≡ true
  pub left_by_row : is_elementwise l ≡ true
  pub right_by_row : is_elementwise r ≡ true
  pub kind : DataType
  pub left_typed : expr_type l s ≡ Some kind
  pub right_typed : expr_type r s ≡ Some kind
  pub plain : is_plain kind ≡ true

turned_operands : (s : Columns) (l r : Expr) → Comparable s l r → Comparable s r l
turned_operands s l r c = record {
  left_formed = c.right_formed;
  right_formed = c.left_formed;
  left_by_row = c.right_by_row;
  right_by_row = c.left_by_row;
  kind = c.kind;
  left_typed = c.right_typed;
  right_typed = c.left_typed;
  plain = c.plain;
}

takes_alike : (op : Operator) → (is_equality op || is_some (inequality_of op)) ≡ true → (t u : DataType) → takes op t u ≡ are_alike t u
takes_alike Eq e t u = refl
takes_alike Lt e t u = refl
takes_alike LtEq e t u = refl
takes_alike Gt e t u = refl
takes_alike GtEq e t u = refl
takes_alike op e t u = cc

one_kind : (op : Operator) → (is_equality op || is_some (inequality_of op)) ≡ true → (t u : Option DataType) → is_type (option_and_then (op_type (binary op) []) (all_of (t ∷ u ∷ []))) types.Boolean ≡ true → (k : DataType) × (t ≡ Some k) × (u ≡ Some k) × (is_plain k ≡ true)
one_kind op e None u h = cc
one_kind op e (Some t) None h = cc
one_kind op e (Some t) (Some u) h = at (are_alike t u) refl (sym (ap (λ (b : Bool). is_type (cond b (Some (gives op)) None) types.Boolean) (takes_alike op e t u)) ∙ h)
  where
    at : (b : Bool) → are_alike t u ≡ b → is_type (cond b (Some (gives op)) None) types.Boolean ≡ true → (k : DataType) × (Some t ≡ Some k) × (Some u ≡ Some k) × (is_plain k ≡ true)
    at true q m = let p = parts_of (same_type t u) (is_plain t) q in (t, refl, sym (is_type_some (Some t) u p.0), p.1)
    at false q m = cc

comparable : (s : Columns) (op : Operator) (l r : Expr) → (is_equality op || is_some (inequality_of op)) ≡ true → IsPredicate s (rose tt (binary op) (more l (more r no_roses))) → Comparable s l r
comparable s op l r e p =
    let f = parts_of (has_form l) (has_form r && true) p.formed in
    let w = parts_of (is_elementwise l) (is_elementwise r && true) p.by_row in
    let k = one_kind op e (expr_type l s) (expr_type r s) p.truth in
    record {
      left_formed = f.0;
      right_formed = (parts_of (has_form r) true f.1).0;
      left_by_row = w.0;
      right_by_row = (parts_of (is_elementwise r) true w.1).0;
      kind = k.0;
      left_typed = k.1;
      right_typed = k.2;
      plain = k.3;
    }

-- how a comparison gave its keys: as it stands, or turned round
data Gives (j : Crossed) (s : Columns) (op : Operator) : Expr → KeyPair → Type 0 where
  straight : (l r : Expr) → Comparable s l r → all_from j sides.Left l ≡ true → all_from j sides.Right r ≡ true → Gives j s op (rose tt (binary op) (more l (more r no_roses))) (record { op = op; left_key = l; right_key = own_expr j r })
  turned : (l r : Expr) → Comparable s l r → all_from j sides.Right l ≡ true → all_from j sides.Left r ≡ true → Gives j s op (rose tt (binary op) (more l (more r no_roses))) (record { op = turned_round op; left_key = r; right_key = own_expr j l })

same_key : (x y : KeyPair) → Some x ≡ Some y → x ≡ y
same_key x y e = cc

gives_pair : (j : Crossed) (s : Columns) (op : Operator) (l r : Expr) (k : KeyPair) → Comparable s l r → paired j op l r ≡ Some k → Gives j s op (rose tt (binary op) (more l (more r no_roses))) k
gives_pair j s op l r k c e = at (all_from j sides.Left l && all_from j sides.Right r) refl (all_from j sides.Right l && all_from j sides.Left r) refl e
  where
    at : (a : Bool) → (all_from j sides.Left l && all_from j sides.Right r) ≡ a → (b : Bool) → (all_from j sides.Right l && all_from j sides.Left r) ≡ b → cond a (Some (record { op = op; left_key = l; right_key = own_expr j r })) (cond b (Some (record { op = turned_round op; left_key = r; right_key = own_expr j l })) None) ≡ Some k → Gives j s op (rose tt (binary op) (more l (more r no_roses))) k
    at true p b q m = let x = parts_of (all_from j sides.Left l) (all_from j sides.Right r) p in
        subst (Gives j s op (rose tt (binary op) (more l (more r no_roses)))) (same_key (record { op = op; left_key = l; right_key = own_expr j r }) k m) (straight l r c x.0 x.1)
    at false p true q m = let x = parts_of (all_from j sides.Right l) (all_from j sides.Left r) q in
        subst (Gives j s op (rose tt (binary op) (more l (more r no_roses)))) (same_key (record { op = turned_round op; left_key = r; right_key = own_expr j l }) k m) (turned l r c x.0 x.1)
    at false p false q m = cc

equality_gives : (j : Crossed) (s : Columns) (e : Expr) (k : KeyPair) → IsPredicate s e → equality_keys j e ≡ Some k → Gives j s Eq e k
equality_gives j s (rose n (binary op) (more l (more r no_roses))) k p q = only op p q
  where
    only : (op : Operator) → IsPredicate s (rose n (binary op) (more l (more r no_roses))) → equality_keys j (rose n (binary op) (more l (more r no_roses))) ≡ Some k → Gives j s Eq (rose n (binary op) (more l (more r no_roses))) k
    only Eq p q = gives_pair j s Eq l r k (comparable s Eq l r refl p) q
    only op p q = absurd (none q)
      where
        none : None ≡ Some k → ⊥
        none m = cc
equality_gives j s e k p q = absurd (none q)
  where
    none : None ≡ Some k → ⊥
    none m = cc

-- an inequality gives keys of whole numbers
inequality_gives : (j : Crossed) (s : Columns) (e : Expr) (k : KeyPair) → IsPredicate s e → inequality_keys j e ≡ Some k → (op : Operator) × (is_some (inequality_of op) ≡ true) × Gives j s op e k × (is_type (expr_type k.left_key j.left) types.Int64 ≡ true)
inequality_gives j s (rose n (binary op) (more l (more r no_roses))) k p q = at (is_some (inequality_of op)) refl q
  where
    or_right : (b : Bool) → (b || true) ≡ true
    or_right true = refl
    or_right false = refl

    only : (c : Comparable s l r) → (x : KeyPair) → Gives j s op (rose n (binary op) (more l (more r no_roses))) x → (b : Bool) → is_type (expr_type x.left_key j.left) types.Int64 ≡ b → cond b (Some x) None ≡ Some k → Gives j s op (rose n (binary op) (more l (more r no_roses))) k × (is_type (expr_type k.left_key j.left) types.Int64 ≡ true)
    only c x g true w m = let same = same_key x k m in (subst (Gives j s op (rose n (binary op) (more l (more r no_roses)))) same g, subst (λ (y : KeyPair). is_type (expr_type y.left_key j.left) types.Int64 ≡ true) same w)
    only c x g false w m = cc

    found : (c : Comparable s l r) (o : Option KeyPair) → paired j op l r ≡ o → option_and_then (whole_only j.left) o ≡ Some k → Gives j s op (rose n (binary op) (more l (more r no_roses))) k × (is_type (expr_type k.left_key j.left) types.Int64 ≡ true)
    found c None e m = cc
    found c (Some x) e m = only c x (gives_pair j s op l r x c e) (is_type (expr_type x.left_key j.left) types.Int64) refl m

    at : (b : Bool) → is_some (inequality_of op) ≡ b → cond b (option_and_then (whole_only j.left) (paired j op l r)) None ≡ Some k → (o : Operator) × (is_some (inequality_of o) ≡ true) × Gives j s o (rose n (binary op) (more l (more r no_roses))) k × (is_type (expr_type k.left_key j.left) types.Int64 ≡ true)
    at true e m =
        let either : (is_equality op || is_some (inequality_of op)) ≡ true = ap (λ (b : Bool). is_equality op || b) e ∙ or_right (is_equality op) in
        let c = comparable s op l r either p in
        let f = found c (paired j op l r) refl m in
        (op, e, f.0, f.1)
    at false e m = cc
inequality_gives j s e k p q = absurd (none q)
  where
    none : None ≡ Some k → ⊥
    none m = cc

-- turned round

key_turned : (v w : Value) → key_matches false v w ≡ key_matches false w v
key_turned v w = at (same_value v w) refl (same_value w v) refl
  where
    at : (a : Bool) → same_value v w ≡ a → (b : Bool) → same_value w v ≡ b → key_matches false v w ≡ key_matches false w v
    at true e b d = let same : v ≡ w = (value_decides v w).0 e in ap₂ (key_matches false) same (sym same)
    at false e true d = let same : w ≡ v = (value_decides w v).0 d in ap₂ (key_matches false) (sym same) same
    at false e false d = ap (λ (x : Bool). x && (false || not (is_null v))) e ∙ sym (ap (λ (x : Bool). x && (false || not (is_null w))) d)

turned_holds : (op : Operator) → is_some (inequality_of op) ≡ true → (v w : Value) → IsOf types.Int64 v → IsOf types.Int64 w → is_true (operated op v w) ≡ is_true (operated (turned_round op) w v)
turned_holds Lt e v w h k = turned-less v w h k
turned_holds LtEq e v w h k = turned-at_most v w h k
turned_holds Gt e v w h k = sym (turned-less w v k h)
turned_holds GtEq e v w h k = sym (turned-at_most w v k h)
turned_holds op e v w h k = cc

turned_unequal : (op : Operator) → is_some (inequality_of op) ≡ true → is_some (inequality_of (turned_round op)) ≡ true
turned_unequal Lt e = refl
turned_unequal LtEq e = refl
turned_unequal Gt e = refl
turned_unequal GtEq e = refl
turned_unequal op e = cc

module _ (args : JoinArgs) (all : PutsOutAll args) (s t : Columns) (apart : AreDistinct (names_of (join_columns args [] [] s t))) where
  key_good : (op : Operator) (l r : Expr) → Comparable (wide args all s t) l r → all_from (cross args all s t) sides.Left l ≡ true → all_from (cross args all s t) sides.Right r ≡ true → KeyGood s t (record { op = op; left_key = l; right_key = own_expr (cross args all s t) r })
  key_good op l r c hl hr = record {
    left_formed = c.left_formed;
    right_formed = form-renamed (own_name (cross args all s t)) r ∙ c.right_formed;
    left_known = left_known args all s t l hl;
    right_known = right_known args all s t r hr;
    kind = c.kind;
    left_typed = left_type args all s t apart l hl ∙ c.left_typed;
    right_typed = right_type args all s t apart r hr ∙ c.right_typed;
    plain = c.plain;
  }

  gives_good : (op : Operator) (e : Expr) (k : KeyPair) → Gives (cross args all s t) (wide args all s t) op e k → KeyGood s t k
  gives_good op e k (straight l r c hl hr) = key_good op l r c hl hr
  gives_good op e k (turned l r c hl hr) = key_good (turned_round op) r l (turned_operands (wide args all s t) l r c) hr hl

  pub equality_good : (e : Expr) (k : KeyPair) → IsPredicate (wide args all s t) e → equality_keys (cross args all s t) e ≡ Some k → KeyGood s t k
  equality_good e k p q = gives_good Eq e k (equality_gives (cross args all s t) (wide args all s t) e k p q)

  gives_unequal : (op : Operator) (e : Expr) (k : KeyPair) → is_some (inequality_of op) ≡ true → Gives (cross args all s t) (wide args all s t) op e k → is_some (inequality_of k.op) ≡ true
  gives_unequal op e k u (straight l r c hl hr) = u
  gives_unequal op e k u (turned l r c hl hr) = turned_unequal op u

  whole_kind : (k : KeyPair) (g : KeyGood s t k) → is_type (expr_type k.left_key s) types.Int64 ≡ true → g.kind ≡ types.Int64
  whole_kind k g w = some_kind (sym g.left_typed ∙ is_type_some (expr_type k.left_key s) types.Int64 w)
    where
      some_kind : Some g.kind ≡ Some types.Int64 → g.kind ≡ types.Int64
      some_kind e = cc

  pub inequality_good : (e : Expr) (k : KeyPair) → IsPredicate (wide args all s t) e → inequality_keys (cross args all s t) e ≡ Some k → MeetGood s t k
  inequality_good e k p q =
      let x = inequality_gives (cross args all s t) (wide args all s t) e k p q in
      let g = gives_good x.0 e k x.2 in
      record { good = g; whole = whole_kind k g x.3; unequal = gives_unequal x.0 e k x.1 x.2 }

  -- over a pair of rows
  module _ (once_s : AreDistinct (names_of s)) (once_t : AreDistinct (names_of t)) (f g : Frame) (hf : HasSchema f s) (hg : HasSchema g t) (i j : ℕ) (li : i < f.height) (lj : j < g.height) where
    abbrev over : Expr → Value
    over e = value_at (val e (pair args all s t apart f g hf hg i j)) 0

    both_keys : (test : Value → Value → Bool) (l r : Expr) → Comparable (wide args all s t) l r → all_from (cross args all s t) sides.Left l ≡ true → all_from (cross args all s t) sides.Right r ≡ true → test (over l) (over r) ≡ test (value_at (val l f) i) (value_at (val (own_expr (cross args all s t) r) g) j)
    both_keys test l r c hl hr = ap₂ test (left_operand args all s t apart f g hf hg i j l c.left_by_row hl li) (right_operand args all s t apart f g hf hg i j r c.right_by_row hr lj)

    of_kind : (e : Expr) (k : DataType) → expr_type e (wide args all s t) ≡ Some k → IsOf k (over e)
    of_kind e k q = operand_type args all s t apart f g hf hg i j once_s once_t e k q

    equal : (e : Expr) (k : KeyPair) → Gives (cross args all s t) (wide args all s t) Eq e k → holds args [] [] f g e (both i j) ≡ equal_at k f g i j
    equal e k (straight l r c hl hr) =
        operator_holds args all s t apart f g hf hg i j Eq l r c.left_by_row c.right_by_row
        ∙ equal-keys c.kind (over l) (over r) c.plain (of_kind l c.kind c.left_typed) (of_kind r c.kind c.right_typed)
        ∙ both_keys (key_matches false) l r c hl hr
    equal e k (turned l r c hl hr) =
        operator_holds args all s t apart f g hf hg i j Eq l r c.left_by_row c.right_by_row
        ∙ equal-keys c.kind (over l) (over r) c.plain (of_kind l c.kind c.left_typed) (of_kind r c.kind c.right_typed)
        ∙ key_turned (over l) (over r)
        ∙ both_keys (key_matches false) r l (turned_operands (wide args all s t) l r c) hr hl

    -- an eligible equality is true of a pair where its keys match
    pub equality_holds : (e : Expr) (k : KeyPair) → IsPredicate (wide args all s t) e → equality_keys (cross args all s t) e ≡ Some k → holds args [] [] f g e (both i j) ≡ equal_at k f g i j
    equality_holds e k p q = equal e k (equality_gives (cross args all s t) (wide args all s t) e k p q)

    meets : (op : Operator) (e : Expr) (k : KeyPair) → is_some (inequality_of op) ≡ true → Gives (cross args all s t) (wide args all s t) op e k → is_type (expr_type k.left_key s) types.Int64 ≡ true → holds args [] [] f g e (both i j) ≡ meets_at k f g i j
    unfolding key_good turned_operands
    meets op e k u (straight l r c hl hr) w =
        operator_holds args all s t apart f g hf hg i j op l r c.left_by_row c.right_by_row
        ∙ both_keys (λ (v w : Value). is_true (operated op v w)) l r c hl hr
    meets op e k u (turned l r c hl hr) w =
        let d = turned_operands (wide args all s t) l r c in
        let whole = whole_kind (record { op = turned_round op; left_key = r; right_key = own_expr (cross args all s t) l }) (key_good (turned_round op) r l d hr hl) w in
        operator_holds args all s t apart f g hf hg i j op l r c.left_by_row c.right_by_row
        ∙ turned_holds op u (over l) (over r) (subst (λ (k : DataType). IsOf k (over l)) whole (of_kind l c.kind c.left_typed)) (subst (λ (k : DataType). IsOf k (over r)) whole (of_kind r c.kind c.right_typed))
        ∙ both_keys (λ (v w : Value). is_true (operated (turned_round op) v w)) r l d hr hl

    -- and an eligible inequality where its keys meet it
    pub inequality_holds : (e : Expr) (k : KeyPair) → IsPredicate (wide args all s t) e → inequality_keys (cross args all s t) e ≡ Some k → holds args [] [] f g e (both i j) ≡ meets_at k f g i j
    inequality_holds e k p q =
        let x = inequality_gives (cross args all s t) (wide args all s t) e k p q in
        meets x.0 e k x.1 x.2 x.3
