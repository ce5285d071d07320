-- What narrowed sides share with those of a join, and the checks on a join put together.
use Rattle.std.proofs.Common.{◌≡◌, ℕ, suc, ◌+◌, Bool, true, false, not, ◌&&◌, List, [], ◌∷◌, ◌++◌, length, Option, refl, sym, ap, ap₂, ◌∙◌, is_some, ⊎_elim}
use Rattle.std.specs.List.{AllByRecursion}
use Rattle.std.proofs.lemmas.Bool.{both_ways}
use Rattle.plan_core.specs.declared.data_type.DataType.{DataType}
use Rattle.plan_core.specs.declared.data_type.DataType.TheVariants as types
use Rattle.plan_core.specs.declared.error.PolarsError.TheVariants.{InvalidOperation, SchemaFieldNotFound, SchemaMismatch}
use Rattle.plan_core.specs.Columns.{Columns, names_of, type_of}
use Rattle.plan_core.specs.Names.{has, AreDistinct}
use Rattle.plan_expr.specs.Exprs.{Named}
use Rattle.plan_expr.specs.Leaves.{Name, leaves}
use Rattle.plan_expr.specs.Naming.{naming, may_be_named}
use Rattle.plan_frame.specs.ExprLists.{all_leaves}
use Rattle.plan_frame.specs.Exprs.{all_known, expr_type, is_type}
use Rattle.plan_frame.specs.Frames.{Frame, Agree}
use Rattle.plan_frame.specs.Meaning.{Cell}
use Rattle.plan_frame.specs.Orders.{key_cells}
use Rattle.plan_frame.proofs.Depends.{val_depends}
use Rattle.plan_frame.proofs.FrameLemmas.{agree_fewer}
use Rattle.plan_frame.proofs.NameSets.{has_back, has_cons, has_either, has_first, has_front, has_later, distinct_cons}
use Rattle.plan_join.specs.Naming.{join_columns}
use Rattle.plan_join.specs.Told.{Told, column_keys}
use Rattle.plan_meaning.specs.Functions.{all_differ}
use Rattle.plan_meaning.specs.Checks.{each, each_new, naming_checks, stored_checks}
use Rattle.plan_meaning.specs.JoinChecks.{conditions, is_formed_condition, is_formed_key, is_key_type, join_checks, join_exprs, join_form_checks, join_leaf_checks, join_once_checks, join_type_checks, left_keys_plain, pair_checks, right_keys_plain}
use Rattle.plan_meaning.specs.Relating.{Holding}
use Rattle.plan_meaning.specs.Typing.{AllHold}
use Rattle.plan_meaning.proofs.CheckParts.{hold_join, pass_each}
use Rattle.plan_meaning.proofs.JoinLemmas.{JoinGood}

-- names that stand once are each new
pub new_from : (k : ℕ) (before wanted : List Name) → ((a : Name) → has wanted a ≡ true → has before a ≡ false) → AreDistinct wanted → AllHold (each_new k before wanted)
new_from k before [] apart once = tt
new_from k before (a ∷ wanted) apart once =
    let parts = distinct_cons a wanted once in
    (ap not (apart a (has_first a wanted)), new_from (suc k) (before ++ a ∷ []) wanted (λ b i. at b i (has (before ++ a ∷ []) b) refl parts.0) parts.1)
  where
    only : (b : Name) → has (a ∷ []) b ≡ true → b ≡ a
    only b i = ⊎_elim (λ e. e) (λ e. none b e) (has_cons a [] b i)
      where
        none : (b : Name) → false ≡ true → b ≡ a
        none b e = cc

    at : (b : Name) → has wanted b ≡ true → (t : Bool) → has (before ++ a ∷ []) b ≡ t → has wanted a ≡ false → t ≡ false
    at b i false e out = refl
    at b i true e out = ⊎_elim
        (λ h. absurd (both_ways (has before b) (apart b (has_later a wanted b i)) h))
        (λ h. absurd (both_ways (has wanted a) out (ap (has wanted) (sym (only b h)) ∙ i)))
        (has_either before (a ∷ []) b e)

-- a name that is held has one type on both sides
pub holding_same : (l : List Name) (r s : Columns) → Holding l r s → (a : Name) → has l a ≡ true → type_of r a ≡ type_of s a
holding_same l r s h a i = let k = h.held a i in k.1 ∙ sym k.2

pub known_within : (l : List Name) (r s : Columns) → ((a : Name) → has l a ≡ true → type_of r a ≡ type_of s a) → all_known l r ≡ all_known l s
known_within [] r s h = refl
known_within (a ∷ l) r s h = ap₂ (λ (o : Option DataType) (b : Bool). is_some o && b) (h a (has_first a l)) (known_within l r s (λ b i. h b (has_later a l b i)))

-- expressions whose leaves have the same types
abbrev pub SameLeaves : List Named → Columns → Columns → Type 0
SameLeaves es r s = (b : Name) → has (all_leaves es) b ≡ true → type_of r b ≡ type_of s b

pub front_leaves : (e : Named) (es : List Named) (r s : Columns) → SameLeaves (e ∷ es) r s → (b : Name) → has (leaves e.expr) b ≡ true → type_of r b ≡ type_of s b
front_leaves e es r s h b i = h b (has_front (leaves e.expr) (all_leaves es) b i)

pub back_leaves : (e : Named) (es : List Named) (r s : Columns) → SameLeaves (e ∷ es) r s → SameLeaves es r s
back_leaves e es r s h b i = h b (has_back (leaves e.expr) (all_leaves es) b i)

pub same_known : (es : List Named) (r s : Columns) → SameLeaves es r s → AllByRecursion (λ (e : Named). all_known (leaves e.expr) s ≡ true) es → AllByRecursion (λ (e : Named). all_known (leaves e.expr) r ≡ true) es
same_known [] r s h k = tt
same_known (e ∷ es) r s h k = (known_within (leaves e.expr) r s (front_leaves e es r s h) ∙ k.0, same_known es r s (back_leaves e es r s h) k.1)

-- over frames that agree on what keys read they are the same
pub same_keys : (es : List Named) (f g : Frame) → Agree (all_leaves es) f g → key_cells es f ≡ key_cells es g
same_keys [] f g a = refl
same_keys (e ∷ es) f g a =
    let here = agree_fewer (leaves e.expr) (all_leaves (e ∷ es)) f g (λ b i. has_front (leaves e.expr) (all_leaves es) b i) a in
    let rest = agree_fewer (all_leaves es) (all_leaves (e ∷ es)) f g (λ b i. has_back (leaves e.expr) (all_leaves es) b i) a in
    ap₂ (λ (c : Cell) (cs : List Cell). c ∷ cs) (val_depends e.expr f g here) (same_keys es f g rest)

all_three : (x y z : Bool) → x ≡ true → y ≡ true → z ≡ true → (x && (y && z)) ≡ true
all_three true true z p q r = r
all_three false y z p q r = cc
all_three true false z p q r = cc

-- the checks on a join hold where each part does
pub good_join : (left_on right_on : List Named) (stored : Columns) (told : Told) (s t : Columns) → JoinGood left_on right_on stored told s t → AllHold (join_checks left_on right_on stored told s t)
unfolding join_form_checks join_leaf_checks join_type_checks join_once_checks stored_checks naming_checks
good_join left_on right_on stored told s t g =
    let wide = join_columns told.args (column_keys left_on) (column_keys right_on) s t in
    let behind = suc (length left_on + length right_on) in
    let f1 = each InvalidOperation 1 (is_formed_key (left_keys_plain told.args)) left_on in
    let f2 = each InvalidOperation (suc (length left_on)) (is_formed_key (right_keys_plain told.args)) right_on in
    let f3 = each InvalidOperation behind is_formed_condition (conditions told.options) in
    let a1 = each SchemaFieldNotFound 1 (λ (e : Named). all_known (leaves e.expr) s) left_on in
    let a2 = each SchemaFieldNotFound (suc (length left_on)) (λ (e : Named). all_known (leaves e.expr) t) right_on in
    let a3 = each SchemaFieldNotFound behind (λ (e : Named). all_known (leaves e.expr) wide) (conditions told.options) in
    let b1 = each SchemaMismatch 1 (λ (e : Named). is_key_type told.args.how (expr_type e.expr s)) left_on in
    let b2 = pair_checks told.args.how (suc (length left_on)) s t left_on right_on in
    let b3 = each SchemaMismatch behind (λ (e : Named). is_type (expr_type e.expr wide) types.Boolean) (conditions told.options) in
    let rest = stored_checks stored wide ++ naming_checks (join_exprs left_on right_on told) in
    let once = join_once_checks s t wide in
    let typed = join_type_checks left_on right_on told s t wide in
    let known = join_leaf_checks left_on right_on told s t wide in
    hold_join (join_form_checks left_on right_on told) (known ++ (typed ++ (once ++ rest)))
    (g.built, hold_join f1 (f2 ++ f3) (pass_each InvalidOperation 1 (is_formed_key (left_keys_plain told.args)) left_on g.left_formed) (hold_join f2 f3 (pass_each InvalidOperation (suc (length left_on)) (is_formed_key (right_keys_plain told.args)) right_on g.right_formed) (pass_each InvalidOperation behind is_formed_condition (conditions told.options) g.condition_formed)))
    (hold_join known (typed ++ (once ++ rest))
    (hold_join a1 (a2 ++ a3) (pass_each SchemaFieldNotFound 1 (λ (e : Named). all_known (leaves e.expr) s) left_on g.left_known) (hold_join a2 a3 (pass_each SchemaFieldNotFound (suc (length left_on)) (λ (e : Named). all_known (leaves e.expr) t) right_on g.right_known) (pass_each SchemaFieldNotFound behind (λ (e : Named). all_known (leaves e.expr) wide) (conditions told.options) g.condition_known)))
    (hold_join typed (once ++ rest)
    (hold_join b1 (b2 ++ b3) (pass_each SchemaMismatch 1 (λ (e : Named). is_key_type told.args.how (expr_type e.expr s)) left_on g.left_typed) (hold_join b2 b3 g.pairs (pass_each SchemaMismatch behind (λ (e : Named). is_type (expr_type e.expr wide) types.Boolean) (conditions told.options) g.condition_typed)))
    (all_three (all_differ (names_of s)) (all_differ (names_of t)) (all_differ (names_of wide)) g.left_differ g.right_differ g.differ, (g.same, pass_each SchemaMismatch 1 (λ (e : Named). may_be_named e.name (naming e.expr)) (join_exprs left_on right_on told) g.named))))
