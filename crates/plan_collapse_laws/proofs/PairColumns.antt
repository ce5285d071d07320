-- Two additions of which the upper one's expressions sink into the lower: their names and columns.
use Rattle.std.proofs.Common.{◌≡◌, ◌∙◌, ◌++◌, Bool, true, false, not, ◌&&◌, ◌||◌, cond, List, [], ◌∷◌, Option, Some, None, is_some, unwrap_or, refl, sym, ap, ap₂, subst, inl, inr}
use Rattle.std.specs.List.{AllByRecursion, IsDistinct, filter as only_where}
use Rattle.std.specs.Str.{bytes_eq}
use Rattle.std.proofs.lemmas.Bool.{and_parts as parts_of, both_ways, false_from_ne_true}
use Rattle.plan_core.specs.declared.data_type.DataType.{DataType}
use Rattle.plan_core.specs.Columns.{Columns, names_of, type_of, with_type}
use Rattle.plan_core.specs.Names.{has, with_name, with_names, AreDistinct}
use Rattle.plan_expr.specs.Exprs.{Named}
use Rattle.plan_expr.specs.Leaves.{Name, leaves}
use Rattle.plan_frame.specs.Exprs.{expr_type}
use Rattle.plan_frame.specs.ExprLists.{out_names, all_leaves}
use Rattle.plan_frame.specs.Made.{made_column, made_schema}
use Rattle.plan_core.specs.declared.data_type.DataType.TheVariants as types
use Rattle.plan_frame.proofs.Depends.{type_within}
use Rattle.plan_frame.proofs.MadeColumns.{type_of-with_type}
use Rattle.plan_frame.proofs.NameSets.{named, same_named, has_first, has_later, has_front, has_back, distinct_cons, distinct_names}
use Rattle.plan_meaning.proofs.CheckParts.{pass_names}
use Rattle.plan_meaning.proofs.KeptExprs.{all_append, names-join}
use Rattle.plan_collapse_laws.specs.Staying.{HoldsStaying, out, reads_one, IsOne}
use Rattle.plan_collapse_laws.specs.Meeting.{replaced, takes_place, moves_down, named_in}
use Rattle.plan_collapse_laws.proofs.NamedExprs.{named_is, some-named, none_named, named-where, named-append, named-replaced, names-replaced, unread, all_named, kept, or_named, in_place}
use Rattle.plan_collapse_laws.proofs.Staying.{one_all, one_of, named_passing}
use Rattle.plan_collapse_laws.proofs.Ordered.{with-known, names-joined}

-- what is read of an expression that is found by name

abbrev pub look_at : {X : Type 0} → (Named → X) → Option Named → Option X → Option X
look_at f None o = o
look_at f (Some e) o = Some (f e)

-- columns of one list of distinct names with one type each are one

pub same-columns : (xs ys : Columns) → names_of xs ≡ names_of ys → AreDistinct (names_of ys) → ((b : Name) → type_of xs b ≡ type_of ys b) → xs ≡ ys
same-columns [] [] e d same = refl
same-columns [] (y ∷ ys) e d same = cc
same-columns (x ∷ xs) [] e d same = cc
same-columns (x ∷ xs) (y ∷ ys) e d same =
    let one : x.0 ≡ y.0 = cc in
    let rest : names_of xs ≡ names_of ys = cc in
    let p = distinct_cons y.0 (names_of ys) d in
    let some : Some x.1 ≡ Some y.1 = sym (ap (λ (b : Bool). cond b (Some x.1) (type_of xs y.0)) (ap (bytes_eq y.0) one ∙ same_named y.0)) ∙ same y.0 ∙ ap (λ (b : Bool). cond b (Some y.1) (type_of ys y.0)) (same_named y.0) in
    let kind : x.1 ≡ y.1 = some_is x.1 y.1 some in
    ap₂ (λ (c : Name × DataType) (cs : Columns). c ∷ cs) (ap₂ (λ (a : Name) (t : DataType). (a, t)) one kind)
    (same-columns xs ys rest p.1 (λ b. later b (has (names_of ys) b) refl (bytes_eq b y.0) refl))
  where
    some_is : (t v : DataType) → Some t ≡ Some v → t ≡ v
    some_is t v q = ap (λ (o : Option DataType). unwrap_or o t) q

    absent : (cs : Columns) (b : Name) → has (names_of cs) b ≡ false → type_of cs b ≡ None
    absent [] b n = refl
    absent (c ∷ cs) b n = at (bytes_eq b c.0) n (λ m. absent cs b m)
      where
        at : (t : Bool) → (t || has (names_of cs) b) ≡ false → (has (names_of cs) b ≡ false → type_of cs b ≡ None) → cond t (Some c.1) (type_of cs b) ≡ None
        at true m r = cc
        at false m r = r m

    later : (b : Name) (i : Bool) → has (names_of ys) b ≡ i → (t : Bool) → bytes_eq b y.0 ≡ t → type_of xs b ≡ type_of ys b
    later b i n true q =
        let is : b ≡ y.0 = named b y.0 q in
        let none : has (names_of ys) b ≡ false = ap (has (names_of ys)) is ∙ (distinct_cons y.0 (names_of ys) d).0 in
        let names : names_of xs ≡ names_of ys = cc in
        absent xs b (ap (λ (ns : List Name). has ns b) names ∙ none) ∙ sym (absent ys b none)
    later b i n false q =
        let one : x.0 ≡ y.0 = cc in
        sym (ap (λ (t : Bool). cond t (Some x.1) (type_of xs b)) (ap (bytes_eq b) one ∙ q)) ∙ same b ∙ ap (λ (t : Bool). cond t (Some y.1) (type_of ys b)) q

-- the names and types of what expressions make

one-name : (cs : Columns) (a : Name) (t : DataType) → names_of (with_type cs a t) ≡ with_name (names_of cs) a
one-name [] a t = refl
one-name (c ∷ cs) a t = at (bytes_eq a c.0) refl (one-name cs a t)
  where
    later : (b : Bool) → c.0 ∷ cond b (names_of cs) (names_of cs ++ a ∷ []) ≡ cond b (c.0 ∷ names_of cs) ((c.0 ∷ names_of cs) ++ a ∷ [])
    later true = refl
    later false = refl

    at : (b : Bool) → bytes_eq a c.0 ≡ b → names_of (with_type cs a t) ≡ with_name (names_of cs) a → names_of (cond b ((c.0, t) ∷ cs) (c ∷ with_type cs a t)) ≡ cond (b || has (names_of cs) a) (c.0 ∷ names_of cs) ((c.0 ∷ names_of cs) ++ a ∷ [])
    at true q r = refl
    at false q r = ap (λ (ns : List Name). c.0 ∷ ns) r ∙ later (has (names_of cs) a)

pub names-schema : (base s : Columns) (es : List Named) → names_of (made_schema base es s) ≡ with_names (names_of base) (out_names es)
names-schema base s [] = refl
names-schema base s (e ∷ es) = names-schema (with_type base (out e) (made_column s e).1) s es ∙ ap (λ (ns : List Name). with_names ns (out_names es)) (one-name base (out e) (made_column s e).1)

abbrev pub type_made : Columns → Named → DataType
type_made s e = unwrap_or (expr_type e.expr s) types.Int64

pub types-schema : (base s : Columns) (es : List Named) (b : Name) → AreDistinct (out_names es) → type_of (made_schema base es s) b ≡ look_at (type_made s) (named_in es b) (type_of base b)
types-schema base s [] b d = refl
types-schema base s (e ∷ es) b d =
    let p = distinct_cons (out e) (out_names es) d in
    types-schema (with_type base (out e) (type_made s e)) s es b p.1
    ∙ ap (look_at (type_made s) (named_in es b)) (type_of-with_type base (out e) (type_made s e) b)
    ∙ at (bytes_eq b (out e)) refl p.0
  where
    at : (t : Bool) → bytes_eq b (out e) ≡ t → has (out_names es) (out e) ≡ false → look_at (type_made s) (named_in es b) (cond t (Some (type_made s e)) (type_of base b)) ≡ look_at (type_made s) (cond t (Some e) (named_in es b)) (type_of base b)
    at true q n = ap (λ (o : Option Named). look_at (type_made s) o (Some (type_made s e))) (none_named es b (ap (has (out_names es)) (named b (out e) q) ∙ n))
    at false q n = refl

-- distinct names

names_where : (P : Name → Type 0) (p : Named → Bool) (xs : List Named) → AllByRecursion P (out_names xs) → AllByRecursion P (out_names (only_where p xs))
names_where P p [] h = tt
names_where P p (x ∷ xs) h = at (p x) (names_where P p xs h.1)
  where
    at : (t : Bool) → AllByRecursion P (out_names (only_where p xs)) → AllByRecursion P (out_names (cond t (x ∷ only_where p xs) (only_where p xs)))
    at true r = (h.0, r)
    at false r = r

pub filter_distinct : (p : Named → Bool) (xs : List Named) → AreDistinct (out_names xs) → AreDistinct (out_names (only_where p xs))
unfolding IsDistinct
filter_distinct p [] d = tt
filter_distinct p (x ∷ xs) d = at (p x) (filter_distinct p xs d.1)
  where
    at : (t : Bool) → AreDistinct (out_names (only_where p xs)) → AreDistinct (out_names (cond t (x ∷ only_where p xs) (only_where p xs)))
    at true r = (names_where (λ (y : Name). bytes_eq (out x) y ≡ false) p xs d.0, r)
    at false r = r

distinct_join : (xs ys : List Name) → AreDistinct xs → AreDistinct ys → ((b : Name) → has xs b ≡ true → has ys b ≡ false) → AreDistinct (xs ++ ys)
unfolding IsDistinct
distinct_join [] ys d e apart = e
distinct_join (x ∷ xs) ys d e apart = (
  all_append (λ (y : Name). bytes_eq x y ≡ false) xs ys d.0 (pass_names (λ (y : Name). bytes_eq x y ≡ false) ys (λ y j. false_from_ne_true (bytes_eq x y) (λ q. both_ways (has ys x) (apart x (has_first x xs)) (subst (λ (z : Name). has ys z ≡ true) (sym (named x y q)) j)))),
  distinct_join xs ys d.1 e (λ b i. apart b (has_later x xs b i)),
)

not_both : (b : Bool) → not b ≡ true → b ≡ false
not_both true q = cc
not_both false q = refl

pub leaf_one : (es : List Named) (d : Named) (a : Name) → IsOne d es → has (leaves d.expr) a ≡ true → has (all_leaves es) a ≡ true
leaf_one [] d a i k = absurd i
leaf_one (x ∷ es) d a (inl q) k = has_front (leaves x.expr) (all_leaves es) a (ap (λ (y : Named). has (leaves y.expr) a) (sym q) ∙ k)
leaf_one (x ∷ es) d a (inr i) k = has_back (leaves x.expr) (all_leaves es) a (leaf_one es d a i k)

pub named_one : (es : List Named) (b : Name) (d : Named) → named_in es b ≡ Some d → IsOne d es
named_one es b d q = all_named (λ (e : Named). IsOne e es) es b d (one_all (λ (e : Named). IsOne e es) es (λ e i. i)) q

pub all_passing : (P : Named → Type 0) (p : Named → Bool) (xs : List Named) → ((e : Named) → IsOne e xs → p e ≡ true → P e) → AllByRecursion P (only_where p xs)
all_passing P p [] by = tt
all_passing P p (x ∷ xs) by = at (p x) refl (all_passing P p xs (λ e i. by e (inr i)))
  where
    at : (t : Bool) → p x ≡ t → AllByRecursion P (only_where p xs) → AllByRecursion P (cond t (x ∷ only_where p xs) (only_where p xs))
    at true q r = (by x (inl refl) q, r)
    at false q r = r

all_replaced : (P : Named → Type 0) (upper lower : List Named) → AllByRecursion P upper → AllByRecursion P lower → AllByRecursion P (replaced upper lower)
all_replaced P upper [] h k = tt
all_replaced P upper (l ∷ lower) h k = (at (named_in upper (out l)) refl, all_replaced P upper lower h k.1)
  where
    at : (o : Option Named) → named_in upper (out l) ≡ o → P (unwrap_or o l)
    at None q = k.0
    at (Some x) q = all_named P upper (out l) x h q

-- the pair

module _ (es ls : List Named) (stay : Named → Bool) where
  abbrev pub lows : List Name
  lows = out_names ls

  abbrev pub stayed_of : List Named
  stayed_of = only_where stay es

  abbrev pub taking_of : List Named
  taking_of = only_where (takes_place (out_names ls) stay) es

  abbrev pub moving_of : List Named
  moving_of = only_where (moves_down (out_names ls) stay) es

  abbrev pub sunk_of : List Named
  sunk_of = replaced (only_where (takes_place (out_names ls) stay) es) ls ++ only_where (moves_down (out_names ls) stay) es

  pub names-sunk : out_names sunk_of ≡ out_names ls ++ out_names moving_of
  names-sunk = names-join (replaced taking_of ls) moving_of ∙ ap (λ (ns : List Name). ns ++ out_names moving_of) (names-replaced taking_of ls)

  pub all_sunk : (P : Named → Type 0) → ((e : Named) → IsOne e es → stay e ≡ false → P e) → AllByRecursion P ls → AllByRecursion P sunk_of
  all_sunk P by k = all_append P (replaced taking_of ls) moving_of
      (all_replaced P taking_of ls (all_passing P (takes_place (out_names ls) stay) es (λ e i q. by e i (not_both (stay e) (parts_of (not (stay e)) (has (out_names ls) (out e)) q).0))) k)
      (all_passing P (moves_down (out_names ls) stay) es (λ e i q. by e i (not_both (stay e) (parts_of (not (stay e)) (not (has (out_names ls) (out e))) q).0)))

  module _ (once : AreDistinct (out_names es)) (once_lower : AreDistinct (out_names ls)) where
    moves_apart : (b : Name) → has (out_names ls) b ≡ true → has (out_names moving_of) b ≡ false
    moves_apart b i = false_from_ne_true (has (out_names moving_of) b) (λ j.
        let x = named_passing (moves_down (out_names ls) stay) es b j in
        both_ways (has (out_names ls) (out x.0)) (not_both (has (out_names ls) (out x.0)) (parts_of (not (stay x.0)) (not (has (out_names ls) (out x.0))) x.2).1) (ap (has (out_names ls)) (sym x.3) ∙ i))

    pub once_sunk : AreDistinct (out_names sunk_of)
    once_sunk = subst AreDistinct (sym names-sunk) (distinct_join (out_names ls) (out_names moving_of) once_lower (filter_distinct (moves_down (out_names ls) stay) es once) moves_apart)

    pub named-sunk : (b : Name) → named_in sunk_of b ≡ or_named (in_place (kept (takes_place (out_names ls) stay) (named_in es b)) (named_in ls b)) (kept (moves_down (out_names ls) stay) (named_in es b))
    named-sunk b =
        named-append (replaced taking_of ls) moving_of b
        ∙ ap₂ or_named (named-replaced taking_of ls b ∙ ap (λ (o : Option Named). in_place o (named_in ls b)) (named-where (takes_place (out_names ls) stay) es b once)) (named-where (moves_down (out_names ls) stay) es b once)

    -- what is found at a name after the move, and what was
    pub core : {X : Type 0} (f0 f1 f2 : Named → X) (o : Option X) (b : Name) → ((d : Named) → named_in es b ≡ Some d → stay d ≡ true → f2 d ≡ f1 d) → ((d : Named) → named_in es b ≡ Some d → stay d ≡ false → f0 d ≡ f1 d) → look_at f2 (named_in stayed_of b) (look_at f0 (named_in sunk_of b) o) ≡ look_at f1 (named_in es b) (look_at f0 (named_in ls b) o)
    core f0 f1 f2 o b stays sinks =
        ap (λ (x : Option Named). look_at f2 x (look_at f0 (named_in sunk_of b) o)) (named-where stay es b once)
        ∙ ap (λ (x : Option Named). look_at f2 (kept stay (named_in es b)) (look_at f0 x o)) (named-sunk b)
        ∙ at (named_in es b) refl
      where
        at : (e : Option Named) → named_in es b ≡ e → look_at f2 (kept stay e) (look_at f0 (or_named (in_place (kept (takes_place (out_names ls) stay) e) (named_in ls b)) (kept (moves_down (out_names ls) stay) e)) o) ≡ look_at f1 e (look_at f0 (named_in ls b) o)
        at None q = none (named_in ls b)
          where
            none : (l : Option Named) → look_at f0 (or_named (in_place None l) None) o ≡ look_at f0 l o
            none None = refl
            none (Some x) = refl
        at (Some d) q = by (stay d) refl
          where
            there : has (out_names ls) (out d) ≡ is_some (named_in ls b)
            there = ap (has (out_names ls)) (named_is es b d q) ∙ sym (some-named ls b)

            last : (l : Option Named) → look_at f0 (or_named (in_place (cond (is_some l) (Some d) None) l) (cond (not (is_some l)) (Some d) None)) o ≡ Some (f0 d)
            last None = refl
            last (Some x) = refl

            by : (t : Bool) → stay d ≡ t → look_at f2 (kept stay (Some d)) (look_at f0 (or_named (in_place (kept (takes_place (out_names ls) stay) (Some d)) (named_in ls b)) (kept (moves_down (out_names ls) stay) (Some d))) o) ≡ Some (f1 d)
            by true s = ap (λ (t : Bool). look_at f2 (cond t (Some d) None) (look_at f0 (or_named (in_place (kept (takes_place (out_names ls) stay) (Some d)) (named_in ls b)) (kept (moves_down (out_names ls) stay) (Some d))) o)) s ∙ ap Some (stays d q s)
            by false s = ap (λ (t : Bool). look_at f2 (cond t (Some d) None) (look_at f0 (or_named (in_place (cond (not t && has (out_names ls) (out d)) (Some d) None) (named_in ls b)) (cond (not t && not (has (out_names ls) (out d))) (Some d) None)) o)) s
                ∙ ap (λ (v : Bool). look_at f0 (or_named (in_place (cond v (Some d) None) (named_in ls b)) (cond (not v) (Some d) None)) o) there
                ∙ last (named_in ls b) ∙ ap Some (sinks d q s)

    -- what sinks, put over what the lower one makes
    pub core_below : {X : Type 0} (f0 f1 : Named → X) (o : Option X) (b : Name) → ((d : Named) → named_in es b ≡ Some d → stay d ≡ false → f0 d ≡ f1 d) → look_at f1 (named_in (taking_of ++ moving_of) b) (look_at f0 (named_in ls b) o) ≡ look_at f0 (named_in sunk_of b) o
    core_below f0 f1 o b sinks =
        ap (λ (x : Option Named). look_at f1 x (look_at f0 (named_in ls b) o)) (named-append taking_of moving_of b ∙ ap₂ or_named (named-where (takes_place (out_names ls) stay) es b once) (named-where (moves_down (out_names ls) stay) es b once))
        ∙ at (named_in es b) refl
        ∙ sym (ap (λ (x : Option Named). look_at f0 x o) (named-sunk b))
      where
        at : (e : Option Named) → named_in es b ≡ e → look_at f1 (or_named (kept (takes_place (out_names ls) stay) e) (kept (moves_down (out_names ls) stay) e)) (look_at f0 (named_in ls b) o) ≡ look_at f0 (or_named (in_place (kept (takes_place (out_names ls) stay) e) (named_in ls b)) (kept (moves_down (out_names ls) stay) e)) o
        at None q = none (named_in ls b)
          where
            none : (l : Option Named) → look_at f0 l o ≡ look_at f0 (or_named (in_place None l) None) o
            none None = refl
            none (Some x) = refl
        at (Some d) q = by (stay d) refl
          where
            there : has (out_names ls) (out d) ≡ is_some (named_in ls b)
            there = ap (has (out_names ls)) (named_is es b d q) ∙ sym (some-named ls b)

            none : (l : Option Named) → look_at f0 l o ≡ look_at f0 (or_named (in_place None l) None) o
            none None = refl
            none (Some x) = refl

            last : (l : Option Named) → Some (f1 d) ≡ Some (f0 d) → look_at f1 (or_named (cond (is_some l) (Some d) None) (cond (not (is_some l)) (Some d) None)) (look_at f0 l o) ≡ look_at f0 (or_named (in_place (cond (is_some l) (Some d) None) l) (cond (not (is_some l)) (Some d) None)) o
            last None k = k
            last (Some x) k = k

            by : (t : Bool) → stay d ≡ t → look_at f1 (or_named (kept (takes_place (out_names ls) stay) (Some d)) (kept (moves_down (out_names ls) stay) (Some d))) (look_at f0 (named_in ls b) o) ≡ look_at f0 (or_named (in_place (kept (takes_place (out_names ls) stay) (Some d)) (named_in ls b)) (kept (moves_down (out_names ls) stay) (Some d))) o
            by true s =
                ap (λ (t : Bool). look_at f1 (or_named (cond (not t && has (out_names ls) (out d)) (Some d) None) (cond (not t && not (has (out_names ls) (out d))) (Some d) None)) (look_at f0 (named_in ls b) o)) s
                ∙ none (named_in ls b)
                ∙ sym (ap (λ (t : Bool). look_at f0 (or_named (in_place (cond (not t && has (out_names ls) (out d)) (Some d) None) (named_in ls b)) (cond (not t && not (has (out_names ls) (out d))) (Some d) None)) o) s)
            by false s =
                ap (λ (t : Bool). look_at f1 (or_named (cond (not t && has (out_names ls) (out d)) (Some d) None) (cond (not t && not (has (out_names ls) (out d))) (Some d) None)) (look_at f0 (named_in ls b) o)) s
                ∙ ap (λ (v : Bool). look_at f1 (or_named (cond v (Some d) None) (cond (not v) (Some d) None)) (look_at f0 (named_in ls b) o)) there
                ∙ last (named_in ls b) (ap Some (sym (sinks d q s)))
                ∙ sym (ap (λ (t : Bool). look_at f0 (or_named (in_place (cond (not t && has (out_names ls) (out d)) (Some d) None) (named_in ls b)) (cond (not t && not (has (out_names ls) (out d))) (Some d) None)) o) s
                ∙ ap (λ (v : Bool). look_at f0 (or_named (in_place (cond v (Some d) None) (named_in ls b)) (cond (not v) (Some d) None)) o) there)

    module _ (h : HoldsStaying es (out_names ls) stay) where
      -- a name that a staying expression reads is made below by what made it
      pub read_same : (d : Named) (a : Name) → IsOne d es → stay d ≡ true → has (leaves d.expr) a ≡ true → named_in sunk_of a ≡ named_in ls a
      read_same d a i s k = named-sunk a ∙ at (named_in ls a) refl (named_in es a) refl
        where
          known : (l : Option Named) → named_in ls a ≡ l → has (out_names ls) a ≡ is_some l
          known l e = sym (some-named ls a) ∙ ap is_some e

          at : (l : Option Named) → named_in ls a ≡ l → (o : Option Named) → named_in es a ≡ o → or_named (in_place (kept (takes_place (out_names ls) stay) o) l) (kept (moves_down (out_names ls) stay) o) ≡ l
          at None el None eo = refl
          at (Some l) el None eo = refl
          at (Some l) el (Some x) eo =
              let is = named_is es a x eo in
              let there : has (out_names ls) (out x) ≡ true = ap (has (out_names ls)) is ∙ known (Some l) el in
              let read : has (all_leaves es) (out x) ≡ true = ap (has (all_leaves es)) is ∙ leaf_one es d a i k in
              let stays : stay x ≡ true = one_of (λ (e : Named). has (out_names ls) (out e) ≡ true → has (all_leaves es) (out e) ≡ true → stay e ≡ true) es x (named_one es a x eo) h.remaking there read in
              ap (λ (t : Bool). or_named (in_place (cond (not t && has (out_names ls) (out x)) (Some x) None) (Some l)) (kept (moves_down (out_names ls) stay) (Some x))) stays
          at None el (Some x) eo =
              let is = named_is es a x eo in
              let absent : has (out_names ls) (out x) ≡ false = ap (has (out_names ls)) is ∙ known None el in
              let read : has (leaves d.expr) (out x) ≡ true = ap (has (leaves d.expr)) is ∙ k in
              let each = one_of (λ (d : Named). stay d ≡ true → AllByRecursion (λ (e : Named). has (out_names ls) (out e) ≡ false → has (leaves d.expr) (out e) ≡ true → stay e ≡ true) es) es d i h.awaited s in
              let stays : stay x ≡ true = one_of (λ (e : Named). has (out_names ls) (out e) ≡ false → has (leaves d.expr) (out e) ≡ true → stay e ≡ true) es x (named_one es a x eo) each absent read in
              ap (λ (t : Bool). cond (not t && not (has (out_names ls) (out x))) (Some x) None) stays

      -- a name that an expression reads which doesn't stay isn't made below
      pub unmade_below : (d : Named) (a : Name) → IsOne d es → stay d ≡ false → has (leaves d.expr) a ≡ true → named_in ls a ≡ None
      unmade_below d a i s k =
          let apart : reads_one (out_names ls) d ≡ false = false_from_ne_true (reads_one (out_names ls) d) (λ r. both_ways (stay d) s (one_of (λ (e : Named). reads_one (out_names ls) e ≡ true → stay e ≡ true) es d i h.reading r)) in
          none_named ls a (unread (out_names ls) (leaves d.expr) a apart k)

      module _ (s : Columns) where
        abbrev pub was_low : Columns
        was_low = made_schema s ls s

        abbrev pub is_low : Columns
        is_low = made_schema s sunk_of s

        pub stay_types : (d : Named) → IsOne d es → stay d ≡ true → (a : Name) → has (leaves d.expr) a ≡ true → type_of is_low a ≡ type_of was_low a
        stay_types d i q a k = types-schema s s sunk_of a once_sunk ∙ ap (λ (o : Option Named). look_at (type_made s) o (type_of s a)) (read_same d a i q k) ∙ sym (types-schema s s ls a once_lower)

        pub sunk_types : (d : Named) → IsOne d es → stay d ≡ false → (a : Name) → has (leaves d.expr) a ≡ true → type_of s a ≡ type_of was_low a
        sunk_types d i q a k = sym (types-schema s s ls a once_lower ∙ ap (λ (o : Option Named). look_at (type_made s) o (type_of s a)) (unmade_below d a i q k))

        pub stay_type : (d : Named) → IsOne d es → stay d ≡ true → expr_type d.expr is_low ≡ expr_type d.expr was_low
        stay_type d i q = type_within d.expr is_low was_low (stay_types d i q)

        pub sunk_type : (d : Named) → IsOne d es → stay d ≡ false → expr_type d.expr s ≡ expr_type d.expr was_low
        sunk_type d i q = type_within d.expr s was_low (sunk_types d i q)

        -- at each name stands the type that stood there
        pub type-now : (b : Name) → type_of (made_schema is_low stayed_of is_low) b ≡ type_of (made_schema was_low es was_low) b
        type-now b =
            types-schema is_low is_low stayed_of b (filter_distinct stay es once)
            ∙ ap (look_at (type_made is_low) (named_in stayed_of b)) (types-schema s s sunk_of b once_sunk)
            ∙ core (type_made s) (type_made was_low) (type_made is_low) (type_of s b) b
            (λ d q k. ap (λ (o : Option DataType). unwrap_or o types.Int64) (stay_type d (named_one es b d q) k))
            (λ d q k. ap (λ (o : Option DataType). unwrap_or o types.Int64) (sunk_type d (named_one es b d q) k))
            ∙ sym (types-schema was_low was_low es b once ∙ ap (look_at (type_made was_low) (named_in es b)) (types-schema s s ls b once_lower))

        module _ (once_s : AreDistinct (names_of s)) where
          names_low : names_of was_low ≡ with_names (names_of s) (out_names ls)
          names_low = names-schema s s ls

          low_known : (b : Name) → has (out_names ls) b ≡ true → has (with_names (names_of s) (out_names ls)) b ≡ true
          low_known b i = Rattle.plan_frame.proofs.NameSets.adds_names (names_of s) (out_names ls) b i

          takes_known : AllByRecursion (λ (e : Named). false ≡ false → has (with_names (names_of s) (out_names ls)) (out e) ≡ true) taking_of
          takes_known = all_passing (λ (e : Named). false ≡ false → has (with_names (names_of s) (out_names ls)) (out e) ≡ true) (takes_place (out_names ls) stay) es (λ e i q n. low_known (out e) (parts_of (not (stay e)) (has (out_names ls) (out e)) q).1)

          -- the lower columns with what sinks are those of the new lower addition
          pub low-stored : made_schema was_low (taking_of ++ moving_of) was_low ≡ is_low
          low-stored = same-columns (made_schema was_low (taking_of ++ moving_of) was_low) is_low
              (names-schema was_low was_low (taking_of ++ moving_of)
              ∙ ap₂ with_names names_low (names-join taking_of moving_of)
              ∙ names-joined (with_names (names_of s) (out_names ls)) (out_names taking_of) (out_names moving_of)
              ∙ ap (λ (ns : List Name). with_names ns (out_names moving_of)) (with-known (λ (e : Named). false) taking_of (with_names (names_of s) (out_names ls)) takes_known ∙ ap (λ (xs : List Named). with_names (with_names (names_of s) (out_names ls)) (out_names xs)) (none-pass taking_of))
              ∙ sym (names-schema s s sunk_of ∙ ap (with_names (names_of s)) names-sunk ∙ names-joined (names_of s) (out_names ls) (out_names moving_of)))
              (subst AreDistinct (sym (names-schema s s sunk_of)) (distinct_names (names_of s) (out_names sunk_of) once_s))
              (λ b.
              types-schema was_low was_low (taking_of ++ moving_of) b once_both
              ∙ ap (look_at (type_made was_low) (named_in (taking_of ++ moving_of) b)) (types-schema s s ls b once_lower)
              ∙ core_below (type_made s) (type_made was_low) (type_of s b) b (λ d q k. ap (λ (o : Option DataType). unwrap_or o types.Int64) (sunk_type d (named_one es b d q) k))
              ∙ sym (types-schema s s sunk_of b once_sunk))
            where
              none-pass : (xs : List Named) → only_where (λ (e : Named). false) xs ≡ []
              none-pass [] = refl
              none-pass (x ∷ xs) = none-pass xs

              once_both : AreDistinct (out_names (taking_of ++ moving_of))
              once_both = subst AreDistinct (sym (names-join taking_of moving_of)) (distinct_join (out_names taking_of) (out_names moving_of) (filter_distinct (takes_place (out_names ls) stay) es once) (filter_distinct (moves_down (out_names ls) stay) es once)
                  (λ b i. let x = named_passing (takes_place (out_names ls) stay) es b i in moves_apart b (ap (has (out_names ls)) x.3 ∙ (parts_of (not (stay x.0)) (has (out_names ls) (out x.0)) x.2).1)))
