-- Expressions are read as they are written.
use Rattle.std.proofs.Common.{◌≡◌, ℕ, Bool, List, [], ◌∷◌, Option, Some, refl, ap, subst, true, false}
use Rattle.std.specs.Prelude.{codes}
use Rattle.std.specs.Str.{bytes_eq}
use Rattle.serde_json.specs.Data.{Data}
use Rattle.serde_json.specs.Find.{get}
use Rattle.plan_core.specs.declared.arena.Node.{Node}
use Rattle.plan_expr.specs.Aggregates.{agg_input}
use Rattle.plan_expr.specs.Functions.{options_of}
use Rattle.plan_expr.specs.declared.aexpr.AExpr.{AExpr}
use Rattle.plan_expr.specs.declared.aexpr.AExpr.TheVariants as exprs
use Rattle.plan_expr.specs.declared.agg.IRAggExpr.{IRAggExpr}
use Rattle.plan_expr.specs.declared.agg.IRAggExpr.TheVariants as aggs
use Rattle.plan_expr.specs.declared.function_expr.FunctionExpr.{FunctionExpr}
use Rattle.plan_options.specs.declared.function.FunctionOptions.{FunctionOptions}
use Rattle.plan_expr.specs.declared.literal.LiteralValue.{LiteralValue}
use Rattle.plan_expr.specs.declared.operator.Operator.{Operator}
use Rattle.plan_doc_parts.specs.Parts.{◌>>=◌, name_of, link_of, links_of, plain_of}
use Rattle.plan_doc_parts.specs.Members.{object_of, at}
use Rattle.plan_doc_parts.proofs.EntryLemmas.{bind_some, some_is}
use Rattle.plan_doc.specs.Exprs.{operator_of, column_expr_of, value_or_null, literal_of, alias_of, binary_of, ternary_keys, ternary_of, agg_named, agg_kind_of, agg_of, function_name_of, function_of, window_of, len_of, expr_of}
use Rattle.plan_text.specs.Exprs.{expr_data}
use Rattle.plan_round_trip.proofs.Gives.{gives1, gives2, gives3, gives4, gives5}
use Rattle.plan_round_trip.proofs.Steps.{Again, first_holds, first_of, object_canonical, under, under_canonical}
use Rattle.plan_round_trip.proofs.Lists.{IsCanonical}
use Rattle.plan_round_trip.proofs.Parts.{link_back}
use Rattle.plan_round_trip.proofs.Names.{agg_again, function_again, operator_again}
use Rattle.plan_round_trip.proofs.Literals.{literal_again, literal_type_again}
use Rattle.plan_round_trip.proofs.Pieces.{links_back}
use Rattle.plan_round_trip.proofs.Told.{ToldExpr, ToldLink}

-- ---- what is read

column_told : (d : Data) (x : AExpr) → column_expr_of d ≡ Some x → ToldExpr x
unfolding column_expr_of
column_told d x e = gives2 (object_of (codes "name" ∷ codes "op" ∷ []) d) (λ o. at (codes "name") name_of o) (λ o n. exprs.Column n) x e ToldExpr (λ o n eo en. tt)

literal_told : (d : Data) (x : AExpr) → IsCanonical d → literal_of d ≡ Some x → ToldExpr x
unfolding literal_of
literal_told d x c e =
    gives5 (object_of (codes "op" ∷ codes "type" ∷ codes "value" ∷ []) d) (λ o. get (codes "type") o) (λ o type. plain_of type) (λ o type t. get (codes "value") o) (λ o type t value. value_or_null t value) (λ o type t value v. exprs.Literal v) x e ToldExpr
    (λ o type t value v eo etype et evalue ev. literal_again t value v (under_canonical (codes "value") o value (object_canonical _ d o c eo) evalue) ev)

alias_told : (d : Data) (x : AExpr) → IsCanonical d → alias_of d ≡ Some x → ToldExpr x
unfolding alias_of
alias_told d x c e =
    gives3 (object_of (codes "input" ∷ codes "name" ∷ codes "op" ∷ []) d) (λ o. at (codes "input") link_of o) (λ o i. at (codes "name") name_of o) (λ o i n. exprs.Alias i n) x e ToldExpr
    (λ o i n eo ei en. under link_back _ o i (object_canonical _ d o c eo) ei)

binary_told : (d : Data) (x : AExpr) → IsCanonical d → binary_of d ≡ Some x → ToldExpr x
unfolding binary_of
binary_told d x c e =
    gives5 (object_of (codes "left" ∷ codes "op" ∷ codes "operator" ∷ codes "right" ∷ []) d) (λ o. at (codes "left") link_of o) (λ o l. get (codes "operator") o) (λ o l operator. operator_of operator) (λ o l operator op. at (codes "right") link_of o) (λ o l operator op r. exprs.BinaryExpr l op r) x e ToldExpr
    (λ o l operator op r eo el eoperator eop er.
    let k = object_canonical _ d o c eo in
    (under link_back _ o l k el, under link_back _ o r k er))

ternary_told : (d : Data) (x : AExpr) → IsCanonical d → ternary_of d ≡ Some x → ToldExpr x
unfolding ternary_of
ternary_told d x c e =
    gives4 (object_of ternary_keys d) (λ o. at (codes "predicate") link_of o) (λ o p. at (codes "truthy") link_of o) (λ o p t. at (codes "falsy") link_of o) (λ o p t f. exprs.Ternary p t f) x e ToldExpr
    (λ o p t f eo ep et ef.
    let k = object_canonical _ d o c eo in
    (under link_back _ o p k ep, under link_back _ o t k et, under link_back _ o f k ef))

-- an aggregate of an entry is of that entry
agg_named_input : (i : Node) (s : List ℕ) (a : IRAggExpr) → ToldLink i → agg_named i s ≡ Some a → ToldLink (agg_input a)
unfolding agg_named
agg_named_input i s a l e =
    first_holds (λ (b : IRAggExpr). ToldLink (agg_input b)) (
    (bytes_eq s (codes "Min"), Some (aggs.Min i))
    ∷ (bytes_eq s (codes "Max"), Some (aggs.Max i))
    ∷ (bytes_eq s (codes "Sum"), Some (aggs.Sum i))
    ∷ (bytes_eq s (codes "Count"), Some (aggs.Count i false))
    ∷ (bytes_eq s (codes "CountAll"), Some (aggs.Count i true))
    ∷ (bytes_eq s (codes "NUnique"), Some (aggs.NUnique i))
    ∷ (bytes_eq s (codes "First"), Some (aggs.First i))
    ∷ (bytes_eq s (codes "Last"), Some (aggs.Last i))
    ∷ (bytes_eq s (codes "Implode"), Some (aggs.Implode i)) ∷ []) a e (
      of (aggs.Min i) l,
      (of (aggs.Max i) l, (of (aggs.Sum i) l, (of (aggs.Count i false) l, (of (aggs.Count i true) l, (of (aggs.NUnique i) l, (of (aggs.First i) l, (of (aggs.Last i) l, (of (aggs.Implode i) l, tt)))))))),
    )
  where
    of : (b : IRAggExpr) → ToldLink (agg_input b) → ◌≡◌ {A = Option IRAggExpr} (Some b) (Some a) → ToldLink (agg_input a)
    of b k q = subst (λ (y : IRAggExpr). ToldLink (agg_input y)) (some_is b a q) k

agg_kind_input : (i : Node) (d : Data) (a : IRAggExpr) → ToldLink i → agg_kind_of i d ≡ Some a → ToldLink (agg_input a)
unfolding agg_kind_of
agg_kind_input i d a l e =
    let s = bind_some (name_of d) (λ s. agg_named i s) a e in
    agg_named_input i s.0 a l s.2

agg_told : (d : Data) (x : AExpr) → IsCanonical d → agg_of d ≡ Some x → ToldExpr x
unfolding agg_of
agg_told d x c e =
    gives4 (object_of (codes "input" ∷ codes "kind" ∷ codes "op" ∷ []) d) (λ o. at (codes "input") link_of o) (λ o i. get (codes "kind") o) (λ o i kind. agg_kind_of i kind) (λ o i kind a. exprs.Agg a) x e ToldExpr
    (λ o i kind a eo ei ekind ea. agg_kind_input i kind a (under link_back _ o i (object_canonical _ d o c eo) ei) ea)

function_told : (d : Data) (x : AExpr) → IsCanonical d → function_of d ≡ Some x → ToldExpr x
unfolding function_of
function_told d x c e =
    gives4 (object_of (codes "inputs" ∷ codes "name" ∷ codes "op" ∷ []) d) (λ o. at (codes "inputs") links_of o) (λ o is. get (codes "name") o) (λ o is name. function_name_of name) (λ o is name f. exprs.Function is f (options_of f)) x e ToldExpr
    (λ o is name f eo eis ename ef. (under links_back _ o is (object_canonical _ d o c eo) eis, refl))

window_told : (d : Data) (x : AExpr) → IsCanonical d → window_of d ≡ Some x → ToldExpr x
unfolding window_of
window_told d x c e =
    gives3 (object_of (codes "function" ∷ codes "op" ∷ codes "partition_by" ∷ []) d) (λ o. at (codes "function") link_of o) (λ o f. at (codes "partition_by") links_of o) (λ o f ks. exprs.Window f ks) x e ToldExpr
    (λ o f ks eo ef eks.
    let k = object_canonical _ d o c eo in
    (under link_back _ o f k ef, under links_back _ o ks k eks))

len_told : (d : Data) (x : AExpr) → len_of d ≡ Some x → ToldExpr x
unfolding len_of
len_told d x e = gives1 (object_of (codes "op" ∷ []) d) (λ o. exprs.Len) x e ToldExpr (λ o eo. tt)

-- each name of `expr_of`, in its order, with what is read under it
abbrev read_by_name : Data → List ℕ → List (Bool × Option AExpr)
read_by_name d s =
    (bytes_eq s (codes "Column"), column_expr_of d)
    ∷ (bytes_eq s (codes "Literal"), literal_of d)
    ∷ (bytes_eq s (codes "Alias"), alias_of d)
    ∷ (bytes_eq s (codes "BinaryExpr"), binary_of d)
    ∷ (bytes_eq s (codes "Ternary"), ternary_of d)
    ∷ (bytes_eq s (codes "Agg"), agg_of d)
    ∷ (bytes_eq s (codes "Function"), function_of d)
    ∷ (bytes_eq s (codes "Window"), window_of d)
    ∷ (bytes_eq s (codes "Len"), len_of d) ∷ []

pub expr_told : (d : Data) (x : AExpr) → IsCanonical d → expr_of d ≡ Some x → ToldExpr x
unfolding expr_of
expr_told d x c e =
    let op = bind_some (get (codes "op") d) (λ op. name_of op >>= λ s. first_of (read_by_name d s)) x e in
    let s = bind_some (name_of op.0) (λ s. first_of (read_by_name d s)) x op.2 in
    first_holds ToldExpr (read_by_name d s.0) x s.2 (column_told d x, (literal_told d x c, (alias_told d x c, (binary_told d x c, (ternary_told d x c, (agg_told d x c, (function_told d x c, (window_told d x c, (len_told d x, tt)))))))))

-- ---- what is written

literal_read : (v : LiteralValue) → ToldExpr (exprs.Literal v) → Again expr_of expr_data (exprs.Literal v)
unfolding expr_of name_of literal_of object_of expr_data
literal_read v t = rw (literal_type_again v, t) refl

alias_read : (i : Node) (n : List ℕ) → ToldLink i → Again expr_of expr_data (exprs.Alias i n)
unfolding expr_of name_of alias_of object_of at expr_data
alias_read i n t = rw t refl

binary_read : (l : Node) (op : Operator) (r : Node) → ToldLink l → ToldLink r → Again expr_of expr_data (exprs.BinaryExpr l op r)
unfolding expr_of name_of binary_of object_of at expr_data
binary_read l op r tl tr = rw (tl, operator_again op, tr) refl

ternary_read : (p t f : Node) → ToldLink p → ToldLink t → ToldLink f → Again expr_of expr_data (exprs.Ternary p t f)
unfolding expr_of name_of ternary_of ternary_keys object_of at expr_data
ternary_read p t f tp ty tf = rw (tp, ty, tf) refl

agg_read : (a : IRAggExpr) → ToldLink (agg_input a) → Again expr_of expr_data (exprs.Agg a)
unfolding expr_of name_of agg_of object_of at expr_data
agg_read a t = rw (t, agg_again a) refl

function_read : (is : List Node) (f : FunctionExpr) (options : FunctionOptions) → ToldExpr (exprs.Function is f options) → Again expr_of expr_data (exprs.Function is f options)
unfolding expr_of name_of function_of object_of at expr_data
function_read is f options t = rw (t.0, function_again f) (ap (λ (o : FunctionOptions). Some (exprs.Function is f o)) t.1)

window_read : (f : Node) (ks : List Node) → ToldExpr (exprs.Window f ks) → Again expr_of expr_data (exprs.Window f ks)
unfolding expr_of name_of window_of object_of at expr_data
window_read f ks t = rw (t.0, t.1) refl

column_read : (s : List ℕ) → Again expr_of expr_data (exprs.Column s)
unfolding expr_of name_of column_expr_of object_of at expr_data
column_read s = refl

len_read : Again expr_of expr_data exprs.Len
unfolding expr_of name_of len_of object_of expr_data
len_read = refl

pub expr_read : (x : AExpr) → ToldExpr x → Again expr_of expr_data x
expr_read (exprs.Column s) t = column_read s
expr_read (exprs.Literal v) t = literal_read v t
expr_read (exprs.Alias input s) t = alias_read input s t
expr_read (exprs.BinaryExpr left op right) t = binary_read left op right t.0 t.1
expr_read (exprs.Ternary predicate truthy falsy) t = ternary_read predicate truthy falsy t.0 t.1 t.2
expr_read (exprs.Agg agg) t = agg_read agg t
expr_read (exprs.Function input function options) t = function_read input function options t
expr_read (exprs.Window function partition_by) t = window_read function partition_by t
expr_read exprs.Len t = len_read
