-- What stands under the keys of nodes and expressions is read as it is written: columns, expressions with their output names, slices.
use Rattle.std.proofs.Common.{◌≡◌, ℕ, ℤ, Bool, true, false, cond, List, Option, Some, None, refl, subst}
use Rattle.std.specs.Str.{bytes_eq}
use Rattle.std.specs.Prelude.{codes}
use Rattle.serde_json.specs.Data.{Data, null, boolean, string}
use Rattle.plan_core.specs.Columns.{Columns}
use Rattle.plan_core.specs.declared.arena.Node.{Node}
use Rattle.plan_core.specs.declared.data_type.DataType.{DataType}
use Rattle.plan_core.specs.declared.options.ProjectionOptions.{ProjectionOptions}
use Rattle.plan_core.specs.declared.options.RowIndex.{RowIndex}
use Rattle.plan_expr.specs.declared.expr_ir.ExprIR.{ExprIR}
use Rattle.plan_expr.specs.declared.expr_ir.OutputName.{OutputName}
use Rattle.plan_expr.specs.declared.expr_ir.OutputName.TheVariants as names
use Rattle.plan_doc_parts.specs.Parts.{◌>>=◌, each, entries_of, nullable, name_of, number_of, numbers_of, link_of, links_of, integer_of, truth_of, truths_of, two_of, three_of, names_of, column_of, column_names, are_distinct, distinct_columns, columns_of, output_name_of, output_of, outputs_of, slice_of, options_of}
use Rattle.plan_doc_parts.proofs.EntryLemmas.{bind_some, some_is}
use Rattle.plan_doc_scans.specs.Scans.{row_index_of}
use Rattle.plan_text_pieces.specs.Origins.{origin_text, name_text}
use Rattle.plan_text_pieces.specs.Values.{number_data, link_data, integer_data, list_data, nullable_data, field_data, columns_data, names_data, truths_data, output_data, outputs_data, options_data, slice_data, row_index_data}
use Rattle.plan_round_trip.proofs.Gives.{gives3, gives5}
use Rattle.plan_round_trip.proofs.Steps.{Again, Back}
use Rattle.plan_round_trip.proofs.Lists.{IsCanonical, entries_again, each_read, list_read, all_again, list_again, nullable_back, nullable_read, two_canonical}
use Rattle.plan_round_trip.proofs.Parts.{number_again, number_back, link_again, link_back, integer_back, truth_again, name_again}
use Rattle.plan_round_trip.proofs.Names.{type_again}

-- ---- lists

numbers_again : (d : Data) (ns : List ℕ) → IsCanonical d → numbers_of d ≡ Some ns → Again numbers_of (list_data number_data) ns
unfolding numbers_of
numbers_again d ns c e = list_again number_back d ns c e

pub numbers_back : Back numbers_of (list_data number_data)
numbers_back = record { again = numbers_again }

links_again : (d : Data) (ns : List Node) → IsCanonical d → links_of d ≡ Some ns → Again links_of (list_data link_data) ns
unfolding links_of
links_again d ns c e = list_again link_back d ns c e

pub links_back : Back links_of (list_data link_data)
links_back = record { again = links_again }

pub truths_again : (bs : List Bool) → Again truths_of truths_data bs
unfolding truths_of
truths_again bs = list_read truth_of boolean bs (all_again truth_of boolean truth_again bs)

pub names_again : (ns : List (List ℕ)) → Again names_of names_data ns
unfolding names_of
names_again ns = list_read name_of string ns (all_again name_of string name_again ns)

-- ---- columns

column_again : (p : List ℕ × DataType) → Again column_of field_data p
unfolding column_of two_of entries_of name_of
column_again p = rw (type_again p.1) refl

distinct_again : (cs ds : Columns) → distinct_columns cs ≡ Some ds → distinct_columns ds ≡ Some ds
distinct_again cs ds e = tested (are_distinct bytes_eq (column_names cs)) refl e
  where
    tested : (b : Bool) → are_distinct bytes_eq (column_names cs) ≡ b → cond b (Some cs) None ≡ Some ds → distinct_columns ds ≡ Some ds
    tested true t q = subst (λ (l : Columns). distinct_columns l ≡ Some l) (some_is cs ds q) (rw t)
    tested false t q = absurd cc

-- columns whose names are distinct
pub columns_read : (cs : Columns) → distinct_columns cs ≡ Some cs → Again columns_of columns_data cs
unfolding columns_of
columns_read cs e = rw (entries_again field_data cs, each_read column_of field_data cs (all_again column_of field_data column_again cs)) e

columns_again : (d : Data) (cs : Columns) → columns_of d ≡ Some cs → Again columns_of columns_data cs
unfolding columns_of
columns_again d cs e =
    let ds = bind_some (entries_of d) (λ ds. each column_of ds >>= λ es. distinct_columns es) cs e in
    let es = bind_some (each column_of ds.0) (λ es. distinct_columns es) cs ds.2 in
    columns_read cs (distinct_again es.0 cs es.2)

pub columns_back : Back columns_of columns_data
columns_back = record { again = λ d cs c e. columns_again d cs e }

-- ---- expressions with their output names

pub origin_again : (k n : List ℕ) (o : OutputName) → output_name_of k n ≡ Some o → output_name_of (origin_text o) (name_text o) ≡ Some o
unfolding output_name_of
origin_again k n (names.ColumnLhs s) e = refl
origin_again k n (names.LiteralLhs s) e = refl
origin_again k n (names.Alias s) e = refl
origin_again k n names.None e = named (bytes_eq k (codes "col")) (bytes_eq k (codes "lit")) (bytes_eq k (codes "alias")) e
  where
    named : (a b c : Bool) → cond a (Some (names.ColumnLhs n)) (cond b (Some (names.LiteralLhs n)) (cond c (Some (names.Alias n)) None)) ≡ Some names.None → None ≡ Some names.None
    named true b c q = absurd cc
    named false true c q = absurd cc
    named false false true q = absurd cc
    named false false false q = q

-- an expression whose number and name are read again
pub output_read : (l : Node) (o : OutputName) → Again link_of link_data l → output_name_of (origin_text o) (name_text o) ≡ Some o → Again output_of output_data (record { node = l; output_name = o })
unfolding output_of output_data three_of entries_of name_of
output_read l o el eo = rw (el, eo) refl

output_again : (d : Data) (x : ExprIR) → output_of d ≡ Some x → Again output_of output_data x
unfolding output_of
output_again d x e =
    gives5 (three_of d) (λ t. link_of t.0) (λ t l. name_of t.1) (λ t l k. name_of t.2) (λ t l k n. output_name_of k n) (λ t l k n o. record { node = l; output_name = o }) x e (Again output_of output_data)
    (λ t l k n o et el ek en eo. output_read l o (link_again t.0 l el) (origin_again k n o eo))

pub output_back : Back output_of output_data
output_back = record { again = λ d x c e. output_again d x e }

outputs_again : (d : Data) (es : List ExprIR) → IsCanonical d → outputs_of d ≡ Some es → Again outputs_of outputs_data es
unfolding outputs_of
outputs_again d es c e = list_again output_back d es c e

pub outputs_back : Back outputs_of outputs_data
outputs_back = record { again = outputs_again }

-- ---- slices, options and row numbers

slice_read : (z : ℤ) (n : ℕ) → Again integer_of integer_data z → Again number_of number_data n → Again slice_of slice_data (z, n)
unfolding slice_of two_of entries_of
slice_read z n ez en = rw (ez, en) refl

slice_again : (d : Data) (s : ℤ × ℕ) → IsCanonical d → slice_of d ≡ Some s → Again slice_of slice_data s
unfolding slice_of
slice_again d s c e =
    gives3 (two_of d) (λ p. integer_of p.0) (λ p z. number_of p.1) (λ p z n. (z, n)) s e (Again slice_of slice_data)
    (λ p z n ep ez en. slice_read z n (integer_back.again p.0 z (two_canonical d p c ep).0 ez) (number_again p.1 n en))

pub slice_back : Back slice_of slice_data
slice_back = record { again = slice_again }

pub options_again : (o : ProjectionOptions) → Again options_of options_data o
unfolding options_of options_data three_of entries_of truth_of
options_again o = refl

row_read : (n : List ℕ) (k : ℕ) → Again number_of number_data k → Again row_index_of row_index_data (record { name = n; offset = k })
unfolding row_index_of two_of entries_of name_of
row_read n k e = rw e refl

row_again : (d : Data) (r : RowIndex) → row_index_of d ≡ Some r → Again row_index_of row_index_data r
unfolding row_index_of
row_again d r e =
    gives3 (two_of d) (λ p. name_of p.0) (λ p n. number_of p.1) (λ p n k. record { name = n; offset = k }) r e (Again row_index_of row_index_data)
    (λ p n k ep en ek. row_read n k (number_again p.1 k ek))

-- ---- null, or one of these

no_name : name_of null ≡ None
unfolding name_of
no_name = refl

no_number : number_of null ≡ None
unfolding number_of
no_number = refl

no_names : names_of null ≡ None
unfolding names_of entries_of
no_names = refl

pub no_columns : columns_of null ≡ None
unfolding columns_of entries_of
no_columns = refl

pub no_output : output_of null ≡ None
unfolding output_of three_of entries_of
no_output = refl

no_slice : slice_of null ≡ None
unfolding slice_of two_of entries_of
no_slice = refl

no_row : row_index_of null ≡ None
unfolding row_index_of two_of entries_of
no_row = refl

pub maybe_name_again : (o : Option (List ℕ)) → Again (nullable name_of) (nullable_data string) o
maybe_name_again None = refl
maybe_name_again (Some s) = nullable_read name_of string s no_name (name_again s)

pub maybe_names_again : (o : Option (List (List ℕ))) → Again (nullable names_of) (nullable_data names_data) o
maybe_names_again None = refl
maybe_names_again (Some ns) = nullable_read names_of names_data ns no_names (names_again ns)

pub maybe_number : Back (nullable number_of) (nullable_data number_data)
maybe_number = nullable_back number_back no_number

pub maybe_columns : Back (nullable columns_of) (nullable_data columns_data)
maybe_columns = nullable_back columns_back no_columns

pub maybe_output : Back (nullable output_of) (nullable_data output_data)
maybe_output = nullable_back output_back no_output

pub maybe_slice : Back (nullable slice_of) (nullable_data slice_data)
maybe_slice = nullable_back slice_back no_slice

row_back : Back row_index_of row_index_data
row_back = record { again = λ d r c e. row_again d r e }

pub maybe_row : Back (nullable row_index_of) (nullable_data row_index_data)
maybe_row = nullable_back row_back no_row
