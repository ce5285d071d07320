-- Values that are written out are read as they are written.
use Rattle.std.proofs.Common.{◌≡◌, ℕ, ℤ, Bool, true, false, cond, List, Some, refl, subst}
use Rattle.std.specs.Prelude.{is_some}
use Rattle.serde_json.specs.Data.{Data, string}
use Rattle.serde_json.specs.Find.{as_null}
use Rattle.plan_core.specs.declared.data_type.PlainType.{PlainType}
use Rattle.plan_core.specs.declared.data_type.PlainType.TheVariants as plains
use Rattle.plan_expr.specs.declared.literal.LiteralValue.{LiteralValue}
use Rattle.plan_expr.specs.declared.literal.LiteralValue.TheVariants as literals
use Rattle.plan_doc_parts.specs.Parts.{name_of, integer_of, truth_of, plain_of}
use Rattle.plan_doc_parts.proofs.EntryLemmas.{some_is}
use Rattle.plan_doc.specs.Exprs.{value_of, value_or_null}
use Rattle.plan_text_pieces.specs.Kinds.{literal_text}
use Rattle.plan_text_pieces.specs.Values.{integer_data}
use Rattle.plan_text.specs.Exprs.{literal_data}
use Rattle.plan_round_trip.proofs.Gives.{gives1}
use Rattle.plan_round_trip.proofs.Steps.{Again}
use Rattle.plan_round_trip.proofs.Lists.{IsCanonical}
use Rattle.plan_round_trip.proofs.Parts.{integer_back}
use Rattle.plan_round_trip.proofs.Names.{plain_again}

-- the type of a value that is written out
abbrev pub literal_type : LiteralValue → PlainType
literal_type (literals.Null t) = t
literal_type (literals.Int64 z) = plains.Int64
literal_type (literals.String s) = plains.String
literal_type (literals.Boolean b) = plains.Boolean

pub literal_type_again : (v : LiteralValue) → plain_of (string (literal_text v)) ≡ Some (literal_type v)
literal_type_again (literals.Null t) = plain_again t
literal_type_again (literals.Int64 z) = plain_again plains.Int64
literal_type_again (literals.String s) = plain_again plains.String
literal_type_again (literals.Boolean b) = plain_again plains.Boolean

abbrev LiteralAgain : LiteralValue → Type 0
LiteralAgain v = Again (value_or_null (literal_type v)) literal_data v

literal_integer : (z : ℤ) → Again integer_of integer_data z → LiteralAgain (literals.Int64 z)
literal_integer z e =
    let h : integer_of (integer_data z) ≡ Some z = e in
    rw h refl

literal_string : (s : List ℕ) → LiteralAgain (literals.String s)
unfolding name_of
literal_string s = refl

literal_truth : (b : Bool) → LiteralAgain (literals.Boolean b)
unfolding truth_of
literal_truth b = refl

typed_literal : (t : PlainType) (d : Data) (v : LiteralValue) → IsCanonical d → value_of t d ≡ Some v → LiteralAgain v
typed_literal plains.Int64 d v c e = gives1 (integer_of d) (λ n. literals.Int64 n) v e LiteralAgain (λ n en. literal_integer n (integer_back.again d n c en))
typed_literal plains.String d v c e = gives1 (name_of d) (λ s. literals.String s) v e LiteralAgain (λ s es. literal_string s)
typed_literal plains.Boolean d v c e = gives1 (truth_of d) (λ b. literals.Boolean b) v e LiteralAgain (λ b eb. literal_truth b)

-- null of a type, or a value of it
pub literal_again : (t : PlainType) (d : Data) (v : LiteralValue) → IsCanonical d → value_or_null t d ≡ Some v → LiteralAgain v
literal_again t d v c e = by_test (is_some (as_null d)) e
  where
    by_test : (b : Bool) → cond b (Some (literals.Null t)) (value_of t d) ≡ Some v → LiteralAgain v
    by_test true q = subst LiteralAgain (some_is (literals.Null t) v q) refl
    by_test false q = typed_literal t d v c q
