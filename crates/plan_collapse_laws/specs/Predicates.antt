-- What may be a predicate over columns, and which pairs of keys may stand in a join.
use Rattle.std.specs.Prelude.{◌≡◌, true, Some, is_some}
use Rattle.plan_core.specs.declared.data_type.DataType.{DataType}
use Rattle.plan_core.specs.declared.data_type.DataType.TheVariants as types
use Rattle.plan_core.specs.Columns.{Columns}
use Rattle.plan_expr.specs.Exprs.{Expr}
use Rattle.plan_expr.specs.Forms.{has_form}
use Rattle.plan_expr.specs.Leaves.{leaves}
use Rattle.plan_expr.specs.Types.{is_plain}
use Rattle.plan_frame.specs.Exprs.{all_known, expr_type, is_type}
use Rattle.plan_meaning.specs.JoinChecks.{is_elementwise}
use Rattle.plan_collapse_laws.specs.CrossKeys.{KeyPair, inequality_of}

-- a predicate over some columns: it has a form, reads these columns, is Boolean, and works row by row
pub record IsPredicate (s : Columns) (e : Expr) : Type 0 where
  pub formed : has_form e ≡ true
  pub known : all_known (leaves e) s ≡ true
  pub truth : is_type (expr_type e s) types.Boolean ≡ true
  pub by_row : is_elementwise e ≡ true

-- a pair of keys may stand in a join over these sides: both have a form, read their own side, and are of one plain type
pub record KeyGood (s t : Columns) (k : KeyPair) : Type 0 where
  pub left_formed : has_form k.left_key ≡ true
  pub right_formed : has_form k.right_key ≡ true
  pub left_known : all_known (leaves k.left_key) s ≡ true
  pub right_known : all_known (leaves k.right_key) t ≡ true
  pub kind : DataType
  pub left_typed : expr_type k.left_key s ≡ Some kind
  pub right_typed : expr_type k.right_key t ≡ Some kind
  pub plain : is_plain kind ≡ true

-- a pair of keys may stand in a join by inequalities: it may stand in a join, its keys are whole numbers, and an inequality compares them
pub record MeetGood (s t : Columns) (k : KeyPair) : Type 0 where
  pub good : KeyGood s t k
  pub whole : good.kind ≡ types.Int64
  pub unequal : is_some (inequality_of k.op) ≡ true
