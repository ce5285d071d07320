-- A count of the rows of files in the place of a plan that tells it alone refines the plan.
use Rattle.std.proofs.Common.{◌≡◌, ℕ, Bool, true, false, List, [], ◌∷◌, map, Option, None, Some, pos, refl, sym, ap, ◌∙◌, subst}
use Rattle.std.specs.Prelude.{cond, codes, is_some}
use Rattle.std.specs.List.{AllByRecursion}
use Rattle.std.specs.Int.{w64, int_wrap}
use Rattle.plan_core.specs.Columns.{Columns}
use Rattle.plan_core.specs.declared.data_type.DataType.TheVariants.{Int64}
use Rattle.plan_tree.specs.Rose.{Roses, rose, no_roses, more}
use Rattle.plan_scan.specs.declared.file_scan.FileScan.{FileScan}
use Rattle.plan_scan.specs.declared.sources.ScanSources.{ScanSources}
use Rattle.plan_core.specs.declared.options.ProjectionOptions.{ProjectionOptions}
use Rattle.plan_expr.specs.Exprs.{Expr, Named, len as row_count}
use Rattle.plan_expr.specs.Leaves.{Name}
use Rattle.plan_expr.specs.Naming.{by_literal, may_be_named, name_of, naming}
use Rattle.plan_expr.specs.declared.expr_ir.OutputName.{OutputName}
use Rattle.plan_expr.specs.declared.expr_ir.OutputName.TheVariants as names
use Rattle.plan_frame.specs.ExprLists.{counts_rows, is_len}
use Rattle.plan_frame.specs.Frames.{Frame}
use Rattle.plan_frame.specs.Made.{made_schema, selected}
use Rattle.plan_frame.specs.Values.{whole}
use Rattle.plan_frame.proofs.NameSets.{named}
use Rattle.plan_ir.specs.Plans.{Op, select, Plan}
use Rattle.plan_meaning.specs.Contents.{Contents, Fits, HasFrame, Source, frame_or, frames_of}
use Rattle.plan_meaning.specs.Functions.{count_name}
use Rattle.plan_meaning.specs.Mapped.{counted as count_frame, rows_together}
use Rattle.plan_meaning.specs.Relating.{Refines}
use Rattle.plan_meaning.specs.Steps.{IsValid, May}
use Rattle.plan_meaning.specs.Typing.{schema_by, schemas}
use Rattle.plan_meaning.proofs.CheckParts.{good_frame, made_good}
use Rattle.plan_meaning.proofs.Refining.{refines_refl}
use Rattle.plan_meaning.proofs.Runs.{valid_runs}
use Rattle.plan_order_laws.specs.Counted.{Scans, count_of, countable, alias_of, as_one, count_alias, count_or, count_plan, counted, counted_scans, together}
use Rattle.plan_order_laws.proofs.CountSources.{counted_fit, sources_rows, together_sources}
use Rattle.plan_order_laws.proofs.CountedRows.{counted_high}

-- an expression that is the number of rows
len_is : (x : Expr) → is_len x ≡ true → x ≡ rose tt row_count no_roses
len_is (rose tt row_count no_roses) e = refl
len_is (rose tt row_count (more x xs)) e = cc
len_is (rose tt op es) e = cc

-- the name of a count is the one under which the number of rows is put out
name_is : (o : OutputName) → may_be_named o (by_literal (codes "len")) ≡ true → count_name (alias_of o) ≡ name_of o
name_is names.None e = cc
name_is (names.ColumnLhs a) e = cc
name_is (names.LiteralLhs a) e = sym (named a (codes "len") e)
name_is (names.Alias a) e = refl

-- the scans that are counted, and the one that they are
record Count (o : Option Scans) (x : ScanSources × FileScan) : Type 0 where
  xs : Scans
  scans : o ≡ Some xs
  one : together xs ≡ Some x

count : (o : Option Scans) (x : ScanSources × FileScan) → as_one o ≡ Some x → Count o x
count None x e = cc
count (Some xs) x e = record { xs = xs; scans = refl; one = e }

-- what a selection of the number of rows makes of a frame
len_frame : (e : Named) → e.expr ≡ rose tt row_count no_roses → (g : Frame) (n : ℕ) → g.height ≡ n → selected (e ∷ []) g ≡ record { height = 1; columns = record { name = name_of e.name; values = whole (int_wrap w64 (pos n)) ∷ [] } ∷ [] }
len_frame e is g n high =
    ap (λ (x : Expr). selected (record { name = e.name; expr = x } ∷ []) g) is
    ∙ ap (λ (m : ℕ). record { height = 1; columns = record { name = name_of e.name; values = whole (int_wrap w64 (pos m)) ∷ [] } ∷ [] }) high

-- A selection of the number of rows, over a plan whose rows can be counted

module _ (e : Named) (stored : Columns) (options : ProjectionOptions) (m n : Unit {0}) (op : Op) (ts : Roses (Unit {0}) Op) (x : ScanSources × FileScan) where
  abbrev given : Plan
  given = rose m (select (e ∷ []) stored options) (more (rose n op ts) no_roses)

  abbrev answer : Plan
  answer = count_plan x (alias_of e.name)

  same_name : IsValid given → e.expr ≡ rose tt row_count no_roses → count_name (alias_of e.name) ≡ name_of e.name
  same_name v is = name_is e.name (subst (λ (y : Expr). may_be_named e.name (naming y) ≡ true) is (made_good [] (e ∷ []) stored (schema_by op (schemas ts)) v.0.1).named.0)

  same_schema : IsValid given → e.expr ≡ rose tt row_count no_roses → (count_name (alias_of e.name), Int64) ∷ [] ≡ made_schema [] (e ∷ []) (schema_by op (schemas ts))
  same_schema v is =
      ap (λ (a : Name). (a, Int64) ∷ []) (same_name v is)
      ∙ sym (ap (λ (y : Expr). made_schema [] (record { name = e.name; expr = y } ∷ []) (schema_by op (schemas ts))) is)

  answer_valid : IsValid answer
  answer_valid = (tt, (good_frame None [] None (record { known = tt; number = refl; typed = tt; differ = refl }), tt, tt))

  answer_fits : (c : Contents) → Count (counted_scans (rose n op ts)) x → Fits c given → Fits c answer
  answer_fits c k f = (
    subst (λ (l : List Source). AllByRecursion (HasFrame c []) l) (sym (together_sources k.xs x k.one)) (counted_fit c (rose n op ts) k.xs k.scans (f.1.0, f.1.1)),
    (tt, tt, tt),
  )

  -- the number that is counted is that of the rows of each frame that the input may give
  answer_rows : (c : Contents) → Count (counted_scans (rose n op ts)) x → (g : Frame) → May c (rose n op ts) g → g.height ≡ rows_together (frames_of c x.0)
  answer_rows c k g m =
      counted_high c (rose n op ts) g k.xs k.scans m
      ∙ sym (ap (λ (l : List Source). rows_together (map (frame_or c) l)) (together_sources k.xs x k.one) ∙ sources_rows c k.xs)

  answer_gives : IsValid given → e.expr ≡ rose tt row_count no_roses → Count (counted_scans (rose n op ts)) x → (c : Contents) (f : Frame) → Fits c given → f ≡ count_frame (count_name (alias_of e.name)) (frames_of c x.0) → May c given f
  answer_gives v is k c f fit st =
      let g = valid_runs c (rose n op ts) (v.1.0, v.1.1) (fit.1.0, fit.1.1) in (
        g.0 ∷ [],
        (g.1, tt),
        st
            ∙ ap (λ (a : Name). count_frame a (frames_of c x.0)) (same_name v is)
            ∙ sym (len_frame e is g.0 (rows_together (frames_of c x.0)) (answer_rows c k g.0 g.1)),
      )

  answer_may : IsValid given → e.expr ≡ rose tt row_count no_roses → Count (counted_scans (rose n op ts)) x → (c : Contents) (f : Frame) → Fits c given → May c answer f → May c given f
  answer_may v is k c f fit (g ∷ [], m, st) = answer_gives v is k c f fit st
  answer_may v is k c f fit ([], m, st) = absurd st
  answer_may v is k c f fit (g ∷ h ∷ gs, m, st) = absurd st

  count_refines : IsValid given → e.expr ≡ rose tt row_count no_roses → Count (counted_scans (rose n op ts)) x → Refines answer given
  count_refines v is k = record {
    valid = answer_valid;
    schema = same_schema v is;
    fits = λ c f. answer_fits c k f;
    run = λ c f. valid_runs c answer answer_valid (answer_fits c k f);
    may = λ c f h r. answer_may v is k c f h r;
  }

-- Plans

selection : (es : List Named) (stored : Columns) (options : ProjectionOptions) (m : Unit {0}) (q : Plan) (b : Bool) (o : Option (ScanSources × FileScan)) → counts_rows es ≡ b → as_one (counted_scans q) ≡ o → IsValid (rose m (select es stored options) (more q no_roses))
    → Refines (count_or (cond b o None) (count_alias (rose m (select es stored options) (more q no_roses))) (rose m (select es stored options) (more q no_roses))) (rose m (select es stored options) (more q no_roses))
selection es stored options m q false o e f v = refines_refl (rose m (select es stored options) (more q no_roses)) v
selection es stored options m q true None e f v = refines_refl (rose m (select es stored options) (more q no_roses)) v
selection (e1 ∷ []) stored options m (rose n op ts) true (Some x) e f v = count_refines e1 stored options m n op ts x v (len_is e1.expr e) (count (counted_scans (rose n op ts)) x f)
selection [] stored options m q true (Some x) e f v = cc
selection (e1 ∷ e2 ∷ es) stored options m q true (Some x) e f v = cc

-- a plan with a count in its place, where it tells that alone, refines the plan
pub counted_refines : (p : Plan) → IsValid p → Refines (counted p) p
counted_refines (rose m (select es stored options) (more q no_roses)) v = selection es stored options m q (counts_rows es) (as_one (counted_scans q)) refl refl v
counted_refines (rose m op ts) v = refines_refl (rose m op ts) v

-- a plan that doesn't tell that alone stays as it is
pub not_countable : (p : Plan) → countable p ≡ false → counted p ≡ p
not_countable p e = at (count_of p) e
  where
    at : (o : Option (ScanSources × FileScan)) → is_some o ≡ false → count_or o (count_alias p) p ≡ p
    at None e = refl
    at (Some x) e = cc
