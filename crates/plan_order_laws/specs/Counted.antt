-- Plans whose rows can be counted without a run: the sources that they scan, and the count in the place of such a plan.
use Rattle.std.specs.Prelude.{ℕ, ◌+◌, Bool, true, false, List, [], ◌∷◌, ◌++◌, Option, None, Some, is_some, if◌then◌else◌}
use Rattle.std.specs.List.{AllByRecursion}
use Rattle.plan_tree.specs.Rose.{Roses, rose, no_roses, more}
use Rattle.plan_scan.specs.declared.file_scan.FileScan.{FileScan}
use Rattle.plan_scan.specs.declared.file_scan.FileScan.TheVariants as kinds
use Rattle.plan_scan.specs.declared.sources.ScanSources.{ScanSources}
use Rattle.plan_scan.specs.declared.sources.ScanSources.TheVariants.{Paths, Buffers}
use Rattle.plan_expr.specs.Leaves.{Name}
use Rattle.plan_expr.specs.declared.expr_ir.OutputName.{OutputName}
use Rattle.plan_expr.specs.declared.expr_ir.OutputName.TheVariants as names
use Rattle.plan_frame.specs.ExprLists.{counts_rows}
use Rattle.plan_ir.specs.declared.functions.FunctionIR.TheVariants.{FastCount}
use Rattle.plan_ir.specs.Plans.{Op, frame_scan, map_function, scan, select, simple_projection, union, Plan}
use Rattle.plan_meaning.specs.Contents.{Contents, HasFrame, Source, frames_of, sources_of}
use Rattle.plan_meaning.specs.Mapped.{rows_together}

-- scans, each as its sources and the format in which these are read
abbrev pub Scans : Type 0
Scans = List (ScanSources × FileScan)

-- the scans of two plans, if each has only scans
abbrev pub both_scans : Option Scans → Option Scans → Option Scans
both_scans None ys = None
both_scans (Some xs) None = None
both_scans (Some xs) (Some ys) = Some (xs ++ ys)

-- the scans of a plan whose rows can be counted, from left to right; none where they can't
abbrev mutual
  pub counted_scans : Plan → Option Scans
  counted_scans (rose n (scan sources info hive predicate output kind options) ts) = Some ((sources, kind) ∷ [])
  counted_scans (rose n (union options) ts) = counted_each ts
  counted_scans (rose n op ts) = None

  pub counted_each : Roses (Unit {0}) Op → Option Scans
  counted_each no_roses = Some []
  counted_each (more (rose n (simple_projection columns) (more q no_roses)) rest) = both_scans (counted_scans q) (counted_each rest)
  counted_each (more p rest) = both_scans (counted_scans p) (counted_each rest)

-- how many rows scans have together
abbrev pub rows_of : Contents → Scans → ℕ
rows_of c [] = 0
rows_of c (x ∷ xs) = rows_together (frames_of c x.0) + rows_of c xs

-- the sources of scans, in order
abbrev pub all_sources : Scans → List Source
all_sources [] = []
all_sources (x ∷ xs) = sources_of x.0 ++ all_sources xs

-- each source of scans has a frame
abbrev pub HaveFrames : Contents → Scans → Type 0
HaveFrames c xs = AllByRecursion (HasFrame c []) (all_sources xs)

-- two formats of files are one
abbrev pub same_kind : FileScan → FileScan → Bool
same_kind kinds.Csv kinds.Csv = true
same_kind kinds.NDJson kinds.NDJson = true
same_kind kinds.Parquet kinds.Parquet = true
same_kind kinds.Ipc kinds.Ipc = true
same_kind k l = false

-- the sources of two scans in turn, if both are paths or both are buffers
abbrev pub in_one : ScanSources → ScanSources → Option ScanSources
in_one (Paths ps) (Paths qs) = Some (Paths (ps ++ qs))
in_one (Buffers ms) (Buffers ns) = Some (Buffers (ms ++ ns))
in_one s t = None

-- sources that are read in a format, if there are any
abbrev pub of_kind : FileScan → Option ScanSources → Option (ScanSources × FileScan)
of_kind k None = None
of_kind k (Some s) = Some (s, k)

-- a scan and what others are together, if they are of one kind
abbrev pub with_scan : ScanSources × FileScan → Option (ScanSources × FileScan) → Option (ScanSources × FileScan)
with_scan x None = None
with_scan x (Some y) = if same_kind x.1 y.1 then of_kind x.1 (in_one x.0 y.0) else None

-- scans as one over all their sources in order, if they are of one kind
abbrev pub together : Scans → Option (ScanSources × FileScan)
together [] = None
together (x ∷ []) = Some x
together (x ∷ y ∷ xs) = with_scan x (together (y ∷ xs))

-- scans as one, if there are scans
abbrev pub as_one : Option Scans → Option (ScanSources × FileScan)
as_one None = None
as_one (Some xs) = together xs

-- the scan whose rows are all that a plan tells the number of, if it is such a plan
abbrev pub count_of : Plan → Option (ScanSources × FileScan)
count_of (rose n (select exprs schema options) (more p no_roses)) = if counts_rows exprs then as_one (counted_scans p) else None
count_of p = None

-- whether a plan tells the number of rows that can be counted, and nothing else
abbrev pub countable : Plan → Bool
countable p = is_some (count_of p)

-- the alias that an output name is, if it is one
abbrev pub alias_of : OutputName → Option Name
alias_of (names.Alias a) = Some a
alias_of (names.ColumnLhs a) = None
alias_of (names.LiteralLhs a) = None
alias_of names.None = None

-- the alias under which a plan puts its count out, if there is one
abbrev pub count_alias : Plan → Option Name
count_alias (rose n (select (e ∷ []) schema options) ts) = alias_of e.name
count_alias p = None

-- a count of the rows of a scan's sources, over a frame without columns
abbrev pub count_plan : ScanSources × FileScan → Option Name → Plan
count_plan x alias = rose tt (map_function (FastCount x.0 x.1 alias)) (more (rose tt (frame_scan None [] None) no_roses) no_roses)

-- the count of a scan's rows, or where there is none the plan itself
abbrev pub count_or : Option (ScanSources × FileScan) → Option Name → Plan → Plan
count_or None alias p = p
count_or (Some x) alias p = count_plan x alias

-- a plan, with a count of the rows of files in its place where it tells that alone
abbrev pub counted : Plan → Plan
counted p = count_or (count_of p) (count_alias p) p
