-- What tables of a document say of its plan, and the rows that are listed.
use Rattle.std.specs.Prelude.{◌≡◌, List, Option, Some, None, Result, Ok, Err}
use Rattle.plan_core.specs.declared.arena.Node.{Node}
use Rattle.plan_tree.specs.Rose.{Roses}
use Rattle.plan_ir.specs.Plans.{Op, Plan}
use Rattle.plan_meaning.specs.Steps.{May}
use Rattle.plan_meaning.specs.Typing.{schema}
use Rattle.plan_table.specs.declared.source_key.SourceKey.{SourceKey}
use Rattle.plan_table.specs.declared.table.Table.{Table}
use Rattle.plan_table.specs.Tables.{HasRows}
use Rattle.plan_tool.specs.declared.stop.Stop.{Stop}
use Rattle.plan_tool.specs.declared.stop.Stop.TheVariants as stops
use Rattle.plan_value.specs.Shown.{frame_of, schema_of}
use Rattle.plan_fit.specs.Fitting.{TablesFit}
use Rattle.plan_fit.specs.Sources.{contents_of}

-- the tables that a document may have
abbrev pub Given : Type 0
Given = Option (List (SourceKey × Table))

-- tables fit, where there are some
abbrev pub Fit : Given → Roses Node Op → Type 0
Fit None plans = Unit {0}
Fit (Some ts) plans = TablesFit ts plans

-- there are tables, and they don't fit
abbrev pub DontFit : Given → Roses Node Op → Type 0
DontFit None plans = ⊥
DontFit (Some ts) plans = TablesFit ts plans → ⊥

-- rows of a frame that a plan may give over tables, in columns of the plan's types, each with a value for each row
pub record IsFrameOf (ts : List (SourceKey × Table)) (p : Plan) (t : Table) : Type 0 where
  pub may : May (contents_of ts) p (frame_of t)
  pub types : schema_of t ≡ schema p
  pub rows : HasRows t

-- the rows that a plan may give: none where there are no tables
abbrev pub AreRows : Given → Plan → Option Table → Type 0
AreRows None p None = Unit {0}
AreRows None p (Some t) = ⊥
AreRows (Some ts) p None = ⊥
AreRows (Some ts) p (Some t) = IsFrameOf ts p t

-- what the check of tables says: they fit, or there are some that don't
abbrev pub FitChecked : Result (Unit {0}) Stop → Given → Roses Node Op → Type 0
FitChecked (Ok x) tables plans = Fit tables plans
FitChecked (Err stops.Unfit) tables plans = DontFit tables plans
FitChecked (Err stops.NotJson) tables plans = ⊥
FitChecked (Err stops.Form) tables plans = ⊥
FitChecked (Err stops.Limit) tables plans = ⊥
FitChecked (Err (stops.Fault fault)) tables plans = ⊥
FitChecked (Err stops.OutOfMemory) tables plans = ⊥
