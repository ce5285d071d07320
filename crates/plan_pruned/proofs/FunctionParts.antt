-- What has to be shown of a function over an input that narrows at the names that it needs.
use Rattle.std.proofs.Common.{List}
use Rattle.plan_core.specs.Columns.{Columns, type_of}
use Rattle.plan_ir.specs.declared.functions.FunctionIR.{FunctionIR}
use Rattle.plan_expr.specs.Leaves.{Name}
use Rattle.plan_meaning.specs.Functions.{function_schema}
use Rattle.plan_meaning.specs.Contents.{Contents}
use Rattle.plan_meaning.specs.Mapped.{mapped}
use Rattle.plan_meaning.specs.Typing.{function_checks, AllHold}
use Rattle.plan_frame.specs.Frames.{Frame, HasSchema, Agree}
use Rattle.plan_meaning.specs.Relating.{Holding}
use Rattle.plan_meaning.specs.Asked.{function_names, Fair}
use Rattle.plan_pruned.proofs.ProjectionNarrows.{some_is}

-- its checks hold, its columns narrow at what is asked, and frames that agree on what it needs become such that agree on that
pub record FunctionKept (f : FunctionIR) (wanted : List Name) (r s : Columns) : Type 0 where
  pub good : AllHold (function_checks f r)
  pub schema : Holding wanted (function_schema f r) (function_schema f s)
  pub agrees : (c : Contents) (f0 g0 : Frame) → HasSchema f0 r → HasSchema g0 s → Agree (function_names f wanted s) f0 g0 → Agree wanted (mapped c f f0) (mapped c f g0)

-- columns hold what can be asked of them
pub self_holds : (wanted : List Name) (s : Columns) → Fair wanted s → Holding wanted s s
self_holds wanted s fair = record {
  held = λ a i. let t = some_is (type_of s a) (fair.known a i) in (t.0, t.1, t.1);
  within = λ a e. e;
}
