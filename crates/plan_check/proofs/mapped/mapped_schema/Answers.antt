use Rattle.std.proofs.Common.{◌∷◌, [], sym, subst}
use Rattle.plan_core.specs.Columns.{Columns}
use Rattle.plan_ir.specs.Plans.{map_function}
use Rattle.plan_meaning.specs.Typed.{IsNodeTyped}
use Rattle.plan_meaning.specs.Typing.{function_checks}
use Rattle.plan_check.specs.InPlace.{IsChanged}
use Rattle.plan_check.proofs.InPlaceLemmas.{no_fault}
use Rattle.plan_check.proofs.mapped.mapped_schema.Goals as goal

pub returns-then-fits : goal.returns-then-fits
returns-then-fits c =
    let is = subst (λ (b : _). IsChanged b c.args.function.now c.args.schema c.change.new.columns) c.if-fits.true c.in_ok-fits.ensures in
    (no_fault c.args.node (function_checks c.args.function.now c.args.schema) is.0, sym is.1)

pub returns : goal.returns
returns c =
    let same = subst (λ (b : _). IsChanged b c.args.function.now c.args.schema c.change.new.columns) c.if-fits.false c.in_ok-fits.ensures in
    subst (λ (s : Columns). IsNodeTyped c.function_schema.result c.args.node (map_function c.args.function.now) (s ∷ [])) same c.function_schema.ensures
