use Rattle.std.proofs.Common.{◌≡◌, ◌∙◌, ◌&&◌, Bool, true, false, sym, ap}
use Rattle.plan_core.specs.Columns.{names_of}
use Rattle.plan_core.specs.Names.{has}
use Rattle.plan_join.specs.Naming.{key_columns}
use Rattle.plan_join.specs.Origins.{puts_out_left}
use Rattle.plan_join.proofs.OriginLemmas.{has-left, placed}
use Rattle.plan_join.proofs.origin.left_place.Goals as goal

pub returns-then-not-is_left_put_out-clause-there : goal.returns-then-not-is_left_put_out-clause-there
returns-then-not-is_left_put_out-clause-there c =
    let keys = key_columns c.args.ex.now c.args.keys.now in
    let out : puts_out_left c.args.args.now keys c.args.name.now ≡ false = sym c.is_left_put_out.ensures ∙ c.if-not-is_left_put_out.true in
    sym (has-left c.args.args.now keys c.args.left.now c.args.name.now ∙ ap (λ (t : Bool). t && has (names_of c.args.left.now) c.args.name.now) out)

pub returns-clause-there : goal.returns-clause-there
returns-clause-there c =
    let keys = key_columns c.args.ex.now c.args.keys.now in
    let out : puts_out_left c.args.args.now keys c.args.name.now ≡ true = sym c.is_left_put_out.ensures ∙ c.if-not-is_left_put_out.false in
    placed c.args.left.now c.args.name.now c.index_of.result c.index_of.ensures.stands c.index_of.ensures.absent ∙ sym (has-left c.args.args.now keys c.args.left.now c.args.name.now ∙ ap (λ (t : Bool). t && has (names_of c.args.left.now) c.args.name.now) out)
