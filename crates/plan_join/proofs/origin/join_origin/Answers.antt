use Rattle.std.proofs.Common.{◌≡◌, ◌∙◌, true, false, sym, ap, is_some}
use Rattle.plan_core.specs.Columns.{names_of}
use Rattle.plan_core.specs.Names.{has}
use Rattle.plan_join.specs.Naming.{key_columns, left_rest}
use Rattle.plan_join.proofs.OriginLemmas.{origin-either}
use Rattle.plan_join.proofs.origin.join_origin.Goals as goal

pub returns-in-Some-clause-some : goal.returns-in-Some-clause-some
returns-in-Some-clause-some c =
    let lk = key_columns c.args.ex.now c.args.left_on.now in
    let rk = key_columns c.args.ex.now c.args.right_on.now in
    let a = c.args.name.now in
    let there : has (names_of (left_rest c.args.options.now.args lk c.args.left.now)) a ≡ true = sym c.left_place.ensures.there ∙ ap is_some c.in-Some.is in (
      (a, c.in-Some.ensures.place.0),
      c.in-Some.ensures.place.1,
      origin-either c.args.options.now.args lk rk c.args.left.now c.args.right.now a true there,
    )

pub returns-in_err-place-clause-none : goal.returns-in_err-place-clause-none
returns-in_err-place-clause-none c =
    let lk = key_columns c.args.ex.now c.args.left_on.now in
    let rk = key_columns c.args.ex.now c.args.right_on.now in
    let a = c.args.name.now in
    let there : has (names_of (left_rest c.args.options.now.args lk c.args.left.now)) a ≡ false = sym c.left_place.ensures.there ∙ ap is_some c.in_default.is in
    rw c.from_residual.ensures (origin-either c.args.options.now.args lk rk c.args.left.now c.args.right.now a false there ∙ c.in_err-place.ensures.none)

pub returns-clause-some : goal.returns-clause-some
returns-clause-some c =
    let lk = key_columns c.args.ex.now c.args.left_on.now in
    let rk = key_columns c.args.ex.now c.args.right_on.now in
    let a = c.args.name.now in
    let there : has (names_of (left_rest c.args.options.now.args lk c.args.left.now)) a ≡ false = sym c.left_place.ensures.there ∙ ap is_some c.in_default.is in (
      c.in_ok-place.ensures.some.0,
      c.in_ok-place.ensures.some.1,
      origin-either c.args.options.now.args lk rk c.args.left.now c.args.right.now a false there ∙ c.in_ok-place.ensures.some.2,
    )
