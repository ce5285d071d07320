use Rattle.std.proofs.Common.{◌≡◌, ◌∙◌, List, Option, ℕ, ap₂, map, sym, subst}
use Rattle.std.proofs.lemmas.Result.{IfOk-weaker}
use Rattle.plan_core.specs.Columns.{Columns, names_of}
use Rattle.plan_join.specs.Naming.{key_columns}
use Rattle.plan_join.specs.Sides.{filler}
use Rattle.plan_value.specs.Shown.{frame_of, schema_of}
use Rattle.plan_join_eval.specs.Along.{filled_column, left_column}
use Rattle.plan_join_eval.specs.Fills.{ArePartners}
use Rattle.plan_join_eval.proofs.TableLemmas.{lefts-filled}
use Rattle.plan_join_eval.proofs.joined.filled_lefts.Goals as goal

pub returns-clause-shown : goal.returns-clause-shown
returns-clause-shown c =
    let args = c.args.args.now in
    let lk = key_columns c.args.ex.now c.args.left_on.now in
    let rk = key_columns c.args.ex.now c.args.right_on.now in
    let ps = c.args.pairs.now in
    let f = frame_of c.args.left.now in
    let g = frame_of c.args.right.now in
    let t = schema_of c.args.right.now in
    let fills : List (Option ℕ) = c.in_ok-fills.fills.items in
    let same = c.in_ok-places.ensures.types in
    let are = subst (λ (u : Columns). ArePartners u t (filler args lk rk) fills) same c.in_ok-fills.ensures.fills in
    let filled = subst (λ (u : Columns). map (left_column (schema_of c.args.left.now) fills f g ps) (names_of u) ≡ map (filled_column (filler args lk rk) f g ps) (names_of u)) (sym c.requires.lefts)
    (lefts-filled args lk rk ps c.args.left.now c.args.right.now fills c.in_ok-places.ensures.distinct c.in_ok-fills.ensures.distinct are) in
    IfOk-weaker c.with_lefts.result _ _
    (λ made shown. shown ∙ ap₂ (λ (u : Columns) (places : List (Option ℕ)). map (left_column u places f g ps) (names_of c.args.lefts.now)) same c.deref.ensures.value ∙ filled)
    c.with_lefts.ensures.shown
