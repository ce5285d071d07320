use Rattle.std.proofs.Common.{◌∙◌, ap, sym, length, unwrap_or, None, List, Option}
use Rattle.std.specs.Option.{option_or}
use Rattle.std.proofs.lemmas.Result.{IfOk-weaker, on_ok_weaker}
use Rattle.std.proofs.lemmas.List.{length-map}
use Rattle.plan_core.specs.declared.data_type.DataType.{DataType}
use Rattle.plan_prune_names.specs.ByName.{at_name}
use Rattle.plan_prune_names.specs.Known.{type_in}
use Rattle.plan_prune_names.proofs.KnownLemmas.{over-then}
use Rattle.plan_prune_names.proofs.MoveLemmas.{rename-made}
use Rattle.plan_prune_names.proofs.moved.move_all.Goals as goal

pub put_in-requires-clause-same : goal.put_in-requires-clause-same
put_in-requires-clause-same c =
    ap (λ (l : List (Option DataType)). length l) (c.as_slice.ensures.value ∙ c.in_ok-types.ensures.types)
    ∙ length-map c.args.existing.now (type_in c.args.columns.now) ∙ c.requires.same

pub returns-clause-made : goal.returns-clause-made
returns-clause-made c =
    let types : List (Option DataType) = c.as_slice.result.now in
    let left = c.in_ok-types.ensures.left in
    IfOk-weaker c.put_in.result _ _ (λ fits is. λ yes swapping.
    rename-made c.args.existing.now c.args.new.now c.requires.same c.requires.old c.requires.new c.args.columns.now c.put_in.new.columns swapping types
    (c.as_slice.ensures.value ∙ c.in_ok-types.ensures.types)
    (λ a d e. sym (left a) ∙ (is yes).1 a d e)
    (λ a. (is yes).0 a ∙ ap (λ (x : Option DataType). option_or (unwrap_or (at_name c.args.new.now types a) None) x) (left a))
    ) c.put_in.ensures.put

pub returns-clause-over : goal.returns-clause-over
returns-clause-over c = on_ok_weaker c.put_in.result (λ over. over-then c.args.columns.now c.take_out.new.columns c.put_in.new.columns c.in_ok-types.ensures.over over) c.put_in.ensures.over
