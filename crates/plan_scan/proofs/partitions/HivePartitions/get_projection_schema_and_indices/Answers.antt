use Rattle.std.proofs.Common.{◌∙◌, ◌<◌, ℕ, List, [], length, sym, ap, subst, arith}
use Rattle.std.specs.Prelude.{All}
use Rattle.plan_scan.specs.Stats.{columns_of, named_among, places_among, stats_at}
use Rattle.plan_scan.proofs.StatLemmas.{among-once, columns-at, length-columns, places-once, places-within}
use Rattle.plan_scan.proofs.partitions.HivePartitions.get_projection_schema_and_indices.Goals as goal

pub returns-clause-schema : goal.returns-clause-schema
returns-clause-schema c =
    c.in_ok-put_among.ensures.schema
    ∙ ap (λ (w : List (List ℕ)). named_among w c.schema-columns.result.now) c.in_ok-wanted.ensures
    ∙ among-once c.args.names.now c.schema-columns.result.now
    ∙ ap (named_among c.args.names.now) (c.schema-columns.ensures ∙ ap columns_of c.self.view_is)

pub returns-clause-places : goal.returns-clause-places
returns-clause-places c =
    c.in_ok-put_among.ensures.places
    ∙ ap (λ (w : List (List ℕ)). places_among w 0 c.schema-columns.result.now) c.in_ok-wanted.ensures
    ∙ places-once c.args.names.now 0 c.schema-columns.result.now
    ∙ ap (places_among c.args.names.now 0) (c.schema-columns.ensures ∙ ap columns_of c.self.view_is)

pub returns-clause-within : goal.returns-clause-within
returns-clause-within c =
    let ss = c.args.self.now in
    let n = length ss in
    subst (λ (ps : List ℕ). All (λ (k : ℕ). k < n) ps) (sym (returns-clause-places c)) (places-within c.args.names.now n 0 (columns_of ss) (omega (arith, length-columns ss)))

pub returns-clause-agree : goal.returns-clause-agree
returns-clause-agree c =
    let ss = c.args.self.now in
    ap (λ (ps : List ℕ). columns_of (stats_at ss ps)) (returns-clause-places c) ∙ columns-at c.args.names.now [] ss ∙ sym (returns-clause-schema c)
