-- A turn puts the last entry that is left into the map.
use Rattle.std.proofs.Common.{◌≡◌, ◌++◌, ◌∷◌, [], List, ℕ, Bor, ap, ◌∙◌, append_assoc}
use Rattle.serde_json.specs.Data.{Data, put}
use Rattle.serde_json.specs.View.{members_view}
use Rattle.plan_text_pieces.specs.declared.pieces.Piece.{Piece}
use Rattle.plan_text_pieces.specs.Pieces.{piece_entry}
use Rattle.plan_text_values.proofs.ObjectLemmas.{one_more}
use Rattle.plan_text_values.proofs.values.object.Goals as goal

pub loop-key-preserved : goal.loop-key-preserved
loop-key-preserved c =
    let done = c.loop-key.invariant.0 in
    let rest = c.pop.new.self.items in
    let entry : Bor (List ℕ) × Piece = (c.in-Some.key, c.in-Some.piece) in
    let was : c.loop-key.rest.items ≡ rest ++ entry ∷ [] = c.in-Some.ensures.items in
    let split : c.args.entries.items ≡ rest ++ entry ∷ done = c.loop-key.invariant.1 ∙ ap (λ l. l ++ done) was ∙ append_assoc rest (entry ∷ []) done in
    (entry ∷ done, split, one_more piece_entry c.args.entries.items rest done entry _ _ split c.requires c.loop-key.invariant.2 (c.in_ok-put.ensures.ok ∙ ap (λ (d : Data). put c.in-Some.key.now d (members_view c.loop-key.map.entries)) c.in_ok-value.ensures))
