use Rattle.std.proofs.Common.{◌≡◌, ◌∙◌, ◌++◌, List, ℕ, refl, ap, map, string_bytes, take, codes, arith}
use Rattle.plan_options.specs.Texts.{separated}
use Rattle.plan_options.proofs.TextLemmas.{separated-first, separated-later, written}
use Rattle.plan_options.proofs.texts.comma_delimited.Goals as goal
use Rattle.plan_options.proofs.texts.comma_delimited.Goals.{then-at-gt0+in_ok-push_str, else-at-gt0}

pub loop-at-preserved : goal.loop-at-preserved
loop-at-preserved g c =
    let text_of = g.S.AsStr.text_of in
    let items = c.args.items.now in
    let item = c.index-items-at.result in
    let front : List ℕ = string_bytes c.args.s ++ codes "(" in
    let old : List ℕ = separated (map text_of (take c.loop-at.at items)) in
    let after : string_bytes c.push_str-in-loop-at.new.self ≡ string_bytes c.if-at-gt0.text ++ text_of item = rw c.as_str.ensures at c.in_ok-push_str-2.ensures.bytes in
    elim c.if-at-gt0.branch [
      | then-at-gt0+in_ok-push_str w ↦
          let before : string_bytes c.if-at-gt0.text ≡ front ++ (old ++ codes ", ") =
          ap string_bytes w.text-is ∙ written front old (codes ", ") (string_bytes c.loop-at.text) _ _ c.loop-at.invariant w.in_ok-push_str.ensures.bytes refl in
          written front (old ++ codes ", ") (text_of item) _ _ _ before after
          (separated-later text_of items c.loop-at.at item c.loop-at-test.true c.index-items-at.is (omega (arith, w.if-at-gt0)))
      | else-at-gt0 w ↦
          written front old (text_of item) _ _ _ (ap string_bytes w.text-is ∙ c.loop-at.invariant) after
          (separated-first text_of items c.loop-at.at item c.loop-at-test.true c.index-items-at.is (omega (arith, w.if-at-gt0)))
    ]
