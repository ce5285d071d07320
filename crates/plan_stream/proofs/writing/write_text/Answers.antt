use Rattle.std.proofs.Common.{ℕ, ◌+◌, ◌-◌, List, ◌++◌, length, take, drop, Option, sym, ap, ◌∙◌, subst, arith}
use Rattle.std.proofs.Math.Seq.{take-add}
use Rattle.std.proofs.lemmas.List.{take_rest}
use Rattle.std.proofs.KnownBytes.{Appends-trans}
use Rattle.std.specs.Io.KnownBytes.{Appends}
use Rattle.plan_stream.proofs.writing.write_text.Goals as goal

-- what the sink took of the rest follows what it took before
goes_on : (a b c : Option (List ℕ)) (text : List ℕ) (at n : ℕ) → Appends a b (take at text) → Appends b c (take n (take (length text - at) (drop at text))) → Appends a c (take (at + n) text)
goes_on a b c text at n before now =
    let joined = ap (λ (l : List ℕ). take at text ++ take n l) (take_rest text at) ∙ sym (take-add at n text) in
    subst (Appends a c) joined (Appends-trans a b c _ _ before now)

pub loop-at-preserved : goal.loop-at-preserved
loop-at-preserved g c = record {
  held = goes_on _ _ _ c.args.text.now c.loop-at.at c.in-Ok.count c.loop-at.invariant.held c.in-Ok.ensures.bytes;
  within = omega (arith, c.in-Ok.ensures.bound);
  kept = c.in-Ok.ensures.cause.kept ∙ c.loop-at.invariant.kept;
}
