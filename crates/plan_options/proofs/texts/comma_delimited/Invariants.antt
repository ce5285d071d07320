use Rattle.std.proofs.Common.{◌≡◌, ◌++◌, map, string_bytes, take, codes}
use Rattle.plan_options.specs.Texts.{separated}
use Rattle.plan_options.proofs.texts.comma_delimited.Given as goal

-- the texts of the items so far
abbrev pub invariant-loop-at : goal.invariant-loop-at
invariant-loop-at g l = string_bytes l.text ≡ string_bytes l.fn.s ++ codes "(" ++ separated (map g.S.AsStr.text_of (take l.at l.items))
