use Rattle.std.proofs.Common.{arith}
use Rattle.std.proofs.lemmas.Str.Pattern.{strip_prefix_char}
use Rattle.cases.proofs.WordLemmas.{less_blank}
use Rattle.cases.proofs.words.trimmed.Goals as goal

pub returns : goal.returns
returns c = less_blank c.args.text c.unwrap_or.result c.strip_prefix.result (strip_prefix_char 32 c.args.text.now c.strip_prefix.result c.strip_prefix.ensures.cases (omega arith)) c.unwrap_or.ensures
