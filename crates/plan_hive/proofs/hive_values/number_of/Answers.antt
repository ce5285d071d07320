use Rattle.std.proofs.Common.{◌≡◌, ◌∙◌, lit<, true}
use Rattle.std.proofs.lemmas.Str.Pattern.{starts_char}
use Rattle.plan_hive.proofs.ValueLemmas.{number-parsed}
use Rattle.plan_hive.proofs.hive_values.number_of.Goals as goal

pub returns : goal.returns
returns c = c.ok.ensures.value ∙ number-parsed c.args.text.now c.parse.result c.parse.ensures.value.0 (λ e. let d = starts_char 43 c.args.text.now c.starts_with.result c.starts_with.ensures.cases (lit< tt) (lit< tt) in let yes : c.starts_with.result ≡ true = d.1 e in let no = c.if-starts_with.false in cc)
