-- The writer's text is that of the schema.
use Rattle.std.proofs.Common.{rules}
use Rattle.plan_text.specs.Written.{schema_data}
use Rattle.plan_text.proofs.TextLemmas.{printed}
use Rattle.plan_text.proofs.texts.schema_bytes.Goals as goal

pub returns : goal.returns
unfolding schema_data
returns c = printed (schema_data c.args.schema.now) _ _ _ c.into_inner.ensures.items (search rules) (search rules)
