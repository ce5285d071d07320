-- The writer's text is that of the listing.
use Rattle.std.proofs.Common.{rules}
use Rattle.std.specs.Prelude.{option_copied}
use Rattle.plan_text.specs.Written.{listing_data}
use Rattle.plan_text.proofs.TextLemmas.{printed}
use Rattle.plan_text.proofs.listing.listing_bytes.Goals as goal

pub returns : goal.returns
returns c =
    printed (listing_data c.args.plan.now.lp c.args.plan.now.ex c.args.plan.now.root c.args.reads.now (option_copied c.args.rows)) _ _ _ c.into_inner.ensures.items (search rules) (search rules)
