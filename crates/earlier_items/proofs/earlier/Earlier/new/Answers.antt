use Rattle.earlier_items.proofs.Added.{none_added}
use Rattle.earlier_items.proofs.earlier.Earlier.new.Goals as goal

pub returns : goal.returns
returns c = none_added (record { known = c.nothing.result; tags = c.no_tags.result }) c.nothing.ensures.said c.no_tags.ensures
