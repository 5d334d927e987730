use Rattle.unit_index.specs.Pairs.{pair}
use Rattle.unit_index.proofs.NeedLemmas.{noted_pair}
use Rattle.unit_index.proofs.needs.note_tags.Goals as goal

pub returns : goal.returns
returns c = λ more. noted_pair c.args.pairs.now _ (pair c.args.kind c.args.a.now c.args.b.now) more c.in_ok-note.ensures
