use Rattle.std.proofs.Common.{None}
use Rattle.doc_texts.specs.Texts.{texts_under}
use Rattle.c_session.proofs.NoTexts.{nothing}
use Rattle.c_session.proofs.analysis.Analysis.new.Goals as goal

pub returns : goal.returns
returns c = λ conf. nothing c.paths_are_sets.ensures.members conf _ c.new.ensures c.new-2.ensures.items c.new-3.ensures.items c.new-5.ensures.items (c.new-4.ensures (texts_under None))
