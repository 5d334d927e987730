use Rattle.std.proofs.Common.{None, ap, subst, sym}
use Rattle.doc_texts.specs.Short.{AllShort}
use Rattle.c_session.specs.State.{State}
use Rattle.c_session.proofs.session.Session.new.Goals as goal

pub invariant_of-result : goal.invariant_of-result
invariant_of-result c = ((λ whole. c.new.ensures.kept), subst AllShort (sym (ap (λ (s : State). s.texts) c.new.ensures.state)) (c.texts_stay_short.ensures.under None))
