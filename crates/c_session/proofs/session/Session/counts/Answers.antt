use Rattle.std.proofs.Common.{sym, subst}
use Rattle.doc_texts.specs.Short.{AllShort}
use Rattle.c_session.proofs.session.Session.counts.Goals as goal

pub invariant_of-self : goal.invariant_of-self
invariant_of-self g c = ((λ e. let bad : ⊥ = cc e in absurd bad), subst AllShort (sym c.ready.ensures.docs) c.self.invariant.1)

pub invariant_of-self-in_err-counts : goal.invariant_of-self-in_err-counts
invariant_of-self-in_err-counts g c = ((λ e. let bad : ⊥ = cc e in absurd bad), subst AllShort (sym c.ready.ensures.docs) c.self.invariant.1)

pub invariant_of-self-2 : goal.invariant_of-self-2
invariant_of-self-2 g c = ((λ e. c.in_ok-ready.ensures.kept), subst AllShort (sym c.ready.ensures.docs) c.self.invariant.1)
