use Rattle.std.proofs.Common.{true≢false}
use Rattle.c_session.proofs.Seeing.{more_other, more_same}
use Rattle.c_session.proofs.held.Standing.note.Goals as goal

pub returns-in_ok-same-in-Same-clause-seen : goal.returns-in_ok-same-in-Same-clause-seen
returns-in_ok-same-in-Same-clause-seen c = λ old. more_same c.args.earlier.now c.args.self.now.has_new c.args.self.now.news _ c.args.unit.now old c.in-Same.is c.in_ok-same-in-Same.ensures

pub returns-in_ok-changed-in-Other-clause-seen : goal.returns-in_ok-changed-in-Other-clause-seen
returns-in_ok-changed-in-Other-clause-seen c = λ old.
    more_other c.args.earlier.now c.args.self.now.has_new c.args.self.now.news _ c.args.unit.now old c.in-Other.was _ _ c.in-Other.is c.exports-before.ensures c.exports-now.ensures
    c.in_ok-changed-in-Other.ensures

pub returns-in-Nothing-clause-seen : goal.returns-in-Nothing-clause-seen
returns-in-Nothing-clause-seen c = λ old. absurd (true≢false old)
