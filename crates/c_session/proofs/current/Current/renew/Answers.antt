use Rattle.std.proofs.Common.{subst}
use Rattle.c_session.specs.Kept.{IsAnalysis}
use Rattle.c_session.specs.Ties.Sessions.{current_state}
use Rattle.c_session.proofs.Before.{were_lexed}
use Rattle.c_session.proofs.Keeping.{renews_as}
use Rattle.c_session.proofs.current.Current.renew.Goals as goal

pub renewed-requires : goal.renewed-requires
renewed-requires g c = record {
  usable = c.requires.usable;
  lexed = were_lexed c.requires.kept.before c.args.self.now.docs c.args.prior.now c.requires.kept.since c.args.kept.lexings c.requires.kept.were.lexed;
}

pub returns-clause-analysis : goal.returns-clause-analysis
returns-clause-analysis g c = subst (λ x. IsAnalysis c.args.self.now.docs x c.in_ok-renewal.renewal.analysis) c.requires.conf
    (c.in_ok-renewal.ensures.analysis c.requires.kept.before c.requires.kept.read c.requires.kept.since c.requires.kept.were)

pub returns-clause-steps : goal.returns-clause-steps
returns-clause-steps g c = renews_as c.args.prior.now c.args.kept (current_state c.args.self.now) c.args.conf.now _ _ c.requires.conf c.in_ok-renewal.ensures.steps
