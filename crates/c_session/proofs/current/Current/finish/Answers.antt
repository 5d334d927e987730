use Rattle.c_session.proofs.current.Current.finish.Goals as goal

pub returns-clause-kept : goal.returns-clause-kept
returns-clause-kept g c = (c.in_ok-renewal.ensures.analysis, (c.in_ok-conf.ensures.conf, c.in_ok-conf.ensures.usable))
