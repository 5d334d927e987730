use Rattle.std.proofs.Common.{subst}
use Rattle.c_session.specs.Ties.Sessions.{ReadBefore, WasRead}
use Rattle.c_session.proofs.Readings.{still_read}
use Rattle.c_session.proofs.current.Current.read_now.Goals as goal

pub returns-in-Some : goal.returns-in-Some
returns-in-Some c =
    let was : ReadBefore c.args.self.now.words c.args.prior.now c.args.self.now.docs c.in-Some.conf = subst (WasRead c.args.self.now.words c.args.prior.now c.args.self.now.docs) c.in-Some.is c.requires in
    record {
      conf = still_read c.args.self.now.words c.args.prior.now c.args.self.now.docs c.in-Some.conf c.in_ok-other_database.field-0 was c.in_ok-other_database.ensures c.if-branch.false;
      usable = was.usable;
    }
