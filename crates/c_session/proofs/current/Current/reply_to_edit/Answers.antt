use Rattle.c_session.proofs.Keeping.{edit_kept}
use Rattle.c_session.proofs.current.Current.reply_to_edit.Goals as goal

pub finish-requires : goal.finish-requires
finish-requires g c = record {
  kept = (edit_kept c.args.edited c.in-Ok.path c.args.prior.now c.args.self.now c.in-Ok.is c.requires.kept).0;
  read = (edit_kept c.args.edited c.in-Ok.path c.args.prior.now c.args.self.now c.in-Ok.is c.requires.kept).1;
}
